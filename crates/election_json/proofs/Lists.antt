-- What tests and look-ups find in a list of images.
use Rattle.std.proofs.Common.{◌≡◌, ◌||◌, ◌+◌, Bool, List, [], ◌∷◌, cond, not, map, refl, ap, position}
use Rattle.std.specs.List.{list_any, prefix_len}
use Rattle.std.proofs.lemmas.List.{length-map}
use Rattle.serde_json.specs.Data.{Data}
use Rattle.serde_json.specs.View.{items_of}
use Rattle.election_json.specs.Member.{values_of}

pub any_map : {X Y : Type 0} (p : Y → Bool) (f : X → Y) (xs : List X)
    → list_any p (map f xs) ≡ list_any (λ x. p (f x)) xs
any_map p f [] = refl
any_map p f (x ∷ xs) = ap (λ b. p (f x) || b) (any_map p f xs)

prefix_map : {X Y : Type 0} (p : Y → Bool) (f : X → Y) (xs : List X)
    → prefix_len p (map f xs) ≡ prefix_len (λ x. p (f x)) xs
prefix_map p f [] = refl
prefix_map p f (x ∷ xs) = ap (λ n. cond (p (f x)) (1 + n) 0) (prefix_map p f xs)

pub position_map : {X Y : Type 0} (p : Y → Bool) (f : X → Y) (xs : List X)
    → position p (map f xs) ≡ position (λ x. p (f x)) xs
position_map p f xs =
    rw (prefix_map (λ y. not (p y)) f xs, length-map) refl

-- the items of an array are its values
pub values_back : (values : List Data) → values_of (items_of values) ≡ values
values_back [] = refl
values_back (value ∷ values) = ap (λ vs. value ∷ vs) (values_back values)
