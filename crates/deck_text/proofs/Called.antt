-- The search for a target by its names.
use Rattle.std.proofs.Common.{◌≡◌, ◌<◌, ◌≤◌, ◌+◌, ◌-◌, ◌++◌, ℕ, suc, Bool, true, false, cond, List, [], ◌∷◌, Option, Some, None, length, drop, get_or, map, refl, ap, ◌∙◌, arith}
use Rattle.std.specs.List.{position_from}
use Rattle.std.specs.Str.{bytes_eq}
use Rattle.std.specs.Option.{option_or}
use Rattle.std.proofs.lemmas.List.{drop_more, drop_all, get_or-map}
use Rattle.lat_base.specs.declared.contest_names.ContestNames.{ContestNames}
use Rattle.lat_base.specs.declared.contest.Contest.{Contest}
use Rattle.lat_base.specs.Names.{NamesFit, names_at, no_names}
use Rattle.lat_base.specs.Shape.{first_target, no_contest}
use Rattle.std.proofs.lemmas.List.Sums.{sum_by_more}
use Rattle.deck_text.proofs.ContestLines.{names_long}
use Rattle.deck_text.specs.TargetNames.{FullName, is_called, names_in, target_names, no_name}

none_of : (contest target id : List ℕ) (k : ℕ) (ids : List (List ℕ)) → bytes_eq id contest ≡ false
    → position_from (is_called contest target) k (map (λ (i : List ℕ). record { contest = id; target = i }) ids) ≡ None
none_of contest target id k [] e = refl
none_of contest target id k (i ∷ ids) e = rw e (none_of contest target id (k + 1) ids e)

-- in a contest with another id no target is called so
pub none_called : (contest target : List ℕ) (n : ContestNames) (k : ℕ)
    → bytes_eq n.id contest ≡ false
    → position_from (is_called contest target) k (names_in n) ≡ None
none_called contest target n k e = none_of contest target n.id k n.targets e

at_place : (test : FullName → Bool) (k i : ℕ) (names : List FullName) → i < length names
    → position_from test k (drop i names)
    ≡ cond (test (get_or names i no_name)) (Some k)
    (position_from test (k + 1) (drop (i + 1) names))
at_place test k i names low = ap (position_from test k) (drop_more names i no_name low)

name_here : (n : ContestNames) (i : ℕ) → i < length n.targets → get_or (names_in n) i no_name ≡ record { contest = n.id; target = get_or n.targets i [] }
name_here n i low = get_or-map (λ (id : List ℕ). record { contest = n.id; target = id }) n.targets i [] no_name low

-- at a target of the contest with that id the search ends where its own id is that one
pub called_here : (contest target : List ℕ) (n : ContestNames) (t first : ℕ)
    → t - first < length n.targets → bytes_eq n.id contest ≡ true
    → bytes_eq (get_or n.targets (t - first) []) target ≡ true
    → position_from (is_called contest target) t (drop (t - first) (names_in n)) ≡ Some t
called_here contest target n t first low e is =
    let long = names_long n in
    at_place (is_called contest target) t (t - first) (names_in n) (omega (arith, long, low))
    ∙ rw (name_here n (t - first) low, e, is) refl

-- and goes on elsewhere
pub called_later : (contest target : List ℕ) (n : ContestNames) (t first : ℕ) → first ≤ t
    → t - first < length n.targets → bytes_eq n.id contest ≡ true
    → bytes_eq (get_or n.targets (t - first) []) target ≡ false
    → position_from (is_called contest target) t (drop (t - first) (names_in n))
    ≡ position_from (is_called contest target) (t + 1) (drop (t + 1 - first) (names_in n))
called_later contest target n t first le low e other =
    let long = names_long n in
    let next : (t - first) + 1 ≡ t + 1 - first = omega arith in
    at_place (is_called contest target) t (t - first) (names_in n) (omega (arith, long, low))
    ∙ rw (name_here n (t - first) low, e, other, next) refl

-- past the last target nothing is called so
pub called_end : (contest target : List ℕ) (n : ContestNames) (t first : ℕ)
    → length n.targets ≤ t - first
    → position_from (is_called contest target) t (drop (t - first) (names_in n)) ≡ None
called_end contest target n t first all =
    let long = names_long n in
    ap (position_from (is_called contest target) t) (drop_all (t - first) (names_in n) (omega (arith, long, all)))

two : (b : Bool) (k : ℕ) (whole front back : Option ℕ) → whole ≡ option_or front back
    → cond b (Some k) whole ≡ option_or (cond b (Some k) front) back
two true k whole front back e = refl
two false k whole front back e = e

position_append : (test : FullName → Bool) (k : ℕ) (xs ys : List FullName)
    → position_from test k (xs ++ ys)
    ≡ option_or (position_from test k xs) (position_from test (k + length xs) ys)
position_append test k [] ys = ap (λ (n : ℕ). position_from test n ys) (omega arith)
position_append test k (x ∷ xs) ys =
    let same : (k + 1) + length xs ≡ k + suc (length xs) = omega arith in
    two (test x) k (position_from test (k + 1) (xs ++ ys)) (position_from test (k + 1) xs) (position_from test (k + suc (length xs)) ys)
    (position_append test (k + 1) xs ys ∙ ap (λ (n : ℕ). option_or (position_from test (k + 1) xs) (position_from test n ys)) same)

-- the search from contest c on is that in contest c and then that from the next one on
pub contest_called : (contest target : List ℕ) (names : List ContestNames) (c k next : ℕ)
    → c < length names → k + length (names_at names c).targets ≡ next
    → position_from (is_called contest target) k (target_names (drop c names))
    ≡ option_or (position_from (is_called contest target) k (names_in (names_at names c))) (position_from (is_called contest target) next (target_names (drop (c + 1) names)))
contest_called contest target names c k next low e =
    let n = names_at names c in
    let long = names_long n in
    let after : k + length (names_in n) ≡ next = omega (arith, long, e) in
    ap (λ (ns : List ContestNames). position_from (is_called contest target) k (target_names ns)) (drop_more names c no_names low)
    ∙ position_append (is_called contest target) k (names_in n) (target_names (drop (c + 1) names))
    ∙ ap (λ (m : ℕ). option_or (position_from (is_called contest target) k (names_in n)) (position_from (is_called contest target) m (target_names (drop (c + 1) names)))) after

-- the first target of the next contest
pub next_first : (names : List ContestNames) (contests : List Contest) (c : ℕ)
    → NamesFit names contests → c < length contests
    → first_target contests (c + 1) ≡ first_target contests c + length (names_at names c).targets
next_first names contests c fit within = omega (arith, sum_by_more (λ (x : Contest). x.targets) contests c no_contest within, fit.targets c within)
