-- What a further id does to a list with none twice.
use Rattle.std.proofs.Common.{◌≡◌, ◌||◌, ◌++◌, ℕ, Bool, false, List, [], ◌∷◌, refl, ap, ◌∙◌}
use Rattle.std.specs.List.{list_any}
use Rattle.std.specs.Str.{bytes_eq}
use Rattle.std.specs.Cmp.Lexicographic.{nat_list_eq_equiv}
use Rattle.std.proofs.lemmas.List.{map-append}
use Rattle.std.proofs.lemmas.List.Elements.{All-push}
use Rattle.std.proofs.lemmas.Bool.{or_parts, or_from}
use Rattle.lat_base.specs.declared.contest_names.ContestNames.{ContestNames}
use Rattle.lat_base.specs.Names.{has_twice, AreNames, contest_ids, is_repeated}

any_more : (p : List ℕ → Bool) (ids : List (List ℕ)) (id : List ℕ) → list_any p ids ≡ false
    → p id ≡ false → list_any p (ids ++ id ∷ []) ≡ false
any_more p [] id h k = or_from (p id) false k refl
any_more p (x ∷ ids) id h k = let parts = or_parts (p x) (list_any p ids) h in or_from (p x) _ parts.0 (any_more p ids id parts.1 k)

-- an id that isn't there can be added
pub twice_more : (ids : List (List ℕ)) (id : List ℕ) → has_twice ids ≡ false
    → list_any (bytes_eq id) ids ≡ false → has_twice (ids ++ id ∷ []) ≡ false
twice_more [] id h k = refl
twice_more (x ∷ ids) id h k =
    let once = or_parts (list_any (bytes_eq x) ids) (has_twice ids) h in
    let other = or_parts (bytes_eq id x) (list_any (bytes_eq id) ids) k in
    or_from (list_any (bytes_eq x) (ids ++ id ∷ [])) _ (any_more (bytes_eq x) ids id once.0 (nat_list_eq_equiv.symm x id ∙ other.0)) (twice_more ids id once.1 other.1)

any_map : (p : List ℕ → Bool) (contests : List ContestNames)
    → list_any p (contest_ids contests) ≡ list_any (λ c. p c.id) contests
any_map p [] = refl
any_map p (c ∷ contests) = ap (λ b. p c.id || b) (any_map p contests)

-- names to which a contest's can be added stay names
pub names_more : (contests : List ContestNames) (c : ContestNames) → AreNames contests
    → is_repeated contests c.id c.targets ≡ false → AreNames (contests ++ c ∷ [])
names_more contests c names once =
    let parts = or_parts (list_any (λ other. bytes_eq c.id other.id) contests) (has_twice c.targets) once in
    record {
      ids = ap has_twice (map-append (λ (x : ContestNames). x.id) contests (c ∷ [])) ∙ twice_more (contest_ids contests) c.id names.ids (any_map (bytes_eq c.id) contests ∙ parts.0);
      targets = All-push (λ (x : ContestNames). has_twice x.targets ≡ false) contests c names.targets parts.1;
    }
