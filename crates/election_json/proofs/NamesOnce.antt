-- The names of a style can be added one contest after the other.
use Rattle.std.proofs.Common.{◌≡◌, ◌<◌, ◌∷◌, ℕ, zero, suc, Bool, false, List, [], length, map, get_or, take, refl, sym, ap, subst, ◌∙◌, arith}
use Rattle.std.specs.List.{list_any}
use Rattle.std.specs.Str.{bytes_eq}
use Rattle.std.specs.Cmp.Lexicographic.{nat_list_eq_equiv}
use Rattle.std.proofs.lemmas.List.{length-map, get_or-map, take-map}
use Rattle.std.proofs.lemmas.Bool.{or_parts, or_from}
use Rattle.lat_base.specs.declared.contest_names.ContestNames.{ContestNames}
use Rattle.lat_base.specs.Names.{has_twice, AreNames, contest_ids, names_at, no_names, is_repeated}
use Rattle.election_json.specs.declared.contest_entry.ContestEntry.{ContestEntry}
use Rattle.election_json.specs.Styles.{contest_names}
use Rattle.election_json.specs.Kept.{no_entry, entry_at}
use Rattle.election_json.proofs.Lists.{any_map}

none_at : (p : List ℕ → Bool) (ids : List (List ℕ)) (k : ℕ) → list_any p ids ≡ false
    → k < length ids → p (get_or ids k []) ≡ false
none_at p [] k h lt = absurd (omega arith)
none_at p (x ∷ ids) zero h lt = (or_parts (p x) (list_any p ids) h).0
none_at p (x ∷ ids) (suc k) h lt = none_at p ids k (or_parts (p x) (list_any p ids) h).1 (omega arith)

-- an id is none of those before it, where none stands twice
none_before : (ids : List (List ℕ)) (k : ℕ) → has_twice ids ≡ false → k < length ids
    → list_any (bytes_eq (get_or ids k [])) (take k ids) ≡ false
none_before [] k h lt = absurd (omega arith)
none_before (x ∷ ids) zero h lt = refl
none_before (x ∷ ids) (suc k) h lt =
    let parts = or_parts (list_any (bytes_eq x) ids) (has_twice ids) h in
    let id = get_or ids k [] in
    or_from (bytes_eq id x) (list_any (bytes_eq id) (take k ids)) (nat_list_eq_equiv.symm id x ∙ none_at (bytes_eq x) ids k parts.0 (omega arith)) (none_before ids k parts.1 (omega arith))

pub not_repeated : (names : List ContestNames) (k : ℕ) → AreNames names → k < length names
    → is_repeated (take k names) (names_at names k).id (names_at names k).targets ≡ false
not_repeated names k are lt =
    let id = (names_at names k).id in
    let inside : k < length (contest_ids names) = rw length-map lt in
    let same : get_or (contest_ids names) k [] ≡ id = get_or-map (λ (c : ContestNames). c.id) names k no_names [] lt in
    let other : list_any (λ (c : ContestNames). bytes_eq id c.id) (take k names) ≡ false = sym (any_map (bytes_eq id) (λ (c : ContestNames). c.id) (take k names)) ∙ rw (← take-map (λ (c : ContestNames). c.id) k names, ← same) (none_before (contest_ids names) k are.ids inside) in
    or_from (list_any (λ (c : ContestNames). bytes_eq id c.id) (take k names)) (has_twice (names_at names k).targets) other (are.targets k no_names lt)

-- so can those of contests that a style keeps by their numbers
pub next_is_new : (contests : List ContestEntry) (numbers : List ℕ) (k : ℕ) (entry : ContestEntry)
    → AreNames (map contest_names (map (entry_at contests) numbers)) → k < length numbers
    → entry ≡ entry_at contests (get_or numbers k 0)
    → is_repeated (map contest_names (map (entry_at contests) (take k numbers))) entry.id
    entry.targets ≡ false
next_is_new contests numbers k entry are lt same =
    let chosen = map (entry_at contests) numbers in
    let names = map contest_names chosen in
    let inside : k < length chosen = rw length-map lt in
    let in_names : k < length names = rw length-map inside in
    let here : names_at names k ≡ contest_names entry = get_or-map contest_names chosen k no_entry no_names inside ∙ ap contest_names (get_or-map (entry_at contests) numbers k 0 no_entry lt ∙ sym same) in
    let front : take k names ≡ map contest_names (map (entry_at contests) (take k numbers)) = take-map contest_names k chosen ∙ ap (map contest_names) (take-map (entry_at contests) k numbers) in
    let of_front = subst (λ (ns : List ContestNames). is_repeated ns (names_at names k).id (names_at names k).targets ≡ false) front (not_repeated names k are in_names) in
    subst (λ (n : ContestNames). is_repeated (map contest_names (map (entry_at contests) (take k numbers))) n.id n.targets ≡ false) here of_front
