-- The contest whose id is asked for.
use Rattle.std.proofs.Common.{◌≡◌, ◌<◌, ℕ, Bool, true, false, not, List, [], Some, Ok, length, get_or, find, position, inl, inr, refl, sym, ap, ◌∙◌, arith}
use Rattle.std.specs.Option.{option_map}
use Rattle.std.specs.List.{list_any, position_or_len}
use Rattle.std.specs.Str.{bytes_eq}
use Rattle.std.proofs.lemmas.Bool.{cases_lt, lt-ltb, le-ltb}
use Rattle.std.proofs.lemmas.List.{length-map, get_or-map}
use Rattle.std.proofs.lemmas.List.Folds.{find_at}
use Rattle.std.proofs.lemmas.List.Quantifiers.{position-Some}
use Rattle.std.proofs.lemmas.Option.{slice_get-get_or, slice_get_past}
use Rattle.std.proofs.lemmas.Slice.Eq.{bytes_eq-Decides}
use Rattle.serde_json.specs.Data.{Data}
use Rattle.election_json.specs.declared.place.Place.{Place}
use Rattle.election_json.specs.declared.contest_entry.ContestEntry.{ContestEntry}
use Rattle.election_json.specs.Contests.{ids_of}
use Rattle.election_json.specs.Member.{id_text}
use Rattle.election_json.specs.Styles.{chosen_contest}
use Rattle.election_json.specs.Kept.{no_entry, entry_at}
use Rattle.election_json.proofs.Lists.{position_map}

find_position : (p : ContestEntry → Bool) (contests : List ContestEntry)
    → option_map (entry_at contests) (position p contests) ≡ find p contests
find_position p contests =
    let n = position_or_len p contests in
    elim (cases_lt n (length contests)) [
      | inl lt ↦ rw (lt-ltb n (length contests) lt) (sym (find_at p contests ∙ slice_get-get_or contests n no_entry lt))
      | inr ge ↦ rw (le-ltb n (length contests) ge) (sym (find_at p contests ∙ slice_get_past contests n ge))
    ]

-- the contest at the place of the id is the one that is found by it
pub found_by_id : (id : List ℕ) (contests : List ContestEntry)
    → option_map (entry_at contests) (position (bytes_eq id) (ids_of contests))
    ≡ find (λ c. bytes_eq id c.id) contests
found_by_id id contests =
    ap (option_map (entry_at contests)) (position_map (bytes_eq id) (λ (c : ContestEntry). c.id) contests) ∙ find_position (λ c. bytes_eq id c.id) contests

-- and it has that id
pub found_id : (id : List ℕ) (contests : List ContestEntry) (c : ℕ)
    → position (bytes_eq id) (ids_of contests) ≡ Some c
    → (c < length contests) × ((entry_at contests c).id ≡ id)
found_id id contests c h =
    let at = position-Some (bytes_eq id) (ids_of contests) c [] h in
    let lt : c < length contests = omega (arith, simp length-map at at.0) in
    let same = (bytes_eq-Decides id (get_or (ids_of contests) c [])).0 at.1 in
    (lt, sym (same ∙ get_or-map (λ (x : ContestEntry). x.id) contests c no_entry [] lt))

is_not : (b : Bool) → true ≡ not b → b ≡ false
is_not true h = cc
is_not false h = refl

-- an id of a contest that isn't among the earlier ones
pub chosen_is : (contests : List ContestEntry) (earlier : List (List ℕ)) (place : Place)
    (value : Data) (text : List ℕ) (contest : ContestEntry) → id_text place value ≡ Ok text
    → Some contest ≡ find (λ c. bytes_eq text c.id) contests
    → true ≡ not (list_any (bytes_eq text) earlier)
    → chosen_contest contests earlier place value ≡ Ok contest
chosen_is contests earlier place value text contest h k m =
    rw (h, ← k, is_not (list_any (bytes_eq text) earlier) m) refl
