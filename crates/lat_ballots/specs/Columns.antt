-- A deck's columns: for each target the set of the ballots that mark it. A set is words of 64 bits:
-- ballot j is bit j % 64 of word j / 64.
use Rattle.std.specs.Prelude.{◌≡◌, ◌<◌, ◌*◌, ℕ, Bool, List, [], length, map, take, drop, get_or}
use Rattle.std.specs.Simd.Lanes.{mask_l}
use Rattle.lat_base.specs.Tally.{is_marked}

-- the ballots of word i
abbrev pub page : List (List Bool) → ℕ → List (List Bool)
page deck i = take 64 (drop (64 * i) deck)

-- the first n words are those of the set of the ballots that pass a test
abbrev pub IsSet : ℕ → List ℕ → (List Bool → Bool) → List (List Bool) → Type 0
IsSet n words p deck = (i : ℕ) → i < n → get_or words i 0 ≡ mask_l (map p (page deck i))

-- whether a ballot marks target t
abbrev pub has_mark : ℕ → List Bool → Bool
has_mark t ballot = is_marked ballot t

-- the columns of a deck, each a set of ballots: those that mark the target
pub record AreColumns (targets : ℕ) (columns : List (List ℕ)) (deck : List (List Bool))
    : Type 0 where
  pub long : length columns ≡ targets
  pub each : (t : ℕ) → t < targets → IsSet 16 (get_or columns t []) (has_mark t) deck
