-- What a program knows of the files that it reads and writes.
use Rattle.std.specs.Prelude.{◌≡◌, ◌≢◌, ◌⊎◌, ◌+◌, ◌<◌, ◌≤◌, ◌^◌, ℕ, List, [], take, drop, length, Option, Some, None, ⊤}
use Rattle.std.specs.Ordering.{nat_cmp}
use Rattle.std.specs.Cmp.Lexicographic.{slice_cmp}
use Rattle.std.specs.FinMap.{FinMap, get}

-- files by their names: the bytes of each
abbrev pub Files : Type 0
Files = FinMap {K = List ℕ} (slice_cmp nat_cmp) (List ℕ)

-- a count of faults went up, or stands at its last value
abbrev pub Rose : ℕ → ℕ → Type 0
Rose before after = (before < after) ⊎ (2 ^ 64 ≤ after + 1)

-- the files are told, and no file has this name
abbrev pub IsMissing : Option Files → List ℕ → Type 0
IsMissing None name = ⊥
IsMissing (Some files) name = get files name ≡ None

-- the bytes left are those of this name's file, where both are told
abbrev pub Opens : Option Files → List ℕ → Option (List ℕ) → Type 0
Opens None name left = ⊤
Opens (Some files) name None = ⊤
Opens (Some files) name (Some bytes) = get files name ≡ Some bytes

-- the first n bytes left stand at the front of buf and are no longer left; n is 0 only where
-- nothing is left or buf is empty
pub record Takes (before after buf : List ℕ) (n : ℕ) : Type 0 where
  pub within : n ≤ length before
  pub front : take n buf ≡ take n before
  pub rest : after ≡ drop n before
  pub some : n ≡ 0 → (before ≡ []) ⊎ (length buf ≡ 0)

-- the same, where the bytes left are told
abbrev pub TakesKnown : Option (List ℕ) → Option (List ℕ) → List ℕ → ℕ → Type 0
TakesKnown None after buf n = after ≡ None
TakesKnown (Some before) None buf n = ⊥
TakesKnown (Some before) (Some after) buf n = Takes before after buf n

-- no file is open, so it is told that no byte is left
abbrev pub NoneOpen : Option (List ℕ) → Type 0
NoneOpen left = left ≡ Some []

-- each file of another name is as it was, where files are told
abbrev pub SameBut : List ℕ → Option Files → Option Files → Type 0
SameBut name None after = after ≡ None
SameBut name (Some before) None = ⊥
SameBut name (Some before) (Some after) = (other : List ℕ) → other ≢ name
    → get after other ≡ get before other
