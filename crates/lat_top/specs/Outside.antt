-- What is known of the outside of a call.
use Rattle.std.specs.Prelude.{◌≡◌, ℕ, List, Option}
use Rattle.lat_shelf.specs.Shelf.{Files}

-- the files and the bytes given, where they are told, and the faults of the shelf and of the sink
pub record Outside : Type 0 where
  pub files : Option Files
  pub given : Option (List ℕ)
  pub shelf_faults : ℕ
  pub sink_faults : ℕ

-- what a shelf and a sink tell
abbrev pub outside : {S K : Type 0} → (S → Option Files) → (S → ℕ) → (K → Option (List ℕ))
    → (K → ℕ) → S → K → Outside
outside files shelf_faults given sink_faults shelf out = record {
  files = files shelf;
  given = given out;
  shelf_faults = shelf_faults shelf;
  sink_faults = sink_faults out;
}

-- no file changed, and nothing was given
pub record Untouched (before after : Outside) : Type 0 where
  pub files : after.files ≡ before.files
  pub given : after.given ≡ before.given
