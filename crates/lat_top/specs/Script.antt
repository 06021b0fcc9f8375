-- A script: the files that a command reads, in order, and where it is refused.
use Rattle.std.specs.Prelude.{◌≡◌, ◌⊎◌, ◌≤◌, ◌+◌, ℕ, List, [], ◌∷◌, length}
use Rattle.std.specs.Prelude.{Option, Some, Result, Ok, Err}
use Rattle.lat_shelf.specs.Shelf.{Files, Rose, IsMissing}
use Rattle.lat_shelf.specs.Read.{IsFile, IsLonger}
use Rattle.lat_top.specs.declared.refusal.Refusal.{Refusal}
use Rattle.lat_top.specs.declared.refusal.Refusal.TheVariants as r

-- a file of at most so many bytes is read and the script goes on as its bytes say; or it goes on
-- with something of which a relation holds, or is refused with a refusal of which it does; or the
-- call is refused; or what was wanted is there
pub data Script (A : Type 0) : Type 1 where
  Read : List ℕ → ℕ → (List ℕ → Script A) → Script A
  Find : {B : Type 0} → (Result B Refusal → Type 0) → (B → Script A) → Script A
  Refuse : Refusal → Script A
  Give : A → Script A

infixl 10 ◌>>=◌
-- one script, and then another on what it gave
abbrev pub ◌>>=◌ : {A B : Type 0} → Script A → (A → Script B) → Script B
(Read name limit next) >>= f = Read name limit (λ bytes. next bytes >>= f)
(Find says next) >>= f = Find says (λ b. next b >>= f)
(Refuse refusal) >>= f = Refuse refusal
(Give a) >>= f = f a

-- the bytes of a file
abbrev pub read : List ℕ → ℕ → Script (List ℕ)
read name limit = Read name limit (λ bytes. Give bytes)

-- what there is, or else a refusal
abbrev pub judge : {A : Type 0} → Result A Refusal → Script A
judge (Ok a) = Give a
judge (Err refusal) = Refuse refusal

-- that of which a relation holds
abbrev pub find : {B : Type 0} → (Result B Refusal → Type 0) → Script B
find says = Find says Give

-- a script for each in order
abbrev pub each : {A B : Type 0} → (A → Script B) → List A → Script (List B)
each f [] = Give []
each f (x ∷ xs) = do
  y ← f x
  ys ← each f xs
  Give (y ∷ ys)

-- what following a script came to. Fault is that a fault rose meanwhile
abbrev pub Follows : {A : Type 0} → Script A → Option Files → Type 0 → Result A Refusal → Type 0
Follows (Give a) files Fault result = result ≡ Ok a
Follows (Refuse refusal) files Fault result = result ≡ Err refusal
Follows (Find {B} says next) files Fault result =
    ((b : B) × says (Ok b) × Follows (next b) files Fault result)
    ⊎ ((refusal : Refusal) × says (Err refusal) × (result ≡ Err refusal))
Follows (Read name limit next) files Fault result =
    ((result ≡ Err r.ReadFault) × (Fault ⊎ IsMissing files name))
    ⊎ (((result ≡ Err (r.TooLong (limit + 1))) × IsLonger files name limit)
    ⊎ ((bytes : List ℕ) × IsFile files name bytes × (length bytes ≤ limit)
    × Follows (next bytes) files Fault result))

-- the same, or memory was wanting
pub record Gives {A : Type 0} (script : Script A) (files : Option Files) (Fault : Type 0)
    (result : Result A Refusal) : Type 0 where
  pub how : (result ≡ Err r.Memory) ⊎ Follows script files Fault result

-- what is known of a shelf at a moment: its files, where it tells them, and its faults
pub record Moment : Type 0 where
  pub files : Option Files
  pub faults : ℕ

-- the moment of a shelf
abbrev pub moment : {S : Type 0} → (S → Option Files) → (S → ℕ) → S → Moment
moment files faults shelf = record { files = files shelf; faults = faults shelf }

-- following a script between two moments came to a result, and no file changed
pub record Reads {A : Type 0} (script : Script A) (before after : Moment)
    (result : Result A Refusal) : Type 0 where
  pub gives : Gives script before.files (Rose before.faults after.faults) result
  pub files : after.files ≡ before.files
  pub faults : before.faults ≤ after.faults

-- what a script comes to where the files are told and no call of the outside fails
abbrev pub Outcome : {A : Type 0} → Script A → Files → Result A Refusal → Type 0
Outcome script files result = Follows script (Some files) ⊥ result

-- a result whose value is seen by view
abbrev pub viewed : {X A : Type 0} → (X → A) → Result X Refusal → Result A Refusal
viewed view (Ok x) = Ok (view x)
viewed view (Err refusal) = Err refusal
