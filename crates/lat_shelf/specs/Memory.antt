-- A shelf and a sink in memory, as contracts see them.
use Rattle.std.specs.Prelude.{◌≡◌, ◌==◌, ◌||◌, ◌+◌, ◌-◌, ◌^◌, ℕ, Bool, true, false, List, [], min, is_none, refl, Result, Ok, Err}
use Rattle.std.specs.List.{list_any}
use Rattle.std.specs.Coded.{Coded, code_by, coded×, coded_list, coded_ℕ}
use Rattle.std.specs.FinMap as map
use Rattle.lat_shelf.specs.declared.failed.OutFail.{OutFail}
use Rattle.lat_shelf.specs.declared.failed.OutFail.TheVariants.{Failed, Memory}
use Rattle.lat_shelf.specs.declared.kind.Kind.{Kind}
use Rattle.lat_shelf.specs.declared.kind.Kind.TheVariants.{Open, Take, Put}
use Rattle.lat_shelf.specs.Shelf.{Files}

-- how many calls of one kind were made, and the numbers of those that are to fail
pub record Schedule : Type 0 where
  pub made : ℕ
  pub failing : List ℕ

-- no call was made, and none is to fail
abbrev pub unused : Schedule
unused = record { made = 0; failing = [] }

-- whether the next call is to fail
abbrev pub fails_next : Schedule → Bool
fails_next calls = list_any (λ n. n == calls.made) calls.failing

-- one more, short of the largest number of 64 bits
abbrev pub one_more : ℕ → ℕ
one_more n = min (n + 1) (2 ^ 64 - 1)

-- one more call was made
abbrev pub counted : Schedule → Schedule
counted calls = record calls { made = one_more calls.made }

-- a shelf: its files, the bytes left of the open one, its faults, and the calls of each kind
pub record Told : Type 0 where
  pub files : Files
  pub left : List ℕ
  pub faults : ℕ
  pub opens : Schedule
  pub takes : Schedule
  pub puts : Schedule

abbrev pub schedule_code : Coded Schedule
schedule_code =
    code_by (ℕ × List ℕ) (coded× coded_ℕ (coded_list coded_ℕ)) (λ s. (s.made, s.failing))
    (λ p. record { made = p.0; failing = p.1 }) (λ _. refl)

abbrev pub calls_code : Coded (Schedule × (Schedule × Schedule))
calls_code = coded× schedule_code (coded× schedule_code schedule_code)

-- a shelf is stored as the pairs of its fields
abbrev pub told_code : Coded Told
told_code =
    code_by (Files × (List ℕ × (ℕ × (Schedule × (Schedule × Schedule)))))
    (coded× (map.code (coded_list coded_ℕ) (coded_list coded_ℕ))
    (coded× (coded_list coded_ℕ) (coded× coded_ℕ calls_code)))
    (λ s. (s.files, (s.left, (s.faults, (s.opens, (s.takes, s.puts))))))
    (λ p. record {
      files = p.0;
      left = p.1.0;
      faults = p.1.1.0;
      opens = p.1.1.1.0;
      takes = p.1.1.1.1.0;
      puts = p.1.1.1.1.1;
    }) (λ _. refl)

-- a sink: its bytes, its faults and its calls
pub record Given : Type 0 where
  pub bytes : List ℕ
  pub faults : ℕ
  pub gives : Schedule

-- the calls of a kind
abbrev pub calls_of : Told → Kind → Schedule
calls_of shelf Open = shelf.opens
calls_of shelf Take = shelf.takes
calls_of shelf Put = shelf.puts

-- the faults after a call that failed as it was to, or didn't
abbrev pub faults_after : ℕ → Bool → ℕ
faults_after faults false = faults
faults_after faults true = one_more faults

-- whether a `put` or a `give` failed
abbrev pub has_failed : {A : Type 0} → Result A OutFail → Bool
has_failed (Ok a) = false
has_failed (Err Failed) = true
has_failed (Err Memory) = false

-- `open` fails exactly where the call is to fail or the name is missing, and a missing name alone
-- is no fault
pub record OpensMemory (old new : Told) (name : List ℕ) (failed : Bool) : Type 0 where
  pub exact : failed ≡ (fails_next old.opens || is_none (map.get old.files name))
  pub faults : new.faults ≡ faults_after old.faults (fails_next old.opens)
  pub opens : new.opens ≡ counted old.opens
  pub takes : new.takes ≡ old.takes
  pub puts : new.puts ≡ old.puts

-- `take` fails exactly where the call is to fail
pub record TakesMemory (old new : Told) (failed : Bool) : Type 0 where
  pub exact : failed ≡ fails_next old.takes
  pub faults : new.faults ≡ faults_after old.faults failed
  pub opens : new.opens ≡ old.opens
  pub takes : new.takes ≡ counted old.takes
  pub puts : new.puts ≡ old.puts

-- `put` fails exactly where the call is to fail
pub record PutsMemory (old new : Told) (failed : Bool) : Type 0 where
  pub exact : failed ≡ fails_next old.puts
  pub faults : new.faults ≡ faults_after old.faults failed
  pub opens : new.opens ≡ old.opens
  pub takes : new.takes ≡ old.takes
  pub puts : new.puts ≡ counted old.puts

-- `give` fails exactly where the call is to fail
pub record GivesMemory (old new : Given) (failed : Bool) : Type 0 where
  pub exact : failed ≡ fails_next old.gives
  pub faults : new.faults ≡ faults_after old.faults failed
  pub gives : new.gives ≡ counted old.gives
