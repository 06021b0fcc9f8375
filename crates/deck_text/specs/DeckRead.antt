-- Reading a deck's file: the ballots that its rows mark, or the first row with a fault.
use Rattle.std.specs.Prelude.{⊤, ◌<◌, ℕ, ◌+◌, ◌-◌, ◌==◌, ◌&&◌, ◌||◌, ◌++◌, true, false, List, [], ◌∷◌, length, replicate, codes, nat_lt, if◌then◌else◌, Option, Some, None, option_map, option_and_then, Result, Ok, Err}
use Rattle.lat_base.specs.declared.limits.TheConstants.{MOST_BALLOTS}
use Rattle.lat_base.specs.declared.contest.Contest.{Contest}
use Rattle.lat_base.specs.declared.contest_names.ContestNames.{ContestNames}
use Rattle.lat_base.specs.Shape.{target_count}
use Rattle.lat_base.specs.Rules.{is_blank}
use Rattle.numerals.specs.Numerals.{number_of}
use Rattle.lat_ballots.specs.Deck.{Ballots, ballot_at, mark_at, with_mark, blank_ballots}
use Rattle.deck_text.specs.declared.fault.CsvFault.{CsvFault}
use Rattle.deck_text.specs.declared.fault.CsvFault.TheVariants.{NotCsv, BadNumber, UnknownTarget, Repeated}
use Rattle.deck_text.specs.declared.mark.Mark.{Mark}
use Rattle.deck_text.specs.declared.mark.Mark.TheVariants as mark
use Rattle.lat_base.specs.FirstFault.{◌>>=◌, or_fault}
use Rattle.deck_text.specs.Rows.{field_of, after_header}
use Rattle.deck_text.specs.TargetNames.{FullName, target_names, target_called}

-- the header's fields
abbrev pub deck_fields : List (List ℕ)
deck_fields = codes "ballot" ∷ codes "contest" ∷ codes "target" ∷ []

-- a number that is that of the last ballot or one more; before the first ballot it is 1
abbrev pub following : ℕ → ℕ → Option ℕ
following ballots n =
    if (n == ballots + 1) || (nat_lt 0 ballots && (n == ballots)) then Some n else None

-- the number of a row's ballot, from 1 to 1,024
abbrev pub ballot_number : ℕ → List ℕ → Option ℕ
ballot_number ballots field = option_and_then (following ballots) (number_of 0 MOST_BALLOTS field)

-- what a row marks: nothing where both names are empty, or the target with these names
abbrev pub mark_called : List FullName → List ℕ → List ℕ → Option Mark
mark_called names contest target =
    if (length contest == 0) && (length target == 0) then Some mark.Blank
    else option_map (λ t. mark.Target t) (target_called names contest target)

-- what a row marks is a target of the deck
abbrev pub IsMarkOf : ℕ → Mark → Type 0
IsMarkOf targets mark.Blank = ⊤
IsMarkOf targets (mark.Target t) = t < targets

-- the deck with a blank ballot more
abbrev pub with_blank : Ballots → Ballots
with_blank deck = record deck { ballots = deck.ballots ++ replicate deck.targets false ∷ [] }

-- the number of the last ballot, counted from 0
abbrev pub last_ballot : Ballots → ℕ
last_ballot deck = length deck.ballots - 1

-- the deck with target t marked on the last ballot
abbrev pub with_last_mark : Ballots → ℕ → Ballots
with_last_mark deck t = with_mark deck (last_ballot deck) t true

-- the first row of a ballot
abbrev pub with_ballot : Ballots → Mark → Ballots
with_ballot deck mark.Blank = with_blank deck
with_ballot deck (mark.Target t) = with_last_mark (with_blank deck) t

-- a further row of the last ballot: neither it nor the row before may be blank, and its mark may
-- not be there
abbrev pub with_further : Ballots → Mark → Option Ballots
with_further deck mark.Blank = None
with_further deck (mark.Target t) =
    if is_blank (ballot_at deck (last_ballot deck)) || mark_at deck (last_ballot deck) t
    then None else Some (with_last_mark deck t)

-- the deck with the mark of a row in the ballot of that number, where it repeats nothing
abbrev pub with_row : Ballots → ℕ → Mark → Option Ballots
with_row deck number mark =
    if number == length deck.ballots then with_further deck mark else Some (with_ballot deck mark)

-- the deck after one more row
abbrev pub deck_row : List FullName → ℕ → Ballots → List (List ℕ) → Result Ballots CsvFault
deck_row names row deck fields = do
  number ← or_fault (ballot_number (length deck.ballots) (field_of fields 0)) (BadNumber row)
  mark ← or_fault (mark_called names (field_of fields 1) (field_of fields 2)) (UnknownTarget row)
  or_fault (with_row deck number mark) (Repeated row)

-- the deck after these rows, the first of which has this number
abbrev pub deck_from : List FullName → ℕ → Ballots → List (List (List ℕ)) → Result Ballots CsvFault
deck_from names row deck [] = Ok deck
deck_from names row deck (fields ∷ rows) =
    if length fields == 3 then deck_row names row deck fields >>=
    (λ more. deck_from names (row + 1) more rows)
    else Err (NotCsv row)

-- the deck of a file's records
abbrev pub deck_read : List Contest → List ContestNames → List (List (List ℕ))
    → Result Ballots CsvFault
deck_read contests names records = do
  rows ← after_header deck_fields records
  deck_from (target_names names) 2 (blank_ballots (target_count contests) 0) rows
