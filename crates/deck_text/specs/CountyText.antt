-- The lines of many styles: one for each, and one that counts them.
use Rattle.std.specs.Prelude.{ℕ, ◌++◌, Bool, true, false, List, length, codes, count_by, sum_by, Option}
use Rattle.std.specs.Fmt.{decimal}
use Rattle.cert_types.specs.declared.verdict.Verdict.{Verdict}
use Rattle.cert_types.specs.declared.verdict.Verdict.TheVariants.{Least, NoneWithin, Bounds}
use Rattle.deck_text.specs.PlanText.{verdict_text}

-- the line of one style: its id, and what was found
abbrev pub style_line : List ℕ → Verdict → Option ℕ → List ℕ
style_line id verdict best =
    id ++ codes " " ++ verdict_text verdict best ++ codes "\n"

-- whether a least size was found
abbrev pub is_least : Verdict → Bool
is_least (Least k) = true
is_least (NoneWithin m) = false
is_least (Bounds f) = false

-- whether there is no deck within the cap
abbrev pub is_none_within : Verdict → Bool
is_none_within (Least k) = false
is_none_within (NoneWithin m) = true
is_none_within (Bounds f) = false

-- whether the least size stayed open
abbrev pub is_open : Verdict → Bool
is_open (Least k) = false
is_open (NoneWithin m) = false
is_open (Bounds f) = true

-- the least size where it was found, else 0
abbrev pub least_size : Verdict → ℕ
least_size (Least k) = k
least_size (NoneWithin m) = 0
least_size (Bounds f) = 0

-- how many styles there are, how many of each answer, and the sum of the least sizes
pub record StyleCounts : Type 0 where
  pub styles : ℕ
  pub least : ℕ
  pub none : ℕ
  pub unsettled : ℕ
  pub ballots : ℕ

-- the counts of these answers
abbrev pub counts_of : List Verdict → StyleCounts
counts_of verdicts = record {
  styles = length verdicts;
  least = count_by is_least verdicts;
  none = count_by is_none_within verdicts;
  unsettled = count_by is_open verdicts;
  ballots = sum_by least_size verdicts;
}

-- the line of the counts
abbrev pub count_line : StyleCounts → List ℕ
count_line counts =
    codes "styles " ++ decimal counts.styles ++ codes " least " ++ decimal counts.least
    ++ codes " none " ++ decimal counts.none ++ codes " open " ++ decimal counts.unsettled
    ++ codes " ballots " ++ decimal counts.ballots ++ codes "\n"
