-- The counts of a contest, and the marks of each target as a run of places.
use Rattle.std.specs.Prelude.{◌+◌, ◌-◌, ◌*◌, ℕ, Bool, if◌then◌else◌, min, List, map, slice_set}
use Rattle.std.specs.List.{range_with_len}
use Rattle.lat_base.specs.Shape.{first_target, contest_of}
use Rattle.lat_ballots.specs.Deck.{Ballots}
use Rattle.deck_builder.specs.declared.counts.Marking.{Marking}
use Rattle.deck_builder.specs.declared.runs.Run.{Run}
use Rattle.deck_builder.specs.Pattern.{Pattern, size, first_count, gap, spare, is_raised, mark_total, place}

-- what the counts of contest c rest on
abbrev pub marking_of : Pattern → ℕ → Marking
marking_of p c = record {
  mode = p.mode;
  targets = size p c;
  first = first_count p c;
  gap = gap p c;
  spare = spare p c;
}

-- by how much a count is raised after which so many of its contest come
abbrev pub raise_by : Marking → (after : ℕ) → ℕ
raise_by marking after =
    if is_raised marking.mode after then min marking.gap (marking.spare - after * marking.gap)
    else 0

-- how often target i of the contest is marked
abbrev pub marks_of : Marking → ℕ → ℕ
marks_of marking i = marking.first + i + raise_by marking (marking.targets - 1 - i)

-- the marks of target t
abbrev pub run_of : Pattern → ℕ → Run
run_of p t =
    let c = contest_of p.contests t in
    let i = t - first_target p.contests c in
    record { place = place p c i; marks = mark_total p c i }

-- those of the first n targets
abbrev pub runs_of : Pattern → ℕ → List Run
runs_of p n = map (run_of p) (range_with_len 0 n)

-- the deck with that ballot in the place of ballot j
abbrev pub with_ballot : Ballots → ℕ → List Bool → Ballots
with_ballot deck j ballot = record deck { ballots = slice_set deck.ballots j ballot }
