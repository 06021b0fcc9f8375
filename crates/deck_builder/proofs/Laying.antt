-- The deck of a pattern, written over a blank one.
use Rattle.std.proofs.Common.{◌≡◌, ◌<◌, ℕ, List, [], false, length, replicate, sym, ◌∙◌, arith}
use Rattle.std.proofs.lemmas.List.{length-replicate}
use Rattle.std.proofs.lemmas.List.FromFn.{get_or-map-range_with_len}
use Rattle.std.specs.Prelude.{slice_index_or}
use Rattle.lat_base.specs.declared.contest.Contest.{Contest}
use Rattle.lat_base.specs.Rules.{RuleSet}
use Rattle.lat_base.specs.Shape.{target_count}
use Rattle.lat_ballots.specs.Deck.{Ballots, IsDeck}
use Rattle.deck_builder.specs.declared.runs.Run.{Run}
use Rattle.deck_builder.specs.Pattern.{Pattern, pattern, pattern_deck, pattern_ballots, CanPropose}
use Rattle.deck_builder.specs.Runs.{run_of, runs_of}
use Rattle.deck_builder.proofs.Filled.{CanWrite}
use Rattle.deck_builder.proofs.Obeyed.{fit}
use Rattle.deck_builder.proofs.PatternRows.{size_is}

-- the pattern has k ballots, as the deck has before any is set
pub long : (contests : List Contest) (rules : RuleSet) (k turn : ℕ)
    → CanPropose contests rules k turn
    → length (pattern_ballots (pattern contests rules k turn)) ≡ k
long contests rules k turn can = size_is (pattern contests rules k turn) k (omega arith) can.apart

pub blank_long : (contests : List Contest) (k : ℕ)
    → length (replicate k (replicate (target_count contests) false)) ≡ k
blank_long contests k = length-replicate k (replicate (target_count contests) false)

-- each of its ballots can be written
pub can_write : (contests : List Contest) (rules : RuleSet) (k turn j : ℕ) (deck : Ballots)
    → CanPropose contests rules k turn → IsDeck deck → j < k → length deck.ballots ≡ k
    → deck.targets ≡ target_count contests
    → CanWrite deck (pattern_deck (pattern contests rules k turn)) j
can_write contests rules k turn j deck can is lt size targets = record {
  is = is;
  there = omega (arith, lt, size);
  ballot = fit (pattern contests rules k turn) j [] (omega (arith, lt, long contests rules k turn can)) ∙ sym targets;
}

-- the run that is read
pub run_read : (p : Pattern) (runs : List Run) (t i : ℕ) (none : Run)
    → runs ≡ runs_of p (target_count p.contests) → t < target_count p.contests → i ≡ t
    → slice_index_or runs i none ≡ run_of p t
run_read p runs t i none are h is =
    (λ k. slice_index_or (are k) (is k) none) ∙ get_or-map-range_with_len (run_of p) 0 (target_count p.contests) t t none h (omega arith)
