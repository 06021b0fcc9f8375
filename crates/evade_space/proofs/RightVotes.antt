-- Votes for an image as they are counted by sets of ballots.
use Rattle.std.proofs.Common.{◌≡◌, ◌<◌, ◌&&◌, ◌∙◌, ℕ, Bool, Some, Option, List, min, length, get_or, refl, sym, arith}
use Rattle.lat_base.specs.Shape.{target_count, contest_of}
use Rattle.lemmas.proofs.Counting.{count_alike}
use Rattle.evade_space.specs.declared.contest_sets.ContestSets.{ContestSets}
use Rattle.evade_space.specs.Sources.{source_at, empty_places, AreGiven}
use Rattle.evade_space.specs.Seen.{taken, free_marks}
use Rattle.evade_space.specs.Votes.{may_vote_on, must_vote_on}
use Rattle.evade_space.specs.Sought.{Sought}
use Rattle.lat_ballots.specs.Columns.{IsSet, has_mark}
use Rattle.evade_space.specs.BallotSets.{common_ones}
use Rattle.evade_space.specs.Masks.{is_within, is_sure, AreContestSets}
use Rattle.evade_space.specs.Recounts.{AreVotes}
use Rattle.evade_space.proofs.Counted.{may_is, must_is}
use Rattle.evade_space.proofs.Pages.{common_is}

pub right_votes : (sought : Sought) (sources : List (Option ℕ)) (u t c : ℕ) (sets : ContestSets)
    (column : List ℕ) (may must : ℕ) → AreGiven (target_count sought.contests) sources
    → u < target_count sought.contests → source_at sources u ≡ Some t
    → c ≡ contest_of sought.contests u
    → AreContestSets sought sources c (empty_places sought.contests sources c) sets
    → IsSet 16 column (has_mark t) sought.deck → may ≡ common_ones column sets.within sets.pages
    → must ≡ common_ones column sets.sure sets.pages
    → AreVotes sought sources u may must
right_votes sought sources u t c sets column may must are lu e own known sc a b =
    let inside : u < length sources = omega (arith, lu, are.long) in
    let here : IsSet sets.pages column (has_mark t) sought.deck = λ i lt. sc i (omega (arith, lt, known.pages)) in
    record {
      are_possible = a ∙ common_is sets.pages (has_mark t) (is_within sought.contests sources c) column sets.within sought.deck here known.within known.all
          ∙ count_alike (λ (ballot : List Bool). has_mark t ballot && is_within sought.contests sources c ballot) (may_vote_on sought.contests sources u) sought.deck
          (λ j d lt. (λ i. has_mark t (get_or sought.deck j d) && is_within sought.contests sources (own i) (get_or sought.deck j d))
          ∙ sym (may_is sought.contests sources u t (get_or sought.deck j d) (taken sought.contests sources (get_or sought.deck j d) (contest_of sought.contests u)) inside e refl));
      are_sure = b ∙ common_is sets.pages (has_mark t) (is_sure sought.contests sources c (empty_places sought.contests sources c)) column sets.sure sought.deck here known.sure known.all
          ∙ count_alike (λ (ballot : List Bool). has_mark t ballot && is_sure sought.contests sources c (empty_places sought.contests sources c) ballot) (must_vote_on sought.contests sources u) sought.deck
          (λ j d lt. (λ i. has_mark t (get_or sought.deck j d) && is_sure sought.contests sources (own i) (empty_places sought.contests sources (own i)) (get_or sought.deck j d))
          ∙ sym (must_is sought.contests sources u t (get_or sought.deck j d) (taken sought.contests sources (get_or sought.deck j d) (contest_of sought.contests u))
          (min (empty_places sought.contests sources (contest_of sought.contests u)) (free_marks sources (get_or sought.deck j d))) inside e refl refl));
    }
