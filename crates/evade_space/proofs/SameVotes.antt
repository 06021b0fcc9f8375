-- Votes for images of other contests, where a source comes or goes.
use Rattle.std.proofs.Common.{◌≡◌, ◌≢◌, ◌<◌, ◌+◌, ◌⊎◌, inl, inr, ℕ, Some, None, Option, is_none, List, length, get_or, count_by, ap, sym, ◌∙◌, arith}
use Rattle.std.proofs.lemmas.List.{ext_get_or}
use Rattle.std.proofs.lemmas.List.FromFn.{get_or-map-range_with_len, length-map-range_with_len}
use Rattle.lat_base.specs.Shape.{target_count, first_target, contest_of}
use Rattle.readings.proofs.Places.{is_of}
use Rattle.evade_space.specs.Sources.{source_at, with_source, empty_places}
use Rattle.evade_space.specs.Votes.{may_vote, must_vote}
use Rattle.evade_space.specs.Counts.{Counts, may_votes, must_votes, counts_of}
use Rattle.evade_space.specs.PartialMisassignment.{PartialMisassignment}
use Rattle.evade_space.specs.Sought.{Sought}
use Rattle.evade_space.specs.Trials.{IsGiving}
use Rattle.evade_space.specs.Recounts.{HasMarks, HasVotes, HasVotesBeside}
use Rattle.evade_space.proofs.Known.{with_long, at_other}
use Rattle.evade_space.proofs.Unchanged.{Apart, range_other, may_other, must_other}
use Rattle.evade_space.proofs.KeptLost.{outside_of}
use Rattle.evade_space.proofs.KnownRows.{none_may, none_must}

-- the numbers of votes for image w under two lists of sources
pub record AreSame (sought : Sought) (before after : List (Option ℕ)) (w : ℕ) : Type 0 where
  pub possible : may_vote sought.contests sought.deck after w
      ≡ may_vote sought.contests sought.deck before w
  pub sure : must_vote sought.contests sought.deck after w
      ≡ must_vote sought.contests sought.deck before w

-- the empty places of another contest
pub empty_other : (sought : Sought) (sources : List (Option ℕ)) (u t w : ℕ)
    → IsGiving sought sources u t → w < target_count sought.contests
    → contest_of sought.contests w ≢ contest_of sought.contests u
    → empty_places sought.contests (with_source sources u t) (contest_of sought.contests w)
    ≡ empty_places sought.contests sources (contest_of sought.contests w)
empty_other sought sources u t w is lw other =
    let out = outside_of sought.contests u (contest_of sought.contests w) is.image (is_of sought.contests w lw).contest other in
    ap (count_by (is_none {T = ℕ})) (range_other sources (first_target sought.contests (contest_of sought.contests w)) (first_target sought.contests (contest_of sought.contests w + 1)) u (Some t) out)

-- they stay where its contest is full, and where it has no source
pub same_votes : (sought : Sought) (sources : List (Option ℕ)) (u t w : ℕ)
    → IsGiving sought sources u t → w < target_count sought.contests
    → contest_of sought.contests w ≢ contest_of sought.contests u
    → (empty_places sought.contests sources (contest_of sought.contests w) ≡ 0)
    ⊎ (source_at sources w ≡ None) → AreSame sought sources (with_source sources u t) w
same_votes sought sources u t w is lw other (inl full) =
    let apart : Apart sought.contests sources u t w = record { image = is.image; other = lw; contest = other; full = empty_other sought sources u t w is lw other ∙ full } in
    record {
      possible = λ i. count_by (λ ballot. may_other sought.contests sources u t w ballot apart i) sought.deck;
      sure = λ i. count_by (λ ballot. must_other sought.contests sources u t w ballot apart i) sought.deck;
    }
same_votes sought sources u t w is lw other (inr none) =
    let ne : w ≢ u = λ e. other (ap (contest_of sought.contests) e) in
    let inside : w < length sources = omega (arith, lw, is.are.long) in
    let inside_after : w < length (with_source sources u t) = omega (arith, inside, with_long sources u t) in
    let none_after = at_other sources u t w ne ∙ none in
    record {
      possible = none_may sought.contests sought.deck (with_source sources u t) w inside_after none_after ∙ sym (none_may sought.contests sought.deck sources w inside none);
      sure = none_must sought.contests sought.deck (with_source sources u t) w inside_after none_after ∙ sym (none_must sought.contests sought.deck sources w inside none);
    }

may_at : (sought : Sought) (sources : List (Option ℕ)) (w : ℕ) → w < length sources
    → get_or (may_votes sought.contests sought.deck sources) w 0
    ≡ may_vote sought.contests sought.deck sources w
may_at sought sources w lt = get_or-map-range_with_len (may_vote sought.contests sought.deck sources) 0 (length sources) w w 0 lt (omega arith)

must_at : (sought : Sought) (sources : List (Option ℕ)) (w : ℕ) → w < length sources
    → get_or (must_votes sought.contests sought.deck sources) w 0
    ≡ must_vote sought.contests sought.deck sources w
must_at sought sources w lt = get_or-map-range_with_len (must_vote sought.contests sought.deck sources) 0 (length sources) w w 0 lt (omega arith)

-- the votes where a source came
pub beside_came : (sought : Sought) (s now : PartialMisassignment) (u t : ℕ)
    → IsGiving sought s.sources u t → s.counts ≡ counts_of sought.contests sought.deck s.sources
    → now.sources ≡ with_source s.sources u t → now.counts.may ≡ s.counts.may
    → now.counts.must ≡ s.counts.must → HasVotesBeside sought now (contest_of sought.contests u)
beside_came sought s now u t is kept e may must w lw other h =
    let inside : w < length s.sources = omega (arith, lw, is.are.long) in
    let ne : w ≢ u = λ x. other (ap (contest_of sought.contests) x) in
    let same = same_votes sought s.sources u t w is lw other (before h) in
    record {
      are_possible = ap (λ (xs : List ℕ). get_or xs w 0) (may ∙ ap (λ (x : Counts). x.may) kept) ∙ may_at sought s.sources w inside ∙ sym same.possible ∙ ap (λ (xs : List (Option ℕ)). may_vote sought.contests sought.deck xs w) (sym e);
      are_sure = ap (λ (xs : List ℕ). get_or xs w 0) (must ∙ ap (λ (x : Counts). x.must) kept) ∙ must_at sought s.sources w inside ∙ sym same.sure ∙ ap (λ (xs : List (Option ℕ)). must_vote sought.contests sought.deck xs w) (sym e);
    }
  where
    before : (empty_places sought.contests now.sources (contest_of sought.contests w) ≡ 0)
        ⊎ (source_at now.sources w ≡ None)
        → (empty_places sought.contests s.sources (contest_of sought.contests w) ≡ 0)
        ⊎ (source_at s.sources w ≡ None)
    before (inl full) = inl (sym (empty_other sought s.sources u t w is lw other) ∙ ap (λ (xs : List (Option ℕ)). empty_places sought.contests xs (contest_of sought.contests w)) (sym e) ∙ full)
    before (inr none) = inr (sym (at_other s.sources u t w (λ x. other (ap (contest_of sought.contests) x))) ∙ ap (λ (xs : List (Option ℕ)). source_at xs w) (sym e) ∙ none)

-- the votes where a source went
pub beside_went : (sought : Sought) (now : PartialMisassignment) (sources : List (Option ℕ))
    (u t : ℕ) → IsGiving sought sources u t → now.sources ≡ sources
    → now.counts.may ≡ may_votes sought.contests sought.deck (with_source sources u t)
    → now.counts.must ≡ must_votes sought.contests sought.deck (with_source sources u t)
    → HasVotesBeside sought now (contest_of sought.contests u)
beside_went sought now sources u t is e may must w lw other h =
    let inside : w < length (with_source sources u t) = omega (arith, lw, is.are.long, with_long sources u t) in
    let same = same_votes sought sources u t w is lw other (before h) in
    record {
      are_possible = ap (λ (xs : List ℕ). get_or xs w 0) may ∙ may_at sought (with_source sources u t) w inside ∙ same.possible ∙ ap (λ (xs : List (Option ℕ)). may_vote sought.contests sought.deck xs w) (sym e);
      are_sure = ap (λ (xs : List ℕ). get_or xs w 0) must ∙ must_at sought (with_source sources u t) w inside ∙ same.sure ∙ ap (λ (xs : List (Option ℕ)). must_vote sought.contests sought.deck xs w) (sym e);
    }
  where
    before : (empty_places sought.contests now.sources (contest_of sought.contests w) ≡ 0)
        ⊎ (source_at now.sources w ≡ None)
        → (empty_places sought.contests sources (contest_of sought.contests w) ≡ 0)
        ⊎ (source_at sources w ≡ None)
    before (inl full) = inl (ap (λ (xs : List (Option ℕ)). empty_places sought.contests xs (contest_of sought.contests w)) (sym e) ∙ full)
    before (inr none) = inr (ap (λ (xs : List (Option ℕ)). source_at xs w) (sym e) ∙ none)

-- where all votes are right, so are the lists of them
pub all_votes : (sought : Sought) (s : PartialMisassignment) → HasMarks sought s
    → ((w : ℕ) → w < target_count sought.contests → HasVotes sought s w)
    → s.counts ≡ counts_of sought.contests sought.deck s.sources
all_votes sought s marks each = λ i. record { taken = marks.taken i; free = marks.free i; may = may i; must = must i; lost = marks.lost i }
  where
    may : s.counts.may ≡ may_votes sought.contests sought.deck s.sources
    may =
        let long = length-map-range_with_len (may_vote sought.contests sought.deck s.sources) 0 (length s.sources) in
        ext_get_or 0 s.counts.may (may_votes sought.contests sought.deck s.sources) (omega (arith, marks.may, marks.are.long, long))
        (λ w lt. let inside : w < target_count sought.contests = omega (arith, lt, marks.may) in
        (each w inside).are_possible ∙ sym (may_at sought s.sources w (omega (arith, inside, marks.are.long))))

    must : s.counts.must ≡ must_votes sought.contests sought.deck s.sources
    must =
        let long = length-map-range_with_len (must_vote sought.contests sought.deck s.sources) 0 (length s.sources) in
        ext_get_or 0 s.counts.must (must_votes sought.contests sought.deck s.sources) (omega (arith, marks.must, marks.are.long, long))
        (λ w lt. let inside : w < target_count sought.contests = omega (arith, lt, marks.must) in
        (each w inside).are_sure ∙ sym (must_at sought s.sources w (omega (arith, inside, marks.are.long))))
