-- The votes of one image more are right.
use Rattle.std.proofs.Common.{◌≡◌, ◌≢◌, ◌<◌, ℕ, List, [], length, get_or, set, refl, ap, sym, subst, ◌∙◌, arith}
use Rattle.std.proofs.lemmas.List.{length-set, get_or-set_other}
use Rattle.std.proofs.lemmas.List.FromFn.{get_or-map-range_with_len, length-map-range_with_len}
use Rattle.std.proofs.lemmas.Grind.{get_or-set_at}
use Rattle.lat_base.specs.Shape.{target_count}
use Rattle.evade_space.specs.Counts.{taken_in}
use Rattle.evade_space.specs.PartialMisassignment.{PartialMisassignment, keeping}
use Rattle.evade_space.specs.Sought.{Sought}
use Rattle.evade_space.specs.Masks.{IsMarked}
use Rattle.evade_space.specs.Recounts.{HasMarks, AreVotes, HasVotes}

-- the marks of one contest
pub marked_at : (sought : Sought) (s : PartialMisassignment) (c : ℕ) → HasMarks sought s
    → c < length sought.contests → IsMarked sought s c
marked_at sought s c marks lt = record {
  contest = lt;
  row = omega (arith, lt, ap length marks.taken, length-map-range_with_len (taken_in sought.contests sought.deck s.sources) 0 (length sought.contests));
  taken = ap (λ (xs : List (List ℕ)). get_or xs c []) marks.taken ∙ get_or-map-range_with_len (taken_in sought.contests sought.deck s.sources) 0 (length sought.contests) c c [] lt (omega arith);
  free = marks.free;
  few = omega (arith, marks.are.long, marks.are.few);
}

-- what a step keeps and sets right
pub record Stepped (sought : Sought) (s now : PartialMisassignment) (u : ℕ) : Type 0 where
  pub marks : HasMarks sought now
  pub sources : now.sources ≡ s.sources
  pub order : now.order ≡ s.order
  pub here : HasVotes sought now u
  pub may : (w : ℕ) → w ≢ u → get_or now.counts.may w 0 ≡ get_or s.counts.may w 0
  pub must : (w : ℕ) → w ≢ u → get_or now.counts.must w 0 ≡ get_or s.counts.must w 0
  pub other : (w : ℕ) → w ≢ u → HasVotes sought s w → HasVotes sought now w

stepped : (sought : Sought) (s : PartialMisassignment) (u may must : ℕ) → HasMarks sought s
    → u < target_count sought.contests → AreVotes sought s.sources u may must
    → Stepped sought s (keeping s (record s.counts { may = set s.counts.may u may; must = set s.counts.must u must })) u
stepped sought s u may must marks lu votes = record {
  marks = record {
    is_sought = marks.is_sought;
    are = marks.are;
    taken = marks.taken;
    free = marks.free;
    lost = marks.lost;
    may = length-set s.counts.may u may ∙ marks.may;
    must = length-set s.counts.must u must ∙ marks.must;
  };
  sources = refl;
  order = refl;
  here = record {
    are_possible = get_or-set_at s.counts.may u u may 0 refl (omega (arith, lu, marks.may)) ∙ votes.are_possible;
    are_sure = get_or-set_at s.counts.must u u must 0 refl (omega (arith, lu, marks.must)) ∙ votes.are_sure;
  };
  may = λ w ne. get_or-set_other s.counts.may u w may 0 ne;
  must = λ w ne. get_or-set_other s.counts.must u w must 0 ne;
  other = λ w ne has. record {
    are_possible = get_or-set_other s.counts.may u w may 0 ne ∙ has.are_possible;
    are_sure = get_or-set_other s.counts.must u w must 0 ne ∙ has.are_sure;
  };
}

pub vote_step : (sought : Sought) (s now : PartialMisassignment) (u may must : ℕ)
    → HasMarks sought s → u < target_count sought.contests → AreVotes sought s.sources u may must
    → now ≡ keeping s (record s.counts { may = set s.counts.may u may; must = set s.counts.must u must }) → Stepped sought s now u
vote_step sought s now u may must marks lu votes e = subst (λ (x : PartialMisassignment). Stepped sought s x u) (sym e) (stepped sought s u may must marks lu votes)
