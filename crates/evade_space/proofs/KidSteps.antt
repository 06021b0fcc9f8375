-- A state's kid, and the way back.
use Rattle.std.proofs.Common.{◌≡◌, ◌<◌, ℕ, Some, length, get_or, refl, ap, sym, subst, ◌∙◌, arith}
use Rattle.std.proofs.lemmas.List.FromFn.{length-map-range_with_len}
use Rattle.lat_base.specs.Shape.{target_count}
use Rattle.evade_space.specs.Sources.{with_source, AreGiven}
use Rattle.evade_space.specs.Votes.{may_vote, must_vote}
use Rattle.evade_space.specs.Counts.{Counts, counts_of}
use Rattle.evade_space.specs.PartialMisassignment.{PartialMisassignment, moved, keeping}
use Rattle.evade_space.specs.Sought.{Sought}
use Rattle.evade_space.specs.Kids.{kids_of}
use Rattle.evade_space.specs.Trials.{IsGiving}
use Rattle.evade_space.specs.Recounts.{HasMarks}
use Rattle.evade_space.specs.Steps.{IsEvadeState, evade_steps}
use Rattle.evade_space.proofs.Known.{free_at, with_long, given_more}
use Rattle.evade_space.proofs.Laws.{allowed, kid_can}

are_given : (sought : Sought) (s : PartialMisassignment) → IsEvadeState sought s
    → AreGiven (target_count sought.contests) s.sources
are_given sought s own = subst (λ (n : ℕ). AreGiven n s.sources) own.long own.partly.are

-- a kid gives its image an unused target
pub giving_at : (sought : Sought) (s : PartialMisassignment) (u n k t : ℕ) → IsEvadeState sought s
    → (evade_steps sought).arity s u ≡ Some n → k < n → t ≡ get_or (kids_of sought s.sources u) k 0
    → IsGiving sought s.sources u t
giving_at sought s u n k t own arity lt e =
    let may = allowed sought s u n arity in
    let free = free_at s.sources u may.0 in
    let can = kid_can sought s.sources u k (omega (arith, lt, may.1)) in
    subst (IsGiving sought s.sources u) (sym e) (record {
      are = are_given sought s own;
      image = omega (arith, free.0, own.long);
      free = free.1;
      target = omega (arith, can.2, own.long);
      unused = can.0;
    })

-- the space's own states have their marks counted
pub own_marks : (sought : Sought) (s : PartialMisassignment) → IsEvadeState sought s
    → HasMarks sought s
own_marks sought s own = record {
  is_sought = own.is_sought;
  are = are_given sought s own;
  taken = ap (λ (x : Counts). x.taken) own.kept;
  free = ap (λ (x : Counts). x.free) own.kept;
  lost = ap (λ (x : Counts). x.lost) own.kept;
  may = ap (λ (x : Counts). length x.may) own.kept ∙ length-map-range_with_len (may_vote sought.contests sought.deck s.sources) 0 (length s.sources) ∙ own.long;
  must = ap (λ (x : Counts). length x.must) own.kept ∙ length-map-range_with_len (must_vote sought.contests sought.deck s.sources) 0 (length s.sources) ∙ own.long;
}

-- where a source came
pub marks_came : (sought : Sought) (s now : PartialMisassignment) (u t : ℕ) → IsEvadeState sought s
    → IsGiving sought s.sources u t
    → now ≡ moved s u t (record (counts_of sought.contests sought.deck (with_source s.sources u t)) { may = s.counts.may; must = s.counts.must }) → HasMarks sought now
marks_came sought s now u t own is e =
    let marks = own_marks sought s own in
    subst (HasMarks sought) (sym e) (record {
      is_sought = own.is_sought;
      are = given_more (target_count sought.contests) s.sources u t is.are is.image is.target is.unused;
      taken = refl;
      free = refl;
      lost = refl;
      may = marks.may;
      must = marks.must;
    })

-- where one went
pub marks_went : (sought : Sought) (s old now : PartialMisassignment) (u t : ℕ)
    → IsEvadeState sought s → old ≡ moved s u t
    (counts_of sought.contests sought.deck (with_source s.sources u t))
    → now ≡ keeping s (record (counts_of sought.contests sought.deck s.sources) { may = old.counts.may; must = old.counts.must }) → HasMarks sought now
marks_went sought s old now u t own was e =
    let long = with_long s.sources u t in
    subst (HasMarks sought) (sym e) (record {
      is_sought = own.is_sought;
      are = are_given sought s own;
      taken = refl;
      free = refl;
      lost = refl;
      may = ap (λ (x : PartialMisassignment). length x.counts.may) was ∙ length-map-range_with_len (may_vote sought.contests sought.deck (with_source s.sources u t)) 0 (length (with_source s.sources u t)) ∙ long ∙ own.long;
      must = ap (λ (x : PartialMisassignment). length x.counts.must) was ∙ length-map-range_with_len (must_vote sought.contests sought.deck (with_source s.sources u t)) 0 (length (with_source s.sources u t)) ∙ long ∙ own.long;
    })
