-- The kids of a partial deck under a label share its solutions.
use Rattle.std.proofs.Common.{◌≡◌, ◌-◌, ◌<◌, ◌≤◌, ◌&&◌, ◌⊎◌, inl, inr, ℕ, Bool, true, false, nat_lt, nat_le, cond, List, [], get_or, refl, arith}
use Rattle.std.specs.Prelude.{◌==◌}
use Rattle.std.proofs.lemmas.Bool.{cases_lt, and_parts, ltb-true}
use Rattle.std.proofs.lemmas.Bool.Decides.{nat_tests}
use Rattle.lat_base.specs.Shape.{target_count}
use Rattle.lat_base.specs.Tally.{own_total}
use Rattle.deck_state.specs.declared.mark.Mark.{Mark}
use Rattle.deck_state.specs.declared.mark.Mark.TheVariants.{Marked, Unmarked, Undecided}
use Rattle.deck_state.specs.Changes.{decided, narrowed, undone}
use Rattle.deck_state.specs.Mark.{is_undecided}
use Rattle.deck_state.specs.PartialDeck.{PartialDeck, mark_at}
use Rattle.deck_state.specs.Trail.{IsPartial}
use Rattle.deck_state.specs.Votes.{lo, hi}
use Rattle.deck_state.proofs.Back.{undone_decided, undone_narrowed}
use Rattle.deck_state.proofs.Completions.{decided_completion, undecided_completion, narrowed_completion, widened_completion}
use Rattle.deck_state.proofs.Enclosed.{lo_le, le_hi}
use Rattle.deck_state.proofs.Kept.{decided_partial, narrowed_partial}
use Rattle.deck_state.proofs.Room.{CanDecide, CanNarrow, can_narrow}
use Rattle.close_rules.specs.declared.label.Label.{Label}
use Rattle.close_rules.specs.declared.label.Label.TheVariants.{Mark as MarkOf, Split}
use Rattle.close_rules.specs.Moves.{is_allowed, kid_of}
use Rattle.close_rules.specs.Solution.{IsSolution}

undecided_is : (mark : Mark) → is_undecided mark ≡ true → mark ≡ Undecided
undecided_is Marked h = cc
undecided_is Unmarked h = cc
undecided_is Undecided h = refl

can_decide : (p : PartialDeck) (j t : ℕ) → is_allowed p (MarkOf j t) ≡ true → CanDecide p j t
can_decide p j t h =
    let one = and_parts (nat_lt j p.ballots) (nat_lt t (target_count p.contests) && is_undecided (mark_at p j t)) h in
    let two = and_parts (nat_lt t (target_count p.contests)) (is_undecided (mark_at p j t)) one.1 in
    record { ballot = ltb-true j p.ballots one.0; target = ltb-true t (target_count p.contests) two.0; undecided = undecided_is (mark_at p j t) two.1 }

-- what a split shows
record CanSplit (p : PartialDeck) (t x : ℕ) : Type 0 where
  pub target : t < target_count p.contests
  pub above : lo p t < x
  pub below : x ≤ hi p t

can_split : (p : PartialDeck) (t x : ℕ) → is_allowed p (Split t x) ≡ true → CanSplit p t x
can_split p t x h =
    let one = and_parts (nat_lt t (target_count p.contests)) (nat_lt (lo p t) x && nat_le x (hi p t)) h in
    let two = and_parts (nat_lt (lo p t) x) (nat_le x (hi p t)) one.1 in
    record { target = ltb-true t (target_count p.contests) one.0; above = ltb-true (lo p t) x two.0; below = at_most x (hi p t) two.1 }
  where
    at_most : (a b : ℕ) → nat_le a b ≡ true → a ≤ b
    at_most a b e = grind (arith, nat_tests, e)

lower_half : (p : PartialDeck) (t x : ℕ) → CanSplit p t x → CanNarrow p t (lo p t) (x - 1)
lower_half p t x can = can_narrow p t (lo p t) (x - 1) can.target (omega arith) (omega (arith, can.above)) (omega (arith, can.below)) (λ same. omega (arith, same.1, can.above, can.below))

upper_half : (p : PartialDeck) (t x : ℕ) → CanSplit p t x → CanNarrow p t x (hi p t)
upper_half p t x can = can_narrow p t x (hi p t) can.target (omega (arith, can.above)) can.below (omega arith) (λ same. omega (arith, same.0, can.above))

-- a kid is a partial deck
pub kid_partial : (p : PartialDeck) (label : Label) (kid : ℕ) → IsPartial p
    → is_allowed p label ≡ true → IsPartial (kid_of p label kid)
kid_partial p (MarkOf j t) kid is h = decided_partial p j t (kid == 0) is (can_decide p j t h)
kid_partial p (Split t x) kid is h = by_test (kid == 0)
  where
    by_test : (b : Bool) → IsPartial
        (cond b (narrowed p t (lo p t) (x - 1)) (narrowed p t x (hi p t)))
    by_test true = narrowed_partial p t (lo p t) (x - 1) is (lower_half p t x (can_split p t x h))
    by_test false = narrowed_partial p t x (hi p t) is (upper_half p t x (can_split p t x h))

-- taking back the step to it leaves the partial deck
pub kid_undone : (p : PartialDeck) (label : Label) (kid : ℕ) → IsPartial p
    → is_allowed p label ≡ true → undone (kid_of p label kid) ≡ p
kid_undone p (MarkOf j t) kid is h = undone_decided p j t (kid == 0) is (can_decide p j t h)
kid_undone p (Split t x) kid is h = by_test (kid == 0)
  where
    by_test : (b : Bool) → undone (cond b (narrowed p t (lo p t) (x - 1)) (narrowed p t x (hi p t)))
        ≡ p
    by_test true = undone_narrowed p t (lo p t) (x - 1)
    by_test false = undone_narrowed p t x (hi p t)

-- each of its solutions is one of the partial deck
pub kid_solution : (p : PartialDeck) (label : Label) (kid : ℕ) (deck : List (List Bool))
    → IsPartial p → is_allowed p label ≡ true → IsSolution (kid_of p label kid) deck
    → IsSolution p deck
kid_solution p (MarkOf j t) kid deck is h solution =
    record { good = solution.good; canonical = solution.canonical; completion = undecided_completion p deck j t (kid == 0) is (can_decide p j t h) solution.completion }
kid_solution p (Split t x) kid deck is h solution = by_test (kid == 0) solution
  where
    by_test : (b : Bool) → IsSolution
        (cond b (narrowed p t (lo p t) (x - 1)) (narrowed p t x (hi p t))) deck → IsSolution p deck
    by_test true sol =
        let can = lower_half p t x (can_split p t x h) in
        record { good = sol.good; canonical = sol.canonical; completion = widened_completion p deck t (lo p t) (x - 1) is can.target can.above can.below sol.completion }
    by_test false sol =
        let can = upper_half p t x (can_split p t x h) in
        record { good = sol.good; canonical = sol.canonical; completion = widened_completion p deck t x (hi p t) is can.target can.above can.below sol.completion }

-- and each of the partial deck is one of the first kid or of the second
pub solution_in_kid : (p : PartialDeck) (label : Label) (deck : List (List Bool)) → IsPartial p
    → is_allowed p label ≡ true → IsSolution p deck
    → IsSolution (kid_of p label 0) deck ⊎ IsSolution (kid_of p label 1) deck
solution_in_kid p (MarkOf j t) deck is h solution = by_mark (get_or (get_or deck j []) t false) refl
  where
    kid : (on : Bool) → get_or (get_or deck j []) t false ≡ on → IsSolution (decided p j t on) deck
    kid on e = record { good = solution.good; canonical = solution.canonical; completion = decided_completion p deck j t on is (can_decide p j t h) e solution.completion }

    by_mark : (on : Bool) → get_or (get_or deck j []) t false ≡ on
        → IsSolution (decided p j t true) deck ⊎ IsSolution (decided p j t false) deck
    by_mark true e = inl (kid true e)
    by_mark false e = inr (kid false e)
solution_in_kid p (Split t x) deck is h solution =
    let can = can_split p t x h in
    let low = lo_le p deck t is solution.completion can.target in
    let high = le_hi p deck t is solution.completion can.target in
    elim (cases_lt (own_total p.contests deck t) x) [
      | inl below ↦
          inl (record { good = solution.good; canonical = solution.canonical; completion = narrowed_completion p deck t (lo p t) (x - 1) is can.target low (omega (arith, below)) solution.completion })
      | inr above ↦
          inr (record { good = solution.good; canonical = solution.canonical; completion = narrowed_completion p deck t x (hi p t) is can.target above high solution.completion })
    ]
