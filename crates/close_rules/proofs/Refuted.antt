-- Where a reason holds of a partial deck, it has no solution.
use Rattle.std.proofs.Common.{◌≡◌, Bool, true, List}
use Rattle.deck_state.specs.PartialDeck.{PartialDeck}
use Rattle.deck_state.specs.Trail.{IsPartial}
use Rattle.close_rules.specs.declared.reason.Reason.{Reason}
use Rattle.close_rules.specs.declared.reason.Reason.TheVariants.{Order, Totals, Capacity, Blank, Over, Twin, ContestOrder, Pigeon, Columns, Same, Evade}
use Rattle.close_rules.specs.Refutes.{refutes}
use Rattle.close_rules.specs.Solution.{IsSolution}
use Rattle.close_rules.proofs.AskedBallots.{blank_empty, over_empty}
use Rattle.close_rules.proofs.Capacities.{capacity_empty}
use Rattle.close_rules.proofs.Evasion.{evade_empty}
use Rattle.close_rules.proofs.FixedTotals.{twins_empty, contest_order_empty}
use Rattle.close_rules.proofs.LeastTotals.{totals_empty}
use Rattle.close_rules.proofs.OutOfOrder.{order_empty}
use Rattle.close_rules.proofs.Pigeons.{pigeon_empty}
use Rattle.close_rules.proofs.SameColumns.{same_empty, columns_empty}

pub refuted : (p : PartialDeck) (reason : Reason) (deck : List (List Bool)) → IsPartial p
    → refutes p reason ≡ true → IsSolution p deck → ⊥
refuted p (Order j) deck is h solution = order_empty p deck j is solution h
refuted p (Totals c) deck is h solution = totals_empty p deck c is solution h
refuted p (Capacity c) deck is h solution = capacity_empty p deck c is solution h
refuted p Blank deck is h solution = blank_empty p deck is solution h
refuted p (Over c) deck is h solution = over_empty p deck c is solution h
refuted p (Twin c d) deck is h solution = twins_empty p deck c d is solution h
refuted p (ContestOrder c d) deck is h solution = contest_order_empty p deck c d is solution h
refuted p (Pigeon c) deck is h solution = pigeon_empty p deck c is solution h
refuted p Columns deck is h solution = columns_empty p deck solution h
refuted p (Same t u) deck is h solution = same_empty p deck t u is solution h
refuted p (Evade s) deck is h solution = evade_empty p deck s is solution h
