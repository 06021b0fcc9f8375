-- The reasons for which no good canonical deck is left in a partial deck.
use Rattle.std.specs.Prelude.{◌≡◌, Bool, true}
use Rattle.deck_state.specs.PartialDeck.{PartialDeck}
use Rattle.close_rules.specs.declared.reason.Reason.{Reason}
use Rattle.close_rules.specs.declared.reason.Reason.TheVariants.{Order, Totals, Capacity, Blank, Over, Twin, ContestOrder, Pigeon, Columns, Same, Evade}
use Rattle.close_rules.specs.Ballots.{lacks_blank, lacks_overvoted}
use Rattle.close_rules.specs.Capacity.{has_no_capacity}
use Rattle.close_rules.specs.Columns.{have_same_columns, has_few_columns}
use Rattle.close_rules.specs.Evading.{evades}
use Rattle.close_rules.specs.Fixed.{are_twins, are_out_of_order}
use Rattle.close_rules.specs.Order.{is_out_of_order}
use Rattle.close_rules.specs.Pigeon.{has_few_lists}
use Rattle.close_rules.specs.Totals.{has_no_totals}

-- whether the reason holds of the partial deck
abbrev pub refutes : PartialDeck → Reason → Bool
refutes p (Order j) = is_out_of_order p j
refutes p (Totals c) = has_no_totals p c
refutes p (Capacity c) = has_no_capacity p c
refutes p Blank = lacks_blank p
refutes p (Over c) = lacks_overvoted p c
refutes p (Twin c d) = are_twins p c d
refutes p (ContestOrder c d) = are_out_of_order p c d
refutes p (Pigeon c) = has_few_lists p c
refutes p Columns = has_few_columns p
refutes p (Same t u) = have_same_columns p t u
refutes p (Evade s) = evades p s

-- a reason that needs no misassignment
abbrev pub IsCheap : Reason → Type 0
IsCheap (Evade s) = ⊥
IsCheap reason = Unit {0}

-- a reason without a misassignment that holds of the partial deck
abbrev pub Closes : PartialDeck → Reason → Type 0
Closes p reason = IsCheap reason × (refutes p reason ≡ true)
