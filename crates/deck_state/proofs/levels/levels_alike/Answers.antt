use Rattle.deck_state.specs.Tally.{level_alike}
use Rattle.deck_state.proofs.Sheets.{map_grows}
use Rattle.deck_state.proofs.levels.levels_alike.Goals as goal

pub loop-i-preserved : goal.loop-i-preserved
loop-i-preserved c = map_grows (level_alike c.args.shape.now c.args.row.now c.args.k) c.loop-i.i c.alike_at.result _ _ c.in_ok-push.ensures.items c.loop-i.invariant c.alike_at.ensures
