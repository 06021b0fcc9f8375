use Rattle.std.proofs.Common.{◌∙◌, sym}
use Rattle.lat_shelf.proofs.Lookup.{get_here, get_after, get_past}
use Rattle.lat_shelf.proofs.stored.place_of.Goals as goal

pub returns-then-eq-clause-found : goal.returns-then-eq-clause-found
returns-then-eq-clause-found c = get_here _ _ _ _ _ c.loop-i-test.true c.index-stored-i.is c.loop-i.invariant c.as_str.ensures.value c.if-eq.ensures

pub loop-i-preserved : goal.loop-i-preserved
loop-i-preserved c = get_after _ _ _ _ _ c.loop-i-test.true c.index-stored-i.is c.loop-i.invariant c.as_str.ensures.value c.if-eq.ensures

pub returns-clause-missing : goal.returns-clause-missing
returns-clause-missing c = sym c.loop-i.invariant ∙ get_past c.args.stored.now c.loop-i.i c.args.name.now c.loop-i-test.false
