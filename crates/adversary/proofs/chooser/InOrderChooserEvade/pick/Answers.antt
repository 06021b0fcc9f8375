use Rattle.std.proofs.Common.{refl}
use Rattle.adversary.proofs.Attacks.{allowed_at}
use Rattle.adversary.proofs.chooser.InOrderChooserEvade.pick.Goals as goal

pub returns-in-Some-clause-fits : goal.returns-in-Some-clause-fits
returns-in-Some-clause-fits c = allowed_at c.args.space.now c.args.state.now c.in-Some.u (c.in-Some.ensures.some c.in-Some.u refl)
