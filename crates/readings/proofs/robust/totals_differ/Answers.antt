use Rattle.std.proofs.Common.{sym, subst, ℕ}
use Rattle.lat_base.specs.Shape.{contest_of}
use Rattle.readings.proofs.TargetExchange as lemmas
use Rattle.readings.proofs.Places.{IsOf, is_of}
use Rattle.readings.proofs.robust.totals_differ.Goals as goal

pub returns : goal.returns
returns c = λ contests deck t u robust fits h k same other equal.
    lemmas.totals_differ contests deck (contest_of contests t) t u robust fits (is_of contests t h)
    (subst (λ (x : ℕ). IsOf contests x u) (sym same) (is_of contests u k)) other equal
