use Rattle.std.proofs.Common.{◌≡◌, ◌↔◌, ℕ, List, ap, subst}
use Rattle.std.specs.Prelude.{option_map}
use Rattle.lat_judge.specs.declared.judging.Judged.TheVariants.{Differs}
use Rattle.lat_judge.specs.Judging.{IsFirstDifference}
use Rattle.lat_judge.proofs.Differences.{expected_there}
use Rattle.lat_judge.proofs.judging.judge.Goals as goal

pub returns-clause-differs : goal.returns-clause-differs
returns-clause-differs c = λ t e r.
    let same = expected_there c.args.cert.now c.shape.result.now _ c.in-Some.proved.now c.shape.ensures c.proved.ensures
    (ap (λ o. option_map (λ proved. proved.now) o) c.in-Some.is) in
    subst (λ (wanted : List ℕ). (c.first_difference.result ≡ Differs t e r) ↔ IsFirstDifference wanted c.args.reported.now t e r) same
    (c.first_difference.ensures.differs t e r)
