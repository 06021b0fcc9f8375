use Rattle.std.proofs.Common.{◌≡◌, Some, refl, subst, List}
use Rattle.lat_base.specs.declared.contest.Contest.{Contest}
use Rattle.lat_base.specs.ShapeFault.{shape_fault}
use Rattle.cert_fields.proofs.Contests.{style_none}
use Rattle.cert_fields.proofs.head_reader.style_of.Goals as goal

pub returns : goal.returns
returns c =
    let bad = (c.in-Err.ensures.fault c.in-Err.fault c.in_default.not-Memory).0 refl in
    style_none c.args.bytes.now c.in_ok-id.id c.in_ok-id.rest.now c.in_ok-count.count c.in_ok-count.rest.now c.in_ok-names.names.contests c.in_ok-names.contests.items c.in_ok-names.rest.now c.in-Err.fault
    c.in_ok-id.ensures c.in_ok-count.ensures.read c.in_ok-names.ensures.read (subst (λ (cs : List Contest). shape_fault cs ≡ Some c.in-Err.fault) c.deref.ensures.value bad)
