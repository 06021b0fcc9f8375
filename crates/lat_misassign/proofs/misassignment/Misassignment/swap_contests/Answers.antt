use Rattle.std.proofs.Common.{◌≡◌, ℕ, sym, subst, map, ap, ◌∙◌, arith}
use Rattle.std.specs.List.{range_with_len}
use Rattle.lat_base.specs.Shape.{target_count}
use Rattle.lat_misassign.specs.Sources.{AreSources, exchanged}
use Rattle.lat_misassign.proofs.Exchanges.{exchanged_sources}
use Rattle.lat_misassign.proofs.misassignment.Misassignment.swap_contests.Goals as goal

-- src/misassignment.rt:114:9
pub invariant_of-result : goal.invariant_of-result
invariant_of-result c =
    let all : c.loop-u.u ≡ target_count c.args.shape.now = omega (arith, c.loop-u.auto.u-end, c.loop-u-test.false, c.targets.ensures.count) in
    let swapped = exchanged c.args.shape.now c.args.c c.args.d in
    subst AreSources (sym (c.loop-u.invariant ∙ ap (λ (n : ℕ). map swapped (range_with_len 0 n)) all))
    (exchanged_sources c.args.shape.now c.args.c c.args.d c.requires.first c.requires.second c.requires.alike (omega (arith, c.targets.ensures.count, c.targets.ensures.some)) (c.targets.ensures.shape.few_targets))
