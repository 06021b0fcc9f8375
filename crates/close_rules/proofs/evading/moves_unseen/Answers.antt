use Rattle.std.proofs.Common.{◌≡◌, true, false, not, length, sym, ap, ◌∙◌}
use Rattle.std.specs.List.{list_all, range_with_len}
use Rattle.lat_base.specs.Misassignment.{identity}
use Rattle.lat_base.specs.Shape.{target_count}
use Rattle.close_rules.specs.Evading.{keeps_contest}
use Rattle.close_rules.proofs.Misassigned.{identity_not, other_where}
use Rattle.close_rules.proofs.evading.moves_unseen.Goals as goal

pub returns-then-not-is_identity : goal.returns-then-not-is_identity
returns-then-not-is_identity c =
    let p = c.args.state.now in
    let s = c.args.s.now in
    let other : s ≡ identity (length s) → ⊥ = λ e. let bad : true ≡ false = sym (c.is_identity.ensures.1 e) ∙ c.if-not-is_identity.true in cc in
    c.keeps_contests.ensures ∙ other_where (target_count p.contests) s (list_all (keeps_contest p s) (range_with_len 0 (length p.contests))) c.len-sources.ensures.sources c.requires other

pub returns-else-not-is_identity : goal.returns-else-not-is_identity
returns-else-not-is_identity c =
    let p = c.args.state.now in
    let s = c.args.s.now in
    ap not c.if-not-is_identity.false
    ∙ identity_not (target_count p.contests) s (list_all (keeps_contest p s) (range_with_len 0 (length p.contests))) c.requires (c.is_identity.ensures.0 c.if-not-is_identity.false)
