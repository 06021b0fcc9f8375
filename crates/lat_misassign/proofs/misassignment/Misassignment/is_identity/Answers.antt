use Rattle.std.proofs.Common.{◌≡◌, ◌∙◌, ◌<◌, ◌≤◌, ℕ, List, get_or, length, ap, refl, subst, arith}
use Rattle.lat_misassign.proofs.Identity.{source_at_identity, identity_from}
use Rattle.lat_misassign.proofs.misassignment.Misassignment.is_identity.Goals as goal

pub returns-then-from-u : goal.returns-then-from-u
returns-then-from-u c =
    let is : c.deref-source-items.result.now ≡ c.args.self.now = c.deref-source-items.ensures.value ∙ c.self.view_is in
    let lt : c.loop-u.u < length c.args.self.now = subst (λ (s : List ℕ). c.loop-u.u < length s) is c.loop-u-test.true in
    (λ h. cc h, λ e. absurd (c.if-from-u.true (c.from.ensures ∙ ap (λ (s : List ℕ). get_or s c.loop-u.u 0) is ∙ source_at_identity c.args.self.now c.loop-u.u lt e)))

pub returns : goal.returns
returns c =
    let is : c.deref-source-items.result.now ≡ c.args.self.now = c.deref-source-items.ensures.value ∙ c.self.view_is in
    let all : length c.args.self.now ≤ c.loop-u.u = subst (λ (s : List ℕ). length s ≤ c.loop-u.u) is c.loop-u-test.false in
    (λ h. identity_from c.args.self.now (λ u lt. c.loop-u.invariant u (omega arith)), λ e. refl)
