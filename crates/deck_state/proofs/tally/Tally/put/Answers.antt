use Rattle.std.proofs.Common.{ℕ, ◌≡◌, ◌+◌, ◌*◌, [], List, get_or, set, ap, sym, subst, ◌∙◌}
use Rattle.std.proofs.lemmas.List.{get_or-set_same}
use Rattle.lat_base.specs.declared.contest.Contest.{Contest}
use Rattle.lat_base.specs.Shape.{contest_at, contest_of}
use Rattle.deck_state.specs.Sheet.{MarkSheet, count_of}
use Rattle.deck_state.specs.Tally.{AreLevels, AreRaised}
use Rattle.deck_state.proofs.Reached.{levels_put}
use Rattle.deck_state.proofs.SheetFields.{in_sheet, in_style}
use Rattle.deck_state.proofs.tally.Tally.put.Goals as goal

pub invariant_of-self : goal.invariant_of-self
invariant_of-self c =
    let s = c.self.inside.sheet in
    let j = c.args.j in
    let k = c.contest_of-c.result in
    let row = get_or s.marks j [] in
    let h = in_sheet s c.args.self.now j c.self.view_is c.requires.ballot in
    let of : k ≡ contest_of s.contests c.args.t = c.contest_of-c.ensures.value ∙ ap (λ (cs : List Contest). contest_of cs c.args.t) c.shape.ensures in
    let limit : c.contest-limit.result.limit ≡ (contest_at s.contests k).limit = ap (λ (x : Contest). x.limit) (c.contest-limit.ensures ∙ ap (λ (cs : List Contest). contest_at cs k) c.shape-2.ensures) in
    let put : get_or c.put.new.self.marks j [] ≡ set row c.args.t c.args.mark = ap (λ (x : MarkSheet). get_or x.marks j []) c.put.ensures ∙ get_or-set_same s.marks j (set row c.args.t c.args.mark) [] h in
    let after : c.count-after.result ≡ count_of s.contests (set row c.args.t c.args.mark) k =
    c.count-after.ensures ∙ ((λ i. count_of (c.put.ensures i).contests (get_or c.put.new.self.marks j []) k) ∙ ap (λ (r : List _). count_of s.contests r k) put) in
    let raised = subst (λ (n : ℕ). AreRaised n (k * 65) (n + 1) c.count-before.result c.count-after.result c.self.inside.levels.items c.move_levels.new.levels.items) limit c.move_levels.ensures in
    subst (λ (x : MarkSheet). AreLevels x.contests x.marks c.move_levels.new.levels.items) (sym c.put.ensures)
    (levels_put s.contests s.marks c.self.inside.levels.items c.move_levels.new.levels.items j c.args.t k c.args.mark c.count-before.result c.count-after.result c.self.invariant h
    (in_style s c.args.self.now c.args.t c.self.view_is c.requires.target) of c.count-before.ensures after raised)
