use Rattle.std.proofs.Common.{ℕ, ◌≡◌, ◌*◌, List, length, map, replicate, rules, ap, sym, subst, ◌∙◌}
use Rattle.std.specs.List.{range_with_len}
use Rattle.lat_base.specs.Shape.{target_count}
use Rattle.deck_state.specs.declared.mark.Mark.{Mark}
use Rattle.deck_state.specs.declared.mark.Mark.TheVariants.{Undecided}
use Rattle.deck_state.specs.Sheet.{MarkSheet}
use Rattle.deck_state.specs.Tally.{AreLevels, level_alike}
use Rattle.deck_state.proofs.Reached.{levels_blank}
use Rattle.deck_state.proofs.tally.Tally.blank.Goals as goal

pub invariant_of-result : goal.invariant_of-result
invariant_of-result c =
    let contests = c.args.shape.now in
    let items : c.in_ok-row.row.items ≡ replicate c.targets.result Undecided = search rules in
    let row : c.as_slice.result.now ≡ replicate (target_count contests) Undecided = c.as_slice.ensures.value ∙ (items ∙ ap (λ (n : ℕ). replicate n Undecided) c.targets.ensures.count) in
    let levels = c.in_ok-levels.ensures ∙ ap (λ (r : List Mark). map (level_alike contests r c.args.k) (range_with_len 0 (length contests * 65))) row in
    subst (λ (s : MarkSheet). AreLevels s.contests s.marks c.in_ok-levels.levels.items) (sym c.in_ok-sheet.ensures)
    (levels_blank contests c.args.k c.in_ok-levels.levels.items (replicate (target_count contests) Undecided) c.targets.ensures.shape c.requires levels)
