use Rattle.std.proofs.Common.{◌≡◌, ◌++◌, ◌∷◌, [], ℕ, List, Ok, sym, ap, subst, ◌∙◌, arith}
use Rattle.std.proofs.lemmas.Grind.{common_steps}
use Rattle.std.proofs.lemmas.List.Elements.{All-push}
use Rattle.serde_json.specs.View.{view}
use Rattle.election_json.specs.Styles.{style_entry, next_style}
use Rattle.election_json.specs.Kept.{kept_style, kept_styles, IsWithin}
use Rattle.election_json.proofs.KeptFacts.{kept_push, ids_push}
use Rattle.election_json.proofs.Steps.{goes_on}
use Rattle.election_json.proofs.styles.style_entries.Goals as goal

pub loop-i-preserved : goal.loop-i-preserved
loop-i-preserved c =
    let contests = c.args.contests.now in
    let styles = c.loop-i.styles.items in
    let style = c.in-Ok.style in
    let more : c.push.new.self.items ≡ styles ++ style ∷ [] = grind (arith, common_steps) in
    let value = c.index-values-i.result in
    let read = subst (λ (ids : List (List ℕ)). style_entry contests ids c.loop-i.i (view value) ≡ Ok (kept_style contests style)) c.loop-i.invariant.known c.in-Ok.ensures.gives in
    record {
      known = rw more (c.in-Ok.ensures.added ∙ ap (λ (ids : List (List ℕ)). ids ++ style.id ∷ []) c.loop-i.invariant.known ∙ sym (ids_push contests styles style));
      rest = rw (more, kept_push contests styles style) (goes_on (next_style contests) view c.loop-i.i (kept_styles contests styles) c.args.values.now value (kept_style contests style) _ c.loop-i-test.true (sym c.index-values-i.is) read c.loop-i.invariant.rest);
      within = rw more (All-push (IsWithin contests) styles style c.loop-i.invariant.within c.in-Ok.ensures.within);
    }
