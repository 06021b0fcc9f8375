use Rattle.std.proofs.Common.{subst, ◌≡◌, ◌∙◌, ◌++◌, ◌∷◌, [], ap, sym, ℕ, List, take, flat_map, get_or}
use Rattle.std.proofs.lemmas.List.{take_more, flat_map_more}
use Rattle.std.proofs.lemmas.List.Elements.{All-more}
use Rattle.cert_fields.specs.Spelling.{id_text, IsText}
use Rattle.cert_fields.proofs.head_writer.append_ids.Goals as goal

pub loop-id-preserved : goal.loop-id-preserved
loop-id-preserved c =
    let ids = c.args.ids.now in
    let i = c.loop-id.id-index in
    let item : c.id-item.result ≡ get_or ids i c.id-item.result = c.id-item.is in
    record {
      text = c.in_ok-put_text.ensures.ok ∙ ap (λ (r : List ℕ). r ++ id_text c.id-item.result) c.loop-id.invariant.text
          ∙ flat_map_more id_text c.args.out.now.items (take i ids) c.id-item.result
          ∙ ap (λ (n : List ℕ). c.args.out.now.items ++ flat_map id_text (take i ids ++ n ∷ [])) item
          ∙ ap (λ (ns : List (List ℕ)). c.args.out.now.items ++ flat_map id_text ns) (sym (take_more ids i c.id-item.result c.loop-id-test.true));
      spelled = All-more IsText ids i c.id-item.result c.loop-id-test.true c.loop-id.invariant.spelled (subst IsText item c.in_ok-put_text.ensures.spelled);
    }
