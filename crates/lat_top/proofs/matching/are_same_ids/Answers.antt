use Rattle.std.proofs.Common.{◌≡◌, ◌<◌, ◌+◌, ◌++◌, ℕ, List, [], ◌∷◌, length, take, get_or, refl, ap, sym, ◌∙◌, arith}
use Rattle.std.proofs.lemmas.List.{take_more}
use Rattle.lat_top.proofs.matching.are_same_ids.Goals as goal

-- one more id is the same
same_more : (ids others : List (List ℕ)) (i : ℕ) (x y : List ℕ) → i < length ids
    → i < length others → x ≡ get_or ids i x → y ≡ get_or others i y → x ≡ y
    → take i ids ≡ take i others → take (i + 1) ids ≡ take (i + 1) others
same_more ids others i x y low below is_x is_y same h =
    take_more ids i x low
    ∙ ap (λ (id : List ℕ). take i ids ++ id ∷ []) (sym is_x ∙ same ∙ is_y)
    ∙ ap (λ (front : List (List ℕ)). front ++ get_or others i y ∷ []) h
    ∙ sym (take_more others i y below)

pub loop-i-preserved : goal.loop-i-preserved
loop-i-preserved c =
    same_more c.args.ids.now c.args.others.now c.loop-i.i c.index-ids-i.result c.index-others-i.result
    c.loop-i-test.true (omega (arith, c.loop-i-test.true)) c.index-ids-i.is c.index-others-i.is
    (c.if-not-is_same_id.ensures.0 refl) c.loop-i.invariant
