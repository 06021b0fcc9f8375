use Rattle.std.proofs.Common.{◌≡◌, ◌++◌, ◌∙◌, ℕ, [], ◌∷◌, map, ap, sym, Vec, Global}
use Rattle.std.proofs.lemmas.List.{map-append}
use Rattle.lemmas.proofs.Ranges.{made_more}
use Rattle.evade_space.specs.Sought.{Sought}
use Rattle.evade_space.specs.Counts.{taken_in}
use Rattle.evade_space.proofs.KnownRows.{row_of_taken}
use Rattle.evade_space.proofs.count_all.count_taken.Goals as goal

pub loop-c-preserved : goal.loop-c-preserved
loop-c-preserved c =
    let row : c.in_ok-count_row.field-0.items ≡ taken_in c.args.space.now.contests c.args.space.now.deck c.args.sources.now c.loop-c.c =
    row_of_taken c.space.inside.shape c.space.inside.deck.ballots c.args.space.now c.args.sources.now c.loop-c.c c.taken_targets-taken.result c.in_ok-count_row.field-0.items c.space.invariant.0.fits (ap (λ (x : Sought). x.contests) c.space.view_is) (ap (λ (x : Sought). x.deck) c.space.view_is) c.taken_targets-taken.ensures.taken c.in_ok-count_row.ensures in
    ap (map (λ (r : Vec ℕ Global). r.items)) c.in_ok-push.ensures.items
    ∙ map-append (λ (r : Vec ℕ Global). r.items) c.loop-c.rows.items (c.in_ok-count_row.field-0 ∷ [])
    ∙ (λ i. c.loop-c.invariant i ++ row i ∷ [])
    ∙ sym (made_more (taken_in c.args.space.now.contests c.args.space.now.deck c.args.sources.now) c.loop-c.c)
