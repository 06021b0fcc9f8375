use Rattle.std.proofs.Common.{sym, subst}
use Rattle.std.proofs.lemmas.List.{length-map}
use Rattle.election_json.specs.Kept.{IsWithin}
use Rattle.election_json.proofs.StylePlace.{style_kept}
use Rattle.election_json.proofs.definition.Definition.shape.Goals as goal

pub shape_of-requires-clause-within : goal.shape_of-requires-clause-within
shape_of-requires-clause-within c =
    let lt = simp length-map at (rw (← c.self.view_is) at c.requires) in
    subst (IsWithin c.self.inside.contests) (sym c.index.ensures) (c.self.invariant.1 c.args.i c.index.result.now lt)

pub shape_of-requires-clause-style : goal.shape_of-requires-clause-style
shape_of-requires-clause-style c =
    let lt = simp length-map at (rw (← c.self.view_is) at c.requires) in
    style_kept c.self.inside.contests c.self.inside.styles.items c.args.i c.index.result.now lt c.index.ensures c.self.invariant.0.all
