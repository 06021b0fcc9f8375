use Rattle.std.proofs.Common.{sym, subst}
use Rattle.std.proofs.lemmas.List.{length-map}
use Rattle.election_json.specs.Kept.{IsWithin}
use Rattle.election_json.proofs.StylePlace.{style_kept}
use Rattle.election_json.proofs.definition.Definition.names.Goals as goal

pub names_of-requires-clause-within : goal.names_of-requires-clause-within
names_of-requires-clause-within c =
    let lt = simp length-map at (rw (← c.self.view_is) at c.requires) in
    subst (IsWithin c.self.inside.contests) (sym c.index.ensures) (c.self.invariant.1 c.args.i c.index.result.now lt)

pub names_of-requires-clause-style : goal.names_of-requires-clause-style
names_of-requires-clause-style c =
    let lt = simp length-map at (rw (← c.self.view_is) at c.requires) in
    style_kept c.self.inside.contests c.self.inside.styles.items c.args.i c.index.result.now lt c.index.ensures c.self.invariant.0.all
