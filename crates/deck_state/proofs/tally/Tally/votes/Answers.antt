use Rattle.std.proofs.Common.{ap, ◌∙◌}
use Rattle.deck_state.specs.Sheet.{MarkSheet, votes_of}
use Rattle.deck_state.proofs.tally.Tally.votes.Goals as goal

pub returns : goal.returns
returns c = c.votes.ensures ∙ ap (λ (s : MarkSheet). votes_of s.contests s.marks c.args.t) c.self.view_is
