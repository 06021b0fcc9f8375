use Rattle.std.proofs.Common.{◌≡◌, drop}
use Rattle.lat_base.specs.Rules.{is_blank}
use Rattle.lat_ballots.specs.Deck.{ballot_at}
use Rattle.deck_text.proofs.blank.is_blank.Given as goal

-- the ballot is blank where it is from here on
abbrev pub invariant-loop-t : goal.invariant-loop-t
invariant-loop-t l = is_blank (drop l.t (ballot_at l.deck l.j)) ≡ is_blank (ballot_at l.deck l.j)
