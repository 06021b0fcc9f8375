use Rattle.std.proofs.Common.{List, Bool, false, [], replicate, set, ap, ◌∙◌, arith}
use Rattle.std.proofs.lemmas.List.{length-replicate}
use Rattle.lat_ballots.specs.Deck.{Ballots, ballot_at}
use Rattle.deck_text.proofs.DraftFacts.{mixed_more}
use Rattle.deck_text.proofs.front.first_ballots.Goals as goal

pub loop-j-preserved : goal.loop-j-preserved
loop-j-preserved c =
    let whole = c.args.whole.now in
    let blank = replicate whole.targets false in
    let long = length-replicate c.args.ballots blank in
    c.copy_ballot.ensures
    ∙ ap (λ (d : Ballots). record d { ballots = set d.ballots c.loop-j.j (ballot_at whole c.loop-j.j) }) c.loop-j.invariant
    ∙ ap (λ (bs : List (List Bool)). record whole { ballots = bs }) (mixed_more whole.ballots (replicate c.args.ballots blank) c.loop-j.j [] (omega arith) (omega (arith, long)))
