use Rattle.std.proofs.Common.{◌≡◌, ◌∙◌, Bool, List, false, replicate, length, ap, sym, subst, arith}
use Rattle.lat_base.specs.Rules.{Obeys}
use Rattle.lat_base.specs.Shape.{target_count}
use Rattle.lat_ballots.specs.Deck.{Ballots}
use Rattle.deck_builder.specs.Pattern.{pattern, pattern_deck, pattern_ballots}
use Rattle.deck_builder.proofs.Filled.{filled_all, filled_long, ballots_more}
use Rattle.deck_builder.proofs.Obeyed.{obeyed}
use Rattle.deck_builder.proofs.Laying.{long, blank_long}
use Rattle.deck_builder.proofs.proposal.lay.Goals as goal

pub set_ballot-requires-clause-ballots : goal.set_ballot-requires-clause-ballots
set_ballot-requires-clause-ballots c =
    let ballots = pattern_ballots (pattern c.args.shape.now c.args.rules.now c.args.k c.args.turn) in
    let before = replicate c.args.k (replicate (target_count c.args.shape.now) false) in
    omega (arith, ap (λ (d : Ballots). length d.ballots) c.loop-j.invariant, filled_long ballots before c.loop-j.j (omega (arith, long c.args.shape.now c.args.rules.now c.args.k c.args.turn c.requires.fits, blank_long c.args.shape.now c.args.k)), blank_long c.args.shape.now c.args.k)

pub loop-j-preserved : goal.loop-j-preserved
loop-j-preserved c =
    let whole = pattern_deck (pattern c.args.shape.now c.args.rules.now c.args.k c.args.turn) in
    let before = replicate c.args.k (replicate (target_count c.args.shape.now) false) in
    ballots_more whole c.loop-j.deck c.set_ballot.new.deck before c.loop-j.j (omega (arith, c.loop-j-test.true, long c.args.shape.now c.args.rules.now c.args.k c.args.turn c.requires.fits)) (omega (arith, long c.args.shape.now c.args.rules.now c.args.k c.args.turn c.requires.fits, blank_long c.args.shape.now c.args.k)) c.loop-j.invariant c.set_ballot.ensures

laid : (c : goal.After-drop-runs-2)
    → c.loop-j.deck ≡ pattern_deck (pattern c.args.shape.now c.args.rules.now c.args.k c.args.turn)
laid c =
    let whole = pattern_deck (pattern c.args.shape.now c.args.rules.now c.args.k c.args.turn) in
    let before = replicate c.args.k (replicate (target_count c.args.shape.now) false) in
    let end : c.loop-j.j ≡ c.args.k = omega (arith, c.loop-j-test.false, c.loop-j.auto.j-end) in
    c.loop-j.invariant ∙ ap (λ (ballots : List (List Bool)). record whole { ballots = ballots }) (filled_all c.loop-j.j whole.ballots before (long c.args.shape.now c.args.rules.now c.args.k c.args.turn c.requires.fits ∙ sym end) (blank_long c.args.shape.now c.args.k ∙ sym end))

pub returns-clause-deck : goal.returns-clause-deck
returns-clause-deck c = laid c

pub returns-clause-size : goal.returns-clause-size
returns-clause-size c = ap (λ (d : Ballots). length d.ballots) (laid c) ∙ long c.args.shape.now c.args.rules.now c.args.k c.args.turn c.requires.fits

pub returns-clause-obeys : goal.returns-clause-obeys
returns-clause-obeys c =
    let p = pattern c.args.shape.now c.args.rules.now c.args.k c.args.turn in
    subst (λ (d : Ballots). Obeys c.args.shape.now c.args.rules.now d.ballots) (sym (laid c)) (obeyed p c.requires.fits.fits)
