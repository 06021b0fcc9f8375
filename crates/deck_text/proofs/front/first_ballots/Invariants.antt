use Rattle.std.proofs.Common.{◌≡◌, ◌++◌, take, drop, false, replicate}
use Rattle.deck_text.proofs.front.first_ballots.Given as goal

-- the ballots below j are copied
abbrev pub invariant-loop-j : goal.invariant-loop-j
invariant-loop-j l =
    l.deck ≡ record l.whole { ballots = take l.j l.whole.ballots ++ drop l.j (replicate l.ballots (replicate l.whole.targets false)) }
