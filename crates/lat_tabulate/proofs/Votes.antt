-- One more target's votes.
use Rattle.std.proofs.Common.{◌≡◌, ◌+◌, ℕ, Bool, List}
use Rattle.lat_base.specs.declared.contest.Contest.{Contest}
use Rattle.lat_base.specs.Tally.{own_total}
use Rattle.lat_tabulate.specs.Lost.{votes_below}
use Rattle.lemmas.proofs.Ranges.{sum_more}

pub votes_more : (contests : List Contest) (deck : List (List Bool)) (n : ℕ)
    → votes_below contests deck (n + 1) ≡ votes_below contests deck n + own_total contests deck n
votes_more contests deck n = sum_more (own_total contests deck) n
