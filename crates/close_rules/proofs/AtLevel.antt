-- What the levels of a contest tell of its ballots.
use Rattle.std.proofs.Common.{◌≡◌, ◌<◌, ℕ, List, cond, count_by, nat_lt, arith}
use Rattle.std.proofs.lemmas.Bool.{lt-ltb, le-ltb}
use Rattle.lat_base.specs.declared.contest.Contest.{Contest}
use Rattle.lat_base.specs.Shape.{contest_at}
use Rattle.deck_state.specs.declared.mark.Mark.{Mark}
use Rattle.deck_state.specs.Sheet.{count_of}
use Rattle.deck_state.specs.Tally.{most_of, level_of}
use Rattle.close_rules.specs.Ballots.{may_be_overvoted}
use Rattle.close_rules.specs.Capacity.{most_votes}

-- below the limit, how many can give more votes
pub level_below : (contests : List Contest) (marks : List (List Mark)) (c v : ℕ)
    → v < (contest_at contests c).limit
    → level_of contests marks c v ≡ count_by (λ row. nat_lt v (most_votes contests c row)) marks
level_below contests marks c v lt =
    let limit = (contest_at contests c).limit in
    λ i. count_by (λ row. cond (lt-ltb v limit lt i) (nat_lt v (most_of limit (count_of contests row c))) (nat_lt limit (count_of contests row c).possible)) marks

-- at the limit, how many can be overvoted
pub level_at_limit : (contests : List Contest) (marks : List (List Mark)) (c : ℕ)
    → level_of contests marks c (contest_at contests c).limit
    ≡ count_by (may_be_overvoted contests c) marks
level_at_limit contests marks c =
    let limit = (contest_at contests c).limit in
    λ i. count_by (λ row. cond (le-ltb limit limit (omega arith) i) (nat_lt limit (most_of limit (count_of contests row c))) (nat_lt limit (count_of contests row c).possible)) marks
