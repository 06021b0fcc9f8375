-- Ballots that the rules ask for: blank ones, and overvoted ones.
use Rattle.std.specs.Prelude.{ℕ, ◌&&◌, Bool, not, nat_lt, List, length, count_by}
use Rattle.std.specs.List.{list_all}
use Rattle.lat_base.specs.declared.contest.Contest.{Contest}
use Rattle.lat_base.specs.Shape.{contest_at}
use Rattle.deck_state.specs.declared.mark.Mark.{Mark}
use Rattle.deck_state.specs.Mark.{is_marked}
use Rattle.deck_state.specs.PartialDeck.{PartialDeck}
use Rattle.deck_state.specs.Votes.{possible_in}
use Rattle.close_rules.specs.Totals.{can_overvote}

-- whether a row can become a blank ballot: no target is marked
abbrev pub may_be_blank : List Mark → Bool
may_be_blank row = list_all (λ mark. not (is_marked mark)) row

-- whether a row can become a ballot that is overvoted in contest c
abbrev pub may_be_overvoted : List Contest → ℕ → List Mark → Bool
may_be_overvoted contests c row = nat_lt (contest_at contests c).limit (possible_in contests row c)

-- whether too few ballots can be blank
abbrev pub lacks_blank : PartialDeck → Bool
lacks_blank p = nat_lt (count_by may_be_blank p.marks) p.rules.blank

-- whether contest c can be overvoted, and too few ballots can do so
abbrev pub lacks_overvoted : PartialDeck → ℕ → Bool
lacks_overvoted p c =
    nat_lt c (length p.contests)
    && (can_overvote (contest_at p.contests c)
    && nat_lt (count_by (may_be_overvoted p.contests c) p.marks) p.rules.over)
