-- How a search goes on from a partial deck: it decides a mark, or splits what a total can be.
use Rattle.std.specs.Prelude.{ℕ, ◌-◌, ◌&&◌, ◌==◌, Bool, cond, nat_lt, nat_le}
use Rattle.lat_base.specs.Shape.{target_count}
use Rattle.deck_state.specs.Changes.{decided, narrowed}
use Rattle.deck_state.specs.Mark.{is_undecided}
use Rattle.deck_state.specs.PartialDeck.{PartialDeck, mark_at}
use Rattle.deck_state.specs.Votes.{lo, hi}
use Rattle.close_rules.specs.declared.label.Label.{Label}
use Rattle.close_rules.specs.declared.label.Label.TheVariants.{Mark as MarkOf, Split}

-- whether a label can be chosen: the mark is undecided, or the number is above `lo` and at most
-- `hi`
abbrev pub is_allowed : PartialDeck → Label → Bool
is_allowed p (MarkOf j t) =
    nat_lt j p.ballots && (nat_lt t (target_count p.contests) && is_undecided (mark_at p j t))
is_allowed p (Split t x) =
    nat_lt t (target_count p.contests) && (nat_lt (lo p t) x && nat_le x (hi p t))

-- the first kid (0) and the second: marked, then unmarked; the total below the number, then from
-- it on
abbrev pub kid_of : PartialDeck → Label → ℕ → PartialDeck
kid_of p (MarkOf j t) kid = decided p j t (kid == 0)
kid_of p (Split t x) kid = cond (kid == 0) (narrowed p t (lo p t) (x - 1)) (narrowed p t x (hi p t))
