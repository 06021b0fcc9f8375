use Rattle.std.proofs.Common.{◌≡◌, ◌-◌, drop}
use Rattle.std.specs.List.{position_from}
use Rattle.lat_base.specs.Names.{names_at}
use Rattle.deck_text.specs.TargetNames.{is_called, names_in}
use Rattle.deck_text.proofs.find.find_in.Given as goal

-- the search from target t on finds what the whole search finds
abbrev pub invariant-loop-t : goal.invariant-loop-t
invariant-loop-t l =
    position_from (is_called l.fn.contest l.target) l.t (drop (l.t - l.first) (names_in (names_at l.names.contests l.c)))
    ≡ position_from (is_called l.fn.contest l.target) l.first (names_in (names_at l.names.contests l.c))
