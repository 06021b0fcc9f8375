use Rattle.std.proofs.Common.{◌≡◌, drop}
use Rattle.std.specs.List.{position_from}
use Rattle.lat_base.specs.Shape.{first_target}
use Rattle.deck_text.specs.TargetNames.{is_called, target_names, target_called}
use Rattle.deck_text.proofs.find.find_target.Given as goal

-- the search from contest c on finds what the whole search finds
abbrev pub invariant-loop-c : goal.invariant-loop-c
invariant-loop-c l =
    position_from (is_called l.contest l.target) (first_target l.shape l.c) (target_names (drop l.c l.names.contests))
    ≡ target_called (target_names l.names.contests) l.contest l.target
