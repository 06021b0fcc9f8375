use Rattle.std.proofs.Common.{◌≡◌, length}
use Rattle.lat_ballots.specs.Columns.{IsSet}
use Rattle.evade_space.specs.Masks.{is_within, has_room, is_sure, is_sure_with}
use Rattle.evade_space.proofs.contest_sets.ContestSets.new.Given as goal

abbrev pub invariant-loop-i : goal.invariant-loop-i
invariant-loop-i l = record {
  within : IsSet l.i l.within (is_within l.space.contests l.state.sources l.c) l.space.deck;
  room : IsSet l.i l.room (has_room l.space.contests l.state.sources l.c) l.space.deck;
  sure : IsSet l.i l.sure (is_sure l.space.contests l.state.sources l.c l.places) l.space.deck;
  sure_with : IsSet l.i l.sure_with (is_sure_with l.space.contests l.state.sources l.c l.places)
      l.space.deck;
  long : length l.within ≡ 16;
  long_room : length l.room ≡ 16;
  long_sure : length l.sure ≡ 16;
  long_sure_with : length l.sure_with ≡ 16;
}
