-- What a stream keeps of itself at each place, whatever bytes it stands for.
use Rattle.std.specs.Prelude.{◌≡◌, ◌≤◌, ◌<◌, ℕ, Bool, false, List, length, nat_lt, ◌==◌, if◌then◌else◌}
use Rattle.lat_base.specs.declared.limits.TheConstants.{MOST_BALLOTS}
use Rattle.lat_base.specs.Shape.{target_count}
use Rattle.cert_fields.specs.Head.{Head}
use Rattle.cert_types.specs.Fitting.{IsVerdict}
use Rattle.close_rules.specs.declared.label.Label.{Label}
use Rattle.close_rules.specs.declared.reason.Reason.{Reason}
use Rattle.deck_space.specs.Steps.{deck_steps}
use Rattle.deck_space.specs.declared.decks.Decks.{Decks}
use Rattle.deck_state.specs.PartialDeck.{PartialDeck}
use Rattle.deck_state.specs.Trail.{IsPartial}
use Rattle.evade_space.specs.declared.skipped.Skipped.{Skipped}
use Rattle.evade_space.specs.PartialMisassignment.{PartialMisassignment}
use Rattle.evade_space.specs.Sought.{Sought}
use Rattle.evade_space.specs.Steps.{evade_steps, IsEvadeState}
use Rattle.tree_core.specs.declared.node.Node.{Node}
use Rattle.cert_stream.specs.declared.front.Front.{Front}
use Rattle.cert_stream.specs.declared.phase.Phase.{Phase}
use Rattle.cert_stream.specs.declared.phase.Phase.TheVariants.{Start, Rows, Robust, Contests, Lower, Done}
use Rattle.cert_stream.specs.declared.walk.Checking.{Checking}
use Rattle.cert_stream.specs.declared.walk.Checking.TheVariants.{On, Off}
use Rattle.cert_stream.specs.Walks.{IsOpenWalk}

-- the head that was read
abbrev pub head_of : Front → Head
head_of front = record { names = front.names; contests = front.shape; rules = front.rules }

-- a check that goes on is in a tree of its own space
abbrev pub IsEvadeCheck : Checking Sought PartialMisassignment ℕ Skipped → ℕ → Type 0
IsEvadeCheck (On walk) wanted =
    let sought = walk.value.space in
    (root : PartialMisassignment) × (nodes : List (Node ℕ Skipped))
    × IsOpenWalk (evade_steps sought) (IsEvadeState sought) walk.value root nodes wanted
IsEvadeCheck (Off part i) wanted = Unit {0}

abbrev pub IsDeckCheck : Checking Decks PartialDeck Label Reason → ℕ → Type 0
IsDeckCheck (On walk) wanted =
    (root : PartialDeck) × (nodes : List (Node Label Reason))
    × IsOpenWalk deck_steps IsPartial walk.value root nodes wanted
IsDeckCheck (Off part i) wanted = Unit {0}

-- the numbers are in range, and each walk is one
abbrev pub IsPhase : Phase → Type 0
IsPhase Start = Unit {0}
IsPhase (Rows front deck j) =
    IsVerdict front.verdict × (deck.targets ≡ target_count front.shape)
    × (j ≤ length deck.ballots)
IsPhase (Robust front wanted check) =
    IsVerdict front.verdict × (0 < wanted) × IsEvadeCheck check wanted
IsPhase (Contests front size fault) = size ≤ MOST_BALLOTS
IsPhase (Lower front wanted check) = (0 < wanted) × IsDeckCheck check wanted
IsPhase (Done front fault) = Unit {0}

-- no field that begins at this place takes more bytes
abbrev pub most_of : Phase → ℕ
most_of Start = 25560
most_of (Rows front deck j) = 32
most_of (Robust front wanted check) = 516
most_of (Contests front size fault) = 516
most_of (Lower front wanted check) = 516
most_of (Done front fault) = 0

-- whether nothing is read before more bytes come, where so many are there: a field is read once the
-- longest one would be there, or when no more bytes come
abbrev pub waits : Phase → ℕ → Bool → Bool
waits (Done front fault) there ending = there == 0
waits phase there ending = if ending then false else nat_lt there (most_of phase)

-- each field takes a byte, but the place behind the last row none
abbrev pub rank : Phase → ℕ
rank (Rows front deck j) = 1
rank phase = 0
