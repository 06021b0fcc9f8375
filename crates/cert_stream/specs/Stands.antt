-- For which bytes a stream stands.
use Rattle.std.specs.Prelude.{◌≡◌, ◌≤◌, ◌++◌, ◌-◌, ℕ, List, length, take, Option, Some, None, option_map, IfSome}
use Rattle.lat_base.specs.declared.limits.TheConstants.{MOST_BALLOTS}
use Rattle.lat_base.specs.declared.contest.Contest.{Contest}
use Rattle.lat_base.specs.Part.{IsPart, part}
use Rattle.lat_base.specs.Rules.{RuleSet, Obeys}
use Rattle.lat_base.specs.Shape.{target_count}
use Rattle.lat_ballots.specs.Deck.{Ballots}
use Rattle.close_rules.specs.declared.label.Label.{Label}
use Rattle.close_rules.specs.declared.reason.Reason.{Reason}
use Rattle.deck_space.specs.Steps.{deck_steps}
use Rattle.deck_space.specs.declared.decks.Decks.{Decks}
use Rattle.deck_state.specs.PartialDeck.{PartialDeck}
use Rattle.deck_state.specs.Trail.{IsPartial}
use Rattle.evade_space.specs.declared.skipped.Skipped.{Skipped}
use Rattle.evade_space.specs.PartialMisassignment.{PartialMisassignment}
use Rattle.evade_space.specs.Sought.{Sought, own_sought, start}
use Rattle.evade_space.specs.Steps.{evade_steps, IsEvadeState}
use Rattle.tree_core.specs.declared.node.Node.{Node}
use Rattle.cert_fields.specs.declared.fault.CertFault.{CertFault}
use Rattle.cert_fields.specs.TreeReading.{wanted_after}
use Rattle.cert_types.specs.declared.part.Part.TheVariants as parts
use Rattle.cert_types.specs.declared.proved.Proved.{Proved}
use Rattle.cert_types.specs.Holding.{IsDeckFault, IsPartsFault}
use Rattle.cert_types.specs.Lower.{lower_root}
use Rattle.cert_types.specs.LowerPart.{LowerPart}
use Rattle.cert_types.specs.Proved.{IsProved}
use Rattle.cert_check.specs.Answers.{IsDeckAnswer, ArePartsAnswer}
use Rattle.cert_stream.specs.declared.phase.Phase.{Phase}
use Rattle.cert_stream.specs.declared.phase.Phase.TheVariants.{Start, Rows, Robust, Contests, Lower, Done}
use Rattle.cert_stream.specs.declared.walk.Checking.{Checking}
use Rattle.cert_stream.specs.declared.walk.Checking.TheVariants.{On, Off}
use Rattle.cert_stream.specs.Left.{Parts, whole_at, end_left, lower_tree_left, lower_left, robust_left, rows_left}
use Rattle.cert_stream.specs.Phases.{head_of, most_of}
use Rattle.cert_stream.specs.Walks.{Follows}

-- whatever follows, reading all bytes is reading on so from those that are held
abbrev pub Reads : List ℕ → List ℕ → (List ℕ → Option Parts) → Type 0
Reads all held left = (more : List ℕ) → whole_at (all ++ more) ≡ left (held ++ more)

-- the number of ballots of the deck, or none where there is no deck
abbrev pub ballots_of : Option Proved → Option ℕ
ballots_of proved = option_map (λ p. length p.deck.ballots) proved

-- the check of the front of a deck's tree: the deck obeys the rules and the walk goes on, or what
-- was read has a first fault
abbrev pub RobustSoFar : List Contest → RuleSet → Ballots → List (Node ℕ Skipped)
    → Checking Sought PartialMisassignment ℕ Skipped → Type 0
RobustSoFar contests rules deck nodes (On walk) =
    let sought = own_sought contests deck.ballots in
    Obeys contests rules deck.ballots
    × Follows (evade_steps sought) (IsEvadeState sought) sought (start sought) parts.Robust nodes
    (On walk)
RobustSoFar contests rules deck nodes (Off part i) =
    IsDeckFault contests rules (record { deck = deck; robust = nodes }) part i

-- a lower part of these nodes
abbrev pub lower_of : List ℕ → ℕ → List (Node Label Reason) → LowerPart
lower_of chosen size nodes = record { contests = chosen; size = size; tree = nodes }

-- the check of the front of a lower part's tree: the deck is proved and the walk goes on, or what
-- was read has a first fault
abbrev pub LowerSoFar : List Contest → RuleSet → Option Proved → List ℕ → ℕ
    → List (Node Label Reason) → Checking Decks PartialDeck Label Reason → Type 0
LowerSoFar contests rules proved chosen size nodes (On walk) =
    IfSome proved (IsProved contests rules)
    × Follows deck_steps IsPartial walk.value.space
    (lower_root contests rules (lower_of chosen size nodes)) parts.Lower nodes (On walk)
LowerSoFar contests rules proved chosen size nodes (Off part i) =
    IsPartsFault contests rules proved (Some (lower_of chosen size nodes)) part i

-- A stream stands for all of these bytes where it holds back the last of them, and:
-- at the start nothing was read; then the front was, and some rows of a deck; then some nodes of
-- its tree; then all of the deck, if there is one; then the contests of a lower part, and some
-- nodes of its tree; then all. What was read so far was checked.
abbrev pub StandsAt : Phase → List ℕ → List ℕ → Type 0
StandsAt Start held all = Reads all held whole_at
StandsAt (Rows front deck j) held all =
    (front.best ≡ Some (length deck.ballots))
    × Reads all held (rows_left (head_of front) front.verdict (take j deck.ballots)
    (length deck.ballots - j))
StandsAt (Robust front wanted check) held all =
    (deck : Ballots) × (nodes : List (Node ℕ Skipped))
    × (deck.targets ≡ target_count front.shape) × (front.best ≡ Some (length deck.ballots))
    × (wanted_after 1 nodes ≡ Some wanted)
    × RobustSoFar front.shape front.rules deck nodes check
    × Reads all held (robust_left (head_of front) front.verdict deck nodes wanted)
StandsAt (Contests front size fault) held all =
    (proved : Option Proved)
    × (front.best ≡ ballots_of proved)
    × IsDeckAnswer front.shape front.rules proved fault
    × Reads all held (lower_left (head_of front) front.verdict proved size)
StandsAt (Lower front wanted check) held all =
    (proved : Option Proved) × (chosen : List ℕ) × (size : ℕ) × (nodes : List (Node Label Reason))
    × (front.best ≡ ballots_of proved) × IsPart front.shape chosen × (size ≤ MOST_BALLOTS)
    × (wanted_after 1 nodes ≡ Some wanted)
    × LowerSoFar front.shape front.rules proved chosen size nodes check
    × Reads all held
    (lower_tree_left (head_of front) front.verdict proved chosen size nodes wanted)
StandsAt (Done front fault) held all =
    (proved : Option Proved) × (lower : Option LowerPart)
    × (front.best ≡ ballots_of proved)
    × ArePartsAnswer front.shape front.rules proved lower fault
    × Reads all held (end_left (head_of front) front.verdict proved lower)

-- what a stream holds: where it stands, the bytes that it holds back, and the error that it
-- answered
pub record Held : Type 0 where
  pub phase : Phase
  pub buffer : List ℕ
  pub fault : Option CertFault

-- a stream that met no error stands for all of these bytes
pub record StandsFor (held : Held) (all : List ℕ) : Type 0 where
  pub fine : held.fault ≡ None
  pub stands : StandsAt held.phase held.buffer all

-- none of these bytes is read on from where a stream stands: they are no certificate, and where the
-- longest field would be there, no front of one
abbrev pub Refuses : Phase → List ℕ → Type 0
Refuses phase held =
    (all : List ℕ) → StandsAt phase held all
    → (whole_at all ≡ None)
    × (most_of phase ≤ length held → (more : List ℕ) → whole_at (all ++ more) ≡ None)

-- where a stream stands after a field was read, and what it then holds back
abbrev pub Moves : Phase → List ℕ → Phase → List ℕ → Type 0
Moves phase held after rest =
    (all : List ℕ) → StandsAt phase held all → StandsAt after rest all

-- the bytes that are left
abbrev pub IsTail : List ℕ → List ℕ → Type 0
IsTail bytes rest = (read : List ℕ) × (bytes ≡ read ++ rest)
