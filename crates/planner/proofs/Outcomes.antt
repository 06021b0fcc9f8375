-- What the outcome of a search among the decks of a size shows.
use Rattle.std.proofs.Common.{◌≡◌, ◌*◌, ◌≤◌, ℕ, Bool, List, [], length, ap, sym, subst, ◌∙◌}
use Rattle.circular_buffer.specs.Buffer.{Buffer, buffer}
use Rattle.lat_base.specs.declared.contest.Contest.{Contest}
use Rattle.lat_base.specs.Canonical.{IsCanonical}
use Rattle.lat_base.specs.Goodness.{IsGood}
use Rattle.lat_base.specs.Rules.{RuleSet, Obeys}
use Rattle.lat_base.specs.Shape.{target_count}
use Rattle.lat_ballots.specs.Deck.{Ballots}
use Rattle.close_rules.specs.declared.label.Label.{Label}
use Rattle.close_rules.specs.declared.reason.Reason.{Reason}
use Rattle.close_rules.proofs.OwnBounds.{still_none}
use Rattle.close_rules.proofs.ShownSolution.{shown_left}
use Rattle.deck_state.specs.PartialDeck.{PartialDeck, empty}
use Rattle.deck_state.specs.Shown.{IsComplete, decided_as, shown}
use Rattle.deck_state.specs.Trail.{IsPartial}
use Rattle.deck_state.proofs.ShownDecks.{shown_size}
use Rattle.deck_space.specs.Numbers.{marks_as_numbers}
use Rattle.deck_space.specs.Steps.{deck_steps, Solves}
use Rattle.tree_core.specs.declared.node.Node.{Node}
use Rattle.tree_core.specs.Checks.{Checks}
use Rattle.tree_core.specs.Nodes.{IsGapless}
use Rattle.tree_core.specs.Reading.{IsTree, tree_of}
use Rattle.tree_search.specs.Memory.{Follows}
use Rattle.tree_search.specs.Outcome.{IsOpenTree, IsFound, IsHalted}
use Rattle.planner.specs.declared.attempt.Attempt.{Attempt}
use Rattle.cert_types.specs.declared.license.License.TheVariants.{Tree, Deck}
use Rattle.cert_types.specs.declared.proved.Proved.{Proved}
use Rattle.planner.specs.Choosing.{NoCheap, IsShownProved, IsShownOpen, deck_habits}
use Rattle.planner.specs.License.{IsSpentLicense, IsSearchedLicense}
use Rattle.cert_types.specs.License.{IsAttackedDeck}
use Rattle.evade_space.specs.Trees.{IsRobustTree, IsOpenAttack, factorial}
use Rattle.planner.specs.Searched.{IsGoodOf, IsClosedTree, IsSpentAt}
use Rattle.planner.proofs.Remembered.{eager_tree}
use Rattle.planner.proofs.Styles.{alike_below}

module _ (s : PartialDeck) where
  -- a deck that was proved at a state, in the words of the state
  good_there : (proved : Proved) → IsPartial s → IsShownProved s proved
      → IsGoodOf s.contests s.rules s.ballots proved
  good_there proved is h =
      let ballots : proved.deck.ballots ≡ shown s = ap (λ (d : Ballots). d.ballots) h.deck in
      let tree : IsRobustTree s.contests proved.deck.ballots proved.robust = subst (λ (d : List (List Bool)). IsRobustTree s.contests d proved.robust) (sym ballots) h.tree in
      record {
        is_proved = record {
          targets = ap (λ (d : Ballots). d.targets) h.deck;
          obeys = subst (Obeys s.contests s.rules) (sym ballots) h.solution.good.obeys;
          robust = record { lists = tree.lists; checks = tree.checks };
        };
        good = subst (IsGood s.contests s.rules) (sym ballots) h.solution.good;
        canonical = subst (IsCanonical s.contests) (sym ballots) h.solution.canonical;
        size = ap length ballots ∙ shown_size s is;
      }

  -- a deck that was left open at a state
  open_there : (budget : ℕ) (attempt : Attempt) → IsShownOpen budget s attempt
      → (IsAttackedDeck s.contests s.rules s.ballots attempt.deck
      × IsOpenAttack s.contests attempt.deck.ballots budget attempt.tree)
      × (IsGapless attempt.tree × NoCheap
      (decided_as s.contests s.rules s.ballots attempt.deck.ballots))
      × ¬ (3 * factorial (target_count s.contests) ≤ budget)
  open_there budget attempt h =
      let ballots : attempt.deck.ballots ≡ shown s = ap (λ (d : Ballots). d.ballots) h.deck in
      let left = shown_left s h.is h.complete h.none in (
        (
          (record {
            targets = ap (λ (d : Ballots). d.targets) h.deck;
            size = ap length ballots ∙ shown_size s h.is;
            canonical = subst (IsCanonical s.contests) (sym ballots) left.1;
            obeys = subst (Obeys s.contests s.rules) (sym ballots) left.0;
          }),
          subst (λ (d : List (List Bool)). IsOpenAttack s.contests d budget attempt.tree) (sym ballots) h.tree,
        ),
        (h.gapless, subst (λ (d : List (List Bool)). NoCheap (decided_as s.contests s.rules s.ballots d)) (sym ballots) (still_none s h.is h.complete h.none)),
        h.reach,
      )

module _ (contests : List Contest) (rules : RuleSet) (k budget b : ℕ) (kept : Buffer Reason) (root : PartialDeck) (chose : kept ≡ buffer [] 64) (same : b ≡ budget) (begins : root ≡ empty contests rules k) where
  pub found_good : (s : PartialDeck) (proved : Proved)
      → IsFound deck_steps (λ q. IsPartial q) (λ q. IsComplete q) (λ q v. Solves q v)
      marks_as_numbers (deck_habits kept.capacity b) root s proved
      → IsGoodOf contests rules k proved
  found_good s proved found =
      let alike = alike_below (λ q. IsPartial q) root s found.lies_below in
      let there = good_there s proved found.is_own found.proved in
      subst (λ (c : List Contest). IsGoodOf c rules k proved) (alike.contests ∙ ap (λ (p : PartialDeck). p.contests) begins)
      (subst (λ (r : RuleSet). IsGoodOf s.contests r k proved) (alike.rules ∙ ap (λ (p : PartialDeck). p.rules) begins)
      (subst (λ (m : ℕ). IsGoodOf s.contests s.rules m proved) (alike.ballots ∙ ap (λ (p : PartialDeck). p.ballots) begins) there))

  pub halted_open : (memory : List Reason) (nodes : List (Node Label Reason)) (attempt : Attempt)
      → IsHalted deck_steps (λ q. IsPartial q) (deck_habits kept.capacity b) root memory nodes
      attempt
      → IsSpentAt contests rules k budget (Deck attempt.deck attempt.tree)
  halted_open memory nodes attempt halted =
      let s = halted.state in
      let alike = alike_below (λ q. IsPartial q) root s halted.lies_below in
      let P : List Contest → RuleSet → ℕ → ℕ → Type 0 = λ c r m x. IsSpentAt c r m x (Deck attempt.deck attempt.tree) in
      let open_is = open_there s b attempt halted.excused in
      let there : P s.contests s.rules s.ballots b = record { is_license = open_is.0; searched = open_is.1; reach = open_is.2 } in
      subst (λ (c : List Contest). P c rules k budget) (alike.contests ∙ ap (λ (p : PartialDeck). p.contests) begins)
      (subst (λ (r : RuleSet). P s.contests r k budget) (alike.rules ∙ ap (λ (p : PartialDeck). p.rules) begins)
      (subst (λ (m : ℕ). P s.contests s.rules m budget) (alike.ballots ∙ ap (λ (p : PartialDeck). p.ballots) begins)
      (subst (λ (x : ℕ). P s.contests s.rules s.ballots x) same there)))

  follows_eager : (later : List Reason) (nodes : List (Node Label Reason))
      → Follows (deck_habits kept.capacity b) deck_steps root kept.items later nodes
      → Follows (deck_habits 64 b) deck_steps (empty contests rules k) [] later nodes
  follows_eager later nodes follows =
      subst (λ (p : PartialDeck). Follows (deck_habits 64 b) deck_steps p [] later nodes) begins
      (subst (λ (x : Buffer Reason). Follows (deck_habits x.capacity b) deck_steps root x.items later nodes) chose follows)

  pub closed_eager : (later : List Reason) (nodes : List (Node Label Reason)) → IsTree nodes
      → Checks deck_steps root (tree_of nodes)
      → Follows (deck_habits kept.capacity b) deck_steps root kept.items later nodes
      → IsClosedTree contests rules k nodes
  closed_eager later nodes lists checks follows = record {
    lists = lists;
    checks = subst (λ (p : PartialDeck). Checks deck_steps p (tree_of nodes)) begins checks;
    eager = eager_tree b (empty contests rules k) later nodes (follows_eager later nodes follows);
  }

  pub spent_open : (later : List Reason) (nodes : List (Node Label Reason))
      → IsOpenTree deck_steps root budget nodes → IsGapless nodes
      → Follows (deck_habits kept.capacity b) deck_steps root kept.items later nodes
      → IsSpentLicense contests rules k budget (Tree nodes)
      × IsSearchedLicense contests rules k (Tree nodes)
  spent_open later nodes tree gapless follows = (
    subst (λ (p : PartialDeck). IsOpenTree deck_steps p budget nodes) begins tree,
    (gapless, eager_tree b (empty contests rules k) later nodes (follows_eager later nodes follows)),
  )
