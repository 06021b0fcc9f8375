use Rattle.std.proofs.Common.{◌≡◌, ◌<◌, ◌*◌, ◌++◌, ◌∷◌, [], ◌∙◌, ap, subst, refl, ℕ, length, take, true, false, arith}
use Rattle.std.proofs.lemmas.List.{length-take-le}
use Rattle.std.proofs.Math.ListN.{length-set}
use Rattle.lat_base.specs.Shape.{target_count}
use Rattle.lat_ballots.specs.Deck.{Ballots}
use Rattle.plain_search.specs.Trying.{marks_of, NoGoodFrom}
use Rattle.plain_search.proofs.Fronts.{front_kept}
use Rattle.plain_search.proofs.Decks.{deck_fits, length-marks_of, none_here, marks_set, both_marks, match_more, match_false}
use Rattle.plain_search.proofs.least.+find_from.Goals as goal

pub returns-then-place-from-clause-found : goal.returns-then-place-from-clause-found
returns-then-place-from-clause-found t c =
    let cs = c.args.shape.now in
    let deck = c.args.deck.now in
    let fits = deck_fits cs deck c.ballots.ensures.deck c.requires.targets in
    let end : c.args.place ≡ length deck.ballots * target_count cs =
    c.if-place-from.true ∙ (λ i. (c.from.ensures ∙ c.ballots.ensures.count) i * (c.from-targets.ensures ∙ c.targets.ensures.count) i) in
    match_more _ _ _ c.in_ok-good.good c.in_ok-good.ensures (none_here cs c.args.rules.now deck.ballots c.args.place fits end)

pub returns-then-branch-clause-kept : goal.returns-then-branch-clause-kept
returns-then-branch-clause-kept t c =
    let cs = c.args.shape.now in
    let deck = c.args.deck.now in
    let place = c.args.place in
    let n : c.from-targets.result ≡ target_count cs = c.from-targets.ensures ∙ c.targets.ensures.count in
    let some : 0 < target_count cs = omega (arith, c.targets.ensures.some, c.targets.ensures.count) in
    let all : c.from.result * c.from-targets.result ≡ length deck.ballots * target_count cs = λ i. (c.from.ensures ∙ c.ballots.ensures.count) i * n i in
    let lt : place < length deck.ballots * target_count cs = omega (arith, c.requires.place, c.if-place-from.false, all) in
    let sized = length-marks_of (target_count cs) deck.ballots (deck_fits cs deck c.ballots.ensures.deck c.requires.targets) in
    let first = marks_set cs deck c.set.new.self place c.from-targets.result false deck.ballots c.ballots.ensures.deck c.requires.targets n some refl lt refl c.set.ensures in
    let kept = front_kept (marks_of c.find_from.new.deck.ballots) (marks_of deck.ballots) place false (omega (arith, lt, sized)) (c.in_ok-find_from.ensures.kept ∙ first) in
    kept

pub returns-clause-kept : goal.returns-clause-kept
returns-clause-kept t c =
    let cs = c.args.shape.now in
    let deck = c.args.deck.now in
    let place = c.args.place in
    let n : c.from-targets.result ≡ target_count cs = c.from-targets.ensures ∙ c.targets.ensures.count in
    let some : 0 < target_count cs = omega (arith, c.targets.ensures.some, c.targets.ensures.count) in
    let all : c.from.result * c.from-targets.result ≡ length deck.ballots * target_count cs = λ i. (c.from.ensures ∙ c.ballots.ensures.count) i * n i in
    let lt : place < length deck.ballots * target_count cs = omega (arith, c.requires.place, c.if-place-from.false, all) in
    let sized = length-marks_of (target_count cs) deck.ballots (deck_fits cs deck c.ballots.ensures.deck c.requires.targets) in
    let first = marks_set cs deck c.set.new.self place c.from-targets.result false deck.ballots c.ballots.ensures.deck c.requires.targets n some refl lt refl c.set.ensures in
    let kept = front_kept (marks_of c.find_from.new.deck.ballots) (marks_of deck.ballots) place false (omega (arith, lt, sized)) (c.in_ok-find_from.ensures.kept ∙ first) in
    let same : length c.find_from.new.deck.ballots ≡ length deck.ballots =
    c.in_ok-find_from.ensures.ballots ∙ ap (λ (d : Ballots). length d.ballots) c.set.ensures ∙ length-set deck.ballots _ _ in
    let targets : c.find_from.new.deck.targets ≡ target_count cs = c.in_ok-find_from.ensures.targets ∙ ap (λ (d : Ballots). d.targets) c.set.ensures ∙ c.requires.targets in
    let second = marks_set cs c.find_from.new.deck c.set-2.new.self place c.from-targets.result true deck.ballots c.ballots-ballots.ensures.deck targets n some same lt kept c.set-2.ensures in
    front_kept (marks_of c.find_from-2.new.deck.ballots) (marks_of deck.ballots) place true (omega (arith, lt, sized)) (c.in_ok-found.ensures.kept ∙ second)

pub returns-clause-found : goal.returns-clause-found
returns-clause-found t c =
    let cs = c.args.shape.now in
    let deck = c.args.deck.now in
    let place = c.args.place in
    let n : c.from-targets.result ≡ target_count cs = c.from-targets.ensures ∙ c.targets.ensures.count in
    let some : 0 < target_count cs = omega (arith, c.targets.ensures.some, c.targets.ensures.count) in
    let all : c.from.result * c.from-targets.result ≡ length deck.ballots * target_count cs = λ i. (c.from.ensures ∙ c.ballots.ensures.count) i * n i in
    let lt : place < length deck.ballots * target_count cs = omega (arith, c.requires.place, c.if-place-from.false, all) in
    let sized = length-marks_of (target_count cs) deck.ballots (deck_fits cs deck c.ballots.ensures.deck c.requires.targets) in
    let first = marks_set cs deck c.set.new.self place c.from-targets.result false deck.ballots c.ballots.ensures.deck c.requires.targets n some refl lt refl c.set.ensures in
    let kept = front_kept (marks_of c.find_from.new.deck.ballots) (marks_of deck.ballots) place false (omega (arith, lt, sized)) (c.in_ok-find_from.ensures.kept ∙ first) in
    let same : length c.find_from.new.deck.ballots ≡ length deck.ballots =
    c.in_ok-find_from.ensures.ballots ∙ ap (λ (d : Ballots). length d.ballots) c.set.ensures ∙ length-set deck.ballots _ _ in
    let targets : c.find_from.new.deck.targets ≡ target_count cs = c.in_ok-find_from.ensures.targets ∙ ap (λ (d : Ballots). d.targets) c.set.ensures ∙ c.requires.targets in
    let second = marks_set cs c.find_from.new.deck c.set-2.new.self place c.from-targets.result true deck.ballots c.ballots-ballots.ensures.deck targets n some same lt kept c.set-2.ensures in
    let rules = c.args.rules.now in
    let front = take place (marks_of deck.ballots) in
    let once : length c.set.new.self.ballots ≡ length deck.ballots = ap (λ (d : Ballots). length d.ballots) c.set.ensures ∙ length-set deck.ballots _ _ in
    let twice : length c.set-2.new.self.ballots ≡ length deck.ballots = ap (λ (d : Ballots). length d.ballots) c.set-2.ensures ∙ length-set c.find_from.new.deck.ballots _ _ ∙ same in
    let off = subst (λ (k : ℕ). NoGoodFrom cs rules k (front ++ false ∷ [])) once
    (subst (NoGoodFrom cs rules (length c.set.new.self.ballots)) first (match_false _ _ c.in_ok-find_from.field-0 c.if-branch.false c.in_ok-find_from.ensures.found)) in
    match_more _ _ _ c.in_ok-found.found c.in_ok-found.ensures.found
    (λ h. both_marks cs rules (length deck.ballots) place front (length-take-le place (marks_of deck.ballots) (omega (arith, lt, sized))) lt off
    (subst (λ (k : ℕ). NoGoodFrom cs rules k (front ++ true ∷ [])) twice (subst (NoGoodFrom cs rules (length c.set-2.new.self.ballots)) second h)))
