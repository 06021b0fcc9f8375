-- Two contests of equal shape that are exchanged.
use Rattle.std.proofs.Common.{◌≡◌, ◌≢◌, ◌<◌, ◌+◌, ◌-◌, ℕ, Bool, true, false, List, length, cond, map, refl, ap, sym, subst, ◌∙◌, arith}
use Rattle.std.specs.Prelude.{◌==◌}
use Rattle.std.specs.List.{range_with_len}
use Rattle.std.proofs.lemmas.Bool.Decides.{nat_tests}
use Rattle.lat_base.specs.declared.contest.Contest.{Contest}
use Rattle.lat_base.specs.Shape.{target_count, first_target, contest_at, contest_of}
use Rattle.lat_base.specs.Tally.{own_total}
use Rattle.lat_base.specs.Deck.{Fits}
use Rattle.lat_base.specs.Goodness.{IsRobust}
use Rattle.readings.specs.Turn.{IsTurn, exchange}
use Rattle.readings.specs.Structural.{IsStructural, targets_of, exchange_contests}
use Rattle.readings.proofs.Places.{IsOf, is_of, contest_is, of_one, nth_is_of, first_next, first_le}
use Rattle.readings.proofs.TargetExchange.{range_moved, same_permutation}
use Rattle.readings.proofs.RobustDecks.{structural_stays}

-- two contests of equal shape exchanged
abbrev moved_by : List Contest → ℕ → ℕ → ℕ → ℕ → ℕ
moved_by contests c d e v = cond (e == c) (v - first_target contests c + first_target contests d) (cond (e == d) (v - first_target contests d + first_target contests c) v)

-- where a target of contest e goes
record Goes (contests : List Contest) (c d e v : ℕ) : Type 0 where
  pub to : IsOf contests (exchange c d e) (moved_by contests c d e v)
  pub nth : moved_by contests c d e v
      ≡ first_target contests (exchange c d e) + (v - first_target contests e)

make_goes : (contests : List Contest) (c d e g v : ℕ) → IsOf contests e v → g < length contests
    → contest_at contests g ≡ contest_at contests e → exchange c d e ≡ g
    → moved_by contests c d e v ≡ first_target contests g + (v - first_target contests e)
    → Goes contests c d e v
make_goes contests c d e g v a g_in shape turned moved = record {
  to = subst (λ (x : ℕ). IsOf contests x (moved_by contests c d e v)) (sym turned) (subst (IsOf contests g) (sym moved)
      (nth_is_of contests g (v - first_target contests e) g_in (omega (arith, a.from, a.to, first_next contests e a.contest, ap (λ (x : Contest). x.targets) shape))));
  nth = moved ∙ ap (λ (x : ℕ). first_target contests x + (v - first_target contests e)) (sym turned);
}

goes : (contests : List Contest) (c d e v : ℕ) → c < length contests → d < length contests
    → contest_at contests c ≡ contest_at contests d → IsOf contests e v → Goes contests c d e v
goes contests c d e v c_in d_in shape a = by_test (e == c) (e == d) refl refl
  where
    by_test : (x y : Bool) → (e == c) ≡ x → (e == d) ≡ y → Goes contests c d e v
    by_test true y p q =
        let same : e ≡ c = grind (arith, nat_tests, p) in
        make_goes contests c d e d v a d_in (sym shape ∙ ap (contest_at contests) (sym same)) (ap (λ (x : Bool). cond x d (cond (e == d) c e)) p)
        (ap (λ (x : Bool). cond x (v - first_target contests c + first_target contests d) (cond (e == d) (v - first_target contests d + first_target contests c) v)) p
        ∙ (ap (λ (x : ℕ). v - first_target contests x + first_target contests d) (sym same) ∙ omega arith))
    by_test false true p q =
        let same : e ≡ d = grind (arith, nat_tests, q) in
        make_goes contests c d e c v a c_in (shape ∙ ap (contest_at contests) (sym same)) (λ i. cond (p i) d (cond (q i) c e))
        ((λ i. cond (p i) (v - first_target contests c + first_target contests d) (cond (q i) (v - first_target contests d + first_target contests c) v))
        ∙ (ap (λ (x : ℕ). v - first_target contests x + first_target contests c) (sym same) ∙ omega arith))
    by_test false false p q =
        make_goes contests c d e e v a a.contest refl (λ i. cond (p i) d (cond (q i) c e))
        ((λ i. cond (p i) (v - first_target contests c + first_target contests d) (cond (q i) (v - first_target contests d + first_target contests c) v)) ∙ omega (arith, a.from))

exchange_twice : (c d e : ℕ) → exchange c d (exchange c d e) ≡ e
exchange_twice c d e = grind (arith, nat_tests)

-- whole contests exchanged are so again
moved_twice : (contests : List Contest) (c d v : ℕ) → c < length contests → d < length contests
    → contest_at contests c ≡ contest_at contests d → v < target_count contests
    → exchange_contests contests c d (exchange_contests contests c d v) ≡ v
moved_twice contests c d v c_in d_in shape h =
    let a = is_of contests v h in
    let e = contest_of contests v in
    let g = goes contests c d e v c_in d_in shape a in
    let e2 = exchange c d e in
    let there : contest_of contests (exchange_contests contests c d v) ≡ e2 = contest_is contests e2 (exchange_contests contests c d v) g.to in
    let back = goes contests c d e2 (exchange_contests contests c d v) c_in d_in shape g.to in
    let again : exchange c d e2 ≡ e = exchange_twice c d e in
    ap (λ (x : ℕ). moved_by contests c d x (exchange_contests contests c d v)) there
    ∙ (back.nth ∙ omega (arith, ap (first_target contests) again, g.nth, a.from))

-- an exchange of contests goes through all targets
pub contests_turn : (contests : List Contest) (c d : ℕ) → c < length contests → d < length contests
    → contest_at contests c ≡ contest_at contests d
    → IsTurn (target_count contests) (exchange_contests contests c d)
    (exchange_contests contests c d)
contests_turn contests c d c_in d_in shape = record { within = inside; back_within = inside; back = λ v h. moved_twice contests c d v c_in d_in shape h; forth = λ v h. moved_twice contests c d v c_in d_in shape h }
  where
    inside : (v : ℕ) → v < target_count contests
        → exchange_contests contests c d v < target_count contests
    inside v h =
        let g = goes contests c d (contest_of contests v) v c_in d_in shape (is_of contests v h) in
        omega (arith, g.to.to, first_le contests (exchange c d (contest_of contests v) + 1))

-- an exchange of contests of equal shape is structural
pub contests_structural : (contests : List Contest) (c d : ℕ) → c < length contests
    → d < length contests → contest_at contests c ≡ contest_at contests d
    → IsStructural contests (exchange_contests contests c d) (exchange c d)
contests_structural contests c d c_in d_in shape = record {
  within = λ e h. grind (arith, nat_tests, c_in, d_in, h);
  shape = λ e h. shapes e (e == c) (e == d) refl refl;
  targets = λ e h. same_permutation (targets_of contests (exchange c d e)) (map (exchange_contests contests c d) (targets_of contests e)) (moved e h);
  contest = λ v h. contest_is contests (exchange c d (contest_of contests v)) (exchange_contests contests c d v) (goes contests c d (contest_of contests v) v c_in d_in shape (is_of contests v h)).to;
}
  where
    shapes : (e : ℕ) (x y : Bool) → (e == c) ≡ x → (e == d) ≡ y
        → contest_at contests (cond (e == c) d (cond (e == d) c e)) ≡ contest_at contests e
    shapes e true y p q =
        let same : e ≡ c = grind (arith, nat_tests, p) in
        ap (λ (x : Bool). contest_at contests (cond x d (cond (e == d) c e))) p ∙ (sym shape ∙ ap (contest_at contests) (sym same))
    shapes e false true p q =
        let same : e ≡ d = grind (arith, nat_tests, q) in
        (λ i. contest_at contests (cond (p i) d (cond (q i) c e))) ∙ (shape ∙ ap (contest_at contests) (sym same))
    shapes e false false p q = λ i. contest_at contests (cond (p i) d (cond (q i) c e))

    moved : (e : ℕ) → e < length contests
        → map (exchange_contests contests c d) (targets_of contests e)
        ≡ targets_of contests (exchange c d e)
    moved e h =
        range_moved (exchange_contests contests c d) (first_target contests e) (first_target contests (exchange c d e)) (contest_at contests e).targets
        (λ i lt.
        let a = nth_is_of contests e i h lt in
        let g = goes contests c d e (first_target contests e + i) c_in d_in shape a in
        let e_is : contest_of contests (first_target contests e + i) ≡ e = contest_is contests e (first_target contests e + i) a in
        ap (λ (x : ℕ). moved_by contests c d x (first_target contests e + i)) e_is ∙ (g.nth ∙ omega arith))
        ∙ ap (range_with_len (first_target contests (exchange c d e))) (ap (λ (x : Contest). x.targets) (sym (shapes e (e == c) (e == d) refl refl)))

-- in a robust deck two contests of equal shape don't have equal lists of totals
pub twins_differ : (contests : List Contest) (deck : List (List Bool)) (c d : ℕ)
    → IsRobust contests deck → Fits (target_count contests) deck → c ≢ d → c < length contests
    → d < length contests → contest_at contests c ≡ contest_at contests d
    → 0 < (contest_at contests c).targets
    → ((i : ℕ) → i < (contest_at contests c).targets
    → own_total contests deck (first_target contests c + i)
    ≡ own_total contests deck (first_target contests d + i)) → ⊥
twins_differ contests deck c d robust fits other c_in d_in shape some equal =
    let a = nth_is_of contests c 0 c_in some in
    let first : first_target contests c + 0 ≡ first_target contests c = omega arith in
    let at_c = subst (IsOf contests c) first a in
    let v = first_target contests c in
    let v_in : v < target_count contests = omega (arith, at_c.to, first_le contests (c + 1)) in
    let stays = structural_stays contests deck (exchange_contests contests c d) (exchange_contests contests c d) (exchange c d) robust fits (contests_turn contests c d c_in d_in shape) (contests_structural contests c d c_in d_in shape)
    (λ u h. totals (contest_of contests u) u (is_of contests u h) (contest_of contests u == c) (contest_of contests u == d) refl refl) v v_in in
    let g = goes contests c d c v c_in d_in shape at_c in
    let c_is : contest_of contests v ≡ c = contest_is contests c v at_c in
    let here : moved_by contests c d c v ≡ v = ap (λ (x : ℕ). moved_by contests c d x v) (sym c_is) ∙ stays in
    let turned : exchange c d c ≡ d = grind (arith, nat_tests) in
    other (of_one contests c d v at_c (subst (λ (x : ℕ). IsOf contests x v) turned (subst (IsOf contests (exchange c d c)) here g.to)))
  where
    totals : (e u : ℕ) → IsOf contests e u → (x y : Bool) → (e == c) ≡ x → (e == d) ≡ y
        → own_total contests deck (moved_by contests c d e u) ≡ own_total contests deck u
    totals e u a true y p q =
        let same : e ≡ c = grind (arith, nat_tests, p) in
        let at = subst (λ (x : ℕ). IsOf contests x u) same a in
        let i = u - first_target contests c in
        let to : moved_by contests c d e u ≡ first_target contests d + i =
        ap (λ (x : Bool). cond x (u - first_target contests c + first_target contests d) (cond (e == d) (u - first_target contests d + first_target contests c) u)) p ∙ omega arith in
        let from : first_target contests c + i ≡ u = omega (arith, at.from) in
        ap (own_total contests deck) to ∙ (sym (equal i (omega (arith, at.from, at.to, first_next contests c c_in))) ∙ ap (own_total contests deck) from)
    totals e u a false true p q =
        let same : e ≡ d = grind (arith, nat_tests, q) in
        let at = subst (λ (x : ℕ). IsOf contests x u) same a in
        let i = u - first_target contests d in
        let to : moved_by contests c d e u ≡ first_target contests c + i =
        (λ k. cond (p k) (u - first_target contests c + first_target contests d) (cond (q k) (u - first_target contests d + first_target contests c) u)) ∙ omega arith in
        let from : first_target contests d + i ≡ u = omega (arith, at.from) in
        let width : (contest_at contests c).targets ≡ (contest_at contests d).targets = ap (λ (x : Contest). x.targets) shape in
        ap (own_total contests deck) to ∙ (equal i (omega (arith, at.from, at.to, first_next contests d d_in, width)) ∙ ap (own_total contests deck) from)
    totals e u a false false p q = ap (own_total contests deck) (λ k. cond (p k) (u - first_target contests c + first_target contests d) (cond (q k) (u - first_target contests d + first_target contests c) u))
