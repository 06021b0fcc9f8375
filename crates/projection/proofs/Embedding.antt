-- Where the targets of a part are in the style.
use Rattle.std.proofs.Common.{◌≡◌, ◌<◌, ◌+◌, ◌-◌, ℕ, zero, suc, Bool, true, false, nat_lt, List, [], ◌∷◌, length, get_or, cond, refl, ap, sym, subst, ◌∙◌, arith}
use Rattle.std.specs.Prelude.{◌==◌}
use Rattle.std.proofs.lemmas.Bool.Decides.{nat_tests}
use Rattle.std.proofs.lemmas.List.{get_or-map, length-map}
use Rattle.lat_base.specs.declared.contest.Contest.{Contest}
use Rattle.lat_base.specs.Shape.{target_count, first_target, contest_at, contest_of, no_contest}
use Rattle.lat_base.specs.Part.{IsPart, part}
use Rattle.readings.proofs.Places.{IsOf, is_of, contest_is, nth_is_of, first_next, first_le}
use Rattle.readings.proofs.Turned.{place}
use Rattle.projection.proofs.Rising.{chosen_once}

-- contest number q of the part, in the style
abbrev pub chosen_at : List ℕ → ℕ → ℕ
chosen_at chosen q = get_or chosen q 0

-- target u of the part, in the style
abbrev pub there : List Contest → List ℕ → ℕ → ℕ
there contests chosen u =
    first_target contests (chosen_at chosen (contest_of (part contests chosen) u)) + (u - first_target (part contests chosen) (contest_of (part contests chosen) u))

-- whether target w of the style is of the part
abbrev pub is_chosen : List Contest → List ℕ → ℕ → Bool
is_chosen contests chosen w = nat_lt (place chosen (contest_of contests w)) (length chosen)

-- target w of the style, in the part
abbrev pub here : List Contest → List ℕ → ℕ → ℕ
here contests chosen w = first_target (part contests chosen) (place chosen (contest_of contests w)) + (w - first_target contests (contest_of contests w))

found : (s : List ℕ) (t : ℕ) → place s t < length s → get_or s (place s t) 0 ≡ t
found [] t h = absurd (omega (arith, h))
found (x ∷ s) t h = by_test (x == t) refl h (found s t)
  where
    by_test : (b : Bool) → (x == t) ≡ b → cond b 0 (suc (place s t)) < length (x ∷ s)
        → (place s t < length s → get_or s (place s t) 0 ≡ t)
        → get_or (x ∷ s) (cond b 0 (suc (place s t))) 0 ≡ t
    by_test true e lt more = grind (arith, nat_tests, e)
    by_test false e lt more = more (omega (arith, lt))

stands : (s : List ℕ) (t q : ℕ) → q < length s → get_or s q 0 ≡ t → place s t < length s
stands [] t q h e = absurd (omega (arith, h))
stands (x ∷ s) t q h e = by_test (x == t) refl q h e (stands s t)
  where
    by_test : (b : Bool) → (x == t) ≡ b → (q : ℕ) → q < length (x ∷ s) → get_or (x ∷ s) q 0 ≡ t
        → ((q : ℕ) → q < length s → get_or s q 0 ≡ t → place s t < length s)
        → cond b 0 (suc (place s t)) < length (x ∷ s)
    by_test true f q lt is more = omega arith
    by_test false f zero lt is more = let not : x ≡ t → ⊥ = grind (arith, nat_tests, f) in absurd (not is)
    by_test false f (suc q) lt is more = omega (arith, more q (omega (arith, lt)) is)

pub part_long : (contests : List Contest) (chosen : List ℕ)
    → length (part contests chosen) ≡ length chosen
part_long contests chosen = length-map chosen (contest_at contests)

-- a part's contest has the style's limit and number of targets
pub part_contest : (contests : List Contest) (chosen : List ℕ) (q : ℕ) → q < length chosen
    → contest_at (part contests chosen) q ≡ contest_at contests (chosen_at chosen q)
part_contest contests chosen q lt = get_or-map (contest_at contests) chosen q 0 no_contest lt

-- a target of the part, in its contest and in the style's
pub record IsThere (contests : List Contest) (chosen : List ℕ) (q u : ℕ) : Type 0 where
  pub number : q < length chosen
  pub within : chosen_at chosen q < length contests
  pub from : IsOf (part contests chosen) q u
  pub to : IsOf contests (chosen_at chosen q) (there contests chosen u)
  pub nth : there contests chosen u
      ≡ first_target contests (chosen_at chosen q) + (u - first_target (part contests chosen) q)

pub there_of : (contests : List Contest) (chosen : List ℕ) (q u : ℕ) → IsPart contests chosen
    → IsOf (part contests chosen) q u → IsThere contests chosen q u
there_of contests chosen q u is a =
    let q_in : q < length chosen = omega (arith, a.contest, part_long contests chosen) in
    let c_in : chosen_at chosen q < length contests = is.within q 0 q_in in
    let as_many : (contest_at (part contests chosen) q).targets ≡ (contest_at contests (chosen_at chosen q)).targets = ap (λ (x : Contest). x.targets) (part_contest contests chosen q q_in) in
    let nth : there contests chosen u ≡ first_target contests (chosen_at chosen q) + (u - first_target (part contests chosen) q) =
    ap (λ (e : ℕ). first_target contests (chosen_at chosen e) + (u - first_target (part contests chosen) e)) (contest_is (part contests chosen) q u a) in
    record {
      number = q_in;
      within = c_in;
      from = a;
      to = subst (IsOf contests (chosen_at chosen q)) (sym nth) (nth_is_of contests (chosen_at chosen q) (u - first_target (part contests chosen) q) c_in (omega (arith, as_many, a.from, a.to, first_next (part contests chosen) q a.contest)));
      nth = nth;
    }

pub there_at : (contests : List Contest) (chosen : List ℕ) (u : ℕ) → IsPart contests chosen
    → u < target_count (part contests chosen)
    → IsThere contests chosen (contest_of (part contests chosen) u) u
there_at contests chosen u is lt = there_of contests chosen (contest_of (part contests chosen) u) u is (is_of (part contests chosen) u lt)

pub there_in : (contests : List Contest) (chosen : List ℕ) (u : ℕ) → IsPart contests chosen
    → u < target_count (part contests chosen) → there contests chosen u < target_count contests
there_in contests chosen u is lt = let t = there_at contests chosen u is lt in omega (arith, t.to.to, first_le contests (chosen_at chosen (contest_of (part contests chosen) u) + 1))

place_there : (contests : List Contest) (chosen : List ℕ) (u : ℕ) → IsPart contests chosen
    → u < target_count (part contests chosen)
    → place chosen (contest_of contests (there contests chosen u))
    ≡ contest_of (part contests chosen) u
place_there contests chosen u is lt =
    let t = there_at contests chosen u is lt in
    let q = contest_of (part contests chosen) u in
    let c = chosen_at chosen q in
    let inside = stands chosen c q t.number refl in
    ap (place chosen) (contest_is contests c (there contests chosen u) t.to) ∙ chosen_once chosen is.rising (place chosen c) q inside t.number (found chosen c inside)

-- a target of the part is chosen
pub there_chosen : (contests : List Contest) (chosen : List ℕ) (u : ℕ) → IsPart contests chosen
    → u < target_count (part contests chosen)
    → is_chosen contests chosen (there contests chosen u) ≡ true
there_chosen contests chosen u is lt =
    let e = place_there contests chosen u is lt in
    let t = (there_at contests chosen u is lt).number in
    ap (λ (p : ℕ). nat_lt p (length chosen)) e ∙ grind (arith, nat_tests, t)

-- and is found again
pub here_there : (contests : List Contest) (chosen : List ℕ) (u : ℕ) → IsPart contests chosen
    → u < target_count (part contests chosen) → here contests chosen (there contests chosen u) ≡ u
here_there contests chosen u is lt =
    let t = there_at contests chosen u is lt in
    let q = contest_of (part contests chosen) u in
    let c = chosen_at chosen q in
    let of : contest_of contests (there contests chosen u) ≡ c = contest_is contests c (there contests chosen u) t.to in
    (λ i. first_target (part contests chosen) (place_there contests chosen u is lt i) + (there contests chosen u - first_target contests (of i))) ∙ omega (arith, t.nth, t.from.from)

-- a chosen target is of the part
pub here_of : (contests : List Contest) (chosen : List ℕ) (w : ℕ) → IsPart contests chosen
    → w < target_count contests → is_chosen contests chosen w ≡ true
    → IsOf (part contests chosen) (place chosen (contest_of contests w)) (here contests chosen w)
here_of contests chosen w is lt picked =
    let q = place chosen (contest_of contests w) in
    let q_in : q < length chosen = grind (arith, nat_tests, picked) in
    let a = is_of contests w lt in
    let of : chosen_at chosen q ≡ contest_of contests w = found chosen (contest_of contests w) q_in in
    let as_many : (contest_at (part contests chosen) q).targets ≡ (contest_at contests (contest_of contests w)).targets = ap (λ (x : Contest). x.targets) (part_contest contests chosen q q_in ∙ ap (contest_at contests) of) in
    nth_is_of (part contests chosen) q (w - first_target contests (contest_of contests w)) (omega (arith, q_in, part_long contests chosen)) (omega (arith, as_many, a.from, a.to, first_next contests (contest_of contests w) a.contest))

pub here_in : (contests : List Contest) (chosen : List ℕ) (w : ℕ) → IsPart contests chosen
    → w < target_count contests → is_chosen contests chosen w ≡ true
    → here contests chosen w < target_count (part contests chosen)
here_in contests chosen w is lt picked = omega (arith, (here_of contests chosen w is lt picked).to, first_le (part contests chosen) (place chosen (contest_of contests w) + 1))

pub there_here : (contests : List Contest) (chosen : List ℕ) (w : ℕ) → IsPart contests chosen
    → w < target_count contests → is_chosen contests chosen w ≡ true
    → there contests chosen (here contests chosen w) ≡ w
there_here contests chosen w is lt picked =
    let q = place chosen (contest_of contests w) in
    let q_in : q < length chosen = grind (arith, nat_tests, picked) in
    let of : chosen_at chosen q ≡ contest_of contests w = found chosen (contest_of contests w) q_in in
    (there_of contests chosen q (here contests chosen w) is (here_of contests chosen w is lt picked)).nth ∙ omega (arith, ap (first_target contests) of, (is_of contests w lt).from)
