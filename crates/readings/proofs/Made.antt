-- Misassignments that a function makes.
use Rattle.std.proofs.Common.{◌≡◌, ◌<◌, ℕ, length, get_or, ap, sym, ◌∙◌, arith, All}
use Rattle.std.specs.Prelude.{◌==◌}
use Rattle.std.specs.List.{range_with_len}
use Rattle.std.proofs.lemmas.List.FromFn.{get_or-range_with_len, length-range_with_len, get_or-map-range_with_len, length-map-range_with_len}
use Rattle.std.proofs.lemmas.Bool.Decides.{nat_tests}
use Rattle.lat_base.specs.Misassignment.{IsMisassignment, identity}
use Rattle.readings.specs.Turn.{made, IsTurn, exchange}
use Rattle.lemmas.proofs.Counting.{count_alike, count_map}
use Rattle.lemmas.proofs.Ranges.{one_in}

-- the source of u
pub made_at : (n : ℕ) (f : ℕ → ℕ) (u : ℕ) → u < n → get_or (made n f) u 0 ≡ f u
made_at n f u h = get_or-map-range_with_len f 0 n u u 0 h (omega arith)

-- how many sources there are
pub made_long : (n : ℕ) (f : ℕ → ℕ) → length (made n f) ≡ n
made_long n f = length-map-range_with_len f 0 n

-- a function that goes through the numbers below n makes a misassignment
pub made_is : (n : ℕ) (f g : ℕ → ℕ) → IsTurn n f g → IsMisassignment n (made n f)
made_is n f g turn = record {
  long = made_long n f;
  once = λ t lt. count_map f (λ (x : ℕ). x == t) (range_with_len 0 n) ∙ (count_alike (λ (x : ℕ). f x == t) (λ (x : ℕ). x == g t) (range_with_len 0 n) (alike t lt) ∙ one_in 0 n (g t) (omega arith) (omega (arith, turn.back_within t lt)));
}
  where
    same_test : (t x : ℕ) → t < n → x < n → (f x == t) ≡ (x == g t)
    same_test t x lt k =
        let to : f x ≡ t → x ≡ g t = λ e. sym (turn.back x k) ∙ ap g e in
        let from : x ≡ g t → f x ≡ t = λ e. ap f e ∙ turn.forth t lt in
        grind (arith, nat_tests, to, from)

    alike : (t : ℕ) → t < n → All (λ (x : ℕ). (f x == t) ≡ (x == g t)) (range_with_len 0 n)
    alike t lt k d h =
        let inside : k < n = omega (arith, h, length-range_with_len 0 n) in
        let at : get_or (range_with_len 0 n) k d ≡ k = get_or-range_with_len 0 n k d inside ∙ omega arith in
        same_test t (get_or (range_with_len 0 n) k d) lt (omega (arith, at, inside))

-- each target is its own source in the identity
pub identity_at : (n u : ℕ) → u < n → get_or (identity n) u 0 ≡ u
identity_at n u h = get_or-range_with_len 0 n u 0 h ∙ omega arith

-- an exchange of two targets goes through all of them
pub exchange_turn : (n t u : ℕ) → t < n → u < n → IsTurn n (exchange t u) (exchange t u)
exchange_turn n t u h k = record {
  within = λ v l. grind (arith, nat_tests, h, k, l);
  back_within = λ v l. grind (arith, nat_tests, h, k, l);
  back = λ v l. grind (arith, nat_tests);
  forth = λ v l. grind (arith, nat_tests);
}
