-- What tests show.
use Rattle.std.proofs.Common.{◌≡◌, ◌+◌, ◌<◌, ◌&&◌, ◌||◌, ℕ, Bool, true, false, ap, sym, ◌∙◌, arith}
use Rattle.std.specs.List.{list_all, range_with_len}
use Rattle.std.proofs.lemmas.List.FromFn.{get_or-range_with_len, length-range_with_len}
use Rattle.std.proofs.lemmas.List.Sums.{AllPass-from_list_all, list_all-from_AllPass}

pub not_second : (a b : Bool) → (a && b) ≡ false → a ≡ true → b ≡ false
not_second true b h e = h
not_second false b h e = cc

pub second : (a b : Bool) → a || b ≡ true → a ≡ false → b ≡ true
second true b h e = cc
second false b h e = h

-- a test that all numbers of a range pass, at one of them
pub at_number : (test : ℕ → Bool) (a n i : ℕ) → list_all test (range_with_len a n) ≡ true → i < n
    → test (a + i) ≡ true
at_number test a n i all lt = ap test (sym (get_or-range_with_len a n i 0 lt)) ∙ AllPass-from_list_all test (range_with_len a n) all i 0 (omega (arith, lt, length-range_with_len a n))

-- and a test that each number of a range passes
pub each_number : (test : ℕ → Bool) (a n : ℕ) → ((i : ℕ) → i < n → test (a + i) ≡ true)
    → list_all test (range_with_len a n) ≡ true
each_number test a n h =
    list_all-from_AllPass test (range_with_len a n) (λ i d lt. let i_in : i < n = omega (arith, lt, length-range_with_len a n) in ap test (get_or-range_with_len a n i d i_in) ∙ h i i_in)
