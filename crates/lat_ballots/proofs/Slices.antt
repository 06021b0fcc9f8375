-- Bits of a row as one number.
use Rattle.std.proofs.Common.{◌≡◌, ◌<◌, ◌≤◌, ◌+◌, ◌-◌, ◌*◌, ◌/◌, ◌%◌, ◌^◌, ℕ, Bool, false, List, length, get_or, take, drop, cond, min, nat_eq, bit_and, ap, sym, subst, ◌∙◌, arith, length-drop, inl, inr}
use Rattle.std.specs.Prelude.{slice_range}
use Rattle.std.specs.Int.{bit_at}
use Rattle.std.specs.Int.Bits.{mask_lt}
use Rattle.std.specs.Simd.Lanes.{mask_l}
use Rattle.std.proofs.Math.Nat.{div-div-eq-div-mul, one-mul, mod-eq_of_lt}
use Rattle.std.proofs.Math.Pow.{pow-lt}
use Rattle.std.proofs.lemmas.Nat.{pow-add}
use Rattle.std.proofs.lemmas.Nat.Bits.{bit_at_and, bit_at_ones, bit_at-lt, bit_at_cat_low, bit_at_cat_high, same_from_bits_below}
use Rattle.std.proofs.lemmas.Bool.{cases_lt}
use Rattle.std.proofs.lemmas.Bool.Decides.{nat_tests}
use Rattle.std.proofs.lemmas.Simd.{mask_l-lt, bit_mask_l}
use Rattle.std.proofs.lemmas.List.{get_or-take, get_or-drop, length-take-le, drop-take, take-take}
use Rattle.lat_ballots.specs.Row.{bits_of}
use Rattle.lat_ballots.proofs.OneBit.{length-bits_of, get_or-bits_of}

-- a bit after a shift
bit_at_shift : (x s i : ℕ) → bit_at (x / 2 ^ s) i ≡ bit_at x (s + i)
bit_at_shift x s i =
    ap (λ (n : ℕ). n % 2) (div-div-eq-div-mul x (2 ^ s) (2 ^ i)) ∙ ap (λ (n : ℕ). x / n % 2) (sym (pow-add 2 s i))

-- a bit of two words joined
bit_at_joined : (words : List ℕ) (q i : ℕ) → get_or words q 0 < 2 ^ 64 → i < 128
    → bit_at (get_or words (q + 1) 0 * 2 ^ 64 + get_or words q 0) i
    ≡ bit_at (get_or words ((64 * q + i) / 64) 0) ((64 * q + i) % 64)
bit_at_joined words q i low lt = elim (cases_lt i 64) [
  | inl here ↦
      let word : (64 * q + i) / 64 ≡ q = omega arith in
      let place : (64 * q + i) % 64 ≡ i = omega arith in
      bit_at_cat_low (get_or words (q + 1) 0) 64 (get_or words q 0) i here ∙ sym (λ k. bit_at (get_or words (word k) 0) (place k))
  | inr next ↦
      let word : (64 * q + i) / 64 ≡ q + 1 = omega arith in
      let place : (64 * q + i) % 64 ≡ i - 64 = omega arith in
      bit_at_cat_high (get_or words (q + 1) 0) 64 (get_or words q 0) i low next ∙ sym (λ k. bit_at (get_or words (word k) 0) (place k))
]

pub as_bit : (b : ℕ) → b < 2 → cond (nat_eq b 1) 1 0 ≡ b
as_bit b lt = grind (arith, nat_tests)

-- bit i of the slice is bit first + i of the row
bit_at_slice : (words : List ℕ) (first last i : ℕ) → first + i < 256 → i < last - first
    → bit_at (mask_l (slice_range (bits_of words) first last)) i
    ≡ bit_at (get_or words ((first + i) / 64) 0) ((first + i) % 64)
bit_at_slice words first last i lt inside =
    bit_mask_l (slice_range (bits_of words) first last) i
    ∙ ap {B = ℕ} (λ (b : Bool). cond b 1 0) (get_or-take (last - first) (drop first (bits_of words)) i false inside ∙ get_or-drop first (bits_of words) i false ∙ get_or-bits_of words (first + i) lt)
    ∙ as_bit (bit_at (get_or words ((first + i) / 64) 0) ((first + i) % 64)) (bit_at-lt (get_or words ((first + i) / 64) 0) ((first + i) % 64))

below_one : (b m : ℕ) → b < 2 → m ≡ 1 → min b m ≡ b
below_one b m lt e = grind arith

slice_long : (words : List ℕ) (first last : ℕ) → last ≤ 256 → first ≤ last
    → length (slice_range (bits_of words) first last) ≡ last - first
slice_long words first last within le = length-take-le (last - first) (drop first (bits_of words)) (omega (arith, length-drop first (bits_of words), length-bits_of words))

-- the shifted and masked words are the bits of the slice
pub slice_bits : (words : List ℕ) (first last q s joined : ℕ) → first < last → last - first ≤ 64
    → last ≤ 256 → q ≡ first / 64 → s ≡ first % 64
    → joined ≡ get_or words (q + 1) 0 * 2 ^ 64 + get_or words q 0 → get_or words q 0 < 2 ^ 64
    → bit_and (joined / 2 ^ s) (2 ^ (last - first) - 1)
    ≡ mask_l (slice_range (bits_of words) first last)
slice_bits words first last q s joined some few within word place is low =
    let n = last - first in
    let slice = mask_l (slice_range (bits_of words) first last) in
    same_from_bits_below n (bit_and (joined / 2 ^ s) (2 ^ n - 1)) slice (mask_lt (joined / 2 ^ s) n)
    (subst (λ (k : ℕ). slice < 2 ^ k) (slice_long words first last within (omega arith)) (mask_l-lt (slice_range (bits_of words) first last)))
    (λ i lt.
    let at : 64 * q + (s + i) ≡ first + i = omega (arith, word, place) in
    bit_at_and (joined / 2 ^ s) (2 ^ n - 1) i
    ∙ below_one (bit_at (joined / 2 ^ s) i) (bit_at (2 ^ n - 1) i) (bit_at-lt (joined / 2 ^ s) i) (bit_at_ones n i lt)
    ∙ bit_at_shift joined s i ∙ ap (λ (x : ℕ). bit_at x (s + i)) is ∙ bit_at_joined words q (s + i) low (omega (arith, place))
    ∙ ap (λ (t : ℕ). bit_at (get_or words (t / 64) 0) (t % 64)) at
    ∙ sym (bit_at_slice words first last i (omega arith) lt))

pub mask_is : (n : ℕ) → n ≤ 64 → 1 * 2 ^ n % 2 ^ 128 - 1 ≡ 2 ^ n - 1
mask_is n few =
    let small : n < 128 = omega arith in
    let below : 2 ^ n < 2 ^ 128 = pow-lt small in
    ap (λ (m : ℕ). m % 2 ^ 128 - 1) (one-mul (2 ^ n)) ∙ ap (λ (m : ℕ). m - 1) (mod-eq_of_lt below)

-- a slice up to a place within a first part is one of that part
pub slice_taken : (row : List Bool) (targets first last : ℕ) → first < last → last ≤ targets
    → slice_range (take targets row) first last ≡ slice_range row first last
slice_taken row targets first last some le =
    let parts : targets ≡ first + (targets - first) = omega arith in
    ap (λ (n : ℕ). take (last - first) (drop first (take n row))) parts
    ∙ ap (take (last - first)) (drop-take first (targets - first) row) ∙ take-take (last - first) (targets - first) (drop first row) (omega arith)
