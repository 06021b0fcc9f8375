-- Bits that two rows have in common.
use Rattle.std.proofs.Common.{◌≡◌, ◌<◌, ◌≤◌, ◌+◌, ◌-◌, ◌*◌, ◌/◌, ◌%◌, ◌^◌, ◌&&◌, ℕ, zero, suc, Bool, false, List, length, get_or, take, map, cond, min, nat_eq, bit_and, count_by, count_ones, refl, ap, sym, subst, ◌∙◌, arith}
use Rattle.std.specs.List.{range_with_len}
use Rattle.std.specs.Int.{bit_at}
use Rattle.std.specs.Simd.Lanes.{mask_l}
use Rattle.std.proofs.lemmas.Nat.Bits.{bit_at_and, bit_at-lt, same_from_bits_below}
use Rattle.std.proofs.lemmas.Simd.{mask_l-lt, bit_mask_l, ones-mask_l}
use Rattle.std.proofs.lemmas.List.{get_or-take, length-take-le}
use Rattle.std.proofs.lemmas.Nat.{and_le_l}
use Rattle.std.proofs.lemmas.List.FromFn.{get_or-map-range_with_len, length-map-range_with_len, length-range_with_len}
use Rattle.std.proofs.lemmas.List.Sums.{count_by-le-length}
use Rattle.std.proofs.Math.Bool.{and-false}
use Rattle.lemmas.proofs.Ranges.{count_more, count_same}
use Rattle.lemmas.proofs.Counting.{none_pass}
use Rattle.lat_ballots.specs.Row.{bits_of, is_common, common_count}
use Rattle.lat_ballots.specs.Deck.{AreRows}
use Rattle.lat_ballots.proofs.OneBit.{get_or-bits_of, length-bits_of}
use Rattle.lat_ballots.proofs.Slices.{as_bit}

-- a number of 64 bits has as many ones as places whose bit is 1
word_ones : (x : ℕ) → x < 2 ^ 64
    → count_ones x ≡ count_by (λ k. nat_eq (bit_at x k) 1) (range_with_len 0 64)
word_ones x lt =
    let bits : List Bool = map (λ k. nat_eq (bit_at x k) 1) (range_with_len 0 64) in
    let same : x ≡ mask_l (map (λ k. nat_eq (bit_at x k) 1) (range_with_len 0 64)) =
    same_from_bits_below 64 x (mask_l bits) lt
    (subst (λ (n : ℕ). mask_l bits < 2 ^ n) (length-map-range_with_len (λ k. nat_eq (bit_at x k) 1) 0 64) (mask_l-lt bits))
    (λ i h. sym (bit_mask_l bits i
    ∙ ap {B = ℕ} (λ (b : Bool). cond b 1 0) (get_or-map-range_with_len (λ k. nat_eq (bit_at x k) 1) 0 64 i i false h (omega arith))
    ∙ as_bit (bit_at x i) (bit_at-lt x i))) in
    ap count_ones same ∙ ones-mask_l (λ k. nat_eq (bit_at x k) 1) (range_with_len 0 64)

-- a range is a first part and what follows it
range_parts : (p : ℕ → Bool) (m n : ℕ)
    → count_by p (range_with_len 0 (m + n))
    ≡ count_by p (range_with_len 0 m) + count_by (λ k. p (m + k)) (range_with_len 0 n)
range_parts p m zero =
    let none : count_by (λ k. p (m + k)) (range_with_len 0 zero) ≡ 0 = refl in
    let same : m + zero ≡ m = omega arith in
    omega (arith, none, ap (λ (k : ℕ). count_by p (range_with_len 0 k)) same)
range_parts p m (suc n) =
    let one : m + suc n ≡ m + n + 1 = omega arith in
    let last : suc n ≡ n + 1 = omega arith in
    let more = ap (λ (k : ℕ). count_by (λ k. p (m + k)) (range_with_len 0 k)) last ∙ count_more (λ k. p (m + k)) n in
    omega (arith, ap (λ (k : ℕ). count_by p (range_with_len 0 k)) one, count_more p (m + n), range_parts p m n, more)

-- a bit of the common part
both_bits : (a b : ℕ) → a < 2 → b < 2 → nat_eq (min a b) 1 ≡ (nat_eq a 1 && nat_eq b 1)
both_bits zero zero la lb = refl
both_bits zero (suc zero) la lb = refl
both_bits zero (suc (suc b)) la lb = absurd (omega arith)
both_bits (suc zero) zero la lb = refl
both_bits (suc zero) (suc zero) la lb = refl
both_bits (suc zero) (suc (suc b)) la lb = absurd (omega arith)
both_bits (suc (suc a)) b la lb = absurd (omega arith)

-- the common places of the first words
abbrev pub common_below : List ℕ → List ℕ → ℕ → ℕ
common_below words others n = count_by (is_common (bits_of words) (bits_of others)) (range_with_len 0 n)

both_small : (w v : ℕ) → w < 2 ^ 64 → bit_and w v < 2 ^ 64
both_small w v lt = omega (arith, and_le_l w v)

-- a word has no more than 64 ones
pub word_few : (w v : ℕ) → w < 2 ^ 64 → count_ones (bit_and w v) ≤ 64
word_few w v lt =
    omega (arith, word_ones (bit_and w v) (both_small w v lt), count_by-le-length (λ k. nat_eq (bit_at (bit_and w v) k) 1) (range_with_len 0 64), length-range_with_len 0 64)

-- one more word of each row
pub word_more : (words others : List ℕ) (i : ℕ) → i < 4 → get_or words i 0 < 2 ^ 64
    → common_below words others (64 * (i + 1))
    ≡ common_below words others (64 * i) + count_ones
    (bit_and (get_or words i 0) (get_or others i 0))
word_more words others i lt fits =
    let small = both_small (get_or words i 0) (get_or others i 0) fits in
    let w : ℕ = get_or words i 0 in
    let v : ℕ = get_or others i 0 in
    let next : 64 * (i + 1) ≡ 64 * i + 64 = omega arith in
    let both = is_common (bits_of words) (bits_of others) in
    let each = count_same (λ k. both (64 * i + k)) (λ k. nat_eq (bit_at (bit_and w v) k) 1) 64
    (λ k below.
    let at : (64 * i + k) / 64 ≡ i = omega arith in
    let place : (64 * i + k) % 64 ≡ k = omega arith in
    let bit : (xs : List ℕ) → get_or (bits_of xs) (64 * i + k) false ≡ nat_eq (bit_at (get_or xs i 0) k) 1 =
    λ xs. get_or-bits_of xs (64 * i + k) (omega arith) ∙ (λ j. nat_eq (bit_at (get_or xs (at j) 0) (place j)) 1) in
    (λ j. bit words j && bit others j)
    ∙ sym (ap (λ (b : ℕ). nat_eq b 1) (bit_at_and w v k) ∙ both_bits (bit_at w k) (bit_at v k) (bit_at-lt w k) (bit_at-lt v k))) in
    ap (λ (n : ℕ). count_by both (range_with_len 0 n)) next ∙ range_parts both (64 * i) 64
    ∙ ap (λ (n : ℕ). count_by both (range_with_len 0 (64 * i)) + n) (each ∙ sym (word_ones (bit_and w v) small))

-- after the last word those are all
pub word_last : (words others : List ℕ) (i : ℕ) → i ≡ 4
    → common_below words others (64 * i) ≡ common_count (bits_of words) (bits_of others)
word_last words others i e = let all : 64 * i ≡ length (bits_of words) = omega (arith, length-bits_of words) in ap (common_below words others) all

-- where the other row has nothing past n, the common part is that of the first n places
pub common_within : (row other : List Bool) (n : ℕ) → n ≤ length row
    → ((t : ℕ) → n ≤ t → get_or other t false ≡ false)
    → common_count row other ≡ common_count (take n row) other
common_within row other n le none =
    let both = is_common row other in
    let rest : ℕ = length row - n in
    let parts : n + rest ≡ length row = omega arith in
    let no_more = count_same (λ k. both (n + k)) (λ k. false) rest (λ k lt. ap (λ (b : Bool). get_or row (n + k) false && b) (none (n + k) (omega arith)) ∙ and-false (get_or row (n + k) false)) in
    let front = count_same both (is_common (take n row) other) n (λ k lt. ap (λ (b : Bool). b && get_or other k false) (sym (get_or-take n row k false lt))) in
    let long = ap (λ (k : ℕ). count_by (is_common (take n row) other) (range_with_len 0 k)) (length-take-le n row le) in
    omega (arith, ap (λ (k : ℕ). count_by both (range_with_len 0 k)) parts, range_parts both n rest, no_more, none_pass (range_with_len 0 rest), front, long)

-- no more places are common than there are
pub common_few : (row other : List Bool) → common_count row other ≤ length row
common_few row other = omega (arith, count_by-le-length (is_common row other) (range_with_len 0 (length row)), length-range_with_len 0 (length row))

-- a ballot is the front of its row
pub common_ballot : (targets : ℕ) (rows : List (List Bool)) (j : ℕ) (row other ballot : List Bool)
    → AreRows targets rows → j < length rows → row ≡ get_or rows j row
    → take targets row ≡ ballot → ((t : ℕ) → targets ≤ t → get_or other t false ≡ false)
    → (common_count row other ≡ common_count ballot other) × (common_count row other ≤ targets)
common_ballot targets rows j row other ballot are lt is front none =
    let long : targets ≤ length row = omega (arith, ap length is, are.long j row lt, are.few_targets) in
    let within = common_within row other targets long none in
    (within ∙ ap (λ (b : List Bool). common_count b other) front, omega (arith, within, common_few (take targets row) other, length-take-le targets row long))
