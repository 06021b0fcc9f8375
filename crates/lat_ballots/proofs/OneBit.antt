-- The bits of a row, read and set.
use Rattle.std.proofs.Common.{◌≡◌, ◌≢◌, ◌<◌, ◌/◌, ◌%◌, ◌^◌, ◌*◌, ◌-◌, ℕ, Bool, true, false, List, length, get_or, set, nat_eq, bit_and, bit_or, w64, sym, ap, ◌∙◌, arith, inl, inr, subst}
use Rattle.std.specs.Int.{bit_at}
use Rattle.std.proofs.lemmas.Bool.{cases_eq}
use Rattle.std.proofs.lemmas.Nat.Bits.{shr_and_one, bit_at_set_same, bit_at_set_other, bit_at_clear_same, bit_at_clear_other}
use Rattle.std.proofs.lemmas.List.{ext_get_or, get_or-set_same, get_or-set_other}
use Rattle.std.proofs.lemmas.List.FromFn.{get_or-map-range_with_len, length-map-range_with_len}
use Rattle.std.proofs.Math.ListN.{length-set}
use Rattle.lat_ballots.specs.Row.{is_set, bits_of}

pub length-bits_of : (words : List ℕ) → length (bits_of words) ≡ 256
length-bits_of words = length-map-range_with_len (is_set words) 0 256

pub get_or-bits_of : (words : List ℕ) (t : ℕ) → t < 256
    → get_or (bits_of words) t false ≡ is_set words t
get_or-bits_of words t h = get_or-map-range_with_len (is_set words) 0 256 t t false h (omega arith)

-- the test `(word >> place) & 1` reads a bit
pub bit_read : (words : List ℕ) (t q : ℕ) → t < 256 → q ≡ t / 64
    → nat_eq (bit_and (get_or words q 0 / 2 ^ (t % 64)) 1) 1 ≡ get_or (bits_of words) t false
bit_read words t q h e =
    ap (λ b. nat_eq b 1) (shr_and_one (get_or words q 0) (t % 64))
    ∙ ap (λ p. nat_eq (bit_at (get_or words p 0) (t % 64)) 1) e
    ∙ sym (get_or-bits_of words t h)

-- another bit of the same word, or a bit of another word, is as it was
is_set-set_other : (words : List ℕ) (t q w i : ℕ) → q ≡ t / 64 → q < length words → i ≢ t
    → ((k : ℕ) → k < 64 → k ≢ t % 64 → bit_at w k ≡ bit_at (get_or words q 0) k)
    → is_set (set words q w) i ≡ is_set words i
is_set-set_other words t q w i e within other same = elim (cases_eq (i / 64) q) [
  | inl here ↦
      ap (λ p. nat_eq (bit_at (get_or (set words q w) p 0) (i % 64)) 1) here
      ∙ ap (λ x. nat_eq (bit_at x (i % 64)) 1) (get_or-set_same words q w 0 within)
      ∙ ap (λ b. nat_eq b 1) (same (i % 64) (omega arith) (λ k. other (omega arith)))
      ∙ ap (λ p. nat_eq (bit_at (get_or words p 0) (i % 64)) 1) (sym here)
  | inr there ↦ ap (λ x. nat_eq (bit_at x (i % 64)) 1) (get_or-set_other words q (i / 64) w 0 there)
]

-- a word with one bit changed is a row with one bit changed
pub bits_of-set : (words : List ℕ) (t q w : ℕ) (on : Bool) → t < 256 → q ≡ t / 64 → q < length words
    → nat_eq (bit_at w (t % 64)) 1 ≡ on
    → ((k : ℕ) → k < 64 → k ≢ t % 64 → bit_at w k ≡ bit_at (get_or words q 0) k)
    → bits_of (set words q w) ≡ set (bits_of words) t on
bits_of-set words t q w on h e within is same =
    let long : length (bits_of (set words q w)) ≡ 256 = length-bits_of (set words q w) in
    ext_get_or false (bits_of (set words q w)) (set (bits_of words) t on)
    (long ∙ sym (length-set (bits_of words) t on ∙ length-bits_of words))
    (λ i below. let low : i < 256 = subst (λ (n : ℕ). i < n) long below in
    get_or-bits_of (set words q w) i low ∙ (elim (cases_eq i t) [
      | inl here ↦
          ap (λ (j : ℕ). is_set (set words q w) j) here
          ∙ ap (λ p. nat_eq (bit_at (get_or (set words q w) p 0) (t % 64)) 1) (sym e)
          ∙ ap (λ x. nat_eq (bit_at x (t % 64)) 1) (get_or-set_same words q w 0 within)
          ∙ is ∙ sym (ap (λ (j : ℕ). get_or (set (bits_of words) t on) j false) here ∙ get_or-set_same (bits_of words) t on false (subst (λ (n : ℕ). t < n) (sym (length-bits_of words)) h))
      | inr there ↦
          is_set-set_other words t q w i e within there same ∙ sym (get_or-bits_of words i low) ∙ sym (get_or-set_other (bits_of words) t i on false there)
    ]))

-- setting a bit marks its target
pub bits_of-or : (words : List ℕ) (t q : ℕ) (on : Bool) → t < 256 → q ≡ t / 64 → q < length words
    → on ≡ true
    → bits_of (set words q (bit_or (get_or words q 0) (1 * 2 ^ (t % 64) % 2 ^ 64)))
    ≡ set (bits_of words) t on
bits_of-or words t q on h e within is =
    let x = get_or words q 0 in
    let place : t % 64 < 64 = omega arith in
    bits_of-set words t q (bit_or x (1 * 2 ^ (t % 64) % 2 ^ 64)) on h e within
    (ap (λ b. nat_eq b 1) (bit_at_set_same w64 x (t % 64) place) ∙ sym is)
    (λ k low other. bit_at_set_other w64 x (t % 64) place k other)

-- clearing a bit takes its mark away
pub bits_of-and : (words : List ℕ) (t q : ℕ) (on : Bool) → t < 256 → q ≡ t / 64 → q < length words
    → on ≡ false
    → bits_of (set words q (bit_and (get_or words q 0) (2 ^ 64 - 1 - 1 * 2 ^ (t % 64) % 2 ^ 64)))
    ≡ set (bits_of words) t on
bits_of-and words t q on h e within is =
    let x = get_or words q 0 in
    let place : t % 64 < 64 = omega arith in
    bits_of-set words t q (bit_and x (2 ^ 64 - 1 - 1 * 2 ^ (t % 64) % 2 ^ 64)) on h e within
    (ap (λ b. nat_eq b 1) (bit_at_clear_same w64 x (t % 64) place) ∙ sym is)
    (λ k low other. bit_at_clear_other w64 x (t % 64) place k low other)
