-- A ballot as it is read.
use Rattle.std.proofs.Common.{◌≡◌, ◌<◌, ℕ, Bool, false, List, length, get_or, map, ap, sym, ◌∙◌, arith, All}
use Rattle.std.proofs.lemmas.List.{get_or-map, length-map, get_or_default, same_lists}
use Rattle.std.proofs.lemmas.List.FromFn.{get_or-range_with_len, length-range_with_len}
use Rattle.lat_base.specs.Misassignment.{identity}
use Rattle.lat_base.specs.Tally.{is_marked, reading}
use Rattle.readings.specs.Turn.{made}
use Rattle.readings.proofs.Made.{made_long, made_at}

-- the mark of u is that of its source
pub reading_at : (b : List Bool) (s : List ℕ) (u : ℕ) → u < length s
    → is_marked (reading b s) u ≡ is_marked b (get_or s u 0)
reading_at b s u h = get_or-map (λ (t : ℕ). is_marked b t) s u 0 false h

-- a ballot as read has a mark for each source
pub reading_long : (b : List Bool) (s : List ℕ) → length (reading b s) ≡ length s
reading_long b s = length-map s (λ (t : ℕ). is_marked b t)

-- read so that each target has a mark that it had anyway, a ballot is as it was
pub reading_kept : (b : List Bool) (n : ℕ) (s : List ℕ) → length b ≡ n → length s ≡ n
    → ((u : ℕ) → u < n → is_marked b (get_or s u 0) ≡ is_marked b u) → reading b s ≡ b
reading_kept b n s long s_long h = same_lists (reading b s) b (reading_long b s ∙ (s_long ∙ sym long))
    (λ k d lt.
    let inside : k < length s = omega (arith, lt, reading_long b s) in
    get_or_default (reading b s) k d false lt ∙ (reading_at b s k inside ∙ (h k (omega (arith, inside, s_long)) ∙ get_or_default b k false d (omega (arith, inside, s_long, long)))))

-- read under the identity, a ballot is as it was
pub reading_identity : (b : List Bool) (n : ℕ) → length b ≡ n → reading b (identity n) ≡ b
reading_identity b n long = reading_kept b n (identity n) long (length-range_with_len 0 n)
    (λ u h. ap (is_marked b) (get_or-range_with_len 0 n u 0 h ∙ omega arith))

-- a reading of a reading
pub reading_reading : (b : List Bool) (s t : List ℕ) → All (λ u. u < length s) t
    → reading (reading b s) t ≡ reading b (map (λ u. get_or s u 0) t)
reading_reading b s t inside = same_lists (reading (reading b s) t) (reading b (map (λ u. get_or s u 0) t)) (reading_long (reading b s) t ∙ sym (reading_long b (map (λ u. get_or s u 0) t) ∙ length-map t (λ (u : ℕ). get_or s u 0)))
    (λ k d lt.
    let k_in : k < length t = omega (arith, lt, reading_long (reading b s) t) in
    let map_long : length (map (λ u. get_or s u 0) t) ≡ length t = length-map t (λ (u : ℕ). get_or s u 0) in
    let left = get_or_default (reading (reading b s) t) k d false lt ∙ (reading_at (reading b s) t k k_in ∙ reading_at b s (get_or t k 0) (inside k 0 k_in)) in
    let right = get_or_default (reading b (map (λ u. get_or s u 0) t)) k d false (omega (arith, reading_long b (map (λ u. get_or s u 0) t), map_long, k_in))
    ∙ (reading_at b (map (λ u. get_or s u 0) t) k (omega (arith, map_long, k_in)) ∙ ap (is_marked b) (get_or-map (λ (u : ℕ). get_or s u 0) t k 0 0 k_in)) in
    left ∙ sym right)

-- a reading of a reading, both made by functions
pub reading_made : (b : List Bool) (n : ℕ) (f h k : ℕ → ℕ) → ((u : ℕ) → u < n → h u < n)
    → ((u : ℕ) → u < n → f (h u) ≡ k u)
    → reading (reading b (made n f)) (made n h) ≡ reading b (made n k)
reading_made b n f h k within same =
    same_lists (reading (reading b (made n f)) (made n h)) (reading b (made n k)) (left_long ∙ sym right_long)
    (λ u d lt.
    let u_in : u < n = omega (arith, lt, left_long) in
    let h_in = within u u_in in
    get_or_default (reading (reading b (made n f)) (made n h)) u d false lt
    ∙ (reading_at (reading b (made n f)) (made n h) u (omega (arith, u_in, made_long n h))
    ∙ (ap (is_marked (reading b (made n f))) (made_at n h u u_in)
    ∙ (reading_at b (made n f) (h u) (omega (arith, h_in, made_long n f))
    ∙ (ap (is_marked b) (made_at n f (h u) h_in ∙ (same u u_in ∙ sym (made_at n k u u_in)))
    ∙ (sym (reading_at b (made n k) u (omega (arith, u_in, made_long n k)))
    ∙ get_or_default (reading b (made n k)) u false d (omega (arith, u_in, right_long))))))))
  where
    left_long : length (reading (reading b (made n f)) (made n h)) ≡ n
    left_long = reading_long (reading b (made n f)) (made n h) ∙ made_long n h

    right_long : length (reading b (made n k)) ≡ n
    right_long = reading_long b (made n k) ∙ made_long n k
