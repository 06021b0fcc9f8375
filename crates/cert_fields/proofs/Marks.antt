-- Rows are read exactly.
use Rattle.std.proofs.Common.{◌≡◌, ℕ, zero, suc, ◌+◌, ◌-◌, ◌*◌, ◌/◌, ◌%◌, ◌<◌, ◌≤◌, Bool, true, false, cond, eqb, List, [], ◌∷◌, ◌++◌, length, map, get_or, take, drop, set, Option, Some, refl, sym, ap, subst, ◌∙◌, append_assoc, arith}
use Rattle.std.specs.Int.{bit_at}
use Rattle.std.specs.Str.{bytes_eq}
use Rattle.std.specs.List.{range_with_len, AllByRecursion, flat_map}
use Rattle.std.proofs.lemmas.Option.{same_Some}
use Rattle.std.proofs.lemmas.List.{append-nil, take_all, nil_from_length, length-drop, get_or-set_same, ext_get_or, set-set, set_at, length-take}
use Rattle.std.proofs.Math.Seq.{drop-cons, take-suc}
use Rattle.std.proofs.lemmas.List.FromFn.{map-range_with_len_more, length-map-range_with_len, get_or-map-range_with_len}
use Rattle.std.proofs.lemmas.Slice.Eq.{bytes_eq-Decides}
use Rattle.cert_fields.specs.Reading.{◌>>=◌, bytes_at, made_at, tested_at, many_at}
use Rattle.cert_fields.specs.Exact.{Exact}
use Rattle.cert_fields.proofs.Exact.{step, bytes_exact, tested_exact, many_exact}
use Rattle.cert_fields.specs.Rows.{worth, byte_text, row_size, row_text, is_bit, marks_of, row_at, rows_at, IsDeckOf, deck_text}
use Rattle.lat_ballots.specs.Deck.{Ballots}
use Rattle.std.proofs.Common.{Err}
use Rattle.cert_fields.specs.Reading.{Gives}
use Rattle.cert_fields.specs.declared.fault.CertFault.{CertFault}
use Rattle.cert_fields.specs.declared.fault.CertFault.TheVariants.{NotACertificate, Memory}

few : (v : List Bool) (t : ℕ) → worth v t ≤ 1
few v t = by_mark (get_or v t false)
  where
    by_mark : (b : Bool) → cond b 1 0 ≤ 1
    by_mark true = omega arith
    by_mark false = omega arith

one : (v : List Bool) (t n : ℕ) → n ≡ worth v t → eqb n 1 ≡ get_or v t false
one v t n e = ap (λ (m : ℕ). eqb m 1) e ∙ by_mark (get_or v t false)
  where
    by_mark : (b : Bool) → eqb (cond b 1 0) 1 ≡ b
    by_mark true = refl
    by_mark false = refl

module _ (v : List Bool) (s : ℕ) where
  abbrev byte : ℕ
  byte = byte_text v s

  bit_is : (r : ℕ) → r < 8 → eqb (bit_at byte (7 - r)) 1 ≡ get_or v (s + r) false
  bit_is zero h = let z : s + 0 ≡ s = omega arith in rw z (one v s (bit_at byte 7) (omega (arith, few v s, few v (s + 1), few v (s + 2), few v (s + 3), few v (s + 4), few v (s + 5), few v (s + 6), few v (s + 7))))
  bit_is (suc zero) h = one v (s + 1) (bit_at byte 6) (omega (arith, few v s, few v (s + 1), few v (s + 2), few v (s + 3), few v (s + 4), few v (s + 5), few v (s + 6), few v (s + 7)))
  bit_is (suc (suc zero)) h = one v (s + 2) (bit_at byte 5) (omega (arith, few v s, few v (s + 1), few v (s + 2), few v (s + 3), few v (s + 4), few v (s + 5), few v (s + 6), few v (s + 7)))
  bit_is (suc (suc (suc zero))) h = one v (s + 3) (bit_at byte 4) (omega (arith, few v s, few v (s + 1), few v (s + 2), few v (s + 3), few v (s + 4), few v (s + 5), few v (s + 6), few v (s + 7)))
  bit_is (suc (suc (suc (suc zero)))) h = one v (s + 4) (bit_at byte 3) (omega (arith, few v s, few v (s + 1), few v (s + 2), few v (s + 3), few v (s + 4), few v (s + 5), few v (s + 6), few v (s + 7)))
  bit_is (suc (suc (suc (suc (suc zero))))) h = one v (s + 5) (bit_at byte 2) (omega (arith, few v s, few v (s + 1), few v (s + 2), few v (s + 3), few v (s + 4), few v (s + 5), few v (s + 6), few v (s + 7)))
  bit_is (suc (suc (suc (suc (suc (suc zero)))))) h = one v (s + 6) (bit_at byte 1) (omega (arith, few v s, few v (s + 1), few v (s + 2), few v (s + 3), few v (s + 4), few v (s + 5), few v (s + 6), few v (s + 7)))
  bit_is (suc (suc (suc (suc (suc (suc (suc zero))))))) h = one v (s + 7) (bit_at byte 0) (omega (arith, few v s, few v (s + 1), few v (s + 2), few v (s + 3), few v (s + 4), few v (s + 5), few v (s + 6), few v (s + 7)))
  bit_is (suc (suc (suc (suc (suc (suc (suc (suc r)))))))) h = absurd (omega arith)

pub row_long : (v : List Bool) → length (row_text v) ≡ row_size (length v)
row_long v = length-map-range_with_len (λ i. byte_text v (8 * i)) 0 (row_size (length v))

-- the marks of a ballot's row are the ballot's
pub marks_back : (v : List Bool) → marks_of (length v) (row_text v) ≡ v
marks_back v = ext_get_or false (marks_of (length v) (row_text v)) v (length-map-range_with_len (is_bit (row_text v)) 0 (length v)) each
  where
    at_place : (t : ℕ) → t < length v → is_bit (row_text v) t ≡ get_or v t false
    at_place t h =
        let place : t / 8 < row_size (length v) = omega arith in
        let byte : get_or (row_text v) (t / 8) 0 ≡ byte_text v (8 * (t / 8)) = get_or-map-range_with_len (λ i. byte_text v (8 * i)) 0 (row_size (length v)) (t / 8) (t / 8) 0 place (omega arith) in
        let parts : 8 * (t / 8) + t % 8 ≡ t = omega arith in
        ap (λ (b : ℕ). eqb (bit_at b (7 - t % 8)) 1) byte ∙ bit_is v (8 * (t / 8)) (t % 8) (omega arith) ∙ ap (λ (i : ℕ). get_or v i false) parts

    each : (t : ℕ) → t < length (marks_of (length v) (row_text v))
        → get_or (marks_of (length v) (row_text v)) t false ≡ get_or v t false
    each t h =
        let lt : t < length v = subst (λ (n : ℕ). t < n) (length-map-range_with_len (is_bit (row_text v)) 0 (length v)) h in
        get_or-map-range_with_len (is_bit (row_text v)) 0 (length v) t t false lt (omega arith) ∙ at_place t lt

same_bytes : (xs ys : List ℕ) → bytes_eq xs ys ≡ true → xs ≡ ys
same_bytes xs ys e = grind (arith, bytes_eq-Decides)

pub same_true : (xs ys : List ℕ) → xs ≡ ys → bytes_eq xs ys ≡ true
same_true xs ys e = grind (arith, bytes_eq-Decides)

abbrev is_written : ℕ → List ℕ → Bool
is_written targets b = bytes_eq (row_text (marks_of targets b)) b

pub row_exact : (targets : ℕ) → Exact (row_at targets) (λ v. length v ≡ targets) row_text
unfolding row_at
row_exact targets = record {
  takes = λ bytes v rest e.
      let p = step (tested_at (is_written targets) (bytes_at (row_size targets)) bytes) (λ b. Some (marks_of targets b.0, b.1)) (v, rest) e in
      let h = read.takes bytes p.0.0 p.0.1 p.1 in
      let text : row_text (marks_of targets p.0.0) ≡ p.0.0 = same_bytes _ _ h.0.1 in
      subst (λ (w : List Bool × List ℕ). (length w.0 ≡ targets) × (bytes ≡ row_text w.0 ++ w.1)) (same_Some (marks_of targets p.0.0, p.0.1) (v, rest) p.2)
      (length-map-range_with_len (is_bit p.0.0) 0 targets, h.1 ∙ ap (λ (r : List ℕ). r ++ p.0.1) (sym text));
  again = λ v rest fits.
      let long : length (row_text v) ≡ row_size targets = row_long v ∙ ap row_size fits in
      let marks : marks_of targets (row_text v) ≡ v = ap (λ (n : ℕ). marks_of n (row_text v)) (sym fits) ∙ marks_back v in
      let written : is_written targets (row_text v) ≡ true = same_true _ _ (ap row_text marks) in
      ap (λ (o : Option (List ℕ × List ℕ)). o >>= λ b. Some (marks_of targets b.0, b.1)) (read.again (row_text v) rest (long, written))
      ∙ ap (λ (m : List Bool). Some (m, rest)) marks;
}
  where
    read : Exact (tested_at (is_written targets) (bytes_at (row_size targets)))
        (λ b. (length b ≡ row_size targets) × (is_written targets b ≡ true)) (λ b. b)
    read = tested_exact (is_written targets) (bytes_at (row_size targets)) (λ b. length b ≡ row_size targets) (λ b. b) (bytes_exact (row_size targets))

-- one more mark set, from the left
pub set_mark_more : (marks old : List Bool) (t : ℕ) → t < length marks → length old ≡ length marks
    → set (take t marks ++ drop t old) t (get_or marks t false) ≡ take (t + 1) marks
    ++ drop (t + 1) old
set_mark_more marks old t h e =
    let l : t < length old = omega arith in
    let long : length (take t marks) ≡ t = omega (arith, length-take t marks) in
    let next : t + 1 ≡ suc t = omega arith in
    ap (λ (r : List Bool). set (take t marks ++ r) t (get_or marks t false)) (drop-cons old t false l)
    ∙ set_at (take t marks) (get_or old t false) (drop (suc t) old) (get_or marks t false) t long
    ∙ rw (next, take-suc marks t false h) (sym (append_assoc (take t marks) (get_or marks t false ∷ []) (drop (suc t) old)))

-- the marks set so far, in the deck
pub deck_mark_more : (ballots : List (List Bool)) (j : ℕ) (marks old : List Bool) (t : ℕ)
    → j < length ballots → t < length marks → length old ≡ length marks
    → set (set ballots j (take t marks ++ drop t old)) j
    (set (get_or (set ballots j (take t marks ++ drop t old)) j []) t (get_or marks t false))
    ≡ set ballots j (take (t + 1) marks ++ drop (t + 1) old)
deck_mark_more ballots j marks old t within h e =
    set-set ballots j (take t marks ++ drop t old) _
    ∙ ap (λ (r : List Bool). set ballots j (set r t (get_or marks t false))) (get_or-set_same ballots j (take t marks ++ drop t old) [] within)
    ∙ ap (set ballots j) (set_mark_more marks old t h e)

-- all marks set
pub set_mark_all : (marks old : List Bool) (t : ℕ) → length marks ≤ t → length old ≤ t
    → take t marks ++ drop t old ≡ marks
set_mark_all marks old t h e =
    let none : drop t old ≡ [] = nil_from_length (drop t old) (omega (arith, length-drop t old)) in
    rw (take_all t marks h, none) (append-nil marks)

pub row_byte : (v : List Bool) (i : ℕ) → i < row_size (length v)
    → get_or (row_text v) i 0 ≡ byte_text v (8 * i)
row_byte v i h = get_or-map-range_with_len (λ i. byte_text v (8 * i)) 0 (row_size (length v)) i i 0 h (omega arith)

-- bytes that are each the row's are the row
pub row_from_bytes : (v : List Bool) (bytes : List ℕ) → length bytes ≡ row_size (length v)
    → ((k : ℕ) → k < length bytes → byte_text v (8 * k) ≡ get_or bytes k 0) → row_text v ≡ bytes
row_from_bytes v bytes long each =
    ext_get_or 0 (row_text v) bytes (row_long v ∙ sym long) (λ i h.
    let lt : i < row_size (length v) = subst (λ (n : ℕ). i < n) (row_long v) h in
    row_byte v i lt ∙ each i (omega arith))

-- one more byte of a row
pub bytes_more : (front bytes : List ℕ) (v : List Bool) (i : ℕ)
    → bytes ≡ front ++ map (λ k. byte_text v (8 * k)) (range_with_len 0 i)
    → bytes ++ byte_text v (8 * i) ∷ [] ≡ front
    ++ map (λ k. byte_text v (8 * k)) (range_with_len 0 (i + 1))
bytes_more front bytes v i e =
    rw (e, map-range_with_len_more (λ k. byte_text v (8 * k)) 0 i i (omega arith)) (append_assoc front (map (λ k. byte_text v (8 * k)) (range_with_len 0 i)) (byte_text v (8 * i) ∷ []))

abbrev pub deck_at : ℕ → ℕ → List ℕ → Option (Ballots × List ℕ)
deck_at targets k = made_at (λ ballots. record { targets = targets; ballots = ballots }) (rows_at targets k)

pub deck_exact : (targets k : ℕ) → Exact (deck_at targets k) (IsDeckOf targets k) deck_text
deck_exact targets k = record {
  takes = λ bytes v rest e.
      let p = step (rows_at targets k bytes) (λ b. Some (record { targets = targets; ballots = b.0 }, b.1)) (v, rest) e in
      let h = rows.takes bytes p.0.0 p.0.1 p.1 in
      subst (λ (w : Ballots × List ℕ). IsDeckOf targets k w.0 × (bytes ≡ deck_text w.0 ++ w.1)) (same_Some (record { targets = targets; ballots = p.0.0 }, p.0.1) (v, rest) p.2)
      (record { width = refl; ballots = record { count = h.0.0; each = h.0.1 } }, h.1);
  again = λ v rest fits.
      ap (λ (o : Option (List (List Bool) × List ℕ)). o >>= λ b. Some (record { targets = targets; ballots = b.0 }, b.1)) (rows.again v.ballots rest (fits.ballots.count, fits.ballots.each))
      ∙ ap (λ (t : ℕ). Some (record { targets = t; ballots = v.ballots }, rest)) (sym fits.width);
}
  where
    rows : Exact (many_at (row_at targets) k)
        (λ vs. (length vs ≡ k) × AllByRecursion (λ v. length v ≡ targets) vs) (flat_map row_text)
    rows = many_exact (row_at targets) (λ v. length v ≡ targets) row_text (row_exact targets) k

-- the deck, by its ballots and its number of targets
pub deck_read : (targets k : ℕ) (bytes : List ℕ) (deck : Ballots) (rest : List ℕ)
    → rows_at targets k bytes ≡ Some (deck.ballots, rest) → deck.targets ≡ targets
    → deck_at targets k bytes ≡ Some (deck, rest)
deck_read targets k bytes deck rest e t =
    ap (λ (o : Option (List (List Bool) × List ℕ)). o >>= λ b. Some (record { targets = targets; ballots = b.0 }, b.1)) e
    ∙ ap (λ (n : ℕ). Some (record { targets = n; ballots = deck.ballots }, rest)) (sym t)

pub deck_fault : {X : Type 0} (targets k : ℕ) (bytes : List ℕ)
    (view : X → List (List Bool) × List ℕ) (views : X → Ballots × List ℕ) (e : CertFault)
    → Gives view (Err e) (rows_at targets k bytes) → Gives views (Err e) (deck_at targets k bytes)
deck_fault targets k bytes view views NotACertificate h = rw h refl
deck_fault targets k bytes view views Memory h = tt
