-- Reading so many fields, as a loop does.
use Rattle.std.proofs.Common.{◌≡◌, ℕ, suc, ◌-◌, ◌+◌, ◌≤◌, ◌<◌, List, [], ◌∷◌, ◌++◌, Option, Some, None, refl, sym, ap, ◌∙◌, append_assoc, arith}
use Rattle.std.proofs.lemmas.List.{append-nil, take_at, take-append-drop}
use Rattle.std.proofs.Common.{take, drop, length}
use Rattle.std.proofs.Common.{◌≢◌, Result, Err}
use Rattle.cert_fields.specs.declared.fault.CertFault.{CertFault}
use Rattle.cert_fields.specs.declared.fault.CertFault.TheVariants.{NotACertificate, Memory}
use Rattle.cert_fields.specs.Reading.{◌>>=◌, Gives, many_at}

-- what was read before, and what is still read
abbrev pub with_front : {A : Type 0} → List A → Option (List A × List ℕ) → Option (List A × List ℕ)
with_front front read = read >>= λ x. Some (front ++ x.0, x.1)

regroup : {A : Type 0} (front : List A) (n : A) (read : Option (List A × List ℕ))
    → with_front front (read >>= λ x. Some (n ∷ x.0, x.1)) ≡ with_front (front ++ n ∷ []) read
regroup {A} front n (Some x) = ap (λ (ns : List A). Some (ns, x.1)) (simp append_assoc)
regroup front n None = refl

module _ {A : Type 0} (field : List ℕ → Option (A × List ℕ)) (front : List A) (count i : ℕ) (bytes : List ℕ) (total : Option (List A × List ℕ)) where
  pub goes_on : (n : A) (after : List ℕ) → i < count → field bytes ≡ Some (n, after)
      → with_front front (many_at field (count - i) bytes) ≡ total
      → with_front (front ++ n ∷ []) (many_at field (count - (i + 1)) after) ≡ total
  goes_on n after lt h so_far =
      let k : count - i ≡ suc (count - (i + 1)) = omega arith in
      let one : with_front front (many_at field (count - i) bytes) ≡ with_front (front ++ n ∷ []) (many_at field (count - (i + 1)) after) = rw (k, h) (regroup front n (many_at field (count - (i + 1)) after)) in
      sym one ∙ so_far

  pub fails : i < count → field bytes ≡ None
      → with_front front (many_at field (count - i) bytes) ≡ total → total ≡ None
  fails lt h so_far =
      let k : count - i ≡ suc (count - (i + 1)) = omega arith in
      let one : with_front front (many_at field (count - i) bytes) ≡ None = rw (k, h) refl in
      sym so_far ∙ one

  pub is_done : count ≤ i → with_front front (many_at field (count - i) bytes) ≡ total
      → total ≡ Some (front, bytes)
  is_done le so_far =
      let k : count - i ≡ 0 = omega arith in
      let one : with_front front (many_at field (count - i) bytes) ≡ Some (front, bytes) = rw k (ap (λ (ns : List A). Some (ns, bytes)) (append-nil front)) in
      sym so_far ∙ one

  -- a loop that stops at a field that isn't there
  pub stops : {X Y : Type 0} (view : X → A × List ℕ) (views : Y → List A × List ℕ) (e : CertFault)
      → i < count → Gives view (Err e) (field bytes)
      → with_front front (many_at field (count - i) bytes) ≡ total → Gives views (Err e) total
  stops view views NotACertificate lt h so_far = fails lt h so_far
  stops view views Memory lt h so_far = tt

-- a reader that takes no memory fails for the bytes alone
pub only_fault : {X Y : Type 0} (view : X → Y) (e : CertFault) (read : Option Y) → Gives view (Err e) read → ◌≢◌ {A = Result X CertFault} (Err e) (Err Memory) → read ≡ None
only_fault view NotACertificate read h n = h
only_fault view Memory read h n = absurd (n refl)

-- what is appended later leaves the front as it is
pub kept_more : (front text mid new : List ℕ) → mid ≡ front ++ text → take (length mid) new ≡ mid
    → take (length front) new ≡ front
kept_more front text mid new e h =
    let parts : new ≡ front ++ (text ++ drop (length mid) new) = sym (take-append-drop (length mid) new) ∙ ap (λ (r : List ℕ). r ++ drop (length mid) new) (h ∙ e) ∙ append_assoc front text (drop (length mid) new) in
    ap (take (length front)) parts ∙ take_at front (text ++ drop (length mid) new) (length front) refl
