-- A file that begins with eight bytes of its kind and ends with its last field is read exactly.
use Rattle.std.proofs.Common.{◌≡◌, ℕ, true, cond, eqb, List, [], ◌++◌, length, take, drop, Option, Some, None, Result, Err, refl, sym, ap, subst, ◌∙◌, append_assoc}
use Rattle.std.specs.Str.{bytes_eq}
use Rattle.std.proofs.lemmas.Bool.{eqb-true}
use Rattle.std.proofs.lemmas.List.{append-nil, nil_from_length, take-append-drop, take_at, drop_at}
use Rattle.std.proofs.lemmas.Option.{none-some}
use Rattle.cert_fields.specs.declared.fault.CertFault.{CertFault}
use Rattle.cert_fields.specs.declared.fault.CertFault.TheVariants.{NotACertificate}
use Rattle.cert_fields.specs.Exact.{Exact}
use Rattle.cert_fields.specs.Reading.{◌>>=◌, Gives}
use Rattle.cert_fields.proofs.Exact.{step, one_spelling}
use Rattle.cert_fields.proofs.Heads.{guard_then, is_same, is_true}
use Rattle.cert_format.specs.Reading.{magic_at, file_at}

module _ {V : Type 0} (magic : List ℕ) (parts : List ℕ → Option (V × List ℕ)) (F : V → Type 0) (t : V → List ℕ) (x : Exact parts F t) (eight : length magic ≡ 8) where
  pub whole_takes : (bytes : List ℕ) (v : V) → file_at magic parts bytes ≡ Some v
      → F v × (bytes ≡ magic ++ t v)
  unfolding file_at
  whole_takes bytes v e =
      let a = step (magic_at magic bytes) (λ rest. parts rest >>= λ x. cond (eqb (length x.1) 0) (Some x.0) None) v e in
      let m = guard_then (bytes_eq (take 8 bytes) magic) (drop 8 bytes) a.0 a.1 in
      let b = step (parts a.0) (λ x. cond (eqb (length x.1) 0) (Some x.0) None) v a.2 in
      let g = guard_then (eqb (length b.0.1) 0) b.0.0 v b.2 in
      let h = x.takes a.0 b.0.0 b.0.1 b.1 in
      let none : b.0.1 ≡ [] = nil_from_length b.0.1 (eqb-true _ _ g.0) in
      let front : bytes ≡ magic ++ a.0 = sym (take-append-drop 8 bytes) ∙ ap (λ (r : List ℕ). r ++ drop 8 bytes) (is_same _ _ m.0) ∙ ap (λ (r : List ℕ). magic ++ r) m.1 in
      let tail : a.0 ≡ t b.0.0 = h.1 ∙ ap (λ (r : List ℕ). t b.0.0 ++ r) none ∙ append-nil (t b.0.0) in
      subst (λ (w : V). F w × (bytes ≡ magic ++ t w)) g.1 (h.0, front ∙ ap (λ (r : List ℕ). magic ++ r) tail)

  pub whole_again : (v : V) → F v → file_at magic parts (magic ++ t v) ≡ Some v
  unfolding file_at
  whole_again v f =
      let front : take 8 (magic ++ t v) ≡ magic = take_at magic (t v) 8 eight in
      let same : bytes_eq (take 8 (magic ++ t v)) magic ≡ true = is_true _ _ front in
      let tail : drop 8 (magic ++ t v) ≡ t v ++ [] = drop_at magic (t v) 8 eight ∙ sym (append-nil (t v)) in
      rw (same, tail, x.again v [] f) refl

  pub whole_law : (v w : V) (more : List ℕ) → F v → F w → (magic ++ t v) ++ more ≡ magic ++ t w
      → (v ≡ w) × (more ≡ [])
  whole_law v w more f g e =
      let behind : t v ++ more ≡ t w = sym (drop_at magic (t v ++ more) 8 eight) ∙ ap (drop 8) (sym (append_assoc magic (t v) more) ∙ e) ∙ drop_at magic (t w) 8 eight in
      one_spelling x v w more [] f g (behind ∙ sym (append-nil (t w)))

  pub read_refused : {X : Type 0} (view : X → V) (r : Result X CertFault) (bytes : List ℕ)
      → Gives view r (file_at magic parts bytes)
      → r ≡ Err NotACertificate → (v : V) → F v → bytes ≡ magic ++ t v → ⊥
  read_refused {X} view r bytes h e v f s =
      let none : file_at magic parts bytes ≡ None = subst (λ (q : Result X CertFault). Gives view q (file_at magic parts bytes)) e h in
      none-some v (sym none ∙ ap (file_at magic parts) s ∙ whole_again v f)
