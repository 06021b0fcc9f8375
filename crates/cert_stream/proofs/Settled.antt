-- Fields that are read once their longest spelling would be there.
use Rattle.std.proofs.Common.{◌≡◌, ℕ, ◌≤◌, List, [], ◌++◌, length, take, drop, Option, Some, None, refl, sym, ap, ◌∙◌, append_assoc, arith}
use Rattle.std.proofs.lemmas.List.{append-nil, take_at, take-append-drop, take-append-le}
use Rattle.std.proofs.lemmas.Option.{none-some}
use Rattle.cert_fields.specs.Exact.{Exact}
use Rattle.cert_fields.specs.Reading.{◌>>=◌, Reader}
use Rattle.cert_stream.specs.Left.{Parts, whole_at}
use Rattle.cert_stream.specs.Stands.{Reads}

-- what is read takes at least so many bytes, and is read whatever follows; what is refused though
-- so many bytes are there is refused whatever follows
pub record Settles {V : Type 0} (least most : ℕ) (read : Reader V) : Type 0 where
  pub tail : (bytes : List ℕ) (v : V) (rest : List ℕ) → read bytes ≡ Some (v, rest)
      → (text : List ℕ) × (bytes ≡ text ++ rest) × (least ≤ length text)
  pub more : (bytes : List ℕ) (v : V) (rest more : List ℕ) → read bytes ≡ Some (v, rest)
      → read (bytes ++ more) ≡ Some (v, rest ++ more)
  pub none : (bytes more : List ℕ) → most ≤ length bytes → read bytes ≡ None
      → read (bytes ++ more) ≡ None

-- an exact reader whose spellings are neither shorter nor longer
pub settles : {V : Type 0} (read : Reader V) (F : V → Type 0) (t : V → List ℕ) (least most : ℕ)
    → Exact read F t
    → ((v : V) → F v → (least ≤ length (t v)) × (length (t v) ≤ most)) → Settles least most read
settles {V} read F t least most x sizes = record {
  tail = λ bytes v rest e. let h = x.takes bytes v rest e in (t v, h.1, (sizes v h.0).0);
  more = λ bytes v rest more e.
      let h = x.takes bytes v rest e in
      ap read (ap (λ (r : List ℕ). r ++ more) h.1 ∙ append_assoc (t v) rest more) ∙ x.again v (rest ++ more) h.0;
  none = λ bytes more long e. nothing bytes more long e (read (bytes ++ more)) refl;
}
  where
    nothing : (bytes more : List ℕ) → most ≤ length bytes → read bytes ≡ None
        → (o : Option (V × List ℕ)) → read (bytes ++ more) ≡ o → o ≡ None
    nothing bytes more long e None h = refl
    nothing bytes more long e (Some p) h =
        let f = x.takes (bytes ++ more) p.0 p.1 h in
        let size = (sizes p.0 f.0).1 in
        let few : length (t p.0) ≤ length bytes = omega (arith, size, long) in
        let front : take (length (t p.0)) bytes ≡ t p.0 = sym (take-append-le (length (t p.0)) bytes more few) ∙ ap (take (length (t p.0))) f.1 ∙ take_at (t p.0) p.1 (length (t p.0)) refl in
        let split : bytes ≡ t p.0 ++ drop (length (t p.0)) bytes = sym (take-append-drop (length (t p.0)) bytes) ∙ ap (λ (r : List ℕ). r ++ drop (length (t p.0)) bytes) front in
        absurd (none-some (p.0, drop (length (t p.0)) bytes) (sym e ∙ ap read split ∙ x.again p.0 (drop (length (t p.0)) bytes) f.0))

-- ---- what is read on from the bytes that are held back

-- the same in other words
pub reads_so : (all held : List ℕ) (left other : List ℕ → Option Parts)
    → ((bytes : List ℕ) → left bytes ≡ other bytes) → Reads all held left → Reads all held other
reads_so all held left other same r more = r more ∙ same (held ++ more)

-- a piece more
pub reads_piece : (all held piece : List ℕ) (left : List ℕ → Option Parts) → Reads all held left
    → Reads (all ++ piece) (held ++ piece) left
reads_piece all held piece left r more = ap whole_at (append_assoc all piece more) ∙ r (piece ++ more) ∙ ap left (sym (append_assoc held piece more))

-- all that is held back, where nothing follows
pub reads_held : (all held : List ℕ) (left : List ℕ → Option Parts) → Reads all held left
    → whole_at all ≡ left held
reads_held all held left r = ap whole_at (sym (append-nil all)) ∙ r [] ∙ ap left (append-nil held)

module _ {V : Type 0} (read : Reader V) (next : V → List ℕ → Option Parts) (all held : List ℕ) (r : Reads all held (λ bytes. read bytes >>= λ x. next x.0 x.1)) where
  abbrev goes_on : Option (V × List ℕ) → Option Parts
  goes_on o = o >>= λ x. next x.0 x.1

  -- a field more was read
  pub reads_field : {least most : ℕ} (v : V) (rest : List ℕ) → Settles least most read
      → read held ≡ Some (v, rest) → Reads all rest (next v)
  reads_field v rest s e more = r more ∙ ap goes_on (s.more held v rest more e)

  -- none was
  pub none_held : read held ≡ None → whole_at all ≡ None
  none_held e = reads_held all held (λ bytes. read bytes >>= λ x. next x.0 x.1) r ∙ ap goes_on e

  -- and none will be
  pub none_more : {least most : ℕ} → Settles least most read → most ≤ length held → read held ≡ None
      → (more : List ℕ) → whole_at (all ++ more) ≡ None
  none_more s long e more = r more ∙ ap goes_on (s.none held more long e)
