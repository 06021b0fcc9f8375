-- What a read of a record leaves.
use Rattle.std.proofs.Common.{◌≡◌, ◌≢◌, ℕ, true, false, List, [], ◌∷◌, Option, Some, None, IsSome, unwrap_or, is_some, length, subst, refl, ap, sym, ◌∙◌}
use Rattle.csv.specs.Machine.{Read, ends_at_end}
use Rattle.csv.specs.Reading.{Reached, ReadRecord, TookRecord, ReadsNext, NextIs, ExplainsRead, default_config, source_of, strip_bom}
use Rattle.csv.specs.declared.reader.Reader.{Reader}
use Rattle.csv.specs.declared.parser.State.{State}
use Rattle.csv.specs.declared.parser.State.TheVariants as st
use Rattle.csv.specs.declared.record.Position.{Position}
use Rattle.csv.specs.declared.error.ErrorKind.{ErrorKind}
use Rattle.csv.specs.declared.error.ErrorKind.TheVariants as kind
use Rattle.csv.proofs.ReadFacts.{rows-more, rows-end}
use Rattle.deck_text.specs.Left.{left_of}
use Rattle.deck_text.specs.Rows.{file_records}
use Rattle.deck_text.proofs.CsvSteps.{one_more, none_left}

there : (o : Option (List ℕ)) → IsSome o → o ≡ Some (unwrap_or o [])
there None h = cc
there (Some x) h = refl

-- the records that a reader has left
abbrev pub reader_left : {R : Type 0} → (R → Option (List ℕ)) → Reader R → List (List (List ℕ))
reader_left rem a = left_of a.state (unwrap_or (source_of rem a) [])

-- a reader that has just read a record has the others left
pub record ReadOne {R : Type 0} (rem : R → Option (List ℕ)) (a b : Reader R) (fields : List (List ℕ)) : Type 0 where
  pub first : reader_left rem a ≡ fields ∷ reader_left rem b
  pub ended : ends_at_end b.state ≡ false
  pub source : IsSome (source_of rem b)

pub read_one : {R : Type 0} (rem : R → Option (List ℕ)) (a b : Reader R) (fields : List (List ℕ))
    → a.config ≡ default_config → IsSome (source_of rem a)
    → ends_at_end a.state ≡ false → ReadRecord rem a b true fields → ReadOne rem a b fields
unfolding Reached
read_one rem a b fields config some between r =
    let y = unwrap_or (source_of rem a) [] in
    let (z, at_z, reached) = rows-more rem a b fields default_config a.state y y [] config (there _ some) (refl, refl) r in
    let (p, e, same, left) = reached in
    let m = one_more a.state y p between e in
    record {
      first = m.0 ∙ (λ i. sym same i ∷ left_of (left.0 i) (left.1 i)) ∙ ap (λ (o : Option (List ℕ)). fields ∷ left_of b.state (unwrap_or o [])) (sym at_z);
      ended = ap ends_at_end (sym left.0) ∙ m.1;
      source = ap is_some at_z;
    }

-- a reader that finds no record has none left
pub read_end : {R : Type 0} (rem : R → Option (List ℕ)) (a b : Reader R) (fields : List (List ℕ))
    → a.config ≡ default_config → IsSome (source_of rem a)
    → ReadRecord rem a b false fields → reader_left rem a ≡ []
read_end rem a b fields config some r = none_left a.state _ (rows-end rem a b fields default_config _ config (there _ some) r)

next_is : (o : Option Read) (f : List (List ℕ)) (s : State) (z : List ℕ) → NextIs o true f s z
    → (p : Read) × (o ≡ Some p) × (f ≡ p.0)
next_is None f s z n = cc n
next_is (Some p) f s z n = (p, refl, n.1)

took_next : (s : State) (y : List ℕ) (k : Option (List ℕ)) (f : List (List ℕ)) (t : State)
    → ends_at_end s ≡ false → ReadsNext default_config s (Some y) k true f t
    → (rest : List (List (List ℕ))) × (left_of s y ≡ f ∷ rest)
took_next s y None f t between r = absurd r
took_next s y (Some z) f t between r =
    let (p, e, same) = next_is _ f t z r in
    let m = one_more s y p between e in
    (left_of p.1 p.2, m.0 ∙ ap (λ (g : List (List ℕ)). g ∷ left_of p.1 p.2) (sym same))

-- a record that was taken was the first of those left
pub took_one : {R : Type 0} (rem : R → Option (List ℕ)) (a b : Reader R) (fields : List (List ℕ))
    → a.config ≡ default_config → IsSome (source_of rem a)
    → ends_at_end a.state ≡ false → TookRecord rem a b fields
    → (rest : List (List (List ℕ))) × (reader_left rem a ≡ fields ∷ rest)
took_one rem a b fields config some between r = took_next a.state _ _ fields b.state between (rw (config, there _ some) at r)

-- a read that is refused for the record's length, where three fields were expected
pub other_length : {R : Type 0} (rem : R → Option (List ℕ)) (a b : Reader R) (why : ErrorKind)
    (pos : Option Position) (expected len : ℕ)
    → a.config ≡ default_config → IsSome (source_of rem a) → ends_at_end a.state ≡ false
    → a.expected ≡ Some 3 → why ≡ kind.UnequalLengths pos expected len
    → ExplainsRead rem a b false why
    → (fields : List (List ℕ)) × (rest : List (List (List ℕ))) × (reader_left rem a ≡ fields ∷ rest)
    × (length fields ≢ 3)
other_length rem a b why pos expected len config some between three is explained =
    let (strict, wanted, other, fields, took, long) = subst (λ (k : ErrorKind). ExplainsRead rem a b false k) is explained in
    let (rest, first) = took_one rem a b fields config some between took in
    let same : ◌≡◌ {A = Option ℕ} (Some 3) (Some expected) = sym three ∙ wanted in
    let number : 3 ≡ expected = cc same in
    (fields, rest, first, λ e. other (sym number ∙ sym e ∙ long))

-- all records of a file are those that a reader of it has left
pub file_left : {R : Type 0} (rem : R → Option (List ℕ)) (a : Reader R) (bytes : List ℕ)
    → a.state ≡ st.StartRecord → source_of rem a ≡ Some (strip_bom bytes)
    → file_records bytes ≡ reader_left rem a
file_left rem a bytes start source = λ i. left_of (sym start i) (unwrap_or (sym source i) [])
