-- The records that are left after one more is read.
use Rattle.std.proofs.Common.{◌≡◌, ◌≤◌, ◌<◌, ◌+◌, ◌-◌, ◌++◌, ◌==◌, ◌&&◌, ℕ, zero, suc, Bool, true, false, cond, List, [], ◌∷◌, length, Option, Some, None, refl, ap, sym, ◌∙◌, arith}
use Rattle.std.proofs.lemmas.Bool.{both_ways}
use Rattle.csv.specs.Machine.{Read, next_record, step, in_field, start_field, start_record, after_end, ends_with, ends_at_end, is_end, fields_after, field_after}
use Rattle.csv.specs.Reading.{default_config, records_from, records_next}
use Rattle.csv.specs.declared.parser.State.{State}
use Rattle.csv.specs.declared.parser.State.TheVariants as st
use Rattle.csv.specs.declared.parser.Terminator.TheVariants as term
use Rattle.csv.specs.declared.parser.Action.{Action}
use Rattle.csv.specs.declared.parser.Action.TheVariants as act
use Rattle.deck_text.specs.Left.{left_of}

-- a step that ends a record leaves no record begun
abbrev Ends : State × Action → Type 0
Ends r = is_end r.1 ≡ true → ends_at_end r.0 ≡ false

either : (b : Bool) (x y : State × Action) → Ends x → Ends y → Ends (cond b x y)
either true x y hx hy = hx
either false x y hx hy = hy

-- a step that ends no record
goes_on : (s : State) (a : Action) → is_end a ≡ false → Ends (s, a)
goes_on s a h e = absurd (both_ways (is_end a) h e)

not_begun : (b : Bool) → ends_at_end (cond b st.AfterCr st.StartRecord) ≡ false
not_begun true = refl
not_begun false = refl

field_ends : (c : ℕ) → Ends (in_field default_config c)
field_ends c =
    either (c == 44) (st.StartField, act.EndField) (cond (ends_with term.CRLF c) (after_end term.CRLF c, act.EndRecord) (st.InField, act.Copy))
    (goes_on st.StartField act.EndField refl)
    (either (ends_with term.CRLF c) (after_end term.CRLF c, act.EndRecord) (st.InField, act.Copy) (λ e. not_begun (c == 13)) (goes_on st.InField act.Copy refl))

start_ends : (c : ℕ) → Ends (start_field default_config c)
start_ends c = either (true && (c == 34)) (st.InQuoted, act.Skip) (in_field default_config c) (goes_on st.InQuoted act.Skip refl) (field_ends c)

record_ends : (c : ℕ) → Ends (start_record default_config c)
record_ends c = either (ends_with term.CRLF c) (st.StartRecord, act.Skip) (start_field default_config c) (goes_on st.StartRecord act.Skip refl) (start_ends c)

step_ends : (s : State) (c : ℕ) → Ends (step default_config s c)
step_ends st.StartRecord c = record_ends c
step_ends st.StartField c = start_ends c
step_ends st.InField c = field_ends c
step_ends st.InQuoted c =
    either (true && (c == 34)) (st.AfterQuote, act.Skip) (st.InQuoted, act.Copy) (goes_on st.AfterQuote act.Skip refl) (goes_on st.InQuoted act.Copy refl)
step_ends st.InEscape c = goes_on st.InQuoted act.Copy refl
step_ends st.AfterQuote c =
    either (true && true && (c == 34)) (st.InQuoted, act.Copy) (in_field default_config c) (goes_on st.InQuoted act.Copy refl) (field_ends c)
step_ends st.InComment c =
    either (c == 10) (st.StartRecord, act.Skip) (st.InComment, act.Skip) (goes_on st.StartRecord act.Skip refl) (goes_on st.InComment act.Skip refl)
step_ends st.AfterCr c = either (c == 10) (st.StartRecord, act.Skip) (start_record default_config c) (goes_on st.StartRecord act.Skip refl) (record_ends c)

-- where a record is read of some bytes, none is begun after it, and fewer bytes are left
pub record Leaves (bytes : List ℕ) (p : Read) : Type 0 where
  pub ended : ends_at_end p.1 ≡ false
  pub fewer : length p.2 ≤ length bytes - 1

-- what one byte does to what the rest leaves
one_leaves : (b : Bool) (x p : Read) (more : Option Read) (c : ℕ) (rest : List ℕ)
    → cond b (Some x) more ≡ Some p
    → (b ≡ true → ends_at_end x.1 ≡ false) → x.2 ≡ rest → (more ≡ Some p → Leaves rest p)
    → Leaves (c ∷ rest) p
one_leaves true x p more c rest h ends e after =
    let is : x ≡ p = cc in
    record { ended = ap (λ (q : Read). ends_at_end q.1) (sym is) ∙ ends refl; fewer = omega (arith, ap length e, ap (λ (q : Read). length q.2) is) }
one_leaves false x p more c rest h ends e after =
    let l = after h in
    record { ended = l.ended; fewer = omega (arith, l.fewer) }

none_leaves : (b : Bool) (x p : Read) → cond b (Some x) None ≡ Some p → x.1 ≡ st.StartRecord
    → x.2 ≡ [] → Leaves [] p
none_leaves true x p h s e =
    let is : x ≡ p = cc in
    record { ended = ap (λ (q : Read). ends_at_end q.1) (sym is) ∙ ap ends_at_end s; fewer = omega (arith, ap length e, ap (λ (q : Read). length q.2) is) }
none_leaves false x p h s e = cc

leaves : (s : State) (fields : List (List ℕ)) (field bytes : List ℕ) (p : Read)
    → next_record default_config s fields field bytes ≡ Some p → Leaves bytes p
unfolding next_record
leaves s fields field [] p h = none_leaves (ends_at_end s) (fields ++ (field ∷ []), st.StartRecord, []) p h refl refl
leaves s fields field (c ∷ rest) p h =
    let a = (step default_config s c).1 in
    let t = (step default_config s c).0 in
    one_leaves (is_end a) (fields_after a fields field, t, rest) p (next_record default_config t (fields_after a fields field) (field_after a c field) rest) c rest h
    (step_ends s c) refl (leaves t (fields_after a fields field) (field_after a c field) rest p)

nothing_left : (b : Bool) (x p : Read) → b ≡ false → ◌≡◌ {A = Option Read} (cond b (Some x) None) (Some p) → ⊥
nothing_left true x p e h = cc
nothing_left false x p e h = cc

-- where none is begun, the bytes are not at their end
some_left : (s : State) (bytes : List ℕ) (p : Read) → ends_at_end s ≡ false
    → next_record default_config s [] [] bytes ≡ Some p → 0 < length bytes
unfolding next_record
some_left s [] p between h = absurd (nothing_left (ends_at_end s) ([] ∷ [], st.StartRecord, []) p between h)
some_left s (c ∷ rest) p between h = omega arith

one_turn : (o : Option Read) (n m : ℕ)
    → ((p : Read) → o ≡ Some p → records_from default_config n p.1 p.2
    ≡ records_from default_config m p.1 p.2)
    → records_next (records_from default_config n) o
    ≡ records_next (records_from default_config m) o
one_turn None n m same = refl
one_turn (Some p) n m same = ap (λ (rows : List (List (List ℕ))). p.0 ∷ rows) (same p refl)

-- enough turns give the same records as more
turns : (n m : ℕ) (s : State) (bytes : List ℕ) → ends_at_end s ≡ false → length bytes < n
    → length bytes < m
    → records_from default_config n s bytes ≡ records_from default_config m s bytes
unfolding records_from
turns zero m s bytes between low high = absurd (omega arith)
turns (suc n) zero s bytes between low high = absurd (omega arith)
turns (suc n) (suc m) s bytes between low high =
    one_turn (next_record default_config s [] [] bytes) n m
    (λ p e.
    let l = leaves s [] [] bytes p e in
    let some = some_left s bytes p between e in
    turns n m p.1 p.2 l.ended (omega (arith, l.fewer, some, low)) (omega (arith, l.fewer, some, high)))

-- a record that is read is the first of those left, and none is begun after it
pub one_more : (s : State) (bytes : List ℕ) (p : Read) → ends_at_end s ≡ false
    → next_record default_config s [] [] bytes ≡ Some p
    → (left_of s bytes ≡ p.0 ∷ left_of p.1 p.2) × (ends_at_end p.1 ≡ false)
unfolding records_from
one_more s bytes p between e =
    let l = leaves s [] [] bytes p e in
    let some = some_left s bytes p between e in
    let next : length bytes + 1 ≡ suc (length bytes) = omega arith in (
      ap (λ (n : ℕ). records_from default_config n s bytes) next
          ∙ ap (records_next (records_from default_config (length bytes))) e
          ∙ ap (λ (rows : List (List (List ℕ))). p.0 ∷ rows) (turns (length bytes) (length p.2 + 1) p.1 p.2 l.ended (omega (arith, l.fewer, some)) (omega arith)),
      l.ended,
    )

-- where no record is read, none is left
pub none_left : (s : State) (bytes : List ℕ) → next_record default_config s [] [] bytes ≡ None
    → left_of s bytes ≡ []
unfolding records_from
none_left s bytes e =
    let next : length bytes + 1 ≡ suc (length bytes) = omega arith in
    ap (λ (n : ℕ). records_from default_config n s bytes) next ∙ ap (records_next (records_from default_config (length bytes))) e
