use Rattle.std.proofs.Common.{Bor, List, ℕ, Some, ◌∙◌, sym, ap, subst, refl, inl}
use Rattle.csv.specs.Records.{fields_of}
use Rattle.deck_text.specs.Left.{IsOpen, left_in}
use Rattle.deck_text.proofs.ReaderSteps.{read_one, read_end, other_length}
use Rattle.deck_text.proofs.records.Records.next.Goals as goal

pub invariant_of-self : goal.invariant_of-self
invariant_of-self c =
    let (config, trim, flexible, first, expected, ended, source) = subst IsOpen (sym c.deref_mut.ensures.value) c.self.invariant in
    let r = rw c.in-Ok-true.field-0-test at (c.in-Ok-true.ensures.reads trim (inl first)) in
    let one = read_one (λ (s : Bor (List ℕ)). Some s.now) c.deref_mut.result.now c.read_byte_record.new.self (fields_of c.read_byte_record.new.row) config source ended r in
    let lengths = rw expected at (r.5 refl flexible) in
    (r.2 ∙ config, r.3 ∙ trim, c.in-Ok-true.ensures.flexible ∙ flexible, c.in-Ok-true.ensures.ready trim, lengths.0, one.ended, one.source)

pub returns-in-Ok-true-clause-found : goal.returns-in-Ok-true-clause-found
returns-in-Ok-true-clause-found c =
    let (config, trim, flexible, first, expected, ended, source) = subst IsOpen (sym c.deref_mut.ensures.value) c.self.invariant in
    let r = rw c.in-Ok-true.field-0-test at (c.in-Ok-true.ensures.reads trim (inl first)) in
    let one = read_one (λ (s : Bor (List ℕ)). Some s.now) c.deref_mut.result.now c.read_byte_record.new.self (fields_of c.read_byte_record.new.row) config source ended r in
    let lengths = rw expected at (r.5 refl flexible) in
    let same = sym lengths.1 ∙ lengths.0 in
    (sym c.self.view_is ∙ ap left_in (sym c.deref_mut.ensures.value) ∙ one.first, cc same)

pub returns-in-Ok-false-clause-found : goal.returns-in-Ok-false-clause-found
returns-in-Ok-false-clause-found c =
    let (config, trim, flexible, first, expected, ended, source) = subst IsOpen (sym c.deref_mut.ensures.value) c.self.invariant in
    let r = rw c.in-Ok-false.field-0-test at (c.in-Ok-false.ensures.reads trim (inl first)) in
    sym c.self.view_is ∙ ap left_in (sym c.deref_mut.ensures.value) ∙ read_end (λ (s : Bor (List ℕ)). Some s.now) c.deref_mut.result.now c.read_byte_record.new.self (fields_of c.read_byte_record.new.row) config source r

pub returns-in-UnequalLengths-clause-other : goal.returns-in-UnequalLengths-clause-other
returns-in-UnequalLengths-clause-other c memory =
    let (config, trim, flexible, first, expected, ended, source) = subst IsOpen (sym c.deref_mut.ensures.value) c.self.invariant in
    let (fields, rest, left, length) = other_length (λ (s : Bor (List ℕ)). Some s.now) c.deref_mut.result.now c.read_byte_record.new.self _ c.in-UnequalLengths.pos c.in-UnequalLengths.expected_len c.in-UnequalLengths.len
    config source ended expected (sym c.kind.ensures ∙ c.in-UnequalLengths.is) (c.in-Err.ensures.why (inl first)) in
    (refl, fields, rest, sym c.self.view_is ∙ ap left_in (sym c.deref_mut.ensures.value) ∙ left, length)
