use Rattle.std.proofs.Common.{Bor, List, ℕ, Some, ◌∷◌, [], is_some, ◌∙◌, sym, ap, subst, refl, inr}
use Rattle.csv.specs.Machine.{ends_at_end}
use Rattle.csv.specs.Records.{fields_of}
use Rattle.deck_text.specs.Left.{IsOpen}
use Rattle.deck_text.specs.Rows.{after_header}
use Rattle.deck_text.proofs.Fields.{three_long}
use Rattle.deck_text.proofs.ReaderSteps.{read_one, read_end, file_left}
use Rattle.deck_text.proofs.records.Records.open.Goals as goal

pub invariant_of-result : goal.invariant_of-result
invariant_of-result c =
    let fresh = c.table_reader-reader.ensures in
    let fields = fields_of c.read_byte_record.new.row in
    let r = rw c.in-Ok-true.field-0-test at (c.in-Ok-true.ensures.reads fresh.trim (inr (inr fresh.headers))) in
    let one = read_one (λ (s : Bor (List ℕ)). Some s.now) c.table_reader-reader.result c.read_byte_record.new.self fields fresh.config (ap is_some fresh.source) (ap ends_at_end fresh.state) r in
    let three = three_long fields c.args.first.now c.args.second.now c.args.third.now (sym c.if-is_header.ensures) in
    subst IsOpen (sym c.in-Ok.ensures.ok)
    (r.2 ∙ fresh.config, r.3 ∙ fresh.trim, c.in-Ok-true.ensures.flexible ∙ fresh.flexible, c.in-Ok-true.ensures.ready fresh.trim, (r.5 refl fresh.flexible).1 ∙ ap (λ (n : ℕ). Some n) three, one.ended, one.source)

pub returns-in-Ok : goal.returns-in-Ok
returns-in-Ok c =
    let fresh = c.table_reader-reader.ensures in
    let fields = fields_of c.read_byte_record.new.row in
    let r = rw c.in-Ok-true.field-0-test at (c.in-Ok-true.ensures.reads fresh.trim (inr (inr fresh.headers))) in
    let one = read_one (λ (s : Bor (List ℕ)). Some s.now) c.table_reader-reader.result c.read_byte_record.new.self fields fresh.config (ap is_some fresh.source) (ap ends_at_end fresh.state) r in
    let header = c.args.first.now ∷ c.args.second.now ∷ c.args.third.now ∷ [] in
    ap (after_header header) (file_left (λ (s : Bor (List ℕ)). Some s.now) c.table_reader-reader.result c.args.bytes.now fresh.state fresh.source ∙ one.first)
    ∙ rw (sym c.if-is_header.ensures, c.in-Ok.ensures.ok) refl

pub returns-in-Ok-true : goal.returns-in-Ok-true
returns-in-Ok-true c =
    let fresh = c.table_reader-reader.ensures in
    let fields = fields_of c.read_byte_record.new.row in
    let r = rw c.in-Ok-true.field-0-test at (c.in-Ok-true.ensures.reads fresh.trim (inr (inr fresh.headers))) in
    let one = read_one (λ (s : Bor (List ℕ)). Some s.now) c.table_reader-reader.result c.read_byte_record.new.self fields fresh.config (ap is_some fresh.source) (ap ends_at_end fresh.state) r in
    let header = c.args.first.now ∷ c.args.second.now ∷ c.args.third.now ∷ [] in
    ap (after_header header) (file_left (λ (s : Bor (List ℕ)). Some s.now) c.table_reader-reader.result c.args.bytes.now fresh.state fresh.source ∙ one.first)
    ∙ rw (sym c.if-is_header.ensures) refl

pub returns-in-Ok-false : goal.returns-in-Ok-false
returns-in-Ok-false c =
    let fresh = c.table_reader-reader.ensures in
    let r = rw c.in-Ok-false.field-0-test at (c.in-Ok-false.ensures.reads fresh.trim (inr (inr fresh.headers))) in
    let left = read_end (λ (s : Bor (List ℕ)). Some s.now) c.table_reader-reader.result c.read_byte_record.new.self (fields_of c.read_byte_record.new.row) fresh.config (ap is_some fresh.source) r in
    ap (after_header (c.args.first.now ∷ c.args.second.now ∷ c.args.third.now ∷ []))
    (file_left (λ (s : Bor (List ℕ)). Some s.now) c.table_reader-reader.result c.args.bytes.now fresh.state fresh.source ∙ left)
