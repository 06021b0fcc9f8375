use Rattle.std.proofs.Common.{◌≡◌, Some, ℕ, List}
use Rattle.std.specs.Borrow.{Bor}
use Rattle.lat_base.specs.Shape.{target_count}
use Rattle.lat_ballots.specs.Deck.{Ballots}
use Rattle.cert_fields.proofs.Exact.{begins, begins_err, no_longer}
use Rattle.cert_fields.specs.Rows.{IsDeckOf, deck_text}
use Rattle.cert_fields.proofs.Marks.{deck_at, deck_exact, deck_read, deck_fault}
use Rattle.cert_fields.proofs.row_reader.take_rows.Goals as goal
use Rattle.cert_fields.proofs.row_reader.take_rows.Goals.{In-Ok}

read : (c : In-Ok) → deck_at (target_count c.args.shape.now) c.args.k c.args.bytes.now
    ≡ Some (c.in-Ok.deck, c.in-Ok.rest.now)
read c = deck_read (target_count c.args.shape.now) c.args.k c.args.bytes.now c.in-Ok.deck c.in-Ok.rest.now c.in-Ok.ensures.read c.in-Ok.ensures.targets

pub overflow_sub-result : goal.overflow_sub-result
overflow_sub-result c = no_longer (deck_exact (target_count c.args.shape.now) c.args.k) c.args.bytes.now c.in-Ok.deck c.in-Ok.rest.now (read c)

pub returns-in-Ok : goal.returns-in-Ok
returns-in-Ok c = begins (deck_exact (target_count c.args.shape.now) c.args.k) c.args.bytes.now c.in-Ok.deck c.in-Ok.rest.now (read (goal.at.returns-in-Ok c).In-Ok)

pub returns-in-Err : goal.returns-in-Err
returns-in-Err c =
    let T = target_count c.args.shape.now in
    begins_err (λ (x : Ballots × Bor (List ℕ)). (x.0, x.1.now)) (deck_at T c.args.k) (IsDeckOf T c.args.k) deck_text (deck_exact T c.args.k) c.args.bytes.now c.in-Err.fault
    (deck_fault T c.args.k c.args.bytes.now (λ (x : Ballots × Bor (List ℕ)). (x.0.ballots, x.1.now)) (λ (x : Ballots × Bor (List ℕ)). (x.0, x.1.now)) c.in-Err.fault c.in-Err.ensures.read)
