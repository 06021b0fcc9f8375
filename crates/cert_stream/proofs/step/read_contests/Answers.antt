use Rattle.std.proofs.Common.{◌≡◌, [], ℕ, List, Vec, Global, length, Some, None, refl, ap, subst, arith, length-append}
use Rattle.std.specs.Borrow.{Bor}
use Rattle.std.specs.Prelude.{Option}
use Rattle.std.proofs.lemmas.Result.{err_from_is_err_and}
use Rattle.cert_fields.specs.declared.fault.CertFault.TheVariants.{NotACertificate}
use Rattle.cert_fields.specs.PartList.{part_at}
use Rattle.cert_fields.proofs.Contests.{given_none}
use Rattle.cert_types.specs.declared.proved.Proved.{Proved}
use Rattle.cert_stream.specs.declared.front.Front.{Front}
use Rattle.cert_stream.specs.Left.{Parts, lower_tree_left}
use Rattle.cert_stream.specs.Phases.{head_of}
use Rattle.cert_stream.specs.Stands.{LowerSoFar}
use Rattle.cert_stream.proofs.Decks.{part_settles, part_is}
use Rattle.cert_stream.proofs.Settled.{reads_field, none_held, none_more}
use Rattle.cert_stream.proofs.step.read_contests.Goals as goal

abbrev view : Vec ℕ Global × Bor (List ℕ) → List ℕ × List ℕ
view x = (x.0.items, x.1.now)

abbrev behind : Front → ℕ → Option Proved → List ℕ → List ℕ → Option Parts
behind front size proved chosen = lower_tree_left (head_of front) front.verdict proved chosen size [] 1

pub returns-in_err-chosen-clause-refused : goal.returns-in_err-chosen-clause-refused
returns-in_err-chosen-clause-refused c h all stands =
    let p = err_from_is_err_and c.from_residual.result c.from_residual.ensures.1 in
    let e : c.in_err-chosen.field-0.0 ≡ NotACertificate = cc in
    let front = c.args.front in
    let held = c.args.bytes.now in
    let read = part_at (length front.shape) in
    let settled = part_settles front.shape c.contests-contests.ensures.shape.few in
    let given = given_none view c.in_err-chosen.field-0.0 (part_at c.contests-contests.result held) c.in_err-chosen.ensures e in
    let none : read held ≡ None = subst (λ (n : ℕ). part_at n held ≡ None) c.contests-contests.ensures.count given in
    (none_held read (behind front c.args.size stands.0) all held stands.3 none, λ long more. none_more read (behind front c.args.size stands.0) all held stands.3 settled long none more)

pub returns-clause-moves : goal.returns-clause-moves
returns-clause-moves c all stands =
    let front = c.args.front in
    let held = c.args.bytes.now in
    let rest = c.in_ok-chosen.rest.now in
    let chosen = c.in_ok-chosen.chosen.items in
    let read = part_at (length front.shape) in
    let settled = part_settles front.shape c.contests-contests.ensures.shape.few in
    let given : read held ≡ Some (chosen, rest) = subst (λ (n : ℕ). part_at n held ≡ Some (chosen, rest)) c.contests-contests.ensures.count c.in_ok-chosen.ensures in (
      stands.0,
      chosen,
      c.args.size,
      [],
      stands.1,
      part_is front.shape held chosen rest given,
      c.requires,
      refl,
      subst (λ (cs : List ℕ). LowerSoFar front.shape front.rules stands.0 cs c.args.size [] c.in_ok-check.check) c.deref.ensures.value (c.in_ok-check.ensures.so_far stands.0 stands.2),
      reads_field read (behind front c.args.size stands.0) all held stands.3 chosen rest settled given,
    )

pub returns-clause-tail : goal.returns-clause-tail
returns-clause-tail c =
    let held = c.args.bytes.now in
    let rest = c.in_ok-chosen.rest.now in
    let chosen = c.in_ok-chosen.chosen.items in
    let settled = part_settles c.args.front.shape c.contests-contests.ensures.shape.few in
    let given : part_at (length c.args.front.shape) held ≡ Some (chosen, rest) = subst (λ (n : ℕ). part_at n held ≡ Some (chosen, rest)) c.contests-contests.ensures.count c.in_ok-chosen.ensures in
    let t = settled.tail held chosen rest given in
    (t.0, t.1)

pub returns-clause-shorter : goal.returns-clause-shorter
returns-clause-shorter c =
    let held = c.args.bytes.now in
    let rest = c.in_ok-chosen.rest.now in
    let chosen = c.in_ok-chosen.chosen.items in
    let settled = part_settles c.args.front.shape c.contests-contests.ensures.shape.few in
    let given : part_at (length c.args.front.shape) held ≡ Some (chosen, rest) = subst (λ (n : ℕ). part_at n held ≡ Some (chosen, rest)) c.contests-contests.ensures.count c.in_ok-chosen.ensures in
    let t = settled.tail held chosen rest given in
    omega (arith, ap length t.1, length-append t.0 rest, t.2)
