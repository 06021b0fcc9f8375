use Rattle.std.proofs.Common.{◌≡◌, ◌∙◌, ◌++◌, ◌-◌, ap, sym, subst, refl, length, drop, ℕ, List, Err, arith}
use Rattle.std.proofs.lemmas.Result.{err_from_is_err_and}
use Rattle.cert_fields.specs.declared.fault.CertFault.{CertFault}
use Rattle.cert_fields.specs.declared.fault.CertFault.TheVariants.{NotACertificate}
use Rattle.cert_stream.specs.declared.phase.Phase.{Phase}
use Rattle.cert_stream.specs.Stands.{Held, StandsAt, StandsFor, IsTail}
use Rattle.cert_stream.proofs.Ends.{none_is, stands_piece, rest_is}
use Rattle.cert_stream.proofs.stream.StreamCheck.take_in.Goals as goal

pub returns-in_err-phase-clause-refused : goal.returns-in_err-phase-clause-refused
returns-in_err-phase-clause-refused c h bytes stands more =
    let p = err_from_is_err_and c.from_residual-in_err-phase.result c.from_residual-in_err-phase.ensures.1 in
    let e : c.in_err-phase.field-0.0 ≡ NotACertificate = cc in
    let piece = c.args.piece.now in
    let s = subst (λ (x : Held). StandsFor x bytes) (sym c.self.view_is) stands in
    let all : c.deref.result.now ≡ c.self.inside.buffer.items ++ piece = c.deref.ensures.value ∙ c.in_ok-extend_from_slice.ensures.items in
    let same : c.replace-phase.result ≡ c.self.inside.phase = c.replace-phase.ensures.value in
    let at = stands_piece c.self.inside.phase c.self.inside.buffer.items bytes piece s.stands in
    let here : StandsAt c.replace-phase.result c.deref.result.now (bytes ++ piece) =
    subst (λ (x : Phase). StandsAt x c.deref.result.now (bytes ++ piece)) (sym same) (subst (λ (held : List ℕ). StandsAt c.self.inside.phase held (bytes ++ piece)) (sym all) at) in
    none_is ((bytes ++ piece) ++ more) (c.in_err-phase.ensures.for_good (ap (λ (f : CertFault). Err f) e) refl (bytes ++ piece) here more)

pub returns-clause-ok : goal.returns-clause-ok
returns-clause-ok c bytes stands =
    let piece = c.args.piece.now in
    let s = subst (λ (x : Held). StandsFor x bytes) (sym c.self.view_is) stands in
    let held = c.self.inside.buffer.items in
    let all : c.deref.result.now ≡ held ++ piece = c.deref.ensures.value ∙ c.in_ok-extend_from_slice.ensures.items in
    let same : c.replace-phase.result ≡ c.self.inside.phase = c.replace-phase.ensures.value in
    let at = stands_piece c.self.inside.phase held bytes piece s.stands in
    let here : StandsAt c.replace-phase.result c.deref.result.now (bytes ++ piece) =
    subst (λ (x : Phase). StandsAt x c.deref.result.now (bytes ++ piece)) (sym same) (subst (λ (h : List ℕ). StandsAt c.self.inside.phase h (bytes ++ piece)) (sym all) at) in
    let rest = c.in_ok-phase.rest.now in
    let moved : StandsAt c.in_ok-phase.phase rest (bytes ++ piece) = c.in_ok-phase.ensures.moves (bytes ++ piece) here in
    let t : IsTail (held ++ piece) rest = subst (λ (x : List ℕ). IsTail x rest) all c.in_ok-phase.ensures.tail in
    let left : c.in_ok-rest.rest.items ≡ rest = c.in_ok-rest.ensures.tail ∙ ap (drop (c.len.result - length rest)) c.in_ok-extend_from_slice.ensures.items
    ∙ rest_is (held ++ piece) rest (c.len.result - length rest) t (omega (arith, c.extend_from_slice.new.self.ok.0, ap length c.in_ok-extend_from_slice.ensures.items)) in
    record { fine = s.fine; stands = subst (λ (h : List ℕ). StandsAt c.in_ok-phase.phase h (bytes ++ piece)) (sym left) moved }
