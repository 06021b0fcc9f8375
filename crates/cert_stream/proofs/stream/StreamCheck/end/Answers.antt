use Rattle.std.proofs.Common.{◌≡◌, ap, sym, subst, length, ℕ, List, [], Err}
use Rattle.std.proofs.lemmas.List.{nil_from_length}
use Rattle.std.proofs.lemmas.Result.{err_from_is_err_and}
use Rattle.cert_fields.specs.declared.fault.CertFault.{CertFault}
use Rattle.cert_fields.specs.declared.fault.CertFault.TheVariants.{NotACertificate}
use Rattle.cert_stream.specs.Stands.{Held, StandsAt, StandsFor}
use Rattle.cert_stream.proofs.Ends.{none_is, ends_done}
use Rattle.cert_stream.proofs.stream.StreamCheck.end.Goals as goal

pub returns-in_err-phase-clause-refused : goal.returns-in_err-phase-clause-refused
returns-in_err-phase-clause-refused c h bytes stands =
    let p = err_from_is_err_and c.from_residual.result c.from_residual.ensures.1 in
    let e : c.in_err-phase.field-0.0 ≡ NotACertificate = cc in
    let s = subst (λ (x : Held). StandsFor x bytes) (sym c.self.view_is) stands in
    let here : StandsAt c.self.inside.phase c.deref.result.now bytes = subst (λ (held : List ℕ). StandsAt c.self.inside.phase held bytes) (sym c.deref.ensures.value) s.stands in
    none_is bytes (c.in_err-phase.ensures.refused (ap (λ (f : CertFault). Err f) e) bytes here)

pub ended-requires : goal.ended-requires
ended-requires c =
    let d = ends_done c.in_ok-phase.phase (length c.in_ok-phase._rest.now) c.in_ok-phase.ensures.waits in
    (d.0, d.1, d.2)

pub returns-clause-found : goal.returns-clause-found
returns-clause-found c bytes stands =
    let s = subst (λ (x : Held). StandsFor x bytes) (sym c.self.view_is) stands in
    let here : StandsAt c.self.inside.phase c.deref.result.now bytes = subst (λ (held : List ℕ). StandsAt c.self.inside.phase held bytes) (sym c.deref.ensures.value) s.stands in
    let d = ends_done c.in_ok-phase.phase (length c.in_ok-phase._rest.now) c.in_ok-phase.ensures.waits in
    let none : c.in_ok-phase._rest.now ≡ [] = nil_from_length c.in_ok-phase._rest.now d.3 in
    c.ended.ensures bytes (subst (λ (held : List ℕ). StandsAt c.in_ok-phase.phase held bytes) none (c.in_ok-phase.ensures.moves bytes here))
