use Rattle.std.proofs.Common.{◌≡◌, ℕ, true, false, length, ◌∙◌, subst, List, arith, refl}
use Rattle.std.specs.Prelude.{is_none}
use Rattle.lat_base.specs.Misassignment.{IsMisassignment}
use Rattle.lat_misassign.specs.SourceFault.{source_fault}
use Rattle.cert_fields.specs.TreeReading.{is_count}
use Rattle.cert_fields.proofs.Sources.{sound, faulty_none, sources_read}
use Rattle.cert_fields.proofs.reasons.sources_of.Goals as goal

pub returns-in-Ok : goal.returns-in-Ok
returns-in-Ok c =
    let k : is_count c.in_ok-count.count ≡ true = grind arith in
    let same : c.in-Ok.sources ≡ c.in_ok-sources.sources.items = c.in-Ok.ensures.ok ∙ c.deref.ensures.value in
    let valid : IsMisassignment (length c.in_ok-sources.sources.items) c.in_ok-sources.sources.items = subst (λ (s : List ℕ). IsMisassignment (length s) s) c.deref.ensures.value c.in-Ok.ensures.valid in
    rw same (sources_read c.args.bytes.now c.in_ok-count.count c.in_ok-count.rest.now c.in_ok-sources.sources.items c.in_ok-sources.rest.now true c.in_ok-count.ensures.read k c.in_ok-sources.ensures.read (sound c.in_ok-sources.sources.items valid))

pub returns : goal.returns
returns c =
    let k : is_count c.in_ok-count.count ≡ true = grind arith in
    let fault = (c.in-Err.ensures.fault c.in-Err.fault c.in_default.not-Memory).0 refl in
    let none : is_none (source_fault c.in_ok-sources.sources.items) ≡ false = subst (λ (s : List ℕ). is_none (source_fault s) ≡ false) c.deref.ensures.value (faulty_none c.deref.result.now c.in-Err.fault fault) in
    sources_read c.args.bytes.now c.in_ok-count.count c.in_ok-count.rest.now c.in_ok-sources.sources.items c.in_ok-sources.rest.now false c.in_ok-count.ensures.read k c.in_ok-sources.ensures.read none
