use Rattle.std.proofs.Common.{ℕ, List, sym, subst}
use Rattle.std.specs.Prelude.{IsUtf8}
use Rattle.lat_top.proofs.IdText.{id_is_text}
use Rattle.lat_top.proofs.all_style.id_text.Goals as goal

pub unreachable-requires : goal.unreachable-requires
unreachable-requires c =
    let text = id_is_text c.args.id.now c.as_bytes.ensures.id in
    absurd (c.in-Err.ensures.cases.0
    (subst (λ (bytes : List ℕ). IsUtf8 bytes) (sym c.as_bytes.ensures.bytes) text))
