-- Names that have a spelling beside a shape fit it.
use Rattle.std.proofs.Common.{◌≡◌, ◌<◌, ℕ, zero, suc, List, [], ◌∷◌, length, refl, ap, arith}
use Rattle.lat_base.specs.declared.contest.Contest.{Contest}
use Rattle.lat_base.specs.declared.contest_names.ContestNames.{ContestNames}
use Rattle.lat_base.specs.Names.{NamesFit, names_at}
use Rattle.lat_base.specs.Shape.{contest_at}
use Rattle.cert_fields.specs.Head.{AreNamed}

named_long : (ns : List ContestNames) (cs : List Contest) → AreNamed ns cs → length ns ≡ length cs
named_long [] [] h = refl
named_long [] (c ∷ cs) h = absurd h
named_long (n ∷ ns) [] h = absurd h
named_long (n ∷ ns) (c ∷ cs) h = ap suc (named_long ns cs h.1)

named_targets : (ns : List ContestNames) (cs : List Contest) → AreNamed ns cs → (c : ℕ)
    → c < length cs → length (names_at ns c).targets ≡ (contest_at cs c).targets
named_targets [] [] h c lt = absurd (omega (arith, lt))
named_targets [] (d ∷ cs) h c lt = absurd h
named_targets (n ∷ ns) [] h c lt = absurd h
named_targets (n ∷ ns) (d ∷ cs) h zero lt = h.0.count
named_targets (n ∷ ns) (d ∷ cs) h (suc c) lt = named_targets ns cs h.1 c (omega (arith, lt))

pub named_fit : (ns : List ContestNames) (cs : List Contest) → AreNamed ns cs → NamesFit ns cs
named_fit ns cs h = record { count = named_long ns cs h; targets = named_targets ns cs h }
