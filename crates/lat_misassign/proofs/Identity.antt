-- The identity is a misassignment.
use Rattle.std.proofs.Common.{◌≡◌, ◌≤◌, ◌<◌, ℕ, List, length, get_or, ap, sym, subst, ◌∙◌, arith}
use Rattle.std.proofs.lemmas.List.FromFn.{length-range_with_len}
use Rattle.std.proofs.lemmas.List.{ext_get_or}
use Rattle.lat_base.specs.Misassignment.{IsMisassignment, identity}
use Rattle.readings.proofs.Made.{identity_at}
use Rattle.lat_misassign.specs.Sources.{AreSources}
use Rattle.lemmas.proofs.Ranges.{one_in}

pub identity_long : (n : ℕ) → length (identity n) ≡ n
identity_long n = length-range_with_len 0 n

pub identity_is : (n : ℕ) → IsMisassignment n (identity n)
identity_is n = record { long = length-range_with_len 0 n; once = λ t lt. one_in 0 n t (omega arith) (omega arith) }

pub identity_sources : (n : ℕ) → 1 ≤ n → n ≤ 256 → AreSources (identity n)
identity_sources n some few =
    let e = length-range_with_len 0 n in
    record { some = omega (arith, e); few = omega (arith, e); is = subst (λ (m : ℕ). IsMisassignment m (identity n)) (sym e) (identity_is n) }

pub source_at_identity : (s : List ℕ) (u : ℕ) → u < length s → s ≡ identity (length s)
    → get_or s u 0 ≡ u
source_at_identity s u lt e = ap (λ (l : List ℕ). get_or l u 0) e ∙ identity_at (length s) u lt

pub identity_from : (s : List ℕ) → ((u : ℕ) → u < length s → get_or s u 0 ≡ u)
    → s ≡ identity (length s)
identity_from s h = ext_get_or 0 s (identity (length s)) (sym (identity_long (length s))) (λ u lt. h u lt ∙ sym (identity_at (length s) u lt))
