use Rattle.std.proofs.Common.{◌≡◌, ◌<◌, ℕ, get_or}
use Rattle.lat_misassign.proofs.misassignment.Misassignment.is_identity.Given as goal

-- the sources so far are those of the identity
abbrev pub invariant-loop-u : goal.invariant-loop-u
invariant-loop-u l = (k : ℕ) → k < l.u → get_or l.self k 0 ≡ k
