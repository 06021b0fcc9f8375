use Rattle.std.proofs.Common.{◌≡◌, ◌<◌, ℕ, length}
use Rattle.lat_base.specs.Names.{names_at}
use Rattle.lat_base.specs.Shape.{contest_at}
use Rattle.lat_base.proofs.names.Names.fits.Given as goal

-- the contests so far have as many names as targets
abbrev pub invariant-loop-c : goal.invariant-loop-c
invariant-loop-c l = (k : ℕ) → k < l.c → length (names_at l.self.contests k).targets ≡ (contest_at l.shape k).targets
