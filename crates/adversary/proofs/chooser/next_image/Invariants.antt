use Rattle.std.proofs.Common.{◌≡◌, ◌<◌, ℕ, false}
use Rattle.evade_space.specs.Sources.{is_free}
use Rattle.adversary.proofs.chooser.next_image.Given as goal

abbrev pub invariant-loop-u : goal.invariant-loop-u
invariant-loop-u l = (x : ℕ) → x < l.u → is_free l.state.sources x ≡ false
