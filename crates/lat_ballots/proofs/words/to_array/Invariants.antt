use Rattle.std.proofs.Common.{◌≡◌, ◌<◌, ℕ, length, get_or, false}
use Rattle.lat_ballots.specs.Row.{bits_of}
use Rattle.lat_ballots.proofs.words.to_array.Given as goal

abbrev pub invariant-loop-t : goal.invariant-loop-t
invariant-loop-t l = (length l.bits ≡ 256) × ((i : ℕ) → i < l.t → get_or l.bits i false ≡ get_or (bits_of l.words) i false)
