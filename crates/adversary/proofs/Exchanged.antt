-- Exchanges have a source for each target.
use Rattle.std.proofs.Common.{◌≡◌, ℕ, List, length, ◌∙◌}
use Rattle.std.specs.Prelude.{swap}
use Rattle.std.proofs.lemmas.List.Edits.{length-swap}
use Rattle.std.proofs.lemmas.List.FromFn.{length-map-range_with_len}
use Rattle.lat_base.specs.declared.contest.Contest.{Contest}
use Rattle.lat_base.specs.Shape.{target_count}
use Rattle.lat_base.specs.Misassignment.{identity}
use Rattle.lat_misassign.specs.Sources.{exchanged, contests_exchanged}
use Rattle.lat_misassign.proofs.Identity.{identity_long}

pub contests_long : (contests : List Contest) (c d : ℕ)
    → length (contests_exchanged contests c d) ≡ target_count contests
contests_long contests c d = length-map-range_with_len (exchanged contests c d) 0 (target_count contests)

pub targets_long : (n t u : ℕ) → length (swap (identity n) t u) ≡ n
targets_long n t u = length-swap (identity n) t u ∙ identity_long n
