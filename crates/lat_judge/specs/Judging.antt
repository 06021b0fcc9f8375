-- The totals that a certificate's deck must give, and the first that differs from them.
use Rattle.std.specs.Prelude.{◌≡◌, ◌≢◌, ◌<◌, ℕ, Bool, List, [], slice_get, Option, Some, None}
use Rattle.lat_base.specs.declared.contest.Contest.{Contest}
use Rattle.lat_base.specs.Misassignment.{identity}
use Rattle.lat_base.specs.Shape.{target_count}
use Rattle.lat_base.specs.Tally.{report}
use Rattle.cert_types.specs.declared.proved.Proved.{Proved}
use Rattle.cert_types.specs.CertValue.{CertValue}

-- the ballots of a certificate's deck; none where it has no deck
abbrev pub ballots_of : Option Proved → List (List Bool)
ballots_of None = []
ballots_of (Some proved) = proved.deck.ballots

-- the report of a deck where each target counts for itself
abbrev pub own_report : List Contest → List (List Bool) → List ℕ
own_report contests deck = report contests deck (identity (target_count contests))

-- the report of a certificate's deck where each target counts for itself
abbrev pub expected : CertValue → List ℕ
expected cert = own_report cert.contests (ballots_of cert.proved)

-- reported totals are the expected ones
abbrev pub Passes : CertValue → List ℕ → Type 0
Passes cert reported = reported ≡ expected cert

-- before target t the totals are equal; at t one is wanted and another is told
pub record IsFirstDifference (wanted told : List ℕ) (t votes other : ℕ) : Type 0 where
  pub before : (u : ℕ) → u < t → slice_get told u ≡ slice_get wanted u
  pub is_wanted : slice_get wanted t ≡ Some votes
  pub is_told : slice_get told t ≡ Some other
  pub differ : other ≢ votes
