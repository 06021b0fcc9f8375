-- Totals where each target counts for itself.
use Rattle.std.proofs.Common.{◌≡◌, ℕ, Bool, List, get_or, count_by, count_ones, ap, sym, ◌∙◌, subst}
use Rattle.std.proofs.lemmas.List.{map-id}
use Rattle.lat_base.specs.declared.contest.Contest.{Contest}
use Rattle.lat_base.specs.Shape.{target_count}
use Rattle.lat_base.specs.Misassignment.{identity}
use Rattle.lat_base.specs.Tally.{reading, votes_for, own_total}
use Rattle.lat_base.specs.Deck.{Fits}
use Rattle.lat_ballots.specs.Deck.{Ballots, IsDeck}
use Rattle.std.specs.Simd.Lanes.{mask_l}
use Rattle.std.proofs.lemmas.Simd.{ones-mask_l}
use Rattle.lemmas.proofs.Counting.{count_alike}
use Rattle.readings.proofs.Readings.{reading_identity}

-- the own total of a target counts the ballots that vote for it as they stand
pub votes_read : (contests : List Contest) (deck : List (List Bool)) (u : ℕ)
    → Fits (target_count contests) deck
    → own_total contests deck u ≡ count_by (λ ballot. votes_for contests ballot u) deck
votes_read contests deck u fits =
    count_alike (λ (b : List Bool). votes_for contests (reading b (identity (target_count contests))) u) (λ (b : List Bool). votes_for contests b u) deck
    (λ j d lt. ap (λ (r : List Bool). votes_for contests r u) (reading_identity (get_or deck j d) (target_count contests) (fits j d lt)))

-- the same of a deck over the style's targets
pub own_votes : (contests : List Contest) (deck : Ballots) (u : ℕ) → IsDeck deck
    → deck.targets ≡ target_count contests
    → own_total contests deck.ballots u
    ≡ count_by (λ ballot. votes_for contests ballot u) deck.ballots
own_votes contests deck u is targets = votes_read contests deck.ballots u (subst (λ (n : ℕ). Fits n deck.ballots) targets is.fits)

-- the set bits of a ballot's marks, counted, are the marks counted
pub counted_bits : (marks : List Bool) → count_ones (mask_l marks) ≡ count_by (λ m. m) marks
counted_bits marks = ap (λ (xs : List Bool). count_ones (mask_l xs)) (sym (map-id marks)) ∙ ones-mask_l (λ (m : Bool). m) marks
