-- Kept counts of marks, ballot by ballot.
use Rattle.std.proofs.Common.{◌≡◌, ◌<◌, ◌≤◌, ◌+◌, ◌&&◌, ℕ, Bool, false, not, Option, None, is_some, List, [], ◌∷◌, length, map, get_or, refl, ap, sym, ◌∙◌, arith, All}
use Rattle.std.proofs.lemmas.List.{length-map, get_or-map}
use Rattle.std.proofs.lemmas.List.Sums.{count_by-le-length}
use Rattle.lat_base.specs.declared.contest.Contest.{Contest}
use Rattle.std.proofs.lemmas.List.Elements.{All-head, All-tail}
use Rattle.lat_ballots.specs.Row.{common_count}
use Rattle.lat_base.specs.Deck.{Fits}
use Rattle.lat_base.specs.Shape.{target_count, first_target, contest_of}
use Rattle.evade_space.specs.Counts.{taken_in, free_in}
use Rattle.lat_base.specs.Tally.{is_marked, is_overvoted}
use Rattle.lemmas.proofs.Counting.{count_alike, none_pass, range_le_all}
use Rattle.evade_space.specs.Sources.{source_at}
use Rattle.evade_space.specs.Seen.{is_seen, seen, taken, free_marks}
use Rattle.evade_space.specs.Votes.{may_vote_on, may_vote, must_vote_on, must_vote}
use Rattle.evade_space.specs.PartialMisassignment.{PartialMisassignment}
use Rattle.evade_space.specs.Sought.{Sought}
use Rattle.evade_space.specs.Masks.{IsMarked}
use Rattle.evade_space.proofs.Fitting.{seen_at}
use Rattle.evade_space.proofs.NoLoss.{taken_given}

-- no ballot votes for an image without a source
no_mark : (sources : List (Option ℕ)) (u : ℕ) (ballot : List Bool) → u < length sources
    → source_at sources u ≡ None → is_marked (seen sources ballot) u ≡ false
no_mark sources u ballot lt e = seen_at ballot sources u lt ∙ ap (is_seen ballot) e

pub none_may : (contests : List Contest) (deck : List (List Bool)) (sources : List (Option ℕ))
    (u : ℕ) → u < length sources → source_at sources u ≡ None → may_vote contests deck sources u ≡ 0
none_may contests deck sources u lt e =
    count_alike (may_vote_on contests sources u) (λ (b : List Bool). false) deck
    (λ j d l. ap (λ (m : Bool). m && not (is_overvoted contests (seen sources (get_or deck j d)) (contest_of contests u))) (no_mark sources u (get_or deck j d) lt e))
    ∙ none_pass deck

pub none_must : (contests : List Contest) (deck : List (List Bool)) (sources : List (Option ℕ))
    (u : ℕ) → u < length sources → source_at sources u ≡ None
    → must_vote contests deck sources u ≡ 0
none_must contests deck sources u lt e =
    count_alike (must_vote_on contests sources u) (λ (b : List Bool). false) deck
    (λ j d l. by_mark (is_marked (seen sources (get_or deck j d)) u) _ (no_mark sources u (get_or deck j d) lt e))
    ∙ none_pass deck
  where
    by_mark : (m b : Bool) → m ≡ false → (m && b) ≡ false
    by_mark m b h = ap (λ (x : Bool). x && b) h

-- no more marks are known than there are images
pub few_taken : (contests : List Contest) (sources : List (Option ℕ)) (ballot : List Bool) (c : ℕ)
    → length sources ≤ 256 → taken contests sources ballot c ≤ 256
few_taken contests sources ballot c le =
    omega (arith, le, taken_given contests sources ballot c, range_le_all (is_some {T = ℕ}) sources (first_target contests c) (first_target contests (c + 1)), count_by-le-length (is_some {T = ℕ}) sources)

-- what the kept numbers of a contest say of each ballot
pub record KnownRow (sought : Sought) (s : PartialMisassignment) (c : ℕ) (row free : List ℕ) : Type 0 where
  pub long : length row ≡ length sought.deck
  pub free_long : length free ≡ length sought.deck
  pub known : (j : ℕ) → j < length sought.deck
      → get_or row j 0 ≡ taken sought.contests s.sources (get_or sought.deck j []) c
  pub unused : (j : ℕ) → j < length sought.deck
      → get_or free j 0 ≡ free_marks s.sources (get_or sought.deck j [])
  pub few : (j : ℕ) → j < length sought.deck → get_or row j 0 ≤ 256

pub known_row : (sought : Sought) (s : PartialMisassignment) (c : ℕ) (row free : List ℕ)
    → IsMarked sought s c → row ≡ get_or s.counts.taken c [] → free ≡ s.counts.free
    → KnownRow sought s c row free
known_row sought s c row free is e f =
    let at = λ (j : ℕ) (lt : j < length sought.deck). ap (λ (xs : List ℕ). get_or xs j 0) (e ∙ is.taken) ∙ get_or-map (λ (b : List Bool). taken sought.contests s.sources b c) sought.deck j [] 0 lt in
    record {
      long = ap length (e ∙ is.taken) ∙ length-map sought.deck (λ (b : List Bool). taken sought.contests s.sources b c);
      free_long = ap length (f ∙ is.free) ∙ length-map sought.deck (λ (b : List Bool). free_marks s.sources b);
      known = at;
      unused = λ j lt. ap (λ (xs : List ℕ). get_or xs j 0) (f ∙ is.free) ∙ get_or-map (λ (b : List Bool). free_marks s.sources b) sought.deck j [] 0 lt;
      few = λ j lt. omega (arith, at j lt, few_taken sought.contests s.sources (get_or sought.deck j []) c is.few);
    }

-- lists mapped by functions that agree on each element
mapped_alike : (f g : List Bool → ℕ) (xs : List (List Bool)) → All (λ b. f b ≡ g b) xs
    → map f xs ≡ map g xs
mapped_alike f g [] h = refl
mapped_alike f g (x ∷ xs) h = λ i. All-head (λ (b : List Bool). f b ≡ g b) x xs h i ∷ mapped_alike f g xs (All-tail (λ (b : List Bool). f b ≡ g b) x xs h) i

-- a row counted by the set of the sources
pub row_of_taken : (contests : List Contest) (deck : List (List Bool)) (sought : Sought)
    (sources : List (Option ℕ)) (c : ℕ) (set : List Bool) (row : List ℕ)
    → Fits (target_count contests) deck → contests ≡ sought.contests → deck ≡ sought.deck
    → ((ballot : List Bool) → length ballot ≡ target_count contests
    → common_count ballot set ≡ taken contests sources ballot c)
    → row ≡ map (λ ballot. common_count ballot set) deck
    → row ≡ taken_in sought.contests sought.deck sources c
row_of_taken contests deck sought sources c set row fits e f count is =
    is ∙ mapped_alike (λ (b : List Bool). common_count b set) (λ (b : List Bool). taken contests sources b c) deck (λ j d lt. count (get_or deck j d) (fits j d lt)) ∙ (λ i. taken_in (e i) (f i) sources c)

-- a row counted by the set of the unused targets
pub row_of_unused : (targets : ℕ) (deck : List (List Bool)) (now : List (List Bool))
    (sources : List (Option ℕ)) (set : List Bool) (row : List ℕ) → Fits targets deck → deck ≡ now
    → length sources ≡ targets
    → ((ballot : List Bool) → length ballot ≡ length sources
    → common_count ballot set ≡ free_marks sources ballot)
    → row ≡ map (λ ballot. common_count ballot set) deck → row ≡ free_in now sources
row_of_unused targets deck now sources set row fits f long count is =
    is ∙ mapped_alike (λ (b : List Bool). common_count b set) (λ (b : List Bool). free_marks sources b) deck (λ j d lt. count (get_or deck j d) (fits j d lt ∙ sym long)) ∙ (λ i. free_in (f i) sources)
