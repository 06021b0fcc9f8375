-- The ballots of a pattern, one by one.
use Rattle.std.proofs.Common.{◌≡◌, ◌+◌, ◌-◌, ◌<◌, ◌≤◌, ◌++◌, ℕ, Bool, true, false, List, [], length, get_or, replicate, map, ap, ◌∙◌, arith}
use Rattle.std.specs.List.{range_with_len}
use Rattle.std.proofs.lemmas.List.{get_or_append_left, get_or-append_right, get_or-replicate, length-append, length-replicate}
use Rattle.std.proofs.lemmas.List.FromFn.{get_or-map-range_with_len, length-map-range_with_len}
use Rattle.lat_base.specs.Shape.{target_count, first_target, contest_of}
use Rattle.lat_ballots.specs.Deck.{mark_at}
use Rattle.deck_builder.specs.Pattern.{Pattern, has_mark, working_ballot, pattern_ballots, pattern_deck}

-- the three kinds of ballots
abbrev pub full : Pattern → List Bool
full p = replicate (target_count p.contests) true

abbrev pub unmarked : Pattern → List Bool
unmarked p = replicate (target_count p.contests) false

abbrev pub over_rows : Pattern → List (List Bool)
over_rows p = replicate p.rules.over (full p)

abbrev pub working_rows : Pattern → List (List Bool)
working_rows p = map (working_ballot p) (range_with_len 0 p.working)

abbrev pub blank_rows : Pattern → List (List Bool)
blank_rows p = replicate p.rules.blank (unmarked p)

over_long : (p : Pattern) → length (over_rows p) ≡ p.rules.over
over_long p = length-replicate p.rules.over (full p)

working_rows_long : (p : Pattern) → length (working_rows p) ≡ p.working
working_rows_long p = length-map-range_with_len (working_ballot p) 0 p.working

front_long : (p : Pattern) → length (over_rows p ++ working_rows p) ≡ p.rules.over + p.working
front_long p = omega (arith, length-append (over_rows p) (working_rows p), over_long p, working_rows_long p)

-- how many there are
pub rows_long : (p : Pattern) → length (pattern_ballots p)
    ≡ p.rules.over + p.working + p.rules.blank
rows_long p = omega (arith, length-append (over_rows p ++ working_rows p) (blank_rows p), front_long p, length-replicate p.rules.blank (unmarked p))

-- the first ones are wholly marked
pub first_row : (p : Pattern) (j : ℕ) → j < p.rules.over → get_or (pattern_ballots p) j [] ≡ full p
first_row p j lt =
    get_or_append_left (over_rows p ++ working_rows p) (blank_rows p) [] j (omega (arith, lt, front_long p))
    ∙ (get_or_append_left (over_rows p) (working_rows p) [] j (omega (arith, lt, over_long p))
    ∙ get_or-replicate p.rules.over j (full p) [] lt)

-- then come the working ones
pub middle_row : (p : Pattern) (j : ℕ) → p.rules.over ≤ j → j - p.rules.over < p.working
    → get_or (pattern_ballots p) j [] ≡ working_ballot p (j - p.rules.over)
middle_row p j le lt =
    get_or_append_left (over_rows p ++ working_rows p) (blank_rows p) [] j (omega (arith, le, lt, front_long p))
    ∙ (get_or-append_right (over_rows p) (working_rows p) p.rules.over j [] (over_long p) le
    ∙ get_or-map-range_with_len (working_ballot p) 0 p.working (j - p.rules.over) (j - p.rules.over) [] lt (omega arith))

-- and blank ones last
pub last_row : (p : Pattern) (j : ℕ) → p.rules.over + p.working ≤ j
    → j < p.rules.over + p.working + p.rules.blank → get_or (pattern_ballots p) j [] ≡ unmarked p
last_row p j le lt =
    get_or-append_right (over_rows p ++ working_rows p) (blank_rows p) (p.rules.over + p.working) j [] (front_long p) le
    ∙ get_or-replicate p.rules.blank (j - (p.rules.over + p.working)) (unmarked p) [] (omega (arith, le, lt))

-- the marks of each kind
pub full_mark : (p : Pattern) (j t : ℕ) → j < p.rules.over → t < target_count p.contests
    → mark_at (pattern_deck p) j t ≡ true
full_mark p j t lt h = ap (λ (b : List Bool). get_or b t false) (first_row p j lt) ∙ get_or-replicate (target_count p.contests) t true false h

pub no_mark : (p : Pattern) (j t : ℕ) → p.rules.over + p.working ≤ j
    → j < p.rules.over + p.working + p.rules.blank → t < target_count p.contests
    → mark_at (pattern_deck p) j t ≡ false
no_mark p j t le lt h = ap (λ (b : List Bool). get_or b t false) (last_row p j le lt) ∙ get_or-replicate (target_count p.contests) t false false h

pub laid_mark : (p : Pattern) (j t : ℕ) → p.rules.over ≤ j → j - p.rules.over < p.working
    → t < target_count p.contests
    → mark_at (pattern_deck p) j t
    ≡ has_mark p (j - p.rules.over) (contest_of p.contests t)
    (t - first_target p.contests (contest_of p.contests t))
laid_mark p j t le lt h =
    ap (λ (b : List Bool). get_or b t false) (middle_row p j le lt)
    ∙ get_or-map-range_with_len (λ u. has_mark p (j - p.rules.over) (contest_of p.contests u) (u - first_target p.contests (contest_of p.contests u))) 0 (target_count p.contests) t t false h (omega arith)

-- of k ballots where k is large enough
pub size_is : (p : Pattern) (k : ℕ) → p.working ≡ k - p.rules.over - p.rules.blank
    → p.rules.over + p.rules.blank ≤ k → length (pattern_ballots p) ≡ k
size_is p k working apart = omega (arith, rows_long p, working, apart)
