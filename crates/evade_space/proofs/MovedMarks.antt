-- Counts of marks where a source comes or goes.
use Rattle.std.proofs.Common.{◌≡◌, ◌≢◌, ◌<◌, ◌≤◌, ◌+◌, inl, inr, ℕ, Bool, true, Option, List, [], ◌∷◌, length, map, take, get_or, set, cond, sum_by, refl, ap, sym, ◌∙◌, arith, Vec, Global}
use Rattle.std.specs.List.{range_with_len}
use Rattle.std.proofs.lemmas.List.{ext_get_or, length-map, get_or-map, length-set, get_or-set_other, map-set}
use Rattle.std.proofs.lemmas.List.FromFn.{get_or-map-range_with_len, length-map-range_with_len, length-range_with_len}
use Rattle.std.proofs.lemmas.List.Sums.{sum_by_more, sum_by-cons, count_by-le-length}
use Rattle.std.proofs.lemmas.Grind.{get_or-set_at}
use Rattle.std.proofs.lemmas.Bool.{cases_eq}
use Rattle.lat_base.specs.declared.contest.Contest.{Contest}
use Rattle.lat_base.specs.Shape.{contest_of, contest_at}
use Rattle.readings.proofs.Places.{is_of}
use Rattle.evade_space.specs.Sources.{with_source}
use Rattle.evade_space.specs.Seen.{taken, is_free_mark, free_marks}
use Rattle.evade_space.specs.Losses.{over, lost_on, lost_in}
use Rattle.evade_space.specs.Counts.{taken_in, free_in}
use Rattle.evade_space.specs.Sought.{Sought, IsSought}
use Rattle.lat_ballots.specs.Columns.{has_mark}
use Rattle.evade_space.specs.Trials.{IsGiving}
use Rattle.evade_space.proofs.AfterTrial.{one_more}
use Rattle.evade_space.proofs.OneMore.{taken_here, free_here}
use Rattle.evade_space.proofs.Known.{with_long}
use Rattle.evade_space.proofs.KnownRows.{few_taken}
use Rattle.evade_space.proofs.KeptLost.{outside_of, taken_out, Moves, kept_moves}

pub over_more : (limit : ℕ) (marks : List ℕ) (i : ℕ) → i < length marks
    → sum_by (over limit) (take (i + 1) marks)
    ≡ sum_by (over limit) (take i marks) + over limit (get_or marks i 0)
over_more limit marks i lt = sum_by_more (over limit) marks i 0 lt

-- a row of which one is changed
pub rows_set : (f g : ℕ → List ℕ) (n c : ℕ) → c < n → ((d : ℕ) → d < n → d ≢ c → f d ≡ g d)
    → set (map f (range_with_len 0 n)) c (g c) ≡ map g (range_with_len 0 n)
rows_set f g n c lt same =
    let long = length-set (map f (range_with_len 0 n)) c (g c) in
    let f_long = length-map-range_with_len f 0 n in
    let g_long = length-map-range_with_len g 0 n in
    ext_get_or [] (set (map f (range_with_len 0 n)) c (g c)) (map g (range_with_len 0 n)) (omega (arith, long, f_long, g_long))
    (λ d in_d.
    let inside : d < n = omega (arith, in_d, long, f_long) in
    let is : get_or (map g (range_with_len 0 n)) d [] ≡ g d = get_or-map-range_with_len g 0 n d d [] inside (omega arith) in
    elim (cases_eq d c) [
      | inl e ↦ get_or-set_at (map f (range_with_len 0 n)) c d (g c) [] e (omega (arith, lt, f_long)) ∙ ap g (sym e) ∙ sym is
      | inr ne ↦ get_or-set_other (map f (range_with_len 0 n)) c d (g c) [] ne ∙ get_or-map-range_with_len f 0 n d d [] inside (omega arith) ∙ same d inside ne ∙ sym is
    ])

-- what is lost, by the known marks
pub lost_is : (contests : List Contest) (sources : List (Option ℕ)) (c : ℕ)
    (deck : List (List Bool)) → sum_by (over (contest_at contests c).limit)
    (taken_in contests deck sources c) ≡ lost_in contests deck sources c
lost_is contests sources c [] = refl
lost_is contests sources c (b ∷ deck) =
    omega (arith, sum_by-cons (over (contest_at contests c).limit) (taken contests sources b c) (taken_in contests deck sources c), sum_by-cons (lost_on contests sources c) b deck, lost_is contests sources c deck)

-- how many ballots more or fewer there are, ballot by ballot
abbrev pub Rises : ℕ → List (List Bool) → List ℕ → List ℕ → Type 0
Rises t deck before after = (j : ℕ) → j < length deck → get_or after j 0 ≡ get_or before j 0 + cond (has_mark t (get_or deck j [])) 1 0

abbrev pub Falls : ℕ → List (List Bool) → List ℕ → List ℕ → Type 0
Falls t deck before after = (j : ℕ) → j < length deck → get_or after j 0 + cond (has_mark t (get_or deck j [])) 1 0 ≡ get_or before j 0

module _ (sought : Sought) (sources : List (Option ℕ)) (u t : ℕ) (is : IsGiving sought sources u t) where
  here : (b : List Bool) → taken sought.contests (with_source sources u t) b
      (contest_of sought.contests u)
      ≡ taken sought.contests sources b (contest_of sought.contests u) + cond (has_mark t b) 1 0
  here b = taken_here sought.contests sources u t (contest_of sought.contests u) b (one_more sought sources u t is)

  rest : (b : List Bool) → free_marks sources b
      ≡ free_marks (with_source sources u t) b + cond (has_mark t b) 1 0
  rest b = free_here sought.contests sources u t (contest_of sought.contests u) b (one_more sought sources u t is)

  before_at : (j : ℕ) → j < length sought.deck
      → get_or (taken_in sought.contests sought.deck sources (contest_of sought.contests u)) j 0
      ≡ taken sought.contests sources (get_or sought.deck j []) (contest_of sought.contests u)
  before_at j lt = get_or-map (λ (b : List Bool). taken sought.contests sources b (contest_of sought.contests u)) sought.deck j [] 0 lt

  after_at : (j : ℕ) → j < length sought.deck
      → get_or (taken_in sought.contests sought.deck (with_source sources u t)
      (contest_of sought.contests u)) j 0
      ≡ taken sought.contests (with_source sources u t) (get_or sought.deck j [])
      (contest_of sought.contests u)
  after_at j lt = get_or-map (λ (b : List Bool). taken sought.contests (with_source sources u t) b (contest_of sought.contests u)) sought.deck j [] 0 lt

  free_before : (j : ℕ) → j < length sought.deck
      → get_or (free_in sought.deck sources) j 0 ≡ free_marks sources (get_or sought.deck j [])
  free_before j lt = get_or-map (λ (b : List Bool). free_marks sources b) sought.deck j [] 0 lt

  free_after : (j : ℕ) → j < length sought.deck
      → get_or (free_in sought.deck (with_source sources u t)) j 0
      ≡ free_marks (with_source sources u t) (get_or sought.deck j [])
  free_after j lt = get_or-map (λ (b : List Bool). free_marks (with_source sources u t) b) sought.deck j [] 0 lt

  taken_long : length (taken_in sought.contests sought.deck sources (contest_of sought.contests u))
      ≡ length sought.deck
  taken_long = length-map sought.deck (λ (b : List Bool). taken sought.contests sources b (contest_of sought.contests u))

  taken_long_after : length (taken_in sought.contests sought.deck (with_source sources u t)
      (contest_of sought.contests u)) ≡ length sought.deck
  taken_long_after = length-map sought.deck (λ (b : List Bool). taken sought.contests (with_source sources u t) b (contest_of sought.contests u))

  free_long : length (free_in sought.deck sources) ≡ length sought.deck
  free_long = length-map sought.deck (λ (b : List Bool). free_marks sources b)

  free_long_after : length (free_in sought.deck (with_source sources u t)) ≡ length sought.deck
  free_long_after = length-map sought.deck (λ (b : List Bool). free_marks (with_source sources u t) b)

  -- the source comes
  pub row_rises : (before after : List ℕ)
      → before ≡ taken_in sought.contests sought.deck sources (contest_of sought.contests u)
      → length after ≡ length sought.deck → Rises t sought.deck before after
      → after ≡ taken_in sought.contests sought.deck (with_source sources u t)
      (contest_of sought.contests u)
  row_rises before after e long rises =
      ext_get_or 0 after (taken_in sought.contests sought.deck (with_source sources u t) (contest_of sought.contests u)) (omega (arith, long, taken_long_after))
      (λ j in_j. let lt : j < length sought.deck = omega (arith, in_j, long) in
      omega (arith, rises j lt, ap (λ (xs : List ℕ). get_or xs j 0) e, before_at j lt, after_at j lt, here (get_or sought.deck j [])))

  pub free_falls : (before after : List ℕ) → before ≡ free_in sought.deck sources
      → length after ≡ length sought.deck → Falls t sought.deck before after
      → after ≡ free_in sought.deck (with_source sources u t)
  free_falls before after e long falls =
      ext_get_or 0 after (free_in sought.deck (with_source sources u t)) (omega (arith, long, free_long_after))
      (λ j in_j. let lt : j < length sought.deck = omega (arith, in_j, long) in
      omega (arith, falls j lt, ap (λ (xs : List ℕ). get_or xs j 0) e, free_before j lt, free_after j lt, rest (get_or sought.deck j [])))

  -- the source goes
  pub row_falls : (before after : List ℕ)
      → before ≡ taken_in sought.contests sought.deck (with_source sources u t)
      (contest_of sought.contests u) → length after ≡ length sought.deck
      → Falls t sought.deck before after
      → after ≡ taken_in sought.contests sought.deck sources (contest_of sought.contests u)
  row_falls before after e long falls =
      ext_get_or 0 after (taken_in sought.contests sought.deck sources (contest_of sought.contests u)) (omega (arith, long, taken_long))
      (λ j in_j. let lt : j < length sought.deck = omega (arith, in_j, long) in
      omega (arith, falls j lt, ap (λ (xs : List ℕ). get_or xs j 0) e, before_at j lt, after_at j lt, here (get_or sought.deck j [])))

  pub free_rises : (before after : List ℕ) → before ≡ free_in sought.deck (with_source sources u t)
      → length after ≡ length sought.deck → Rises t sought.deck before after
      → after ≡ free_in sought.deck sources
  free_rises before after e long rises =
      ext_get_or 0 after (free_in sought.deck sources) (omega (arith, long, free_long))
      (λ j in_j. let lt : j < length sought.deck = omega (arith, in_j, long) in
      omega (arith, rises j lt, ap (λ (xs : List ℕ). get_or xs j 0) e, free_before j lt, free_after j lt, rest (get_or sought.deck j [])))

  -- a mark that moves is there before, and there is room for it
  pub free_some : (free : List ℕ) → free ≡ free_in sought.deck sources → (j : ℕ)
      → j < length sought.deck → has_mark t (get_or sought.deck j []) ≡ true → 1 ≤ get_or free j 0
  free_some free e j lt m =
      let one : ◌≡◌ {A = ℕ} (cond (has_mark t (get_or sought.deck j [])) 1 0) 1 = ap {B = ℕ} (λ (b : Bool). cond b 1 0) m in
      omega (arith, ap (λ (xs : List ℕ). get_or xs j 0) e, free_before j lt, rest (get_or sought.deck j []), one)

  pub row_some : (row : List ℕ) → row
      ≡ taken_in sought.contests sought.deck (with_source sources u t)
      (contest_of sought.contests u) → (j : ℕ) → j < length sought.deck
      → has_mark t (get_or sought.deck j []) ≡ true → 1 ≤ get_or row j 0
  row_some row e j lt m =
      let one : ◌≡◌ {A = ℕ} (cond (has_mark t (get_or sought.deck j [])) 1 0) 1 = ap {B = ℕ} (λ (b : Bool). cond b 1 0) m in
      omega (arith, ap (λ (xs : List ℕ). get_or xs j 0) e, after_at j lt, here (get_or sought.deck j []), one)

  pub row_few : (row : List ℕ) → row
      ≡ taken_in sought.contests sought.deck sources (contest_of sought.contests u) → (j : ℕ)
      → j < length sought.deck → get_or row j 0 ≤ 1024
  row_few row e j lt =
      omega (arith, ap (λ (xs : List ℕ). get_or xs j 0) e, before_at j lt, few_taken sought.contests sources (get_or sought.deck j []) (contest_of sought.contests u) (omega (arith, is.are.long, is.are.few)))

  pub free_few : (free : List ℕ) → free ≡ free_in sought.deck (with_source sources u t) → (j : ℕ)
      → j < length sought.deck → get_or free j 0 ≤ 1024
  free_few free e j lt =
      omega (
        arith,
        ap (λ (xs : List ℕ). get_or xs j 0) e,
        free_after j lt,
        count_by-le-length (is_free_mark (with_source sources u t) (get_or sought.deck j [])) (range_with_len 0 (length (with_source sources u t))),
        length-range_with_len 0 (length (with_source sources u t)),
        with_long sources u t,
        is.are.long,
        is.are.few,
      )

  -- the rows of the other contests stay
  pub rows_come : set (map (taken_in sought.contests sought.deck sources)
      (range_with_len 0 (length sought.contests))) (contest_of sought.contests u)
      (taken_in sought.contests sought.deck (with_source sources u t)
      (contest_of sought.contests u))
      ≡ map (taken_in sought.contests sought.deck (with_source sources u t)) (range_with_len 0 (length sought.contests))
  rows_come =
      rows_set (taken_in sought.contests sought.deck sources) (taken_in sought.contests sought.deck (with_source sources u t)) (length sought.contests) (contest_of sought.contests u) (is_of sought.contests u is.image).contest
      (λ d lt ne. sym (λ i. map (λ ballot. taken_out sought.contests sources u t d ballot (outside_of sought.contests u d is.image lt ne) i) sought.deck))

  pub rows_go : set (map (taken_in sought.contests sought.deck (with_source sources u t))
      (range_with_len 0 (length sought.contests))) (contest_of sought.contests u)
      (taken_in sought.contests sought.deck sources (contest_of sought.contests u))
      ≡ map (taken_in sought.contests sought.deck sources) (range_with_len 0 (length sought.contests))
  rows_go =
      rows_set (taken_in sought.contests sought.deck (with_source sources u t)) (taken_in sought.contests sought.deck sources) (length sought.contests) (contest_of sought.contests u) (is_of sought.contests u is.image).contest
      (λ d lt ne i. map (λ ballot. taken_out sought.contests sources u t d ballot (outside_of sought.contests u d is.image lt ne) i) sought.deck)

  -- what is lost then
  pub lost_then : (limit before after : ℕ) (row new : List ℕ) → IsSought sought
      → limit ≡ (contest_at sought.contests (contest_of sought.contests u)).limit
      → before ≡ sum_by (over limit) row
      → row ≡ taken_in sought.contests sought.deck sources (contest_of sought.contests u)
      → after ≡ sum_by (over limit) new
      → new ≡ taken_in sought.contests sought.deck (with_source sources u t)
      (contest_of sought.contests u) → Moves sought sources u t before after
  lost_then limit before after row new s l b e a f =
      kept_moves sought sources u t before after s is
      (b ∙ (λ i. sum_by (over (l i)) (e i)) ∙ lost_is sought.contests sources (contest_of sought.contests u) sought.deck)
      (a ∙ (λ i. sum_by (over (l i)) (f i)) ∙ lost_is sought.contests (with_source sources u t) (contest_of sought.contests u) sought.deck)

abbrev items_of : Vec ℕ Global → List ℕ
items_of row = row.items

-- a row of those that are kept
pub row_at : (xs : List (Vec ℕ Global)) (f : ℕ → List ℕ) (n c : ℕ) (row : Vec ℕ Global)
    → map (λ row. row.items) xs ≡ map f (range_with_len 0 n) → c < n → row ≡ get_or xs c row
    → row.items ≡ f c
row_at xs f n c row e lt at =
    let long : length xs ≡ n = sym (length-map xs items_of) ∙ ap length e ∙ length-map-range_with_len f 0 n in
    ap items_of at ∙ sym (get_or-map items_of xs c row [] (omega (arith, lt, long))) ∙ ap (λ (ys : List (List ℕ)). get_or ys c []) e ∙ get_or-map-range_with_len f 0 n c c [] lt (omega arith)

pub rows_few : (xs : List (Vec ℕ Global)) (f : ℕ → List ℕ) (n : ℕ)
    → map (λ row. row.items) xs ≡ map f (range_with_len 0 n) → length xs ≡ n
rows_few xs f n e = sym (length-map xs items_of) ∙ ap length e ∙ length-map-range_with_len f 0 n

-- the rows where one is a new one
pub rows_then : (xs : List (Vec ℕ Global)) (f g : ℕ → List ℕ) (n c : ℕ) (row : Vec ℕ Global)
    → map (λ row. row.items) xs ≡ map f (range_with_len 0 n) → row.items ≡ g c
    → set (map f (range_with_len 0 n)) c (g c) ≡ map g (range_with_len 0 n)
    → map (λ row. row.items) (set xs c row) ≡ map g (range_with_len 0 n)
rows_then xs f g n c row e is all = map-set items_of xs c row ∙ (λ i. set (e i) c (is i)) ∙ all
