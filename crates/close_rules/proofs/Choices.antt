-- How many rising lists there are, by their first numbers.
use Rattle.std.proofs.Common.{◌≡◌, ◌+◌, ◌-◌, ◌<◌, ◌≤◌, ℕ, zero, suc, Bool, false, min, List, [], ◌∷◌, ◌++◌, length, get_or, map, cond, count_by, refl, ap, sym, ◌∙◌, arith, inl, inr}
use Rattle.std.specs.Prelude.{nat_le, ◌⊎◌}
use Rattle.std.specs.List.{range_with_len, sum}
use Rattle.std.proofs.lemmas.Bool.{cases_lt, le-leb, lt-leb}
use Rattle.std.proofs.lemmas.List.Sums.{sum_by-cons, sum_by-append, length-filter}
use Rattle.lemmas.proofs.Counting.{count_alike, count_map, none_pass}
use Rattle.close_rules.specs.Pigeon.{choices, rising_lists}

-- whether a list has a sum of at most so much
abbrev pub fits : ℕ → List ℕ → Bool
fits room totals = nat_le (sum totals) room

-- how many rising lists there are
abbrev pub list_count : (n least many room : ℕ) → ℕ
list_count n least many room = count_by (fits room) (choices n (range_with_len least many))

pub count_is : (n least many room : ℕ)
    → length (rising_lists n least many room) ≡ list_count n least many room
count_is n least many room = length-filter (fits room) (choices n (range_with_len least many))

-- sums of numbers in a row
pub sum_first : (from n : ℕ) → sum (range_with_len from (suc n))
    ≡ from + sum (range_with_len (from + 1) n)
sum_first from n = sum_by-cons (λ (x : ℕ). x) from (range_with_len (from + 1) n)

pub sum_next : (from n : ℕ) → sum (range_with_len (from + 1) n) ≡ sum (range_with_len from n) + n
sum_next from zero = omega arith
sum_next from (suc n) = omega (arith, sum_first (from + 1) n, sum_first from n, sum_next (from + 1) n)

pub sum_last : (from n : ℕ) → sum (range_with_len from (suc n))
    ≡ sum (range_with_len from n) + (from + n)
sum_last from n = omega (arith, sum_first from n, sum_next from n)

-- a list that begins with a number fits where the rest fits in what the number leaves
fits_rest : (first room : ℕ) (rest : List ℕ) → first ≤ room
    → fits room (first ∷ rest) ≡ fits (room - first) rest
fits_rest first room rest le = elim (cases_lt (room - first) (sum rest)) [
  | inl more ↦ lt-leb (sum (first ∷ rest)) room (omega (arith, le, more, whole)) ∙ sym (lt-leb (sum rest) (room - first) more)
  | inr few ↦ le-leb (sum (first ∷ rest)) room (omega (arith, le, few, whole)) ∙ sym (le-leb (sum rest) (room - first) few)
]
  where
    whole : sum (first ∷ rest) ≡ first + sum rest
    whole = sum_by-cons (λ (x : ℕ). x) first rest

begun : (first room : ℕ) (lists : List (List ℕ)) → first ≤ room
    → count_by (fits room) (map (λ rest. first ∷ rest) lists) ≡ count_by (fits (room - first)) lists
begun first room lists le =
    count_map (λ rest. first ∷ rest) (fits room) lists ∙ count_alike (λ rest. fits room (first ∷ rest)) (fits (room - first)) lists (λ i d lt. fits_rest first room (get_or lists i d) le)

-- none fits that begins with a number that is too great
none_begun : (first room : ℕ) (lists : List (List ℕ)) → room < first
    → count_by (fits room) (map (λ rest. first ∷ rest) lists) ≡ 0
none_begun first room lists lt =
    count_map (λ rest. first ∷ rest) (fits room) lists
    ∙ (count_alike (λ rest. fits room (first ∷ rest)) (λ rest. false) lists (λ i d within. lt-leb (sum (first ∷ get_or lists i d)) room (omega (arith, lt, sum_by-cons (λ (x : ℕ). x) first (get_or lists i d)))) ∙ none_pass lists)

-- the lists with the first number and those without
split : (n least many room : ℕ)
    → list_count (suc n) least (suc many) room
    ≡ count_by (fits room) (map (λ rest. least ∷ rest)
    (choices n (range_with_len (least + 1) many))) + list_count (suc n) (least + 1) many room
split n least many room =
    sum_by-append (λ (l : List ℕ). cond (fits room l) 1 0) (map (λ rest. least ∷ rest) (choices n (range_with_len (least + 1) many))) (choices (suc n) (range_with_len (least + 1) many))

-- too few numbers
no_choices : (n least many : ℕ) → many < n → choices n (range_with_len least many) ≡ []
no_choices zero least many lt = absurd (omega (arith, lt))
no_choices (suc n) least zero lt = refl
no_choices (suc n) least (suc many) lt = λ i. map (λ rest. least ∷ rest) (no_choices n (least + 1) many (omega (arith, lt)) i) ++ no_choices (suc n) (least + 1) many (omega (arith, lt)) i

pub too_short : (n least many room : ℕ) → many < n → list_count n least many room ≡ 0
too_short n least many room lt = ap (count_by (fits room)) (no_choices n least many lt)

-- a sum that is too small for the least list
pub too_poor : (n least many room : ℕ) → room < sum (range_with_len least n)
    → list_count n least many room ≡ 0
too_poor zero least many room lt = absurd (omega (arith, lt))
too_poor (suc n) least zero room lt = refl
too_poor (suc n) least (suc many) room lt =
    let later = too_poor (suc n) (least + 1) many room (omega (arith, lt, sum_next least (suc n))) in
    elim (cases_lt room least) [
      | inl more ↦ omega (arith, split n least many room, none_begun least room (choices n (range_with_len (least + 1) many)) more, later)
      | inr few ↦ omega (arith, split n least many room, begun least room (choices n (range_with_len (least + 1) many)) few, too_poor n (least + 1) many (room - least) (omega (arith, lt, few, sum_first least n)), later)
    ]

-- how many lists there are where `gap` numbers are left out and the sum is at most `spare` above
-- the least
abbrev pub left : (n from gap spare : ℕ) → ℕ
left n from gap spare = length (rising_lists n from (n + gap) (sum (range_with_len from n) + spare))

-- those without the first number
abbrev later : (n m from gap spare : ℕ) → ℕ
later n m from gap spare = list_count n (from + 1) (m + gap) (sum (range_with_len from n) + spare)

-- those with it are as many as without that number and with the same gap
taken : (n m from gap spare : ℕ) → n ≡ suc m
    → left n from gap spare ≡ left m (from + 1) gap spare + later n m from gap spare
taken n m from gap spare e = ap (λ (k : ℕ). left k from gap spare) e ∙ (by_suc ∙ ap (λ (k : ℕ). left m (from + 1) gap spare + later k m from gap spare) (sym e))
  where
    many : suc m + gap ≡ suc (m + gap)
    many = omega arith

    room : sum (range_with_len from (suc m)) + spare - from
        ≡ sum (range_with_len (from + 1) m) + spare
    room = omega (arith, sum_first from m)

    by_suc : left (suc m) from gap spare
        ≡ left m (from + 1) gap spare + later (suc m) m from gap spare
    by_suc =
        let r = sum (range_with_len from (suc m)) + spare in
        let all : left (suc m) from gap spare ≡ list_count (suc m) from (suc (m + gap)) r = count_is (suc m) from (suc m + gap) r ∙ ap (λ (k : ℕ). list_count (suc m) from k r) many in
        let first : list_count m (from + 1) (m + gap) (r - from) ≡ left m (from + 1) gap spare = ap (list_count m (from + 1) (m + gap)) room ∙ sym (count_is m (from + 1) (m + gap) (sum (range_with_len (from + 1) m) + spare)) in
        omega (arith, all, first, split m from (m + gap) r, begun from r (choices m (range_with_len (from + 1) (m + gap))) (omega (arith, sum_first from m)))

-- none is without it where no number may be left out, or the sum would be too great
none_later : (n m from gap spare : ℕ) → n ≡ suc m → (gap ≡ 0) ⊎ (spare < n)
    → later n m from gap spare ≡ 0
none_later n m from gap spare e (inl none) = too_short n (from + 1) (m + gap) (sum (range_with_len from n) + spare) (omega (arith, e, none))
none_later n m from gap spare e (inr poor) = too_poor n (from + 1) (m + gap) (sum (range_with_len from n) + spare) (omega (arith, poor, sum_next from n))

-- else one number less may be left out, and n is spent
some_later : (n m from gap spare : ℕ) → n ≡ suc m → 0 < gap → n ≤ spare
    → later n m from gap spare ≡ left n (from + 1) (gap - 1) (spare - n)
some_later n m from gap spare e some rich =
    let many : m + gap ≡ n + (gap - 1) = omega (arith, e, some) in
    let room : sum (range_with_len from n) + spare ≡ sum (range_with_len (from + 1) n) + (spare - n) = omega (arith, rich, sum_next from n) in
    (λ i. list_count n (from + 1) (many i) (room i)) ∙ sym (count_is n (from + 1) (n + (gap - 1)) (sum (range_with_len (from + 1) n) + (spare - n)))

-- the count so far where it is full, where nothing more comes, and with what comes
pub full : (most found n m from gap spare : ℕ) → n ≡ suc m
    → found ≡ min most (left m (from + 1) gap spare) → found ≡ most
    → found ≡ min most (left n from gap spare)
full most found n m from gap spare e is all = omega (arith, is, all, taken n m from gap spare e)

pub ended : (most found n m from gap spare : ℕ) → n ≡ suc m
    → found ≡ min most (left m (from + 1) gap spare) → (gap ≡ 0) ⊎ (spare < n)
    → found ≡ min most (left n from gap spare)
ended most found n m from gap spare e is end = omega (arith, is, taken n m from gap spare e, none_later n m from gap spare e end)

pub joined : (most found more n m from gap spare : ℕ) → n ≡ suc m
    → found ≡ min most (left m (from + 1) gap spare) → 0 < gap → n ≤ spare
    → more ≡ min (most - found) (left n (from + 1) (gap - 1) (spare - n))
    → found + more ≡ min most (left n from gap spare)
joined most found more n m from gap spare e is some rich and = omega (arith, is, and, taken n m from gap spare e, some_later n m from gap spare e some rich)
