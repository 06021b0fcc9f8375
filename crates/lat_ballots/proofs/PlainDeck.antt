-- The plain deck, built run by run.
use Rattle.std.proofs.Common.{◌≡◌, ◌<◌, ◌≤◌, ◌+◌, ◌-◌, ◌*◌, ◌++◌, ℕ, zero, suc, Bool, true, false, List, [], ◌∷◌, length, map, take, set, replicate, All, sum_by, ap, sym, subst, ◌∙◌, arith}
use Rattle.std.specs.List.{flat_map, range_with_len}
use Rattle.std.proofs.lemmas.List.{map-append, append-nil, append_assoc, take-replicate, length-replicate, length-append, length-map}
use Rattle.std.proofs.Math.Seq.{take-set-lt, take-append_seam}
use Rattle.std.proofs.Math.ListN.{length-set}
use Rattle.std.proofs.Math.Nat.{mul-add, mul-one}
use Rattle.std.proofs.lemmas.List.Elements.{All-append, All-replicate}
use Rattle.std.proofs.lemmas.List.Concat.{length-flat_map}
use Rattle.std.proofs.lemmas.List.Sums.{sum_by-append, sum_by-cons}
use Rattle.std.proofs.lemmas.Grind.{flat_map-append}
use Rattle.lat_base.specs.Rules.{RuleSet}
use Rattle.lat_ballots.specs.Deck.{Ballots, AreRows, ballots_of}
use Rattle.lat_ballots.specs.Plain.{only, only_ballots, plain_ballots, plain_size}
use Rattle.lat_ballots.proofs.Rows.{map-replicate}
use Rattle.lemmas.proofs.Ranges.{range_more}

-- what stands in the rows when the ballots of the first n targets are there
pub record AreBuilt (targets : ℕ) (rules : RuleSet) (n : ℕ) (rows : List (List Bool)) : Type 0 where
  pub long : All (λ row. length row ≡ 256) rows
  pub are : map (take targets) rows ≡ replicate rules.over (replicate targets true)
      ++ flat_map (only_ballots targets rules) (range_with_len 0 n)

-- copies of a row put at the end
copies : (targets : ℕ) (rows : List (List Bool)) (n : ℕ) (row : List Bool)
    → map (take targets) (rows ++ replicate n row) ≡ map (take targets) rows
    ++ replicate n (take targets row)
copies targets rows n row =
    map-append (take targets) rows (replicate n row) ∙ ap (λ (r : List (List Bool)). map (take targets) rows ++ r) (map-replicate (take targets) n row)

first_long : (targets : ℕ) → targets ≤ 256
    → length (replicate targets true ++ replicate (256 - targets) false) ≡ 256
first_long targets few = omega (arith, length-append (replicate targets true) (replicate (256 - targets) false), length-replicate targets true, length-replicate (256 - targets) false)

first_taken : (targets : ℕ) → take targets
    (replicate targets true ++ replicate (256 - targets) false) ≡ replicate targets true
first_taken targets =
    ap (λ (n : ℕ). take n (replicate targets true ++ replicate (256 - targets) false)) (sym (length-replicate targets true)) ∙ take-append_seam (replicate targets true) (replicate (256 - targets) false)

only_long : (t : ℕ) → length (only 256 t) ≡ 256
only_long t = length-set (replicate 256 false) t true ∙ length-replicate 256 false

only_taken : (targets t : ℕ) → targets ≤ 256 → t < targets
    → take targets (only 256 t) ≡ only targets t
only_taken targets t few lt = take-set-lt targets (replicate 256 false) t true lt ∙ ap (λ (b : List Bool). set b t true) (take-replicate targets 256 false few)

-- the wholly marked ballots come first
pub built_first : (targets n k : ℕ) (rules : RuleSet) (before new : List (List Bool))
    (row : List Bool) → n ≤ 256 → n ≡ targets → row ≡ replicate n true ++ replicate (256 - n) false
    → before ≡ [] → k ≡ rules.over → new ≡ before ++ replicate k row → AreBuilt targets rules 0 new
built_first targets n k rules before new row few e is none count whole =
    let all : new ≡ [] ++ replicate rules.over row = whole ∙ (λ i. none i ++ replicate (count i) row) in
    record {
      long = subst (All (λ (r : List Bool). length r ≡ 256)) (sym all) (All-replicate (λ (r : List Bool). length r ≡ 256) rules.over row (ap length is ∙ first_long n few));
      are = ap (map (take targets)) all ∙ copies targets [] rules.over row
          ∙ ap (replicate rules.over) (ap (take targets) is ∙ ap (λ (m : ℕ). take targets (replicate m true ++ replicate (256 - m) false)) e ∙ first_taken targets)
          ∙ sym (append-nil (replicate rules.over (replicate targets true)));
    }

-- then those of one more target
pub built_more : (targets : ℕ) (rules : RuleSet) (t n : ℕ) (rows new : List (List Bool))
    (row : List Bool) → targets ≤ 256 → t < targets → AreBuilt targets rules t rows
    → row ≡ only 256 t → n ≡ t + 1 + (rules.least - 1) → new ≡ rows ++ replicate n row
    → AreBuilt targets rules (t + 1) new
built_more targets rules t n rows new row few lt built is count all =
    let there = replicate rules.over (replicate targets true) in
    let before = flat_map (only_ballots targets rules) (range_with_len 0 t) in
    record {
      long = subst (All (λ (r : List Bool). length r ≡ 256)) (sym all) (All-append (λ (r : List Bool). length r ≡ 256) rows (replicate n row) built.long (All-replicate (λ (r : List Bool). length r ≡ 256) n row (ap length is ∙ only_long t)));
      are = ap (map (take targets)) all ∙ copies targets rows n row
          ∙ ap (λ (r : List (List Bool)). r ++ replicate n (take targets row)) built.are
          ∙ ap (λ (b : List Bool). (there ++ before) ++ replicate n b) (ap (take targets) is ∙ only_taken targets t few lt)
          ∙ ap (λ (m : ℕ). (there ++ before) ++ replicate m (only targets t)) count
          ∙ append_assoc there before (only_ballots targets rules t)
          ∙ ap (λ (r : List (List Bool)). there ++ r) (ap (λ (r : List (List Bool)). before ++ r) (sym (append-nil (only_ballots targets rules t)))
          ∙ sym (flat_map-append (only_ballots targets rules) (range_with_len 0 t) (t ∷ [])) ∙ ap (flat_map (only_ballots targets rules)) (sym (range_more t)));
    }

-- the product of one more number
product_more : (n m : ℕ) → suc n * m ≡ n * m + m
product_more n m = omega arith

triangle_more : (n : ℕ) → suc n * (suc n + 1) ≡ n * (n + 1) + 2 * n + 2
triangle_more n =
    let next : suc n + 1 ≡ n + 1 + 1 = omega arith in
    omega (arith, product_more n (suc n + 1), ap (λ (k : ℕ). n * k) next, mul-add n (n + 1) 1, mul-one n)

-- the numbers of ballots of the first n targets, twice
twice_sum : (targets : ℕ) (rules : RuleSet) (n : ℕ)
    → 2 * sum_by (λ t. length (only_ballots targets rules t)) (range_with_len 0 n)
    ≡ n * (n + 1) + 2 * (n * (rules.least - 1))
twice_sum targets rules zero = omega arith
twice_sum targets rules (suc n) =
    let count = λ (t : ℕ). length (only_ballots targets rules t) in
    let next : suc n ≡ n + 1 = omega arith in
    let here : count n ≡ n + 1 + (rules.least - 1) = length-replicate (n + 1 + (rules.least - 1)) (only targets n) in
    let last = sum_by-cons count n [] in
    let sum = ap (λ (m : ℕ). sum_by count (range_with_len 0 m)) next ∙ ap (sum_by count) (range_more n) ∙ sum_by-append count (range_with_len 0 n) (n ∷ []) in
    omega (arith, sum, last, here, twice_sum targets rules n, triangle_more n, product_more n (rules.least - 1))

-- so many ballots are there in the end
pub plain_long : (targets : ℕ) (rules : RuleSet)
    → length (plain_ballots targets rules).ballots ≡ plain_size targets rules
plain_long targets rules =
    let full = replicate rules.over (replicate targets true) in
    let each = flat_map (only_ballots targets rules) (range_with_len 0 targets) in
    let empty = replicate rules.blank (replicate targets false) in
    omega (
      arith,
      length-append (full ++ each) empty,
      length-append full each,
      length-replicate rules.over (replicate targets true),
      length-replicate rules.blank (replicate targets false),
      length-flat_map (only_ballots targets rules) (range_with_len 0 targets),
      twice_sum targets rules targets,
    )

-- and last the blank ones
built_deck : (targets : ℕ) (rules : RuleSet) (rows new : List (List Bool)) (row : List Bool)
    → targets ≤ 256 → AreBuilt targets rules targets rows
    → row ≡ replicate 256 false → new ≡ rows ++ replicate rules.blank row
    → ballots_of targets new ≡ plain_ballots targets rules
built_deck targets rules rows new row few built is all =
    let full = replicate rules.over (replicate targets true) in
    let each = flat_map (only_ballots targets rules) (range_with_len 0 targets) in
    ap (λ (bs : List (List Bool)). record { targets = targets; ballots = bs })
    (ap (map (take targets)) all ∙ copies targets rows rules.blank row
    ∙ ap (λ (r : List (List Bool)). r ++ replicate rules.blank (take targets row)) built.are
    ∙ ap (λ (b : List Bool). (full ++ each) ++ replicate rules.blank b) (ap (take targets) is ∙ take-replicate targets 256 false few))

pub built_rows : (targets n t k : ℕ) (rules : RuleSet) (rows new : List (List Bool))
    (row : List Bool) → targets ≤ 256 → n ≡ targets → t ≡ targets → AreBuilt targets rules t rows
    → row ≡ replicate 256 false → k ≡ rules.blank → new ≡ rows ++ replicate k row
    → plain_size targets rules ≤ 1024
    → AreRows n new × (ballots_of n new ≡ plain_ballots targets rules)
built_rows targets n t k rules rows new row few e end built is count whole fits =
    let all : new ≡ rows ++ replicate rules.blank row = whole ∙ ap (λ (m : ℕ). rows ++ replicate m row) count in
    let done = subst (λ (m : ℕ). AreBuilt targets rules m rows) end built in
    let deck = built_deck targets rules rows new row few done is all in
    let long = ap (λ (d : Ballots). length d.ballots) deck in (
      record {
        long = subst (All (λ (r : List Bool). length r ≡ 256)) (sym all) (All-append (λ (r : List Bool). length r ≡ 256) rows (replicate rules.blank row) built.long
            (All-replicate (λ (r : List Bool). length r ≡ 256) rules.blank row (ap length is ∙ length-replicate 256 false)));
        few = omega (arith, length-map new (take targets), long, plain_long targets rules, fits);
        few_targets = omega (arith, e, few);
      },
      ap (λ (m : ℕ). ballots_of m new) e ∙ deck,
    )

-- each ballot has a mark or none for each target
pub plain_fits : (targets : ℕ) (rules : RuleSet)
    → All (λ (b : List Bool). length b ≡ targets) (plain_ballots targets rules).ballots
plain_fits targets rules =
    All-append (λ (b : List Bool). length b ≡ targets) (replicate rules.over (replicate targets true) ++ flat_map (only_ballots targets rules) (range_with_len 0 targets)) (replicate rules.blank (replicate targets false))
    (All-append (λ (b : List Bool). length b ≡ targets) (replicate rules.over (replicate targets true)) (flat_map (only_ballots targets rules) (range_with_len 0 targets))
    (All-replicate (λ (b : List Bool). length b ≡ targets) rules.over (replicate targets true) (length-replicate targets true)) (runs (range_with_len 0 targets)))
    (All-replicate (λ (b : List Bool). length b ≡ targets) rules.blank (replicate targets false) (length-replicate targets false))
  where
    All-nil : All (λ (b : List Bool). length b ≡ targets) []
    All-nil i d lt = absurd (omega arith)

    runs : (ts : List ℕ) → All (λ (b : List Bool). length b ≡ targets)
        (flat_map (only_ballots targets rules) ts)
    runs [] = All-nil
    runs (t ∷ ts) =
        All-append (λ (b : List Bool). length b ≡ targets) (only_ballots targets rules t) (flat_map (only_ballots targets rules) ts)
        (All-replicate (λ (b : List Bool). length b ≡ targets) (t + 1 + (rules.least - 1)) (only targets t) (length-set (replicate targets false) t true ∙ length-replicate targets false)) (runs ts)
