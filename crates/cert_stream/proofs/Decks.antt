-- A row of a deck and the contests of a part are read once the most bytes would be there.
use Rattle.std.proofs.Common.{◌≡◌, ◌∙◌, ℕ, suc, ◌+◌, ◌-◌, ◌<◌, ◌≤◌, Bool, List, [], ◌∷◌, ◌++◌, length, take, Option, Some, None, refl, sym, ap, subst, append_assoc, arith}
use Rattle.std.specs.Prelude.{slice_set}
use Rattle.std.proofs.lemmas.List.{append-nil, length-set, take_all, take_more_set}
use Rattle.lat_base.specs.declared.contest.Contest.{Contest}
use Rattle.lat_base.specs.Part.{IsPart}
use Rattle.lat_base.specs.Shape.{target_count}
use Rattle.lat_ballots.specs.Deck.{Ballots}
use Rattle.cert_fields.specs.Head.{Head}
use Rattle.cert_fields.specs.PartList.{part_text, part_at}
use Rattle.cert_fields.specs.Reading.{◌>>=◌}
use Rattle.cert_fields.specs.Rows.{row_at, row_text, rows_at}
use Rattle.cert_fields.proofs.Limits.{few_contests}
use Rattle.cert_fields.proofs.Marks.{row_exact}
use Rattle.cert_fields.proofs.PartLists.{part_exact}
use Rattle.cert_types.specs.declared.verdict.Verdict.{Verdict}
use Rattle.cert_stream.specs.Left.{Parts, rows_left, robust_left}
use Rattle.cert_stream.specs.Stands.{Reads}
use Rattle.cert_stream.proofs.Settled.{Settles, settles, reads_so}
use Rattle.cert_stream.proofs.Sizes.{part_size, row_length}

pub row_settles : (targets : ℕ) → 0 < targets → targets ≤ 256 → Settles 1 32 (row_at targets)
row_settles targets some few = settles (row_at targets) (λ row. length row ≡ targets) row_text 1 32 (row_exact targets)
    (λ row long. row_length targets row some few long)

abbrev AndRest : Type 0
AndRest = List (List Bool) × List ℕ

-- the rows that are left, one row at a time: this row, and those behind it
module _ (head : Head) (verdict : Verdict) (ballots : List (List Bool)) (n : ℕ) where
  abbrev pub behind_row : List Bool → List ℕ → Option Parts
  behind_row row bytes = rows_left head verdict (ballots ++ row ∷ []) n bytes

  abbrev pub row_left : List ℕ → Option Parts
  row_left bytes = row_at (target_count head.contests) bytes >>= λ r. behind_row r.0 r.1

  abbrev tree_left : List (List Bool) → List ℕ → Option Parts
  tree_left rows bytes = robust_left head verdict (record { targets = target_count head.contests; ballots = rows }) [] 1 bytes

  abbrev with_row : List Bool → AndRest → AndRest
  with_row row d = (row ∷ d.0, d.1)

  pub row_first : (bytes : List ℕ) → rows_left head verdict ballots (suc n) bytes ≡ row_left bytes
  row_first bytes = by_row (row_at (target_count head.contests) bytes)
    where
      by_rows : (row : List Bool) (o : Option AndRest)
          → (o >>= (λ d. Some (with_row row d)) >>= λ d. tree_left (ballots ++ d.0) d.1)
          ≡ (o >>= λ d. tree_left ((ballots ++ row ∷ []) ++ d.0) d.1)
      by_rows row None = refl
      by_rows row (Some d) = ap (λ (bs : List (List Bool)). tree_left bs d.1) (sym (append_assoc ballots (row ∷ []) d.0))

      by_row : (o : Option (List Bool × List ℕ))
          → (o >>= (λ r. rows_at (target_count head.contests) n r.1 >>= λ d. Some (with_row r.0 d)) >>= λ d. tree_left (ballots ++ d.0) d.1)
          ≡ (o >>= λ r. behind_row r.0 r.1)
      by_row None = refl
      by_row (Some r) = by_rows r.0 (rows_at (target_count head.contests) n r.1)

-- before the last row, what is read is a row
pub row_reads : (head : Head) (verdict : Verdict) (ballots : List (List Bool)) (j n : ℕ) (all held : List ℕ)
    → length ballots - j ≡ suc n
    → Reads all held (rows_left head verdict (take j ballots) (length ballots - j))
    → Reads all held (row_left head verdict (take j ballots) n)
row_reads head verdict ballots j n all held e reads =
    reads_so all held (rows_left head verdict (take j ballots) (suc n)) (row_left head verdict (take j ballots) n) (row_first head verdict (take j ballots) n)
    (subst (λ (m : ℕ). Reads all held (rows_left head verdict (take j ballots) m)) e reads)

-- behind it the deck has it
pub row_done : (head : Head) (verdict : Verdict) (ballots : List (List Bool)) (row : List Bool) (j n : ℕ) (all rest : List ℕ)
    → length ballots - j ≡ suc n
    → Reads all rest (behind_row head verdict (take j ballots) n row)
    → Reads all rest (rows_left head verdict (take (j + 1) (slice_set ballots j row)) (length (slice_set ballots j row) - (j + 1)))
row_done head verdict ballots row j n all rest e reads =
    let front : take (j + 1) (slice_set ballots j row) ≡ take j ballots ++ row ∷ [] = take_more_set ballots j row (omega (arith, e)) in
    let left : length (slice_set ballots j row) - (j + 1) ≡ n = omega (arith, e, length-set ballots j row) in
    rw (front, left) reads

-- behind the last row, what is read is the deck's tree
pub rows_end : (head : Head) (verdict : Verdict) (deck : Ballots) (j : ℕ) (all held : List ℕ)
    → deck.targets ≡ target_count head.contests → j ≡ length deck.ballots
    → Reads all held (rows_left head verdict (take j deck.ballots) (length deck.ballots - j))
    → Reads all held (robust_left head verdict deck [] 1)
rows_end head verdict deck j all held width e reads =
    let none : length deck.ballots - j ≡ 0 = omega (arith, e) in
    let whole : take j deck.ballots ++ [] ≡ deck.ballots = append-nil (take j deck.ballots) ∙ take_all j deck.ballots (omega (arith, e)) in
    let left : Reads all held (rows_left head verdict (take j deck.ballots) 0) = subst (λ (m : ℕ). Reads all held (rows_left head verdict (take j deck.ballots) m)) none reads in
    let wide : Reads all held (robust_left head verdict (record { targets = target_count head.contests; ballots = deck.ballots }) [] 1) = subst (λ (bs : List (List Bool)). Reads all held (robust_left head verdict (record { targets = target_count head.contests; ballots = bs }) [] 1)) whole left in
    subst (λ (targets : ℕ). Reads all held (robust_left head verdict (record { targets = targets; ballots = deck.ballots }) [] 1)) (sym width) wide

pub part_settles : (contests : List Contest) → length contests ≤ 128
    → Settles 1 516 (part_at (length contests))
part_settles contests few = settles (part_at (length contests)) (IsPart contests) part_text 1 516 (part_exact contests)
    (λ cs f. part_size cs (omega (arith, few_contests contests cs f, few)))

pub part_is : (contests : List Contest) (bytes cs rest : List ℕ)
    → part_at (length contests) bytes ≡ Some (cs, rest) → IsPart contests cs
part_is contests bytes cs rest e = ((part_exact contests).takes bytes cs rest e).0
