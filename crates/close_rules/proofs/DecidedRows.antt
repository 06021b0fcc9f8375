-- A row is decided where as many targets are marked as may be.
use Rattle.std.proofs.Common.{◌≡◌, ◌≢◌, ◌+◌, ◌<◌, ◌&&◌, ℕ, suc, Bool, true, false, not, List, [], ◌∷◌, length, drop, get_or, cond, count_by, refl, ap, sym, ◌∙◌, arith, drop-cons}
use Rattle.std.specs.List.{list_all}
use Rattle.std.proofs.lemmas.List.Sums.{sum_by-cons}
use Rattle.lemmas.proofs.Counting.{count_le}
use Rattle.deck_state.specs.declared.mark.Mark.{Mark}
use Rattle.deck_state.specs.declared.mark.Mark.TheVariants.{Marked, Unmarked, Undecided}
use Rattle.deck_state.specs.Mark.{is_marked, may_be_marked, is_undecided}

may_be : (mark : Mark) → is_marked mark ≡ true → may_be_marked mark ≡ true
may_be Marked h = refl
may_be Unmarked h = cc
may_be Undecided h = cc

first_marked : (mark : Mark) (marks : List Mark)
    → count_by is_marked (mark ∷ marks) ≡ cond (is_marked mark) 1 0 + count_by is_marked marks
first_marked mark marks = sum_by-cons (λ (m : Mark). cond (is_marked m) 1 0) mark marks

first_possible : (mark : Mark) (marks : List Mark)
    → count_by may_be_marked (mark ∷ marks)
    ≡ cond (may_be_marked mark) 1 0 + count_by may_be_marked marks
first_possible mark marks = sum_by-cons (λ (m : Mark). cond (may_be_marked m) 1 0) mark marks

pub all_decided : (marks : List Mark) → count_by is_marked marks ≡ count_by may_be_marked marks
    → list_all (λ mark. not (is_undecided mark)) marks ≡ true
all_decided [] h = refl
all_decided (Marked ∷ marks) h = all_decided marks (omega (arith, h, first_marked Marked marks, first_possible Marked marks))
all_decided (Unmarked ∷ marks) h = all_decided marks (omega (arith, h, first_marked Unmarked marks, first_possible Unmarked marks))
all_decided (Undecided ∷ marks) h = absurd (omega (arith, h, first_marked Undecided marks, first_possible Undecided marks, count_le is_marked may_be_marked marks may_be))

pub some_undecided : (marks : List Mark) → count_by is_marked marks ≢ count_by may_be_marked marks
    → list_all (λ mark. not (is_undecided mark)) marks ≡ false
some_undecided [] h = absurd (h refl)
some_undecided (Marked ∷ marks) h = some_undecided marks (λ e. h (omega (arith, e, first_marked Marked marks, first_possible Marked marks)))
some_undecided (Unmarked ∷ marks) h = some_undecided marks (λ e. h (omega (arith, e, first_marked Unmarked marks, first_possible Unmarked marks)))
some_undecided (Undecided ∷ marks) h = refl

-- a test of all rows, one row further
pub row_passes : {X : Type 0} (test : X → Bool) (rows : List X) (j : ℕ) (d : X) → j < length rows
    → test (get_or rows j d) ≡ true
    → list_all test (drop (j + 1) rows) ≡ list_all test (drop j rows)
row_passes {X} test rows j d h here =
    let next : j + 1 ≡ suc j = omega arith in
    ap (λ (k : ℕ). list_all test (drop k rows)) next ∙ ((λ i. sym here i && list_all test (drop (suc j) rows)) ∙ ap (list_all test) (sym (drop-cons rows j d h)))

-- and where one fails it
pub row_fails : {X : Type 0} (test : X → Bool) (rows : List X) (j : ℕ) (d : X) → j < length rows
    → test (get_or rows j d) ≡ false → list_all test (drop j rows) ≡ false
row_fails {X} test rows j d h here = ap (list_all test) (drop-cons rows j d h) ∙ (λ i. here i && list_all test (drop (suc j) rows))
