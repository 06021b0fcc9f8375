-- Loops along the targets of a contest, by what is left to see.
use Rattle.std.proofs.Common.{◌≡◌, ◌≢◌, ◌+◌, ◌&&◌, ℕ, suc, Bool, true, false, not, map, refl, ap, sym, ◌∙◌}
use Rattle.std.specs.Prelude.{◌==◌}
use Rattle.std.specs.Cmp.Lexicographic.{slice_cmp}
use Rattle.std.specs.List.{list_all, range_with_len}
use Rattle.std.specs.Ordering.{nat_cmp, ordering_then, ordering_index}
use Rattle.std.specs.declared.cmp.Ordering.{Ordering}
use Rattle.std.specs.declared.cmp.Ordering.TheVariants.{Less, Equal, Greater}

-- one target passes a test
pub passes_here : (f : ℕ → Bool) (t u n m : ℕ) → n ≡ suc m → u ≡ t + 1 → f t ≡ true
    → list_all f (range_with_len u m) ≡ list_all f (range_with_len t n)
passes_here f t u n m n_is u_is here =
    ap (λ (v : ℕ). list_all f (range_with_len v m)) u_is ∙ ((λ i. sym here i && list_all f (range_with_len (t + 1) m)) ∙ ap (λ (k : ℕ). list_all f (range_with_len t k)) (sym n_is))

-- one target fails it
pub fails_here : (f : ℕ → Bool) (t n m : ℕ) → n ≡ suc m → f t ≡ false
    → list_all f (range_with_len t n) ≡ false
fails_here f t n m n_is here = ap (λ (k : ℕ). list_all f (range_with_len t k)) n_is ∙ (λ i. here i && list_all f (range_with_len (t + 1) m))

then_rest : (o r : Ordering) → o ≡ Equal → ordering_then o r ≡ r
then_rest o r e = ap (λ (x : Ordering). ordering_then x r) e

then_first : (o r : Ordering) → o ≢ Equal → ordering_then o r ≡ o
then_first Less r h = refl
then_first Equal r h = absurd (h refl)
then_first Greater r h = refl

-- two targets have equal numbers
pub equal_here : (f : ℕ → ℕ) (t u v w n m : ℕ) → n ≡ suc m → v ≡ t + 1 → w ≡ u + 1
    → nat_cmp (f t) (f u) ≡ Equal
    → slice_cmp nat_cmp (map f (range_with_len v m)) (map f (range_with_len w m))
    ≡ slice_cmp nat_cmp (map f (range_with_len t n)) (map f (range_with_len u n))
equal_here f t u v w n m n_is v_is w_is here =
    (λ i. slice_cmp nat_cmp (map f (range_with_len (v_is i) m)) (map f (range_with_len (w_is i) m)))
    ∙ (sym (then_rest (nat_cmp (f t) (f u)) (slice_cmp nat_cmp (map f (range_with_len (t + 1) m)) (map f (range_with_len (u + 1) m))) here)
    ∙ ap (λ (k : ℕ). slice_cmp nat_cmp (map f (range_with_len t k)) (map f (range_with_len u k))) (sym n_is))

-- two targets have different ones
pub differs_here : (f : ℕ → ℕ) (t u n m : ℕ) → n ≡ suc m → nat_cmp (f t) (f u) ≢ Equal
    → slice_cmp nat_cmp (map f (range_with_len t n)) (map f (range_with_len u n))
    ≡ nat_cmp (f t) (f u)
differs_here f t u n m n_is here =
    ap (λ (k : ℕ). slice_cmp nat_cmp (map f (range_with_len t k)) (map f (range_with_len u k))) n_is
    ∙ then_first (nat_cmp (f t) (f u)) (slice_cmp nat_cmp (map f (range_with_len (t + 1) m)) (map f (range_with_len (u + 1) m))) here

-- what the test `!=` against `Equal` shows
pub is_equal : (o : Ordering) → not (ordering_index o == 1) ≡ false → o ≡ Equal
is_equal Less h = cc
is_equal Equal h = refl
is_equal Greater h = cc

pub is_unequal : (o : Ordering) → not (ordering_index o == 1) ≡ true → o ≢ Equal
is_unequal o h e = let no : false ≡ true = ap (λ (x : Ordering). not (ordering_index x == 1)) (sym e) ∙ h in cc
