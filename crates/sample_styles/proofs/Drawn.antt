-- The contests, and the styles, that are still to be drawn.
use Rattle.std.proofs.Common.{◌≡◌, ◌+◌, ◌++◌, ◌∷◌, [], ℕ, suc, List, sym, ap, ◌∙◌}
use Rattle.std.proofs.lemmas.List.{append_assoc, append-nil}
use Rattle.lat_base.specs.declared.contest.Contest.{Contest}
use Rattle.sample_styles.specs.Drawing.{contest_after, behind_contest, contests_after, behind_contests, style_after, behind_style}
use Rattle.sample_styles.specs.SampleStyles.{sample_id, samples_after}

-- one is drawn
pub contest_more : (n m x : ℕ) (front all : List Contest) → n ≡ suc m
    → front ++ contests_after n x ≡ all
    → (front ++ contest_after x ∷ []) ++ contests_after m (behind_contest x) ≡ all
contest_more n m x front all e h =
    append_assoc front (contest_after x ∷ []) (contests_after m (behind_contest x))
    ∙ ap (λ (k : ℕ). front ++ contests_after k x) (sym e) ∙ h

pub behind_more : (n m x all : ℕ) → n ≡ suc m → behind_contests n x ≡ all
    → behind_contests m (behind_contest x) ≡ all
behind_more n m x all e h = ap (λ (k : ℕ). behind_contests k x) (sym e) ∙ h

-- none is left
pub contests_end : (n x : ℕ) (front all : List Contest) → n ≡ 0
    → front ++ contests_after n x ≡ all → front ≡ all
contests_end n x front all e h =
    sym (append-nil front) ∙ ap (λ (k : ℕ). front ++ contests_after k x) (sym e) ∙ h

pub behind_end : (n x all : ℕ) → n ≡ 0 → behind_contests n x ≡ all → x ≡ all
behind_end n x all e h = ap (λ (k : ℕ). behind_contests k x) (sym e) ∙ h

-- one style is drawn
pub sample_more : (made n m x : ℕ) → n ≡ suc m
    → samples_after made n x
    ≡ record { id = sample_id (made + 1); shape = style_after x }
    ∷ samples_after (made + 1) m (behind_style x)
sample_more made n m x e = ap (λ (k : ℕ). samples_after made k x) e
