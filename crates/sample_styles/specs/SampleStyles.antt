-- The styles of a seed, with their ids.
use Rattle.std.specs.Prelude.{ℕ, zero, suc, ◌+◌, ◌++◌, List, [], ◌∷◌, codes}
use Rattle.std.specs.Fmt.{decimal}
use Rattle.sample_styles.specs.declared.sample.Sample.{Sample}
use Rattle.sample_styles.specs.Drawing.{style_after, behind_style}

-- the id of style i, counted from 1
abbrev pub sample_id : ℕ → List ℕ
sample_id i = codes "s" ++ decimal i

-- so many styles that are drawn after x, where so many were made before
abbrev pub samples_after : ℕ → ℕ → ℕ → List Sample
samples_after made zero x = []
samples_after made (suc styles) x =
    record { id = sample_id (made + 1); shape = style_after x }
    ∷ samples_after (made + 1) styles (behind_style x)

-- the first so many styles of a seed
abbrev pub sample_styles : ℕ → ℕ → List Sample
sample_styles seed styles = samples_after 0 styles seed
