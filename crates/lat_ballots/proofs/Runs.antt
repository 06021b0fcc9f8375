-- Runs of equal elements, one longer.
use Rattle.std.proofs.Common.{◌≡◌, ◌<◌, ◌+◌, ◌-◌, ◌++◌, ℕ, suc, Bool, true, false, List, [], ◌∷◌, set, replicate, ap, sym, ◌∙◌, arith}
use Rattle.std.proofs.lemmas.List.{replicate-append-replicate, length-replicate, append_assoc}
use Rattle.std.proofs.Math.Seq.{set-append_seam}

pub replicate_more : {A : Type 0} (n : ℕ) (x : A) → replicate n x ++ x ∷ [] ≡ replicate (n + 1) x
replicate_more n x = replicate-append-replicate n 1 x

-- with the bit after the run set, the run is one longer
pub run_more : (n t : ℕ) → t < n
    → set (replicate t true ++ replicate (n - t) false) t true ≡ replicate (t + 1) true
    ++ replicate (n - (t + 1)) false
run_more n t lt =
    let rest : n - t ≡ suc (n - (t + 1)) = omega arith in
    ap (λ (m : ℕ). set (replicate t true ++ replicate m false) t true) rest
    ∙ (ap (λ (i : ℕ). set (replicate t true ++ false ∷ replicate (n - (t + 1)) false) i true) (sym (length-replicate t true))
    ∙ (set-append_seam (replicate t true) false (replicate (n - (t + 1)) false) true
    ∙ (sym (append_assoc (replicate t true) (true ∷ []) (replicate (n - (t + 1)) false))
    ∙ ap (λ (xs : List Bool). xs ++ replicate (n - (t + 1)) false) (replicate_more t true))))
