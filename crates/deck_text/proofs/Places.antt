-- Where the name of a target stands among the names of a style.
use Rattle.std.proofs.Common.{◌≡◌, ◌<◌, ◌≤◌, ◌+◌, ◌-◌, ℕ, zero, suc, List, [], ◌∷◌, length, take, get_or, ap, sym, ◌∙◌, refl, arith}
use Rattle.std.specs.List.{sum_by}
use Rattle.std.proofs.lemmas.List.{length-map, get_or-map, take_all}
use Rattle.std.proofs.lemmas.List.Concat.{length-flat_map, get_or-flat_map}
use Rattle.std.proofs.lemmas.List.Sums.{sum_by-cons, sum_by_more}
use Rattle.lat_base.specs.declared.contest.Contest.{Contest}
use Rattle.lat_base.specs.declared.contest_names.ContestNames.{ContestNames}
use Rattle.lat_base.specs.Names.{NamesFit, names_at, no_names}
use Rattle.lat_base.specs.Shape.{contest_at, first_target, target_count, no_contest}
use Rattle.deck_text.specs.TargetNames.{names_in, target_names, name_at, no_name}

-- the names of the contests after the first fit these contests
fit_rest : (n : ContestNames) (names : List ContestNames) (k : Contest) (contests : List Contest)
    → NamesFit (n ∷ names) (k ∷ contests) → NamesFit names contests
fit_rest n names k contests fit = record { count = omega (arith, fit.count); targets = λ c lt. fit.targets (suc c) (omega (arith, lt)) }

-- as many names stand before those of contest c as targets
names_before : (names : List ContestNames) (contests : List Contest) (c : ℕ)
    → NamesFit names contests
    → sum_by (λ x. length (names_in x)) (take c names) ≡ first_target contests c
names_before names contests zero fit = refl
names_before [] [] (suc c) fit = refl
names_before [] (k ∷ contests) (suc c) fit = absurd (omega (arith, fit.count))
names_before (n ∷ names) [] (suc c) fit = absurd (omega (arith, fit.count))
names_before (n ∷ names) (k ∷ contests) (suc c) fit =
    let here : length (names_in n) ≡ k.targets = length-map n.targets (λ (id : List ℕ). record { contest = n.id; target = id }) ∙ fit.targets 0 (omega arith) in
    let more = names_before names contests c (fit_rest n names k contests fit) in
    sum_by-cons (λ (x : ContestNames). length (names_in x)) n (take c names)
    ∙ (λ i. here i + more i)
    ∙ sym (sum_by-cons (λ (x : Contest). x.targets) k (take c contests))

-- as many names as targets in all
pub names_count : (names : List ContestNames) (contests : List Contest) → NamesFit names contests
    → length (target_names names) ≡ target_count contests
names_count names contests fit =
    length-flat_map names_in names
    ∙ ap (λ (ns : List ContestNames). sum_by (λ x. length (names_in x)) ns) (sym (take_all (length contests) names (omega (arith, fit.count))))
    ∙ names_before names contests (length contests) fit
    ∙ ap target_count (take_all (length contests) contests (omega arith))

-- target i of contest c has the name number t, where so many stand before it
name_is : (names : List ContestNames) (contests : List Contest) (t c i : ℕ)
    → NamesFit names contests → c < length contests
    → t ≡ first_target contests c + i → i < (contest_at contests c).targets
    → name_at (target_names names) t ≡ record { contest = (names_at names c).id; target = get_or (names_at names c).targets i [] }
name_is names contests t c i fit within place low =
    let here : length (names_at names c).targets ≡ (contest_at contests c).targets = fit.targets c within in
    let many : length (names_in (names_at names c)) ≡ length (names_at names c).targets = length-map (names_at names c).targets _ in
    ap (name_at (target_names names)) (place ∙ ap (λ (n : ℕ). n + i) (sym (length-flat_map names_in (take c names) ∙ names_before names contests c fit)))
    ∙ get_or-flat_map names_in names c i no_names no_name (omega (arith, fit.count, within)) (omega (arith, many, here, low))
    ∙ get_or-map (λ (id : List ℕ). record { contest = (names_at names c).id; target = id }) (names_at names c).targets i [] no_name (omega (arith, here, low))

-- the name of target t, which is of contest c
pub name_of : (names : List ContestNames) (contests : List Contest) (t c first : ℕ)
    → NamesFit names contests → c < length contests
    → first ≡ first_target contests c → first_target contests c ≤ t
    → t < first_target contests (c + 1)
    → name_at (target_names names) t ≡ record { contest = (names_at names c).id; target = get_or (names_at names c).targets (t - first) [] }
name_of names contests t c first fit within start low high =
    let next = sum_by_more (λ (x : Contest). x.targets) contests c no_contest within in
    name_is names contests t c (t - first) fit within (omega arith) (omega arith)
