-- The runs of marks, target by target.
use Rattle.std.proofs.Common.{◌≡◌, ◌+◌, ◌-◌, ◌<◌, ◌≤◌, ◌++◌, ℕ, List, [], ◌∷◌, length, ap, sym, ◌∙◌, arith}
use Rattle.lat_base.specs.Shape.{target_count, first_target, contest_of}
use Rattle.readings.proofs.Places.{is_of, nth_is_of, contest_is, first_next}
use Rattle.lemmas.proofs.Ranges.{made_more, sum_more}
use Rattle.deck_builder.specs.declared.runs.Run.{Run}
use Rattle.deck_builder.specs.Pattern.{Pattern, Fits, size, mark_total, place}
use Rattle.deck_builder.specs.Runs.{run_of, runs_of}
use Rattle.deck_builder.proofs.Raised.{few_marks}

-- the run of target i of contest c
pub run_at : (p : Pattern) (c i : ℕ) → c < length p.contests → i < size p c → run_of p (first_target p.contests c + i) ≡ record { place = place p c i; marks = mark_total p c i }
run_at p c i h lt =
    let t = first_target p.contests c + i in
    let of : contest_of p.contests t ≡ c = contest_is p.contests c t (nth_is_of p.contests c i h lt) in
    let back : t - first_target p.contests c ≡ i = omega arith in
    (λ k. record { place = place p (of k) (t - first_target p.contests (of k)); marks = mark_total p (of k) (t - first_target p.contests (of k)) })
    ∙ (λ k. record { place = place p c (back k); marks = mark_total p c (back k) })

-- one more run
pub runs_more : (p : Pattern) (c i : ℕ) (runs new : List Run) (run : Run) → c < length p.contests
    → i < size p c → runs ≡ runs_of p (first_target p.contests c + i)
    → run ≡ record { place = place p c i; marks = mark_total p c i } → new ≡ runs ++ run ∷ [] → new ≡ runs_of p (first_target p.contests c + (i + 1))
runs_more p c i runs new run h lt before is made =
    let next : first_target p.contests c + i + 1 ≡ first_target p.contests c + (i + 1) = omega arith in
    made ∙ ((λ k. before k ++ (is ∙ sym (run_at p c i h lt)) k ∷ []) ∙ (sym (made_more (run_of p) (first_target p.contests c + i)) ∙ ap (runs_of p) next))

pub place_more : (p : Pattern) (c i : ℕ) → place p c (i + 1) ≡ place p c i + mark_total p c i
place_more p c i = omega (arith, sum_more (mark_total p c) i)

-- all runs of a contest
pub runs_end : (p : Pattern) (c n : ℕ) (runs : List Run) → c < length p.contests → n ≡ size p c
    → runs ≡ runs_of p (first_target p.contests c + n)
    → runs ≡ runs_of p (first_target p.contests (c + 1))
runs_end p c n runs h e is =
    let end : first_target p.contests c + n ≡ first_target p.contests (c + 1) = omega (arith, e, first_next p.contests c h) in
    is ∙ ap (runs_of p) end

-- the run of target t has no more marks than there are working ballots
pub few_in_run : (p : Pattern) (t : ℕ) → Fits p → t < target_count p.contests
    → (run_of p t).marks ≤ p.working
few_in_run p t fits h =
    let c = contest_of p.contests t in
    let of = is_of p.contests t h in
    few_marks p c (t - first_target p.contests c) (fits c of.contest) (omega (arith, of.from, of.to, first_next p.contests c of.contest))
