-- The plain deck: its ballots, and how many of them vote for a target.
use Rattle.std.proofs.Common.{◌≡◌, ◌+◌, ◌-◌, ◌*◌, ◌<◌, ◌≤◌, ◌&&◌, ◌++◌, ℕ, zero, suc, Bool, true, false, not, List, length, get_or, replicate, cond, count_by, refl, ap, sym, ◌∙◌, arith, All, inl, inr}
use Rattle.std.specs.Prelude.{◌==◌}
use Rattle.std.specs.List.{range_with_len, flat_map}
use Rattle.std.proofs.lemmas.Bool.{cases_eq, cases_lt, le-ltb, ne_eqb, eq-eqb}
use Rattle.std.proofs.lemmas.List.{get_or-set_same, get_or-set_other, get_or-replicate, get_or_past, length-replicate}
use Rattle.std.proofs.Math.ListN.{length-set}
use Rattle.std.proofs.lemmas.List.Elements.{All-append, All-replicate}
use Rattle.std.proofs.lemmas.List.Sums.{sum_by-append}
use Rattle.lat_base.specs.declared.contest.Contest.{Contest}
use Rattle.lat_base.specs.Deck.{Fits}
use Rattle.lat_base.specs.Misassignment.{identity}
use Rattle.lat_base.specs.Rules.{RuleSet}
use Rattle.lat_base.specs.Shape.{target_count, first_target, contest_at, contest_of, no_contest, IsShape}
use Rattle.lat_base.specs.Tally.{is_marked, mark_count, is_overvoted, reading, votes_for, own_total}
use Rattle.lat_ballots.specs.Plain.{only, only_ballots, plain_ballots}
use Rattle.readings.specs.Structural.{targets_of}
use Rattle.lemmas.proofs.Counting.{count_alike, count_map}
use Rattle.readings.proofs.Marks.{marks_are}
use Rattle.readings.proofs.Places.{is_of, first_next}
use Rattle.lemmas.proofs.Ranges.{one_in}
use Rattle.readings.proofs.Readings.{reading_identity}
use Rattle.symmetry.proofs.Copies.{full, unmarked, copies_that, all_copies, no_copies, full_votes, unmarked_votes}

-- the ballots of one mark, and the three kinds together
abbrev pub singles : List Contest → RuleSet → List (List Bool)
singles contests rules = flat_map (only_ballots (target_count contests) rules) (range_with_len 0 (target_count contests))

abbrev pub plain : List Contest → RuleSet → List (List Bool)
plain contests rules = (plain_ballots (target_count contests) rules).ballots

-- a ballot that marks only a target that is at least t
pub record IsSingle (n t : ℕ) (ballot : List Bool) : Type 0 where
  pub target : ℕ
  pub from : t ≤ target
  pub within : target < n
  pub is : ballot ≡ only n target

weaker : (n t : ℕ) (ballot : List Bool) → IsSingle n (t + 1) ballot → IsSingle n t ballot
weaker n t ballot s = record { target = s.target; from = omega (arith, s.from); within = s.within; is = s.is }

-- the ballots of so many targets from t on
pub are_single : (n : ℕ) (rules : RuleSet) (t m : ℕ) → t + m ≤ n
    → All (IsSingle n t) (flat_map (only_ballots n rules) (range_with_len t m))
are_single n rules t zero le = λ i d lt. absurd (omega (arith, lt))
are_single n rules t (suc m) le =
    All-append (IsSingle n t) (only_ballots n rules t) (flat_map (only_ballots n rules) (range_with_len (t + 1) m))
    (All-replicate (IsSingle n t) (t + 1 + (rules.least - 1)) (only n t) (record { target = t; from = omega arith; within = omega (arith, le); is = refl }))
    (λ i d lt. weaker n t (get_or (flat_map (only_ballots n rules) (range_with_len (t + 1) m)) i d) (are_single n rules (t + 1) m (omega (arith, le)) i d lt))

-- what a ballot of one mark marks
pub only_mark : (n t u : ℕ) → t < n → is_marked (only n t) u ≡ (u == t)
only_mark n t u h = elim (cases_eq u t) [
  | inl same ↦ ap (is_marked (only n t)) same ∙ (get_or-set_same (replicate n false) t true false (omega (arith, h, length-replicate n false)) ∙ sym (eq-eqb u t same))
  | inr other ↦ get_or-set_other (replicate n false) t u true false other ∙ (none ∙ sym (ne_eqb u t other))
]
  where
    none : get_or (replicate n false) u false ≡ false
    none = elim (cases_lt u n) [
      | inl lt ↦ get_or-replicate n u false false lt
      | inr le ↦ get_or_past (replicate n false) u false (omega (arith, le, length-replicate n false))
    ]

pub only_long : (n t : ℕ) → length (only n t) ≡ n
only_long n t = length-set (replicate n false) t true ∙ length-replicate n false

-- it isn't overvoted in the contest of its mark
only_fine : (contests : List Contest) (t : ℕ) → IsShape contests → t < target_count contests
    → is_overvoted contests (only (target_count contests) t) (contest_of contests t) ≡ false
only_fine contests t shape h =
    let n = target_count contests in
    let c = contest_of contests t in
    let of = is_of contests t h in
    let first = first_target contests c in
    let m = (contest_at contests c).targets in
    let one : mark_count contests (only n t) c ≡ 1 =
    ap (count_by (λ (x : Bool). x)) (marks_are contests (only n t) c of.contest (only_long n t))
    ∙ (count_map (is_marked (only n t)) (λ (x : Bool). x) (targets_of contests c)
    ∙ (count_alike (is_marked (only n t)) (λ u. u == t) (targets_of contests c) (λ i d lt. only_mark n t (get_or (targets_of contests c) i d) h)
    ∙ one_in first m t of.from (omega (arith, of.to, first_next contests c of.contest)))) in
    let limit = (shape.limits c no_contest of.contest).0 in
    le-ltb (contest_at contests c).limit (mark_count contests (only n t) c) (omega (arith, one, limit))

-- and votes for its target alone
only_votes : (contests : List Contest) (t u : ℕ) → IsShape contests → t < target_count contests
    → u < target_count contests → votes_for contests (only (target_count contests) t) u ≡ (u == t)
only_votes contests t u shape h u_in = elim (cases_eq u t) [
  | inl same ↦
      let fine : is_overvoted contests (only (target_count contests) t) (contest_of contests u) ≡ false = ap (λ (x : ℕ). is_overvoted contests (only (target_count contests) t) (contest_of contests x)) same ∙ only_fine contests t shape h in
      (λ k. (only_mark (target_count contests) t u h ∙ eq-eqb u t same) k && not (fine k)) ∙ sym (eq-eqb u t same)
  | inr other ↦
      (λ k. (only_mark (target_count contests) t u h ∙ ne_eqb u t other) k && not (is_overvoted contests (only (target_count contests) t) (contest_of contests u))) ∙ sym (ne_eqb u t other)
]

-- how many ballots of one mark vote for target u, of those of so many targets from t on
in_singles : (contests : List Contest) (rules : RuleSet) (u t m : ℕ) → IsShape contests
    → u < target_count contests → t + m ≤ target_count contests
    → ((u < t) → count_by (λ b. votes_for contests b u)
    (flat_map (only_ballots (target_count contests) rules) (range_with_len t m)) ≡ 0)
    × (t ≤ u → u < t + m → count_by (λ b. votes_for contests b u) (flat_map (only_ballots (target_count contests) rules) (range_with_len t m)) ≡ u + 1 + (rules.least - 1))
in_singles contests rules u t zero shape u_in le = (λ lt. refl, λ from to. absurd (omega (arith, from, to)))
in_singles contests rules u t (suc m) shape u_in le =
    let n = target_count contests in
    let votes : List Bool → Bool = λ b. votes_for contests b u in
    let copies = t + 1 + (rules.least - 1) in
    let rest = flat_map (only_ballots n rules) (range_with_len (t + 1) m) in
    let later = in_singles contests rules u (t + 1) m shape u_in (omega (arith, le)) in
    let both = sum_by-append (λ (b : List Bool). cond (votes b) 1 0) (replicate copies (only n t)) rest in
    let mark = only_votes contests t u shape (omega (arith, le)) u_in in (
      λ lt. omega (arith, both, no_copies votes copies (only n t) (mark ∙ ne_eqb u t (λ e. absurd (omega (arith, lt, e)))), later.0 (omega (arith, lt))),
      λ from to. elim (cases_eq u t) [
        | inl same ↦ omega (arith, both, all_copies votes copies (only n t) (mark ∙ eq-eqb u t same), later.0 (omega (arith, same)), same)
        | inr other ↦ omega (arith, both, no_copies votes copies (only n t) (mark ∙ ne_eqb u t other), later.1 (omega (arith, from, other)) (omega (arith, to)))
      ],
    )

-- each ballot has a mark or none for each target
pub plain_fits : (contests : List Contest) (rules : RuleSet)
    → Fits (target_count contests) (plain contests rules)
plain_fits contests rules =
    let n = target_count contests in
    let long : List Bool → Type 0 = λ b. length b ≡ n in
    All-append long (replicate rules.over (full contests) ++ singles contests rules) (replicate rules.blank (unmarked contests))
    (All-append long (replicate rules.over (full contests)) (singles contests rules)
    (All-replicate long rules.over (full contests) (length-replicate n true))
    (λ i d lt. let s = are_single n rules 0 n (omega arith) i d lt in ap length s.is ∙ only_long n s.target))
    (All-replicate long rules.blank (unmarked contests) (length-replicate n false))

-- the votes of the ballots that are marked everywhere
abbrev pub of_full : List Contest → RuleSet → ℕ → ℕ
of_full contests rules c = rules.over * cond (not (is_overvoted contests (full contests) c)) 1 0

-- counts over the three kinds
pub in_three : (contests : List Contest) (rules : RuleSet) (f : List Bool → Bool)
    → count_by f (plain contests rules)
    ≡ count_by f (replicate rules.over (full contests)) + count_by f
    (singles contests rules) + count_by f (replicate rules.blank (unmarked contests))
in_three contests rules f =
    omega (
      arith,
      sum_by-append (λ (b : List Bool). cond (f b) 1 0) (replicate rules.over (full contests) ++ singles contests rules) (replicate rules.blank (unmarked contests)),
      sum_by-append (λ (b : List Bool). cond (f b) 1 0) (replicate rules.over (full contests)) (singles contests rules),
    )

-- the total of target u
pub plain_total : (contests : List Contest) (rules : RuleSet) (u : ℕ) → IsShape contests
    → u < target_count contests
    → own_total contests (plain contests rules) u
    ≡ of_full contests rules (contest_of contests u) + (u + 1 + (rules.least - 1))
plain_total contests rules u shape h =
    let n = target_count contests in
    let votes : List Bool → Bool = λ b. votes_for contests b u in
    let own : own_total contests (plain contests rules) u ≡ count_by votes (plain contests rules) =
    count_alike (λ (b : List Bool). votes_for contests (reading b (identity n)) u) votes (plain contests rules)
    (λ j d lt. ap (λ (b : List Bool). votes_for contests b u) (reading_identity (get_or (plain contests rules) j d) n (plain_fits contests rules j d lt))) in
    omega (
      arith,
      own,
      in_three contests rules votes,
      copies_that votes rules.over (full contests) (not (is_overvoted contests (full contests) (contest_of contests u))) (full_votes contests u h),
      (in_singles contests rules u 0 n shape h (omega arith)).1 (omega arith) (omega (arith, h)),
      no_copies votes rules.blank (unmarked contests) (unmarked_votes contests u h),
    )
