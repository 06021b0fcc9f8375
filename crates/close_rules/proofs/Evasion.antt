-- A misassignment that changes no total of the decided contests that it touches changes none of a
-- solution.
use Rattle.std.proofs.Common.{◌≡◌, ◌+◌, ◌-◌, ◌<◌, ◌&&◌, ℕ, Bool, true, false, not, List, [], length, get_or, refl, ap, sym, ◌∙◌, arith}
use Rattle.std.specs.List.{list_all, range_with_len}
use Rattle.std.proofs.lemmas.List.Sums.{AllPass-from_list_all}
use Rattle.std.proofs.lemmas.Bool.{and_parts, not-true, eqb-true}
use Rattle.lat_base.specs.Shape.{target_count, first_target, contest_of}
use Rattle.lat_base.specs.Misassignment.{identity, source}
use Rattle.lat_base.specs.Tally.{reading, votes_for, total, own_total}
use Rattle.lat_base.specs.Tally as tally
use Rattle.readings.specs.Structural.{targets_of}
use Rattle.readings.proofs.Places.{is_of, first_le}
use Rattle.lemmas.proofs.Counting.{count_alike}
use Rattle.readings.proofs.Readings.{reading_at, reading_long, reading_identity}
use Rattle.readings.proofs.Reports.{same_report}
use Rattle.readings.proofs.Turned.{apart_of}
use Rattle.readings.proofs.Within.{source_within}
use Rattle.deck_state.specs.declared.mark.Mark.{Mark}
use Rattle.deck_state.specs.declared.mark.Mark.TheVariants.{Marked, Unmarked, Undecided}
use Rattle.deck_state.specs.Mark.{is_marked, is_undecided}
use Rattle.deck_state.specs.PartialDeck.{PartialDeck, mark_at}
use Rattle.deck_state.specs.Trail.{IsPartial}
use Rattle.deck_state.specs.Completion.{Agrees}
use Rattle.deck_state.specs.Shown.{shown}
use Rattle.deck_state.specs.Votes.{marks_in}
use Rattle.deck_state.proofs.Alike.{alike_at}
use Rattle.deck_state.proofs.Compared.{counts_same, slice_long, slice_at}
use Rattle.deck_state.proofs.ShownDecks.{shown_size, shown_mark, shown_fits}
use Rattle.close_rules.specs.Evading.{stays, is_decided, keeps_total, is_left, keeps_contest, is_misassignment, evades}
use Rattle.close_rules.specs.Solution.{IsSolution}
use Rattle.close_rules.proofs.Misassigned.{all_stay}
use Rattle.close_rules.proofs.Touched.{votes_alike, Touches, touches, at_target}

decided_mark : (mark : Mark) (there : Bool) → Agrees mark there → not (is_undecided mark) ≡ true
    → is_marked mark ≡ there
decided_mark Marked there agrees e = sym agrees
decided_mark Unmarked there agrees e = sym agrees
decided_mark Undecided there agrees e = cc

-- where each mark of a contest is decided, the marks that are shown are the deck's
same_mark : (p : PartialDeck) (deck : List (List Bool)) (j v : ℕ) → IsPartial p → IsSolution p deck
    → j < p.ballots → v < target_count p.contests → is_decided p (contest_of p.contests v) ≡ true
    → tally.is_marked (get_or deck j []) v ≡ tally.is_marked (get_or (shown p) j []) v
same_mark p deck j v is solution h k decided =
    let contests = p.contests in
    let c = contest_of contests v in
    let first = first_target contests c in
    let last = first_target contests (c + 1) in
    let of = is_of contests v k in
    let alike = alike_at p deck j is solution.completion h in
    let row = get_or p.marks j [] in
    let marks = AllPass-from_list_all (λ (r : List Mark). list_all (λ mark. not (is_undecided mark)) (marks_in contests r c)) p.marks decided j [] (omega (arith, h, is.height)) in
    let place : first + (v - first) ≡ v = omega (arith, of.from) in
    let within : v - first < last - first = omega (arith, of.from, of.to) in
    let long : length (marks_in contests row c) ≡ last - first = slice_long row first last (omega (arith, alike.row_long, first_le contests (c + 1))) in
    let at : get_or (marks_in contests row c) (v - first) Undecided ≡ get_or row v Undecided = slice_at row first last (v - first) Undecided within ∙ ap (λ (t : ℕ). get_or row t Undecided) place in
    let known = ap (λ (mark : Mark). not (is_undecided mark)) (sym at) ∙ AllPass-from_list_all (λ mark. not (is_undecided mark)) (marks_in contests row c) marks (v - first) Undecided (omega (arith, within, long)) in
    sym (shown_mark p j v is h k ∙ decided_mark (mark_at p j v) (get_or (get_or deck j []) v false) (alike.agrees v k) known)

-- each total of a solution is kept
kept_total : (p : PartialDeck) (deck : List (List Bool)) (s : List ℕ) (u : ℕ) → IsPartial p
    → IsSolution p deck → Touches p s → u < target_count p.contests
    → total p.contests deck s u ≡ own_total p.contests deck u
kept_total p deck s u is solution touches h = by_contest (is_left p.contests s (contest_of p.contests u)) refl
  where
    n : ℕ
    n = target_count p.contests

    read_long : (ballot : List Bool) → length (reading ballot s) ≡ target_count p.contests
    read_long ballot = reading_long ballot s ∙ touches.is.long

    decided_at : (v : ℕ) → v < target_count p.contests
        → is_left p.contests s (contest_of p.contests v) ≡ false
        → is_decided p (contest_of p.contests v) ≡ true
    decided_at v lt left = (and_parts (is_decided p (contest_of p.contests v)) (list_all (keeps_total p s) (targets_of p.contests (contest_of p.contests v))) (touches.kept v lt left)).0

    -- a target of a contest that is left has its own source, so the source of another is of one
    -- that isn't
    source_touched : (v : ℕ) → v < target_count p.contests
        → is_left p.contests s (contest_of p.contests v) ≡ false
        → is_left p.contests s (contest_of p.contests (source s v)) ≡ false
    source_touched v lt left = by_answer (is_left p.contests s (contest_of p.contests (source s v))) refl
      where
        by_answer : (b : Bool) → is_left p.contests s (contest_of p.contests (source s v)) ≡ b
            → is_left p.contests s (contest_of p.contests (source s v)) ≡ false
        by_answer false e = e
        by_answer true e =
            let within = source_within (target_count p.contests) s touches.is v lt in
            let fixed = touches.left (source s v) within e in
            let same : source s v ≡ v = apart_of (target_count p.contests) s (source s v) v touches.is within lt fixed in
            ap (λ (x : ℕ). is_left p.contests s (contest_of p.contests x)) same ∙ left

    by_contest : (b : Bool) → is_left p.contests s (contest_of p.contests u) ≡ b
        → total p.contests deck s u ≡ own_total p.contests deck u
    by_contest true left =
        count_alike (λ (ballot : List Bool). votes_for p.contests (reading ballot s) u) (λ (ballot : List Bool). votes_for p.contests (reading ballot (identity (target_count p.contests))) u) deck
        (λ j d lt.
        let ballot = get_or deck j d in
        let long = solution.good.fits j d lt in
        votes_alike p.contests (reading ballot s) ballot u h (read_long ballot) long
        (λ v v_in same. reading_at ballot s v (omega (arith, v_in, touches.is.long)) ∙ ap (tally.is_marked ballot) (touches.left v v_in (ap (is_left p.contests s) same ∙ left)))
        ∙ ap (λ (read : List Bool). votes_for p.contests read u) (sym (reading_identity ballot (target_count p.contests) long)))
    by_contest false left =
        let size : length deck ≡ length (shown p) = solution.completion.size ∙ sym (shown_size p is) in
        let read = counts_same (λ (ballot : List Bool). votes_for p.contests (reading ballot s) u) (λ (ballot : List Bool). votes_for p.contests (reading ballot s) u) deck (shown p) [] [] size
        (λ j lt.
        let j_in : j < p.ballots = omega (arith, lt, solution.completion.size) in
        votes_alike p.contests (reading (get_or deck j []) s) (reading (get_or (shown p) j []) s) u h (read_long (get_or deck j [])) (read_long (get_or (shown p) j []))
        (λ v v_in same.
        let v_left = ap (is_left p.contests s) same ∙ left in
        let s_in : v < length s = omega (arith, v_in, touches.is.long) in
        let within = source_within (target_count p.contests) s touches.is v v_in in
        reading_at (get_or deck j []) s v s_in ∙ (same_mark p deck j (source s v) is solution j_in within (decided_at (source s v) within (source_touched v v_in v_left)) ∙ sym (reading_at (get_or (shown p) j []) s v s_in)))) in
        let own = counts_same (λ (ballot : List Bool). votes_for p.contests (reading ballot (identity (target_count p.contests))) u) (λ (ballot : List Bool). votes_for p.contests (reading ballot (identity (target_count p.contests))) u) deck (shown p) [] [] size
        (λ j lt.
        let j_in : j < p.ballots = omega (arith, lt, solution.completion.size) in
        let long = solution.good.fits j [] lt in
        let row_long = shown_fits p is j [] (omega (arith, j_in, shown_size p is)) in
        ap (λ (ballot : List Bool). votes_for p.contests ballot u) (reading_identity (get_or deck j []) (target_count p.contests) long)
        ∙ (votes_alike p.contests (get_or deck j []) (get_or (shown p) j []) u h long row_long (λ v v_in same. same_mark p deck j v is solution j_in v_in (decided_at v v_in (ap (is_left p.contests s) same ∙ left)))
        ∙ ap (λ (ballot : List Bool). votes_for p.contests ballot u) (sym (reading_identity (get_or (shown p) j []) (target_count p.contests) row_long)))) in
        let totals = (and_parts (is_decided p (contest_of p.contests u)) (list_all (keeps_total p s) (targets_of p.contests (contest_of p.contests u))) (touches.kept u h left)).1 in
        let kept = eqb-true (total p.contests (shown p) s u) (own_total p.contests (shown p) u) (at_target p.contests (keeps_total p s) u h totals) in
        read ∙ (kept ∙ sym own)

-- a misassignment that evades leaves no solution
pub evade_empty : (p : PartialDeck) (deck : List (List Bool)) (s : List ℕ) → IsPartial p
    → IsSolution p deck → evades p s ≡ true → ⊥
evade_empty p deck s is solution h =
    let n = target_count p.contests in
    let known = touches p s h in
    let same = solution.good.robust s known.is (same_report p.contests deck s (identity n) (λ u lt. kept_total p deck s u is solution known lt)) in
    let as_long : s ≡ identity (length s) = same ∙ ap identity (sym known.is.long) in
    let one = and_parts (is_misassignment n s) (not (list_all (stays s) (range_with_len 0 n)) && list_all (keeps_contest p s) (range_with_len 0 (length p.contests))) h in
    let moved = not-true (list_all (stays s) (range_with_len 0 n)) (and_parts (not (list_all (stays s) (range_with_len 0 n))) (list_all (keeps_contest p s) (range_with_len 0 (length p.contests))) one.1).0 in
    let bad : true ≡ false = sym (all_stay n s known.is.long as_long) ∙ moved in cc
