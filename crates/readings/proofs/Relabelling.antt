-- A deck whose targets are relabelled.
use Rattle.std.proofs.Common.{◌≡◌, ◌<◌, ℕ, Bool, List, get_or, count_by, map, refl, ap, sym, ◌∙◌, arith}
use Rattle.std.proofs.lemmas.List.{get_or_default, same_lists}
use Rattle.std.proofs.lemmas.List.FromFn.{length-range_with_len}
use Rattle.lat_base.specs.declared.contest.Contest.{Contest}
use Rattle.lat_base.specs.Shape.{target_count}
use Rattle.lat_base.specs.Misassignment.{identity, source}
use Rattle.lat_base.specs.Tally.{reading, votes_for, total, own_total}
use Rattle.lat_base.specs.Deck.{Fits}
use Rattle.lat_base.specs.Goodness.{IsRobust}
use Rattle.readings.specs.Turn.{made, IsTurn}
use Rattle.readings.specs.Structural.{IsStructural, relabelled}
use Rattle.readings.proofs.Made.{made_long, identity_at}
use Rattle.lemmas.proofs.Counting.{count_alike, count_map}
use Rattle.readings.proofs.Readings.{reading_long, reading_identity, reading_made}
use Rattle.readings.proofs.Moves.{votes_move}
use Rattle.readings.proofs.Reports.{report_same}
use Rattle.readings.proofs.RobustDecks.{robust_turn}
use Rattle.readings.proofs.Within.{source_within}
use Rattle.readings.proofs.Turned.{place, turn_of, made_of, turned_turn}

-- the totals of a deck whose ballots are changed
pub total_map : (contests : List Contest) (deck : List (List Bool)) (f : List Bool → List Bool)
    (s : List ℕ) (u : ℕ) → total contests (map f deck) s u
    ≡ count_by (λ b. votes_for contests (reading (f b) s) u) deck
total_map contests deck f s u = count_map f (λ (b : List Bool). votes_for contests (reading b s) u) deck

-- a robust deck stays robust where its targets are relabelled so that contests stay together
pub relabelled_robust : (contests : List Contest) (deck : List (List Bool)) (f g turn : ℕ → ℕ)
    → Fits (target_count contests) deck → IsTurn (target_count contests) f g
    → IsStructural contests f turn
    → IsRobust contests deck → IsRobust contests (relabelled (target_count contests) f deck)
relabelled_robust contests deck f g turn fits is structural robust s s_is same =
    let n = target_count contests in
    let d = relabelled n f deck in
    let s_turn = turn_of n s s_is (source_within n s s_is) in
    let t = λ (u : ℕ). f (source s (g u)) in
    let t_turn = turned_turn n f g (source s) (place s) is s_turn in
    let s_made = made_of n s s_is.long in
    let at_s : (u : ℕ) → u < n → total contests d s u ≡ total contests deck (made n t) (f u) = λ u lt.
    total_map contests deck (λ b. reading b (made n f)) s u
    ∙ count_alike (λ (b : List Bool). votes_for contests (reading (reading b (made n f)) s) u) (λ (b : List Bool). votes_for contests (reading b (made n t)) (f u)) deck
    (λ j e in'.
    let b = get_or deck j e in
    ap (λ (x : List ℕ). votes_for contests (reading (reading b (made n f)) x) u) s_made
    ∙ (ap (λ (r : List Bool). votes_for contests r u) (reading_made b n f (source s) (λ v. f (source s v)) s_turn.within (λ v k. refl) ∙ sym (reading_made b n t f (λ v. f (source s v)) is.within (λ v k. ap (λ (x : ℕ). f (source s x)) (is.back v k))))
    ∙ votes_move contests (reading b (made n t)) f turn u structural lt (reading_long b (made n t) ∙ made_long n t))) in
    let at_id : (u : ℕ) → u < n → own_total contests d u ≡ own_total contests deck (f u) = λ u lt.
    total_map contests deck (λ b. reading b (made n f)) (identity n) u
    ∙ count_alike (λ (b : List Bool). votes_for contests (reading (reading b (made n f)) (identity n)) u) (λ (b : List Bool). votes_for contests (reading b (identity n)) (f u)) deck
    (λ j e in'.
    let b = get_or deck j e in
    let long = fits j e in' in
    ap (λ (r : List Bool). votes_for contests r u) (reading_identity (reading b (made n f)) n (reading_long b (made n f) ∙ made_long n f))
    ∙ (votes_move contests b f turn u structural lt long ∙ ap (λ (r : List Bool). votes_for contests r (f u)) (sym (reading_identity b n long)))) in
    let kept : (v : ℕ) → v < n → total contests deck (made n t) v ≡ own_total contests deck v = λ v lt.
    let u_in = is.back_within v lt in
    let back = is.forth v lt in
    ap (total contests deck (made n t)) (sym back) ∙ (sym (at_s (g v) u_in) ∙ (report_same contests d s (identity n) (g v) u_in same ∙ (at_id (g v) u_in ∙ ap (own_total contests deck) back))) in
    let stays : (u : ℕ) → u < n → source s u ≡ u = λ u lt.
    let fixed = robust_turn contests deck t (λ v. f (place s (g v))) robust t_turn kept (f u) (is.within u lt) in
    let inner : f (source s u) ≡ f u = ap (λ (x : ℕ). f (source s x)) (sym (is.back u lt)) ∙ fixed in
    sym (is.back (source s u) (s_turn.within u lt)) ∙ (ap g inner ∙ is.back u lt) in
    same_lists s (identity n) (s_is.long ∙ sym (length-range_with_len 0 n))
    (λ u e lt.
    let u_in : u < n = omega (arith, lt, s_is.long) in
    get_or_default s u e 0 lt ∙ (stays u u_in ∙ (sym (identity_at n u u_in) ∙ get_or_default (identity n) u 0 e (omega (arith, u_in, length-range_with_len 0 n)))))
