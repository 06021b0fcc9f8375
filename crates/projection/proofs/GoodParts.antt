-- A good deck is good for each part of its style.
use Rattle.std.proofs.Common.{◌≡◌, ◌<◌, ◌+◌, ◌-◌, ◌&&◌, ℕ, zero, suc, Bool, true, false, not, nat_lt, List, [], ◌∷◌, length, get_or, take, drop, count_by, refl, ap, sym, subst, ◌∙◌, arith}
use Rattle.std.proofs.lemmas.List.{get_or_default, same_lists, get_or-map, length-map}
use Rattle.std.proofs.lemmas.List.Folds.{list_all-append}
use Rattle.std.proofs.lemmas.List.FromFn.{length-range_with_len}
use Rattle.std.proofs.lemmas.Bool.{and_parts, and_from}
use Rattle.lat_base.specs.declared.contest.Contest.{Contest}
use Rattle.lat_base.specs.Shape.{target_count, first_target, contest_at, contest_of, CanOvervote}
use Rattle.lat_base.specs.Misassignment.{identity, source}
use Rattle.lat_base.specs.Tally.{is_marked, reading, marks_in, mark_count, is_overvoted, votes_for, total, own_total}
use Rattle.lat_base.specs.Deck.{Fits}
use Rattle.lat_base.specs.Goodness.{IsRobust, IsGood}
use Rattle.lat_base.specs.Rules.{RuleSet, Obeys, is_blank}
use Rattle.lat_base.specs.Part.{IsPart, part, cut, restricted}
use Rattle.readings.specs.Turn.{made}
use Rattle.readings.proofs.Places.{is_of, contest_is, nth_is_of, first_le}
use Rattle.readings.proofs.Made.{made_long, identity_at}
use Rattle.readings.proofs.Marks.{marks_are}
use Rattle.lemmas.proofs.Counting.{count_alike, count_map, count_le}
use Rattle.readings.proofs.Readings.{reading_at, reading_long, reading_identity}
use Rattle.readings.proofs.Relabelling.{total_map}
use Rattle.readings.proofs.Reports.{report_same}
use Rattle.readings.proofs.RobustDecks.{robust_turn}
use Rattle.readings.proofs.Turned.{place, turn_of}
use Rattle.readings.proofs.Within.{source_within}
use Rattle.lemmas.proofs.Ranges.{ranges_alike}
use Rattle.projection.proofs.Embedding.{there, here, chosen_at, is_chosen, part_long, part_contest, there_at, there_in, here_there}
use Rattle.projection.proofs.Cuts.{cut_made, mark_made, cut_long, cut_marks, cut_votes, cut_total}
use Rattle.projection.proofs.Extended.{extended, extended_there, extended_other, extended_turn, by_chosen}

-- what is read under an extended misassignment and then cut is cut and then read under the
-- misassignment
read_then_cut : (contests : List Contest) (chosen : List ℕ) (s : List ℕ) (b : List Bool)
    → IsPart contests chosen → length b ≡ target_count contests
    → length s ≡ target_count (part contests chosen)
    → ((u : ℕ) → u < target_count (part contests chosen)
    → source s u < target_count (part contests chosen))
    → cut contests chosen (reading b
    (made (target_count contests) (extended contests chosen (source s))))
    ≡ reading (cut contests chosen b) s
read_then_cut contests chosen s b is long s_long within =
    let n = target_count contests in
    let m = target_count (part contests chosen) in
    let f = extended contests chosen (source s) in
    let r = reading b (made n f) in
    let r_long : length r ≡ n = reading_long b (made n f) ∙ made_long n f in
    let left : length (cut contests chosen r) ≡ m = cut_long contests chosen r is r_long in
    same_lists (cut contests chosen r) (reading (cut contests chosen b) s) (left ∙ sym (reading_long (cut contests chosen b) s ∙ s_long))
    (λ u d lt.
    let u_in : u < m = omega (arith, lt, left) in
    let s_in = within u u_in in
    get_or_default (cut contests chosen r) u d false lt
    ∙ (ap (λ (x : List Bool). is_marked x u) (cut_made contests chosen r is r_long) ∙ (mark_made r m (there contests chosen) u u_in
    ∙ (mark_made b n f (there contests chosen u) (there_in contests chosen u is u_in) ∙ (ap (is_marked b) (extended_there contests chosen (source s) u is u_in)
    ∙ (sym (mark_made b m (there contests chosen) (source s u) s_in) ∙ (ap (λ (x : List Bool). is_marked x (source s u)) (sym (cut_made contests chosen b is long))
    ∙ (sym (reading_at (cut contests chosen b) s u (omega (arith, u_in, s_long))) ∙ get_or_default (reading (cut contests chosen b) s) u false d (omega (arith, u_in, reading_long (cut contests chosen b) s, s_long))))))))))

-- the votes of a target that isn't of the part stay
votes_stay : (contests : List Contest) (chosen : List ℕ) (s : ℕ → ℕ) (b : List Bool) (w : ℕ)
    → length b ≡ target_count contests → w < target_count contests
    → is_chosen contests chosen w ≡ false
    → votes_for contests (reading b (made (target_count contests) (extended contests chosen s))) w
    ≡ votes_for contests b w
votes_stay contests chosen s b w long lt other =
    let n = target_count contests in
    let f = extended contests chosen s in
    let r = reading b (made n f) in
    let c = contest_of contests w in
    let c_in : c < length contests = (is_of contests w lt).contest in
    let mark : is_marked r w ≡ is_marked b w = mark_made b n f w lt ∙ ap (is_marked b) (extended_other contests chosen s w other) in
    let lists = ranges_alike (λ t. is_marked r t) (λ t. is_marked b t) (first_target contests c) (first_target contests c) (contest_at contests c).targets
    (λ j j_in.
    let v = first_target contests c + j in
    let a = nth_is_of contests c j c_in j_in in
    let also : is_chosen contests chosen v ≡ false = ap (λ (e : ℕ). nat_lt (place chosen e) (length chosen)) (contest_is contests c v a) ∙ other in
    mark_made b n f v (omega (arith, a.to, first_le contests (c + 1))) ∙ ap (is_marked b) (extended_other contests chosen s v also)) in
    let counts : mark_count contests r c ≡ mark_count contests b c =
    ap (count_by (λ (m : Bool). m)) (marks_are contests r c c_in (reading_long b (made n f) ∙ made_long n f) ∙ (lists ∙ sym (marks_are contests b c c_in long))) in
    λ i. mark i && not (nat_lt (contest_at contests c).limit (counts i))

-- a robust deck is robust for the part
robust_part : (contests : List Contest) (chosen : List ℕ) (deck : List (List Bool))
    → IsPart contests chosen → Fits (target_count contests) deck → IsRobust contests deck
    → IsRobust (part contests chosen) (restricted contests chosen deck)
robust_part contests chosen deck is fits robust s s_is same =
    let ps = part contests chosen in
    let n = target_count contests in
    let m = target_count ps in
    let within = source_within m s s_is in
    let s_turn = turn_of m s s_is within in
    let f = extended contests chosen (source s) in
    let inside : (u : ℕ) → u < m → total contests deck (made n f) (there contests chosen u) ≡ own_total contests deck (there contests chosen u) = λ u lt.
    count_alike (λ (b : List Bool). votes_for contests (reading b (made n f)) (there contests chosen u)) (λ (b : List Bool). votes_for ps (reading (cut contests chosen b) s) u) deck
    (λ j d at.
    let b = get_or deck j d in
    sym (cut_votes contests chosen (reading b (made n f)) u is (reading_long b (made n f) ∙ made_long n f) lt) ∙ ap (λ (r : List Bool). votes_for ps r u) (read_then_cut contests chosen s b is (fits j d at) s_is.long within))
    ∙ (sym (total_map ps deck (cut contests chosen) s u) ∙ (report_same ps (restricted contests chosen deck) s (identity m) u lt same ∙ cut_total contests chosen deck u is fits lt)) in
    let outside : (w : ℕ) → w < n → is_chosen contests chosen w ≡ false → total contests deck (made n f) w ≡ own_total contests deck w = λ w lt other.
    count_alike (λ (b : List Bool). votes_for contests (reading b (made n f)) w) (λ (b : List Bool). votes_for contests (reading b (identity n)) w) deck
    (λ j d at. votes_stay contests chosen (source s) (get_or deck j d) w (fits j d at) lt other ∙ ap (λ (r : List Bool). votes_for contests r w) (sym (reading_identity (get_or deck j d) n (fits j d at)))) in
    let fixed = robust_turn contests deck f (extended contests chosen (place s)) robust (extended_turn contests chosen (source s) (place s) is s_turn)
    (by_chosen contests chosen (λ w. total contests deck (made n f) w ≡ own_total contests deck w) is inside outside) in
    let stays : (u : ℕ) → u < m → source s u ≡ u = λ u lt.
    let moved : there contests chosen (source s u) ≡ there contests chosen u = sym (extended_there contests chosen (source s) u is lt) ∙ fixed (there contests chosen u) (there_in contests chosen u is lt) in
    sym (here_there contests chosen (source s u) is (within u lt)) ∙ (ap (here contests chosen) moved ∙ here_there contests chosen u is lt) in
    same_lists s (identity m) (s_is.long ∙ sym (length-range_with_len 0 m))
    (λ u e lt.
    let u_in : u < m = omega (arith, lt, s_is.long) in
    get_or_default s u e 0 lt ∙ (stays u u_in ∙ (sym (identity_at m u u_in) ∙ get_or_default (identity m) u 0 e (omega (arith, u_in, length-range_with_len 0 m)))))

blank_taken : (n : ℕ) (b : List Bool) → is_blank b ≡ true → is_blank (take n b) ≡ true
blank_taken zero b h = refl
blank_taken (suc n) [] h = refl
blank_taken (suc n) (mark ∷ b) h = let parts = and_parts (not mark) (is_blank b) h in and_from (not mark) (is_blank (take n b)) parts.0 (blank_taken n b parts.1)

blank_dropped : (n : ℕ) (b : List Bool) → is_blank b ≡ true → is_blank (drop n b) ≡ true
blank_dropped zero b h = h
blank_dropped (suc n) [] h = refl
blank_dropped (suc n) (mark ∷ b) h = blank_dropped n b (and_parts (not mark) (is_blank b) h).1

-- a blank ballot that is cut is blank
blank_cut : (contests : List Contest) (chosen : List ℕ) (b : List Bool) → is_blank b ≡ true
    → is_blank (cut contests chosen b) ≡ true
blank_cut contests [] b h = refl
blank_cut contests (c ∷ chosen) b h =
    list_all-append not (marks_in contests b c) (cut contests chosen b)
    ∙ and_from (is_blank (marks_in contests b c)) (is_blank (cut contests chosen b))
    (blank_taken (first_target contests (c + 1) - first_target contests c) (drop (first_target contests c) b) (blank_dropped (first_target contests c) b h)) (blank_cut contests chosen b h)

-- it obeys the rules there
obeys_part : (contests : List Contest) (chosen : List ℕ) (rules : RuleSet) (deck : List (List Bool))
    → IsPart contests chosen → Fits (target_count contests) deck → Obeys contests rules deck
    → Obeys (part contests chosen) rules (restricted contests chosen deck)
obeys_part contests chosen rules deck is fits obeys =
    let ps = part contests chosen in
    let m = target_count ps in
    let at : (u : ℕ) → u < m → own_total ps (restricted contests chosen deck) u ≡ own_total contests deck (there contests chosen u) = λ u lt. cut_total contests chosen deck u is fits lt in
    record {
      blank = omega (arith, count_map (cut contests chosen) is_blank deck, count_le is_blank (λ b. is_blank (cut contests chosen b)) deck (blank_cut contests chosen), obeys.blank);
      over = λ q lt can.
          let q_in : q < length chosen = omega (arith, lt, part_long contests chosen) in
          let contest = part_contest contests chosen q q_in in
          let limits : (contest_at ps q).limit ≡ (contest_at contests (chosen_at chosen q)).limit = ap (λ (x : Contest). x.limit) contest in
          let counted = count_map (cut contests chosen) (λ (b : List Bool). is_overvoted ps b q) deck
          ∙ count_alike (λ (b : List Bool). is_overvoted ps (cut contests chosen b) q) (λ (b : List Bool). is_overvoted contests b (chosen_at chosen q)) deck
          (λ j d j_in i. nat_lt (limits i) (cut_marks contests chosen (get_or deck j d) q is (fits j d j_in) q_in i)) in
          omega (arith, counted, obeys.over (chosen_at chosen q) (is.within q 0 q_in) (subst CanOvervote contest can));
      least = λ t lt. omega (arith, at t lt, obeys.least (there contests chosen t) (there_in contests chosen t is lt));
      distinct = λ on t u lt u_in together equal.
          let t_in : t < m = omega (arith, lt, u_in) in
          let a = there_at contests chosen t is t_in in
          let b = there_at contests chosen u is u_in in
          let one : there contests chosen u ≡ first_target contests (chosen_at chosen (contest_of ps t)) + (u - first_target ps (contest_of ps t)) =
          ap (λ (q : ℕ). first_target contests (chosen_at chosen q) + (u - first_target ps q)) (sym together) in
          let apart : there contests chosen t < there contests chosen u = omega (arith, a.nth, one, lt, a.from.from) in
          let same : contest_of contests (there contests chosen t) ≡ contest_of contests (there contests chosen u) =
          contest_is contests (chosen_at chosen (contest_of ps t)) (there contests chosen t) a.to ∙ (ap (chosen_at chosen) together ∙ sym (contest_is contests (chosen_at chosen (contest_of ps u)) (there contests chosen u) b.to)) in
          obeys.distinct on (there contests chosen t) (there contests chosen u) apart (there_in contests chosen u is u_in) same (sym (at t t_in) ∙ (equal ∙ at u u_in));
    }

-- a good deck that is restricted to a part is good there
pub good_restricted : (contests : List Contest) (chosen : List ℕ) (rules : RuleSet)
    (deck : List (List Bool)) → IsPart contests chosen → IsGood contests rules deck
    → IsGood (part contests chosen) rules (restricted contests chosen deck)
good_restricted contests chosen rules deck is good = record {
  fits = λ k d lt.
      let k_in : k < length deck = omega (arith, lt, length-map deck (cut contests chosen)) in
      ap length (get_or-map (cut contests chosen) deck k d d k_in) ∙ cut_long contests chosen (get_or deck k d) is (good.fits k d k_in);
  robust = robust_part contests chosen deck is good.fits good.robust;
  obeys = obeys_part contests chosen rules deck is good.fits good.obeys;
}
