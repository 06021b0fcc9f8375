-- Ballots and totals that are cut to a part.
use Rattle.std.proofs.Common.{◌≡◌, ◌<◌, ◌≤◌, ◌+◌, ◌-◌, ◌++◌, ◌&&◌, ℕ, suc, Bool, not, nat_lt, List, [], ◌∷◌, length, get_or, take, map, count_by, refl, ap, sym, subst, ◌∙◌, arith, All}
use Rattle.std.specs.List.{flat_map, range_with_len, take-map}
use Rattle.std.proofs.lemmas.List.{map-append, length-append, same_lists, get_or-map, length-map, append_assoc}
use Rattle.std.proofs.lemmas.List.Concat.{get_or-flat_map}
use Rattle.std.proofs.lemmas.List.Elements.{All-head, All-tail}
use Rattle.std.proofs.lemmas.List.FromFn.{length-range_with_len, get_or-range_with_len, get_or-map-range_with_len}
use Rattle.std.proofs.lemmas.List.Sums.{sum_by-cons}
use Rattle.lat_base.specs.declared.contest.Contest.{Contest}
use Rattle.lat_base.specs.Shape.{target_count, first_target, contest_at, contest_of}
use Rattle.lat_base.specs.Misassignment.{identity}
use Rattle.lat_base.specs.Tally.{is_marked, reading, mark_count, votes_for, own_total}
use Rattle.lat_base.specs.Deck.{Fits}
use Rattle.lat_base.specs.Part.{IsPart, part, cut, restricted}
use Rattle.readings.specs.Turn.{made}
use Rattle.readings.specs.Structural.{targets_of}
use Rattle.readings.proofs.Places.{contest_is, nth_is_of, first_next, first_le}
use Rattle.readings.proofs.Made.{made_at, made_long}
use Rattle.readings.proofs.Marks.{marks_are}
use Rattle.lemmas.proofs.Counting.{count_alike}
use Rattle.readings.proofs.Readings.{reading_at, reading_long, reading_identity}
use Rattle.lemmas.proofs.Ranges.{range_suc, ranges_alike}
use Rattle.readings.proofs.Relabelling.{total_map}
use Rattle.projection.proofs.Embedding.{there, chosen_at, part_long, part_contest, there_of, there_at, there_in}

-- a cut ballot is the ballot read with the targets of the chosen contests
pub cut_reading : (contests : List Contest) (chosen : List ℕ) (b : List Bool)
    → All (λ c. c < length contests) chosen → length b ≡ target_count contests
    → cut contests chosen b ≡ reading b (flat_map (targets_of contests) chosen)
cut_reading contests [] b within long = refl
cut_reading contests (c ∷ chosen) b within long =
    (λ i. marks_are contests b c (All-head (λ (x : ℕ). x < length contests) c chosen within) long i ++ cut_reading contests chosen b (All-tail (λ (x : ℕ). x < length contests) c chosen within) long i)
    ∙ sym (map-append (λ t. is_marked b t) (targets_of contests c) (flat_map (targets_of contests) chosen))

pub targets_long : (contests : List Contest) (chosen : List ℕ)
    → length (flat_map (targets_of contests) chosen) ≡ target_count (part contests chosen)
targets_long contests [] = refl
targets_long contests (c ∷ chosen) =
    omega (
      arith,
      length-append (targets_of contests c) (flat_map (targets_of contests) chosen),
      length-range_with_len (first_target contests c) (contest_at contests c).targets,
      targets_long contests chosen,
      sum_by-cons (λ (x : Contest). x.targets) (contest_at contests c) (part contests chosen),
    )

-- the targets of the chosen contests are those of the part
targets_made : (contests : List Contest) (chosen : List ℕ) → IsPart contests chosen
    → flat_map (targets_of contests) chosen
    ≡ made (target_count (part contests chosen)) (there contests chosen)
targets_made contests chosen is =
    let m = target_count (part contests chosen) in
    same_lists (flat_map (targets_of contests) chosen) (made m (there contests chosen)) (targets_long contests chosen ∙ sym (made_long m (there contests chosen)))
    (λ u d lt.
    let u_in : u < m = omega (arith, lt, targets_long contests chosen) in
    let t = there_at contests chosen u is u_in in
    let q = contest_of (part contests chosen) u in
    let c = chosen_at chosen q in
    let j = u - first_target (part contests chosen) q in
    let before : length (flat_map (targets_of contests) (take q chosen)) ≡ first_target (part contests chosen) q = targets_long contests (take q chosen) ∙ ap target_count (sym (take-map (contest_at contests) q chosen)) in
    let place : length (flat_map (targets_of contests) (take q chosen)) + j ≡ u = omega (arith, before, t.from.from) in
    let j_in : j < (contest_at contests c).targets = omega (arith, t.nth, t.to.to, first_next contests c t.within) in
    ap (λ (k : ℕ). get_or (flat_map (targets_of contests) chosen) k d) (sym place)
    ∙ (get_or-flat_map (targets_of contests) chosen q j 0 d t.number (omega (arith, j_in, length-range_with_len (first_target contests c) (contest_at contests c).targets))
    ∙ (get_or-range_with_len (first_target contests c) (contest_at contests c).targets j d j_in
    ∙ (sym t.nth ∙ sym (get_or-map-range_with_len (there contests chosen) 0 m u u d u_in (omega arith))))))

-- so a cut ballot has at each target the mark of that target of the style
pub cut_made : (contests : List Contest) (chosen : List ℕ) (b : List Bool) → IsPart contests chosen
    → length b ≡ target_count contests
    → cut contests chosen b ≡ reading b
    (made (target_count (part contests chosen)) (there contests chosen))
cut_made contests chosen b is long = cut_reading contests chosen b is.within long ∙ ap (reading b) (targets_made contests chosen is)

pub mark_made : (b : List Bool) (n : ℕ) (f : ℕ → ℕ) (u : ℕ) → u < n
    → is_marked (reading b (made n f)) u ≡ is_marked b (f u)
mark_made b n f u lt = reading_at b (made n f) u (omega (arith, lt, made_long n f)) ∙ ap (is_marked b) (made_at n f u lt)

pub cut_long : (contests : List Contest) (chosen : List ℕ) (b : List Bool) → IsPart contests chosen
    → length b ≡ target_count contests
    → length (cut contests chosen b) ≡ target_count (part contests chosen)
cut_long contests chosen b is long =
    ap length (cut_made contests chosen b is long) ∙ (reading_long b (made (target_count (part contests chosen)) (there contests chosen)) ∙ made_long (target_count (part contests chosen)) (there contests chosen))

cut_mark : (contests : List Contest) (chosen : List ℕ) (b : List Bool) (u : ℕ)
    → IsPart contests chosen → length b ≡ target_count contests
    → u < target_count (part contests chosen)
    → is_marked (cut contests chosen b) u ≡ is_marked b (there contests chosen u)
cut_mark contests chosen b u is long lt =
    ap (λ (r : List Bool). is_marked r u) (cut_made contests chosen b is long) ∙ mark_made b (target_count (part contests chosen)) (there contests chosen) u lt

-- a contest of the part has as many marks as it has in the style
pub cut_marks : (contests : List Contest) (chosen : List ℕ) (b : List Bool) (q : ℕ)
    → IsPart contests chosen → length b ≡ target_count contests → q < length chosen
    → mark_count (part contests chosen) (cut contests chosen b) q
    ≡ mark_count contests b (chosen_at chosen q)
cut_marks contests chosen b q is long lt =
    let ps = part contests chosen in
    let c = chosen_at chosen q in
    let q_in : q < length ps = omega (arith, lt, part_long contests chosen) in
    let as_many : (contest_at ps q).targets ≡ (contest_at contests c).targets = ap (λ (x : Contest). x.targets) (part_contest contests chosen q lt) in
    let lists = ranges_alike (λ t. is_marked (cut contests chosen b) t) (λ t. is_marked b t) (first_target ps q) (first_target contests c) (contest_at ps q).targets
    (λ j j_in.
    let a = nth_is_of ps q j q_in j_in in
    let t = there_of contests chosen q (first_target ps q + j) is a in
    let at : there contests chosen (first_target ps q + j) ≡ first_target contests c + j = t.nth ∙ omega arith in
    cut_mark contests chosen b (first_target ps q + j) is long (omega (arith, a.to, first_le ps (q + 1))) ∙ ap (is_marked b) at) in
    ap (count_by (λ (m : Bool). m)) (marks_are ps (cut contests chosen b) q q_in (cut_long contests chosen b is long)
    ∙ (lists ∙ (ap (λ (n : ℕ). map (λ t. is_marked b t) (range_with_len (first_target contests c) n)) as_many ∙ sym (marks_are contests b c (is.within q 0 lt) long))))

-- and each target the votes that it has in the style
pub cut_votes : (contests : List Contest) (chosen : List ℕ) (b : List Bool) (u : ℕ)
    → IsPart contests chosen → length b ≡ target_count contests
    → u < target_count (part contests chosen)
    → votes_for (part contests chosen) (cut contests chosen b) u
    ≡ votes_for contests b (there contests chosen u)
cut_votes contests chosen b u is long lt =
    let ps = part contests chosen in
    let q = contest_of ps u in
    let t = there_at contests chosen u is lt in
    let of : chosen_at chosen q ≡ contest_of contests (there contests chosen u) = sym (contest_is contests (chosen_at chosen q) (there contests chosen u) t.to) in
    let mark = cut_mark contests chosen b u is long lt in
    let counts : mark_count ps (cut contests chosen b) q ≡ mark_count contests b (contest_of contests (there contests chosen u)) = cut_marks contests chosen b q is long t.number ∙ ap (mark_count contests b) of in
    let limits : (contest_at ps q).limit ≡ (contest_at contests (contest_of contests (there contests chosen u))).limit = ap (λ (x : Contest). x.limit) (part_contest contests chosen q t.number ∙ ap (contest_at contests) of) in
    λ i. mark i && not (nat_lt (limits i) (counts i))

pub cut_total : (contests : List Contest) (chosen : List ℕ) (deck : List (List Bool)) (u : ℕ)
    → IsPart contests chosen → Fits (target_count contests) deck
    → u < target_count (part contests chosen)
    → own_total (part contests chosen) (restricted contests chosen deck) u
    ≡ own_total contests deck (there contests chosen u)
cut_total contests chosen deck u is fits lt =
    let ps = part contests chosen in
    let m = target_count ps in
    total_map ps deck (cut contests chosen) (identity m) u
    ∙ count_alike (λ (b : List Bool). votes_for ps (reading (cut contests chosen b) (identity m)) u) (λ (b : List Bool). votes_for contests (reading b (identity (target_count contests))) (there contests chosen u)) deck
    (λ j d at.
    let b = get_or deck j d in
    ap (λ (r : List Bool). votes_for ps r u) (reading_identity (cut contests chosen b) m (cut_long contests chosen b is (fits j d at)))
    ∙ (cut_votes contests chosen b u is (fits j d at) lt ∙ ap (λ (r : List Bool). votes_for contests r (there contests chosen u)) (sym (reading_identity b (target_count contests) (fits j d at)))))

-- each of the targets of the chosen contests is a target of the style
pub targets_within : (contests : List Contest) (chosen : List ℕ) → IsPart contests chosen
    → All (λ t. t < target_count contests) (flat_map (targets_of contests) chosen)
targets_within contests chosen is u d lt =
    let m = target_count (part contests chosen) in
    let u_in : u < m = omega (arith, lt, targets_long contests chosen) in
    subst (λ (t : ℕ). t < target_count contests) (sym (ap (λ (s : List ℕ). get_or s u d) (targets_made contests chosen is) ∙ get_or-map-range_with_len (there contests chosen) 0 m u u d u_in (omega arith))) (there_in contests chosen u is u_in)

-- a deck that is read with them is cut
pub deck_cut : (contests : List Contest) (chosen : List ℕ) (deck : List (List Bool))
    → IsPart contests chosen → Fits (target_count contests) deck
    → map (λ b. reading b (flat_map (targets_of contests) chosen)) deck
    ≡ restricted contests chosen deck
deck_cut contests chosen deck is fits =
    let f : List Bool → List Bool = λ b. reading b (flat_map (targets_of contests) chosen) in
    same_lists (map f deck) (restricted contests chosen deck) (length-map deck f ∙ sym (length-map deck (cut contests chosen)))
    (λ k d lt.
    let k_in : k < length deck = omega (arith, lt, length-map deck f) in
    get_or-map f deck k d d k_in ∙ (sym (cut_reading contests chosen (get_or deck k d) is.within (fits k d k_in)) ∙ sym (get_or-map (cut contests chosen) deck k d d k_in)))

-- one more target at the end
pub pushed : (old now new : List ℕ) (a t : ℕ) → a ≤ t → now ≡ old ++ range_with_len a (t - a)
    → new ≡ now ++ t ∷ [] → new ≡ old ++ range_with_len a (t + 1 - a)
pushed old now new a t le so_far more =
    let next : suc (t - a) ≡ t + 1 - a = omega (arith, le) in
    let last : a + (t - a) ≡ t = omega (arith, le) in
    more ∙ (ap (λ (ts : List ℕ). ts ++ t ∷ []) so_far ∙ (append_assoc old (range_with_len a (t - a)) (t ∷ [])
    ∙ ap (λ (ts : List ℕ). old ++ ts) (sym (range_suc a (t - a) ∙ ap (λ (x : ℕ). range_with_len a (t - a) ++ x ∷ []) last) ∙ ap (range_with_len a) next)))
