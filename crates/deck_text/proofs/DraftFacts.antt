-- The ballots in use of a deck.
use Rattle.std.proofs.Common.{◌≡◌, ◌<◌, ◌≤◌, ◌+◌, ◌-◌, ◌++◌, ℕ, Bool, true, false, List, [], ◌∷◌, length, take, drop, get_or, set, replicate, ap, sym, ◌∙◌, arith, append_assoc}
use Rattle.std.proofs.lemmas.List.{get_or-take, length-take-le, take_more, drop_more, set_at, append-nil, take_all, drop_all, length-set, set-set, get_or-set_same, get_or-set_other, get_or-replicate, length-replicate}
use Rattle.std.proofs.Math.Seq.{take-set-lt}
use Rattle.lat_ballots.specs.Deck.{Ballots, IsDeck, ballot_at, mark_at, with_mark, blank_ballots}
use Rattle.deck_text.specs.Draft.{front_of, IsDraft}
use Rattle.deck_text.specs.DeckRead.{with_blank, with_last_mark, last_ballot}

pub front_long : (k : ℕ) (whole : Ballots) → IsDraft k whole → length (take k whole.ballots) ≡ k
front_long k whole is = length-take-le k whole.ballots (omega (arith, is.used, is.most))

pub front_deck : (k : ℕ) (whole : Ballots) → IsDraft k whole → IsDeck (front_of k whole)
front_deck k whole is = record {
  fits = λ j d lt.
      let low : j < k = omega (arith, lt, front_long k whole is) in
      ap length (get_or-take k whole.ballots j d low) ∙ is.deck.fits j d (omega (arith, low, is.used, is.most));
  few = omega (arith, front_long k whole is, is.used);
  few_targets = is.deck.few_targets;
}

-- the last ballot in use
pub front_last : (k : ℕ) (whole : Ballots) → IsDraft k whole → 0 < k
    → ballot_at (front_of k whole) (last_ballot (front_of k whole)) ≡ ballot_at whole (k - 1)
front_last k whole is some =
    ap (λ (n : ℕ). get_or (take k whole.ballots) (n - 1) []) (front_long k whole is) ∙ get_or-take k whole.ballots (k - 1) [] (omega arith)

-- one ballot more in use
pub begun : (k : ℕ) (whole : Ballots) → IsDraft k whole → k < 1024
    → front_of (k + 1) whole ≡ with_blank (front_of k whole)
begun k whole is low =
    let within : k < length whole.ballots = omega (arith, low, is.most) in
    ap (λ (bs : List (List Bool)). record whole { ballots = bs })
    (take_more whole.ballots k [] within ∙ ap (λ (b : List Bool). take k whole.ballots ++ b ∷ []) (is.blank k (omega arith) within))

pub begun_draft : (k : ℕ) (whole : Ballots) → IsDraft k whole → k < 1024 → IsDraft (k + 1) whole
begun_draft k whole is low = record { deck = is.deck; used = omega arith; most = is.most; blank = λ j ge lt. is.blank j (omega (arith, ge)) lt }

-- one mark more on the last ballot in use
pub marked : (k : ℕ) (whole : Ballots) (t : ℕ) → IsDraft k whole → 0 < k
    → front_of k (with_mark whole (k - 1) t true) ≡ with_last_mark (front_of k whole) t
marked k whole t is some =
    let v = set (ballot_at whole (k - 1)) t true in
    ap (λ (bs : List (List Bool)). record whole { ballots = bs })
    (take-set-lt k whole.ballots (k - 1) v (omega arith)
    ∙ (λ i. set (take k whole.ballots) (sym (front_long k whole is) i - 1) (set (sym (front_last k whole is some) i) t true)))

pub marked_draft : (k : ℕ) (whole : Ballots) (t : ℕ) → IsDraft k whole → 0 < k
    → IsDeck (with_mark whole (k - 1) t true) → IsDraft k (with_mark whole (k - 1) t true)
marked_draft k whole t is some deck =
    let v = set (ballot_at whole (k - 1)) t true in
    let long = length-set whole.ballots (k - 1) v in
    record {
      deck = deck;
      used = is.used;
      most = long ∙ is.most;
      blank = λ j ge lt. get_or-set_other whole.ballots (k - 1) j v [] (λ e. absurd (omega (arith, ge, e))) ∙ is.blank j ge (omega (arith, lt, long));
    }

-- blank ballots of which none is in use
pub fresh_draft : (targets most : ℕ) → most ≡ 1024 → IsDeck (blank_ballots targets most)
    → IsDraft 0 (blank_ballots targets most)
fresh_draft targets most e deck =
    let long = length-replicate most (replicate targets false) in
    record { deck = deck; used = omega arith; most = long ∙ e; blank = λ j ge lt. get_or-replicate most j (replicate targets false) [] (omega (arith, lt, long)) }

-- a list of which the front is that of another, one element more
pub mixed_more : {X : Type 0} (a b : List X) (t : ℕ) (d : X) → t < length a → t < length b
    → set (take t a ++ drop t b) t (get_or a t d) ≡ take (t + 1) a ++ drop (t + 1) b
mixed_more a b t d la lb =
    ap (λ (rest : List _). set (take t a ++ rest) t (get_or a t d)) (drop_more b t d lb)
    ∙ set_at (take t a) (get_or b t d) (drop (t + 1) b) (get_or a t d) t (length-take-le t a (omega arith))
    ∙ sym (append_assoc (take t a) (get_or a t d ∷ []) (drop (t + 1) b))
    ∙ ap (λ (front : List _). front ++ drop (t + 1) b) (sym (take_more a t d la))

-- and in the end it is the other list
pub mixed_all : {X : Type 0} (a b : List X) (t : ℕ) → length a ≤ t → length b ≤ t
    → take t a ++ drop t b ≡ a
mixed_all a b t la lb = (λ i. take_all t a la i ++ drop_all t b lb i) ∙ append-nil a

-- one mark more of a ballot is copied
pub mark_copied : (deck whole now : Ballots) (j t : ℕ) (on : Bool)
    → now ≡ record deck { ballots = set deck.ballots j (take t (ballot_at whole j) ++ drop t (ballot_at deck j)) }
    → j < length deck.ballots → t < length (ballot_at whole j) → t < length (ballot_at deck j)
    → on ≡ mark_at whole j t
    → with_mark now j t on ≡ record deck { ballots = set deck.ballots j (take (t + 1) (ballot_at whole j) ++ drop (t + 1) (ballot_at deck j)) }
mark_copied deck whole now j t on e within from to is =
    let row = take t (ballot_at whole j) ++ drop t (ballot_at deck j) in
    ap (λ (d : Ballots). with_mark d j t on) e
    ∙ ap (λ (bs : List (List Bool)). record deck { ballots = bs })
    (ap (λ (r : List Bool). set (set deck.ballots j row) j (set r t on)) (get_or-set_same deck.ballots j row [] within)
    ∙ set-set deck.ballots j row (set row t on)
    ∙ ap (λ (m : Bool). set deck.ballots j (set row t m)) is
    ∙ ap (λ (r : List Bool). set deck.ballots j r) (mixed_more (ballot_at whole j) (ballot_at deck j) t false from to))
