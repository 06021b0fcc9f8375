-- How trying each source at a place tries all misassignments that begin so.
use Rattle.std.proofs.Common.{◌≡◌, ◌≢◌, ◌<◌, ◌++◌, ◌⊎◌, inl, inr, ℕ, Bool, true, false, not, List, [], ◌∷◌, length, get_or, refl, ap, sym, subst, ◌∙◌, arith, ◌↔◌}
use Rattle.std.specs.Prelude.{MatchBool, IsTrue}
use Rattle.std.specs.Str.{bytes_eq}
use Rattle.std.proofs.lemmas.Slice.Eq.{bytes_eq-Decides}
use Rattle.std.proofs.lemmas.List.{take_all}
use Rattle.lat_base.specs.declared.contest.Contest.{Contest}
use Rattle.lat_base.specs.Shape.{target_count}
use Rattle.lat_base.specs.Tally.{report}
use Rattle.lat_base.specs.Goodness.{IsRobust}
use Rattle.lat_base.specs.Misassignment.{IsMisassignment, identity}
use Rattle.readings.proofs.Within.{within_of}
use Rattle.plain_search.specs.Trying.{RobustFrom, EvadesFrom}
use Rattle.plain_search.proofs.Fronts.{begins_more, begins_less, begins_whole}

pub evades_less : (contests : List Contest) (deck : List (List Bool)) (front : List ℕ) (x : ℕ)
    → EvadesFrom contests deck (front ++ x ∷ []) → EvadesFrom contests deck front
evades_less contests deck front x h = record { s = h.s; is = h.is; begins = begins_less h.s front x h.begins; same = h.same; other = h.other }

pub robust_all : (contests : List Contest) (deck : List (List Bool)) (front : List ℕ) (u : ℕ)
    → length front ≡ u → u < target_count contests
    → ((x : ℕ) → x < target_count contests → RobustFrom contests deck (front ++ x ∷ []))
    → RobustFrom contests deck front
robust_all contests deck front u long lt each s is begins same =
    let inside : u < length s = omega (arith, is.long) in
    each (get_or s u 0) (within_of (target_count contests) s is u 0 inside) s is (begins_more s front u 0 long inside begins) same

equal_or_not : (a b : List ℕ) → (a ≡ b) ⊎ (a ≢ b)
equal_or_not a b = by_test (bytes_eq a b) refl
  where
    by_test : (r : Bool) → r ≡ bytes_eq a b → (a ≡ b) ⊎ (a ≢ b)
    by_test true e = inl ((bytes_eq-Decides a b).0 (sym e))
    by_test false e = inr (λ h. cc (e, (bytes_eq-Decides a b).1 h))

pub leaf : (contests : List Contest) (deck : List (List Bool)) (s : List ℕ) (b : Bool)
    → length s ≡ target_count contests
    → (IsTrue b ↔ (IsMisassignment (target_count contests) s
    × (report contests deck s ≡ report contests deck (identity (target_count contests)))
    × (s ≢ identity (target_count contests))))
    → MatchBool (not b) (RobustFrom contests deck s) (EvadesFrom contests deck s)
leaf contests deck s true long h = let e = h.0 refl in record { s = s; is = e.0; begins = take_all (length s) s (omega arith); same = e.1; other = e.2 }
leaf contests deck s false long h =
    λ o is begins same.
    let whole = begins_whole o s (is.long ∙ sym long) begins in
    elim (equal_or_not s (identity (target_count contests))) [
      | inl e ↦ whole ∙ e
      | inr n ↦ absurd (cc (h.1 (subst (IsMisassignment (target_count contests)) whole is, ap (report contests deck) (sym whole) ∙ same, n)))
    ]

-- what holds of all misassignments, and of one
pub all_tried : (contests : List Contest) (deck : List (List Bool)) (b : Bool)
    → MatchBool b (RobustFrom contests deck []) (EvadesFrom contests deck [])
    → MatchBool b (IsRobust contests deck) (¬ IsRobust contests deck)
all_tried contests deck true h = λ s is same. h s is refl same
all_tried contests deck false h = λ robust. h.other (robust h.s h.is h.same)
