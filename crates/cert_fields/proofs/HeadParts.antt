-- The contests of a head, one more at a time.
use Rattle.std.proofs.Common.{◌≡◌, ℕ, List, [], ◌∷◌, ◌++◌, length, Result, Ok, Err, OnOk, sym, ap, ◌∙◌, append_assoc, arith}
use Rattle.std.proofs.lemmas.List.{append-nil}
use Rattle.lat_base.specs.declared.contest.Contest.{Contest}
use Rattle.lat_base.specs.declared.contest_names.ContestNames.{ContestNames}
use Rattle.cert_fields.specs.Head.{contest_text, contests_text, IsNamed, AreNamed}

pub contests_push : (ns : List ContestNames) (cs : List Contest) (n : ContestNames) (c : Contest)
    → length ns ≡ length cs
    → contests_text (ns ++ n ∷ []) (cs ++ c ∷ []) ≡ contests_text ns cs ++ contest_text n c
contests_push [] [] n c e = append-nil (contest_text n c)
contests_push [] (d ∷ cs) n c e = absurd (omega (arith, e))
contests_push (m ∷ ns) [] n c e = absurd (omega (arith, e))
contests_push (m ∷ ns) (d ∷ cs) n c e =
    ap (λ (r : List ℕ). contest_text m d ++ r) (contests_push ns cs n c (omega (arith, e))) ∙ sym (append_assoc (contest_text m d) (contests_text ns cs) (contest_text n c))

pub named_push : (ns : List ContestNames) (cs : List Contest) (n : ContestNames) (c : Contest)
    → length ns ≡ length cs
    → AreNamed ns cs → IsNamed n c → AreNamed (ns ++ n ∷ []) (cs ++ c ∷ [])
named_push [] [] n c e h k = (k, tt)
named_push [] (d ∷ cs) n c e h k = absurd (omega (arith, e))
named_push (m ∷ ns) [] n c e h k = absurd (omega (arith, e))
named_push (m ∷ ns) (d ∷ cs) n c e h k = (h.0, named_push ns cs n c (omega (arith, e)) h.1 k)

-- what holds in any case holds where all went well
pub any_ok : {A E : Type 0} (r : Result A E) (P : Type 0) → P → OnOk r P
any_ok (Ok x) P p = p
any_ok (Err e) P p = tt
