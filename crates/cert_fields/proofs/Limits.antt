-- Rules without a fault are within their limits, and a list of contests that passes the test is a
-- part.
use Rattle.std.proofs.Common.{◌≡◌, ◌≤◌, ◌<◌, ◌+◌, ℕ, Bool, true, false, nat_lt, nat_le, List, [], ◌∷◌, length, cond, Option, Some, None, refl, arith}
use Rattle.std.specs.Prelude.{◌==◌, ◌&&◌}
use Rattle.std.proofs.lemmas.Bool.Decides.{nat_tests}
use Rattle.std.proofs.lemmas.Bool.{and_parts, and_from, leb-true, le-leb, ltb-true, lt-ltb}
use Rattle.lat_base.specs.declared.contest.Contest.{Contest}
use Rattle.lat_base.specs.Part.{IsPart}
use Rattle.lat_base.specs.Rules.{RuleSet, IsRuleSet, rule_fault}
use Rattle.projection.specs.PartFault.{place_fault}
use Rattle.projection.proofs.Rising.{Rises, part_rises, sound_part}
use Rattle.cert_fields.specs.PartList.{rises, is_part}

neither : {A : Type 0} (p q : A) (rest : Option A) (x y : Bool) → x ≡ false → y ≡ false
    → rest ≡ None → cond x (Some p) (cond y (Some q) rest) ≡ None
neither p q rest true y e f h = cc
neither p q rest false true e f h = cc
neither p q rest false false e f h = h

none_of : {A : Type 0} (p q r : A) (x y z : Bool)
    → cond x (Some p) (cond y (Some q) (cond z (Some r) None)) ≡ None
    → (x ≡ false) × (y ≡ false) × (z ≡ false)
none_of p q r true y z e = cc
none_of p q r false true z e = cc
none_of p q r false false true e = cc
none_of p q r false false false e = (refl, refl, refl)

-- rules without a fault are within their limits
pub is_rule_set : (rules : RuleSet) → rule_fault rules ≡ None → IsRuleSet rules
is_rule_set rules e =
    let h = none_of _ _ _ (nat_lt 64 rules.least) (nat_lt 16 rules.blank) (nat_lt 16 rules.over) e in
    record { least = grind (arith, nat_tests, h.0); blank = grind (arith, nat_tests, h.1); over = grind (arith, nat_tests, h.2) }

no_place_fault : (n i low : ℕ) (cs : List ℕ) → rises n low cs ≡ true → place_fault n i low cs ≡ None
no_place_fault n i low [] e = refl
no_place_fault n i low (c ∷ cs) e =
    let p = and_parts (nat_le low c && nat_lt c n) (rises n (c + 1) cs) e in
    let q = and_parts (nat_le low c) (nat_lt c n) p.0 in
    let from : low ≤ c = leb-true _ _ q.0 in
    let within : c < n = ltb-true _ _ q.1 in
    let first : nat_le n c ≡ false = grind (arith, nat_tests, within) in
    let second : nat_lt c low ≡ false = grind (arith, nat_tests, from) in
    neither _ _ (place_fault n (i + 1) (c + 1) cs) (nat_le n c) (nat_lt c low) first second (no_place_fault n (i + 1) (c + 1) cs p.1)

-- what passes the test is a part
pub is_part_sound : (contests : List Contest) (cs : List ℕ) → is_part (length contests) cs ≡ true
    → IsPart contests cs
is_part_sound contests cs e =
    let p = and_parts (nat_lt 0 (length cs)) (rises (length contests) 0 cs) e in
    let some : (length cs == 0) ≡ false = let h = p.0 in grind (arith, nat_tests, h) in
    sound_part contests cs some (no_place_fault (length contests) 0 0 cs p.1)

rises_from : (n low : ℕ) (cs : List ℕ) → Rises n low cs → rises n low cs ≡ true
rises_from n low [] h = refl
rises_from n low (c ∷ cs) h = and_from _ _ (and_from _ _ (le-leb _ _ h.0) (lt-ltb _ _ h.1)) (rises_from n (c + 1) cs h.2)

-- a part passes the test
pub is_part_complete : (contests : List Contest) (cs : List ℕ) → IsPart contests cs
    → is_part (length contests) cs ≡ true
is_part_complete contests cs h = and_from _ _ (lt-ltb _ _ h.some) (rises_from (length contests) 0 cs (part_rises contests cs h))

few_rising : (n low : ℕ) (cs : List ℕ) → Rises n low cs → low ≤ n → low + length cs ≤ n
few_rising n low [] h le = omega (arith, le)
few_rising n low (c ∷ cs) h le = omega (arith, few_rising n (c + 1) cs h.2 (omega (arith, h.1)), h.0)

-- a part has no more contests than the style
pub few_contests : (contests : List Contest) (cs : List ℕ) → IsPart contests cs
    → length cs ≤ length contests
few_contests contests cs h = omega (arith, few_rising (length contests) 0 cs (part_rises contests cs h) (omega arith))
