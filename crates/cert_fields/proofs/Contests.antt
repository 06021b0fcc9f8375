-- Contests of a style, read one by one.
use Rattle.std.proofs.Common.{◌≡◌, ℕ, suc, ◌+◌, ◌-◌, ◌≤◌, ◌<◌, Bool, true, false, List, [], ◌∷◌, ◌++◌, Option, Some, None, Err, refl, sym, ◌∙◌, arith, leb}
use Rattle.std.specs.Prelude.{◌==◌}
use Rattle.std.proofs.lemmas.Bool.{le-leb}
use Rattle.lat_base.specs.declared.contest.Contest.{Contest}
use Rattle.lat_base.specs.declared.contest_names.ContestNames.{ContestNames}
use Rattle.lat_base.specs.declared.rules.RuleFault.{RuleFault}
use Rattle.lat_base.specs.declared.shape_fault.ShapeFault.{ShapeFault}
use Rattle.lat_base.specs.Names.{is_repeated}
use Rattle.lat_base.specs.ShapeFault.{shape_fault}
use Rattle.lat_base.specs.Rules.{rule_fault}
use Rattle.cert_fields.specs.declared.fault.CertFault.{CertFault}
use Rattle.cert_fields.specs.declared.fault.CertFault.TheVariants.{NotACertificate, Memory}
use Rattle.cert_fields.specs.Reading.{Gives, u8_at, u16_at, two_at, id_at}
use Rattle.cert_fields.specs.Head.{contest_at, contests_at, rules_at, style_at}

module _ (ns : List ContestNames) (cs : List Contest) (count i : ℕ) (bytes : List ℕ) (total : Option ((List ContestNames × List Contest) × List ℕ)) where
  pub adds_on : (p : ContestNames × Contest) (after : List ℕ) → i < count
      → contest_at bytes ≡ Some (p, after) → is_repeated ns p.0.id p.0.targets ≡ false
      → contests_at (count - i) ns cs bytes ≡ total
      → contests_at (count - (i + 1)) (ns ++ p.0 ∷ []) (cs ++ p.1 ∷ []) after ≡ total
  adds_on p after lt e r so_far =
      let k : count - i ≡ suc (count - (i + 1)) = omega arith in
      let one : contests_at (count - i) ns cs bytes ≡ contests_at (count - (i + 1)) (ns ++ p.0 ∷ []) (cs ++ p.1 ∷ []) after = rw (k, e, r) refl in
      sym one ∙ so_far

  pub repeats : (p : ContestNames × Contest) (after : List ℕ) → i < count
      → contest_at bytes ≡ Some (p, after) → is_repeated ns p.0.id p.0.targets ≡ true
      → contests_at (count - i) ns cs bytes ≡ total → total ≡ None
  repeats p after lt e r so_far =
      let k : count - i ≡ suc (count - (i + 1)) = omega arith in
      let one : contests_at (count - i) ns cs bytes ≡ None = rw (k, e, r) refl in
      sym so_far ∙ one

  pub breaks : {X Y : Type 0} (view : X → (ContestNames × Contest) × List ℕ)
      (views : Y → (List ContestNames × List Contest) × List ℕ) (e : CertFault) → i < count
      → Gives view (Err e) (contest_at bytes)
      → contests_at (count - i) ns cs bytes ≡ total → Gives views (Err e) total
  breaks view views NotACertificate lt e so_far =
      let k : count - i ≡ suc (count - (i + 1)) = omega arith in
      let one : contests_at (count - i) ns cs bytes ≡ None = rw (k, e) refl in
      sym so_far ∙ one
  breaks view views Memory lt e so_far = tt

pub never_true : (b : Bool) → (b ≡ true → ⊥) → b ≡ false
never_true true h = absurd (h refl)
never_true false h = refl

pub rules_none : (bytes : List ℕ) (flag : ℕ) (r : List ℕ) (least : ℕ) (s : List ℕ) (two : ℕ × ℕ)
    (rest : List ℕ) (d : Bool) (f : RuleFault) → u8_at bytes ≡ Some (flag, r) → flag ≤ 1
    → u16_at r ≡ Some (least, s) → two_at s ≡ Some (two, rest)
    → d ≡ (flag == 1) → rule_fault (record { distinct = d; least = least; blank = two.0; over = two.1 }) ≡ Some f → rules_at bytes ≡ None
unfolding rules_at
rules_none bytes flag r least s two rest d f e le g h same bad =
    let t : leb flag 1 ≡ true = le-leb _ _ le in
    rw (e, t, g, h, ← same, bad) refl

pub style_none : (bytes : List ℕ) (id : List ℕ) (r : List ℕ) (n : ℕ) (s : List ℕ)
    (ns : List ContestNames) (cs : List Contest) (rest : List ℕ) (f : ShapeFault)
    → id_at bytes ≡ Some (id, r) → u16_at r ≡ Some (n, s)
    → contests_at n [] [] s ≡ Some ((ns, cs), rest) → shape_fault cs ≡ Some f
    → style_at bytes ≡ None
unfolding style_at
style_none bytes id r n s ns cs rest f e g h bad = rw (e, g, h, bad) refl

-- what was refused for the bytes alone
pub given_none : {X Y : Type 0} (view : X → Y) (e : CertFault) (read : Option Y)
    → Gives view (Err e) read → e ≡ NotACertificate → read ≡ None
given_none {X} view NotACertificate read h n = h
given_none {X} view Memory read h n = absurd (cc)
