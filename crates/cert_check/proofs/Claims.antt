-- What a certificate claims that holds.
use Rattle.std.proofs.Common.{◌≡◌, Bool, false, ◌+◌, ℕ, zero, suc, Option, Some, None, List, refl, subst, arith}
use Rattle.std.specs.Prelude.{IfSome, is_some}
use Rattle.lat_base.specs.declared.contest.Contest.{Contest}
use Rattle.lat_base.specs.Goodness.{IsGood, NoGoodBelow}
use Rattle.lat_base.specs.Rules.{RuleSet}
use Rattle.lat_base.specs.Shape.{IsShape}
use Rattle.cert_types.specs.declared.proved.Proved.{Proved}
use Rattle.cert_types.specs.declared.verdict.Verdict.{Verdict}
use Rattle.cert_types.specs.declared.verdict.Verdict.TheVariants.{Least, NoneWithin, Bounds}
use Rattle.cert_types.specs.declared.part.Part.{Part}
use Rattle.cert_types.specs.CertValue.{CertValue, IsCertValue}
use Rattle.cert_types.specs.Claim.{Claim, CertClaim}
use Rattle.cert_types.specs.Holding.{PartsHold}
use Rattle.cert_check.specs.Answers.{ArePartsAnswer}
use Rattle.cert_types.specs.Fitting.{size_below, lower_size, DeckFits, LowerFits}
use Rattle.cert_types.specs.Lower.{IsLower}
use Rattle.cert_types.specs.LowerPart.{LowerPart}
use Rattle.cert_types.specs.OpenValue.{OpenValue, IsOpenValue}
use Rattle.cert_check.proofs.Lowers.{lower_leaves}

-- a lower part of n ballots that holds leaves no good deck of at most n
below_lower : (contests : List Contest) (rules : RuleSet) (n : ℕ) (lower : Option LowerPart)
    → IsShape contests → LowerFits contests (Some n) lower → IfSome lower (IsLower contests rules)
    → NoGoodBelow contests rules (suc n)
below_lower contests rules n None shape fits holds = absurd fits
below_lower contests rules n (Some l) shape fits holds =
    let size : l.size + 1 ≡ suc n = omega (arith, fits.1) in
    subst (NoGoodBelow contests rules) size (lower_leaves contests rules l shape holds)

-- where there is a lower part for each number above 0, none of fewer ballots is good
below_size : (contests : List Contest) (rules : RuleSet) (k : ℕ) (lower : Option LowerPart)
    → IsShape contests → LowerFits contests (size_below k) lower
    → IfSome lower (IsLower contests rules) → NoGoodBelow contests rules k
below_size contests rules zero lower shape fits holds = λ deck fewer good. absurd (omega (arith, fewer))
below_size contests rules (suc k) lower shape fits holds =
    below_lower contests rules k lower shape fits holds

-- where the deck is good and the lower part holds, each if it is there, the claim is true
pub claims : (contests : List Contest) (rules : RuleSet) (verdict : Verdict)
    (proved : Option Proved) (lower : Option LowerPart) → IsShape contests
    → DeckFits contests verdict proved → LowerFits contests (lower_size verdict) lower
    → IfSome proved (λ p. IsGood contests rules p.deck.ballots)
    → IfSome lower (IsLower contests rules) → Claim contests rules proved verdict
claims contests rules (Least k) None lower shape deck fits good holds = absurd deck
claims contests rules (Least k) (Some p) lower shape deck fits good holds =
    ((p.deck.ballots, good, deck.1), below_size contests rules k lower shape fits holds)
claims contests rules (NoneWithin m) proved lower shape deck fits good holds =
    below_lower contests rules m lower shape fits holds
claims contests rules (Bounds f) proved lower shape deck fits good holds =
    (below_size contests rules f lower shape fits holds, good)

-- what was found of a deck and a lower part, in the words of their own file
pub record AreFound (contests : List Contest) (rules : RuleSet) (proved : Option Proved)
    (lower : Option LowerPart) : Type 0 where
  pub shape : IsShape contests
  pub good : IfSome proved (λ p. IsGood contests rules p.deck.ballots)
  pub lower_holds : IfSome lower (IsLower contests rules)

pub found_there : (cs contests : List Contest) (rs rules : RuleSet) (p proved : Option Proved)
    (l lower : Option LowerPart) (fault : Option (Part × ℕ)) → IsShape cs → cs ≡ contests
    → rs ≡ rules → p ≡ proved → l ≡ lower → fault ≡ None → ArePartsAnswer cs rs p l fault
    → IfSome p (λ q. IsGood cs rs q.deck.ballots) → AreFound contests rules proved lower
found_there cs contests rs rules p proved l lower fault shape at_contests at_rules at_proved at_lower none answer good =
    let held : PartsHold cs rs p l = subst (ArePartsAnswer cs rs p l) none answer in
    let found : AreFound cs rs p l = record { shape = shape; good = good; lower_holds = held.lower_holds } in
    subst (λ (x : List Contest). AreFound x rules proved lower) at_contests
    (subst (λ (x : RuleSet). AreFound cs x proved lower) at_rules
    (subst (λ (x : Option Proved). AreFound cs rs x lower) at_proved
    (subst (λ (x : Option LowerPart). AreFound cs rs p x) at_lower found)))

-- the claim of a certificate
pub cert_claim : (cert : CertValue) → IsCertValue cert
    → AreFound cert.contests cert.rules cert.proved cert.lower → CertClaim cert
cert_claim cert is found =
    claims cert.contests cert.rules cert.verdict cert.proved cert.lower found.shape is.deck_fits is.lower_fits found.good found.lower_holds

-- what an open file that holds shows of smaller decks
pub none_below : (file : OpenValue) → IsOpenValue file
    → AreFound file.contests file.rules file.best file.lower
    → NoGoodBelow file.contests file.rules file.from
none_below file is found =
    below_size file.contests file.rules file.from file.lower found.shape is.lower_fits found.lower_holds

-- nothing is there where a test says so
pub nothing : {A : Type 0} (o : Option A) (b : Bool) → b ≡ is_some o → b ≡ false → o ≡ None
nothing None b e f = refl
nothing (Some x) b e f = cc
