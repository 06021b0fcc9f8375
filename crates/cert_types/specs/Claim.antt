-- What a certificate claims.
use Rattle.std.specs.Prelude.{suc, Option, List, IfSome}
use Rattle.lat_base.specs.declared.contest.Contest.{Contest}
use Rattle.lat_base.specs.Goodness.{IsGood, NoGoodBelow, IsLeastSize}
use Rattle.lat_base.specs.Rules.{RuleSet}
use Rattle.cert_types.specs.declared.proved.Proved.{Proved}
use Rattle.cert_types.specs.declared.verdict.Verdict.{Verdict}
use Rattle.cert_types.specs.declared.verdict.Verdict.TheVariants.{Least, NoneWithin, Bounds}
use Rattle.cert_types.specs.CertValue.{CertValue}

-- a good deck of k ballots exists and none of fewer; no good deck has at most m ballots; no good
-- deck has fewer than f ballots, and the deck given, if there is one, is good
abbrev pub Claim : List Contest → RuleSet → Option Proved → Verdict → Type 0
Claim contests rules proved (Least k) = IsLeastSize contests rules k
Claim contests rules proved (NoneWithin m) = NoGoodBelow contests rules (suc m)
Claim contests rules proved (Bounds f) =
    NoGoodBelow contests rules f × IfSome proved (λ p. IsGood contests rules p.deck.ballots)

abbrev pub CertClaim : CertValue → Type 0
CertClaim cert = Claim cert.contests cert.rules cert.proved cert.verdict
