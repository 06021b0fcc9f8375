-- The rules of a definition.
use Rattle.std.specs.Prelude.{codes, Result, Ok}
use Rattle.lat_base.specs.declared.limits.TheConstants.{MOST_BLANK, MOST_LEAST, MOST_OVER}
use Rattle.serde_json.specs.Data.{Data}
use Rattle.lat_base.specs.Rules.{RuleSet}
use Rattle.election_json.specs.declared.place.Place.TheVariants as at
use Rattle.election_json.specs.declared.fault.DefFault.{DefFault}
use Rattle.lat_base.specs.FirstFault.{◌>>=◌}
use Rattle.election_json.specs.Member.{member, object, boolean, number}

-- the member `rules` of a definition: `distinct`, `least`, `blank` and `over`, in this order
unfoldable pub rules_of : Data → Result RuleSet DefFault
rules_of top = do
  rules ← member (codes "rules") at.Rules top >>= object at.Rules
  distinct ← member (codes "distinct") at.Distinct rules >>= boolean at.Distinct
  least ← member (codes "least") at.Least rules >>= number 0 MOST_LEAST at.Least
  blank ← member (codes "blank") at.Blank rules >>= number 0 MOST_BLANK at.Blank
  over ← member (codes "over") at.Over rules >>= number 0 MOST_OVER at.Over
  Ok (record { distinct = distinct; least = least; blank = blank; over = over })
