-- The parts of a file that are read fit one another as the types keep it, and the other way round.
use Rattle.std.proofs.Common.{◌≡◌, ◌≤◌, ℕ, List, length, Option, Some, None, refl, arith}
use Rattle.std.specs.Prelude.{IfSome}
use Rattle.lat_base.specs.declared.contest.Contest.{Contest}
use Rattle.lat_base.specs.Shape.{target_count}
use Rattle.lat_ballots.specs.Deck.{Ballots}
use Rattle.cert_fields.specs.Rows.{IsDeckOf}
use Rattle.cert_types.specs.declared.license.License.{License}
use Rattle.cert_types.specs.declared.license.License.TheVariants.{Tree, Deck}
use Rattle.cert_types.specs.declared.proved.Proved.{Proved}
use Rattle.cert_types.specs.declared.verdict.Verdict.{Verdict}
use Rattle.cert_types.specs.declared.verdict.Verdict.TheVariants.{Least, NoneWithin, Bounds}
use Rattle.cert_types.specs.Fitting.{IsVerdict, DeckFits, LowerFits}
use Rattle.cert_types.specs.LowerPart.{LowerPart}
use Rattle.cert_types.specs.OpenValue.{BestFits, LicenseFits}
use Rattle.cert_format.specs.Fields.{IsProvedField, IsLowerField, IsLicenseField}
use Rattle.cert_format.proofs.Bodies.{ProvedFits, BestDeckFits, DeckPartFits, LowerPartFits, LicenseOneFits}

-- rows of k ballots are rows of as many as there are
own_size : (targets k : ℕ) (deck : Ballots) → IsDeckOf targets k deck
    → IsDeckOf targets (length deck.ballots) deck
own_size targets k deck h = record { width = h.width; ballots = record { count = refl; each = h.ballots.each } }

of_size : (targets k : ℕ) (deck : Ballots) → length deck.ballots ≡ k
    → IsDeckOf targets (length deck.ballots) deck → IsDeckOf targets k deck
of_size targets k deck e h = record { width = h.width; ballots = record { count = e; each = h.ballots.each } }

pub proved_field : (contests : List Contest) (k : ℕ) (p : Proved) → k ≤ 1024
    → ProvedFits (target_count contests) k p → IsProvedField contests p
proved_field contests k p few h = record { rows = own_size (target_count contests) k p.deck h.0; few = omega (arith, h.0.ballots.count, few); tree = h.1 }

pub deck_fits : (contests : List Contest) (verdict : Verdict) (proved : Option Proved)
    → DeckPartFits (target_count contests) verdict proved → DeckFits contests verdict proved
deck_fits contests (Least k) (Some p) h = (h.0.width, h.0.ballots.count)
deck_fits contests (Least k) None h = absurd h
deck_fits contests (NoneWithin m) (Some p) h = absurd h
deck_fits contests (NoneWithin m) None h = tt
deck_fits contests (Bounds f) (Some p) h = h.1.0.width
deck_fits contests (Bounds f) None h = tt

pub best_field : (contests : List Contest) (best : Option Proved)
    → BestDeckFits (target_count contests) best → IfSome best (IsProvedField contests)
best_field contests (Some p) h = record { rows = h.1.0; few = h.0; tree = h.1.1 }
best_field contests None h = tt

pub deck_field : (contests : List Contest) (verdict : Verdict) (proved : Option Proved)
    → IsVerdict verdict → DeckPartFits (target_count contests) verdict proved
    → IfSome proved (IsProvedField contests)
deck_field contests (Least k) (Some p) few h = proved_field contests k p few h
deck_field contests (Least k) None few h = absurd h
deck_field contests (NoneWithin m) (Some p) few h = absurd h
deck_field contests (NoneWithin m) None few h = tt
deck_field contests (Bounds f) best few h = best_field contests best h

pub lower_fits : (contests : List Contest) (size : Option ℕ) (lower : Option LowerPart)
    → LowerPartFits contests size lower → LowerFits contests size lower
lower_fits contests (Some n) (Some l) h = h.0
lower_fits contests (Some n) None h = absurd h
lower_fits contests None (Some l) h = absurd h
lower_fits contests None None h = tt

pub lower_field : (contests : List Contest) (size : Option ℕ) (lower : Option LowerPart)
    → LowerPartFits contests size lower → IfSome lower IsLowerField
lower_field contests (Some n) (Some l) h = h.1
lower_field contests (Some n) None h = absurd h
lower_field contests None (Some l) h = absurd h
lower_field contests None None h = tt

pub best_fits : (contests : List Contest) (best : Option Proved)
    → BestDeckFits (target_count contests) best → BestFits contests best
best_fits contests (Some p) h = h.1.0.width
best_fits contests None h = tt

pub license_fits : (contests : List Contest) (from : ℕ) (license : License)
    → LicenseOneFits (target_count contests) from license → LicenseFits contests from license
license_fits contests from (Tree tree) h = tt
license_fits contests from (Deck deck tree) h = (h.0.width, h.0.ballots.count)

pub license_field : (contests : List Contest) (from : ℕ) (license : License) → from ≤ 1024
    → LicenseOneFits (target_count contests) from license → IsLicenseField contests license
license_field contests from (Tree tree) few h = h
license_field contests from (Deck deck tree) few h =
    record { rows = own_size (target_count contests) from deck h.0; few = omega (arith, h.0.ballots.count, few); tree = h.1 }

-- ---- the other way round

pub deck_back : (contests : List Contest) (verdict : Verdict) (proved : Option Proved)
    → DeckFits contests verdict proved → IfSome proved (IsProvedField contests)
    → DeckPartFits (target_count contests) verdict proved
deck_back contests (Least k) (Some p) d f = (of_size (target_count contests) k p.deck d.1 f.rows, f.tree)
deck_back contests (Least k) None d f = absurd d
deck_back contests (NoneWithin m) (Some p) d f = absurd d
deck_back contests (NoneWithin m) None d f = tt
deck_back contests (Bounds n) (Some p) d f = (f.few, (f.rows, f.tree))
deck_back contests (Bounds n) None d f = tt

pub best_back : (contests : List Contest) (best : Option Proved)
    → IfSome best (IsProvedField contests) → BestDeckFits (target_count contests) best
best_back contests (Some p) f = (f.few, (f.rows, f.tree))
best_back contests None f = tt

pub lower_back : (contests : List Contest) (size : Option ℕ) (lower : Option LowerPart)
    → LowerFits contests size lower → IfSome lower IsLowerField → LowerPartFits contests size lower
lower_back contests (Some n) (Some l) h f = (h, f)
lower_back contests (Some n) None h f = absurd h
lower_back contests None (Some l) h f = absurd h
lower_back contests None None h f = tt

pub license_back : (contests : List Contest) (from : ℕ) (license : License)
    → LicenseFits contests from license → IsLicenseField contests license
    → LicenseOneFits (target_count contests) from license
license_back contests from (Tree tree) h f = f
license_back contests from (Deck deck tree) h f = (of_size (target_count contests) from deck h.1 f.rows, f.tree)
