-- The summary of a plan.
use Rattle.std.specs.Prelude.{ℕ, ◌++◌, List, codes, Option, Some, None}
use Rattle.std.specs.Fmt.{decimal}
use Rattle.lat_base.specs.Names.{StyleNames}
use Rattle.cert_types.specs.declared.verdict.Verdict.{Verdict}
use Rattle.cert_types.specs.declared.verdict.Verdict.TheVariants.{Least, NoneWithin, Bounds}

-- the number of ballots of the best deck, or that there is none
abbrev pub best_text : Option ℕ → List ℕ
best_text None = codes "none"
best_text (Some ballots) = decimal ballots

-- what was found, in words: the least number of ballots, that no good deck has at most so many, or
-- the number below which no deck is good, and then the best deck's
abbrev pub verdict_text : Verdict → Option ℕ → List ℕ
verdict_text (Least k) best = codes "least " ++ decimal k
verdict_text (NoneWithin m) best = codes "none within " ++ decimal m
verdict_text (Bounds f) best = codes "open from " ++ decimal f ++ codes " best " ++ best_text best

-- the style's id, its number of targets, and what was found, each in a line
abbrev pub plan_text : StyleNames → ℕ → Verdict → Option ℕ → List ℕ
plan_text names targets verdict best =
    codes "style " ++ names.style ++ codes "\ntargets " ++ decimal targets ++ codes "\n"
    ++ verdict_text verdict best ++ codes "\n"
