-- The summary of an attack on a deck.
use Rattle.std.specs.Prelude.{ℕ, ◌++◌, ◌==◌, Bool, List, [], length, get_or, codes, if◌then◌else◌, Option, Some, None}
use Rattle.std.specs.List.{flat_map, range_with_len}
use Rattle.std.specs.Fmt.{decimal}
use Rattle.lat_base.specs.declared.contest.Contest.{Contest}
use Rattle.lat_base.specs.declared.contest_names.ContestNames.{ContestNames}
use Rattle.lat_base.specs.Names.{StyleNames, names_at}
use Rattle.lat_base.specs.Rules.{RuleSet}
use Rattle.lat_rules.specs.declared.broken.Broken.{Broken}
use Rattle.lat_rules.specs.declared.broken.Broken.TheVariants.{Blank, Over, Least, Equal}
use Rattle.lat_rules.specs.Broken.{broken_rule}
use Rattle.adversary.specs.declared.attacking.Attacked.{Attacked}
use Rattle.adversary.specs.declared.attacking.Attacked.TheVariants.{Evaded, Robust, Spent}
use Rattle.deck_text.specs.TargetNames.{FullName, target_names, name_at}

-- a target as it is printed: the ids of its contest and its own, with a colon between
abbrev pub printed : List FullName → ℕ → List ℕ
printed names t = (name_at names t).contest ++ codes ":" ++ (name_at names t).target

-- the line of the rules: that they are kept, or the first one that is broken
abbrev pub rules_text : List ContestNames → Option Broken → List ℕ
rules_text names None = codes "rules kept\n"
rules_text names (Some (Blank n)) = codes "rules broken blank " ++ decimal n ++ codes "\n"
rules_text names (Some (Over c n)) = codes "rules broken over " ++ (names_at names c).id
    ++ codes " " ++ decimal n ++ codes "\n"
rules_text names (Some (Least t n)) = codes "rules broken least " ++ printed (target_names names) t
    ++ codes " " ++ decimal n ++ codes "\n"
rules_text names (Some (Equal t u n)) =
    codes "rules broken equal " ++ printed (target_names names) t ++ codes " "
    ++ printed (target_names names) u ++ codes " " ++ decimal n ++ codes "\n"

-- the line of target u under a misassignment: the target from which its marks are read, or nothing
-- where it counts for itself
abbrev pub source_line : List FullName → List ℕ → ℕ → List ℕ
source_line names s u = if get_or s u 0 == u then [] else printed names u ++ codes " reads "
    ++ printed names (get_or s u 0) ++ codes "\n"

-- the lines of an attack: the misassignment that evades the deck, or that there is none, or that
-- it is open
abbrev pub attack_text : List FullName → Attacked → List ℕ
attack_text names (Evaded s) = codes "evaded\n"
    ++ flat_map (source_line names s) (range_with_len 0 (length s))
attack_text names (Robust tree) = codes "robust\n"
attack_text names (Spent tree) = codes "open\n"

-- the summary of an attack on a deck of that style under those rules
abbrev pub verify_text : List Contest → StyleNames → RuleSet → List (List Bool) → Attacked → List ℕ
verify_text contests names rules deck attack =
    codes "style " ++ names.style ++ codes "\nballots " ++ decimal (length deck) ++ codes "\n"
    ++ rules_text names.contests (broken_rule contests rules deck)
    ++ attack_text (target_names names.contests) attack
