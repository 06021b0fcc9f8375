-- The head of a file: a style's names, its contests and the rules.
use Rattle.std.specs.Prelude.{◌≡◌, ◌∷◌, ◌++◌, [], ℕ, zero, suc, ◌==◌, nat_le, Bool, cond}
use Rattle.std.specs.Prelude.{List, length, Option, Some, None, is_none, if◌then◌else◌}
use Rattle.std.specs.List.{flat_map, AllByRecursion}
use Rattle.lat_base.specs.declared.contest.Contest.{Contest}
use Rattle.lat_base.specs.declared.contest_names.ContestNames.{ContestNames}
use Rattle.lat_base.specs.Names.{StyleNames, AreNames, is_repeated}
use Rattle.lat_base.specs.Shape.{IsShape}
use Rattle.lat_base.specs.ShapeFault.{shape_fault}
use Rattle.lat_base.specs.Rules.{RuleSet, IsRuleSet, rule_fault}
use Rattle.cert_fields.specs.Spelling.{u16_text, id_text, IsText}
use Rattle.cert_fields.specs.Reading.{◌>>=◌, Reader, u8_at, u16_at, two_at, id_at, pair_at}
use Rattle.cert_fields.specs.Reading.{tested_at}
use Rattle.cert_fields.specs.Reading.{made_at, many_at}

pub record Head : Type 0 where
  pub names : StyleNames
  pub contests : List Contest
  pub rules : RuleSet

-- ---- spelling

abbrev pub contest_text : ContestNames → Contest → List ℕ
contest_text n c =
    (id_text n.id ++ u16_text c.limit) ++ (u16_text c.targets ++ flat_map id_text n.targets)

abbrev pub contests_text : List ContestNames → List Contest → List ℕ
contests_text [] cs = []
contests_text (n ∷ ns) [] = []
contests_text (n ∷ ns) (c ∷ cs) = contest_text n c ++ contests_text ns cs

abbrev pub rules_text : RuleSet → List ℕ
rules_text r =
    (cond r.distinct 1 0 ∷ []) ++ (u16_text r.least ++ (u16_text r.blank ++ u16_text r.over))

abbrev pub head_text : Head → List ℕ
head_text h =
    id_text h.names.style ++ (u16_text (length h.contests)
    ++ (contests_text h.names.contests h.contests ++ rules_text h.rules))

-- ---- what has a spelling

pub record IsNamed (n : ContestNames) (c : Contest) : Type 0 where
  pub id : IsText n.id
  pub count : length n.targets ≡ c.targets
  pub targets : AllByRecursion IsText n.targets

abbrev pub AreNamed : List ContestNames → List Contest → Type 0
AreNamed [] [] = Unit {0}
AreNamed (n ∷ ns) (c ∷ cs) = IsNamed n c × AreNamed ns cs
AreNamed ns cs = ⊥

pub record IsHead (h : Head) : Type 0 where
  pub style : IsText h.names.style
  pub named : AreNamed h.names.contests h.contests
  pub unique : AreNames h.names.contests
  pub shape : IsShape h.contests
  pub limits : IsRuleSet h.rules

-- ---- how it is read

unfoldable pub contest_at : List ℕ → Option ((ContestNames × Contest) × List ℕ)
contest_at bytes =
    made_at
    (λ p. (record { id = p.0.0; targets = p.1.1 }, record { limit = p.0.1; targets = p.1.0 }))
    (pair_at (pair_at id_at (λ _. u16_at)) (λ _. pair_at u16_at (λ n. many_at id_at n))) bytes

-- so many contests, behind those that were read before
abbrev pub contests_at : ℕ → List ContestNames → List Contest
    → Reader (List ContestNames × List Contest)
contests_at zero ns cs bytes = Some ((ns, cs), bytes)
contests_at (suc k) ns cs bytes =
    contest_at bytes >>= λ p.
    if is_repeated ns p.0.0.id p.0.0.targets then None
    else contests_at k (ns ++ p.0.0 ∷ []) (cs ++ p.0.1 ∷ []) p.1

abbrev pub flag_at : List ℕ → Option (Bool × List ℕ)
flag_at bytes = made_at (λ n. n == 1) (tested_at (λ n. nat_le n 1) u8_at) bytes

unfoldable pub rules_at : List ℕ → Option (RuleSet × List ℕ)
rules_at bytes =
    tested_at (λ r. is_none (rule_fault r))
    (made_at (λ p. record { distinct = p.0; least = p.1.0; blank = p.1.1.0; over = p.1.1.1 })
    (pair_at flag_at (λ _. pair_at u16_at (λ _. two_at)))) bytes

unfoldable pub style_at : List ℕ → Option ((StyleNames × List Contest) × List ℕ)
style_at bytes =
    id_at bytes >>= λ id. u16_at id.1 >>= λ n. contests_at n.0 [] [] n.1 >>= λ cs.
    if is_none (shape_fault cs.0.1)
    then Some ((record { style = id.0; contests = cs.0.0 }, cs.0.1), cs.1) else None

unfoldable pub head_at : List ℕ → Option (Head × List ℕ)
head_at bytes =
    style_at bytes >>= λ s. rules_at s.1 >>= λ r.
    Some (record { names = s.0.0; contests = s.0.1; rules = r.0 }, r.1)
