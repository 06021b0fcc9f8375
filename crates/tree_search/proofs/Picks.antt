-- Lists of Close and Fork nodes alone.
use Rattle.std.proofs.Common.{◌≡◌, ℕ, suc, ◌+◌, ◌-◌, ◌<◌, ◌≤◌, true, false, Some, List, [], ◌∷◌, ◌++◌, length, refl, ap, sym, ◌∙◌, arith, length-append, count_by, inl, inr}
use Rattle.std.specs.List.{slice_get}
use Rattle.std.proofs.lemmas.Option.{slice_get_within}
use Rattle.std.proofs.lemmas.Bool.{cases_lt}
use Rattle.tree_core.specs.declared.node.Node.{Node}
use Rattle.tree_core.specs.declared.node.Node.TheVariants.{Open}
use Rattle.tree_core.specs.Nodes.{is_pick, IsGapless, IsFirstOpen}
use Rattle.tree_core.proofs.Lists.{slice_get-front, slice_get-last}
use Rattle.tree_search.specs.Turn.{opens}
use Rattle.tree_search.proofs.Opens.{slice_get-behind, open_in, count-append}

-- every node is a Close or a Fork
abbrev pub AllPicked : {B R : Type 0} → List (Node B R) → Type 0
AllPicked {B} {R} ns = (i : ℕ) (n : Node B R) → slice_get ns i ≡ Some n → is_pick n ≡ true

pub picked_nil : {B R : Type 0} → AllPicked {B = B} {R = R} []
picked_nil i n e = absurd (cc)

pub picked_snoc : {B R : Type 0} (ns : List (Node B R)) (m : Node B R) → AllPicked ns
    → is_pick m ≡ true → AllPicked (ns ++ (m ∷ []))
picked_snoc ns m h p i n e = elim (cases_lt i (length ns)) [
  | inl below ↦ h i n (sym (slice_get-front ns (m ∷ []) i below) ∙ e)
  | inr above ↦ late above
]
  where
    late : length ns ≤ i → is_pick n ≡ true
    late above =
        let within : i < length (ns ++ (m ∷ [])) = slice_get_within (ns ++ (m ∷ [])) i n e in
        let at : i ≡ length ns = omega (arith, length-append ns (m ∷ [])) in
        let same : Some m ≡ Some n = sym (slice_get-last ns m) ∙ (ap (slice_get (ns ++ (m ∷ []))) (sym at) ∙ e) in
        let mn : m ≡ n = cc in
        rw (← mn) p

pub count-snoc : {B R : Type 0} (ns : List (Node B R)) (n : Node B R) → is_pick n ≡ true
    → count_by is_pick (ns ++ (n ∷ [])) ≡ count_by is_pick ns + 1
count-snoc ns n p = count-append is_pick ns (n ∷ []) ∙ rw p (omega arith)

-- with open nodes behind the list is gapless
pub gapless : {B R : Type 0} (old : List (Node B R)) (k : ℕ) → AllPicked old
    → IsGapless (old ++ opens k)
gapless old k all i j n below get_i get_j = elim (cases_lt i (length old)) [ inl early ↦ bad early | inr late ↦ good late ]
  where
    bad : i < length old → is_pick n ≡ false
    bad early = let p = all i Open (sym (slice_get-front old (opens k) i early) ∙ get_i) in absurd (cc)

    good : length old ≤ i → is_pick n ≡ false
    good late =
        let at : j ≡ length old + (j - length old) = omega arith in
        let o : n ≡ Open = open_in k (j - length old) n (sym (slice_get-behind old (opens k) (j - length old)) ∙ (ap (slice_get (old ++ opens k)) (sym at) ∙ get_j)) in
        rw o refl

-- and the first open node is the one behind them
pub first_open : {B R : Type 0} (old : List (Node B R)) (k : ℕ) → AllPicked old
    → IsFirstOpen (old ++ opens (suc k)) (length old)
first_open old k all =
    (ap (slice_get (old ++ opens (suc k))) (omega arith) ∙ slice_get-behind old (opens (suc k)) 0, λ j n below get. all j n (sym (slice_get-front old (opens (suc k)) j below) ∙ get))
