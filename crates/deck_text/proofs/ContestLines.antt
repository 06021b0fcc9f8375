-- The rows of a ballot, contest by contest.
use Rattle.std.proofs.Common.{◌≡◌, ◌<◌, ◌≤◌, ◌+◌, ◌++◌, ℕ, zero, suc, Bool, false, List, [], ◌∷◌, length, take, drop, get_or, ap, sym, ◌∙◌, refl, arith, if◌then◌else◌}
use Rattle.std.specs.List.{flat_map, range_with_len}
use Rattle.std.proofs.lemmas.List.{length-map, get_or-map, get_or-drop, get_or_default, append_assoc}
use Rattle.std.proofs.lemmas.List.Concat.{length-flat_map, get_or-flat_map, flat_map-append}
use Rattle.std.proofs.lemmas.List.Sums.{sum_by_more, sum_by-take-le}
use Rattle.lat_base.specs.declared.contest_names.ContestNames.{ContestNames}
use Rattle.lat_base.specs.Names.{names_at, no_names}
use Rattle.lat_base.specs.Tally.{is_marked}
use Rattle.deck_text.specs.Line.{line}
use Rattle.deck_text.specs.TargetNames.{names_in, target_names, name_at, no_name}
use Rattle.deck_text.specs.DeckText.{mark_line}

-- a contest gives as many names as it has targets
pub names_long : (n : ContestNames) → length (names_in n) ≡ length n.targets
names_long n = length-map n.targets (λ (id : List ℕ). record { contest = n.id; target = id })

-- as many names stand before the next contest as before this one, and its own
pub names_more : (names : List ContestNames) (c : ℕ) → c < length names
    → length (target_names (take (c + 1) names))
    ≡ length (target_names (take c names)) + length (names_at names c).targets
names_more names c within =
    length-flat_map names_in (take (c + 1) names)
    ∙ sum_by_more (λ (n : ContestNames). length (names_in n)) names c no_names within
    ∙ (λ i. sym (length-flat_map names_in (take c names)) i + names_long (names_at names c) i)

-- and no more than there are in all
pub names_within : (names : List ContestNames) (c : ℕ) → c < length names
    → length (target_names (take c names)) + length (names_at names c).targets
    ≤ length (target_names names)
names_within names c within =
    let all = length-flat_map names_in names in
    let some = length-flat_map names_in (take (c + 1) names) in
    omega (arith, names_more names c within, all, some, sum_by-take-le (λ (n : ContestNames). length (names_in n)) names (c + 1))

-- the same of the contest that a loop over the contests is at
pub contest_few : (names items : List ContestNames) (n : ContestNames) (c : ℕ) → items ≡ names
    → c < length items → n ≡ get_or items c n
    → length (target_names (take c names)) + length n.targets ≤ length (target_names names)
contest_few names items n c same within is =
    let low : c < length names = omega (arith, within, ap length same) in
    let at : n ≡ names_at names c = is ∙ ap (λ (ns : List ContestNames). get_or ns c n) same ∙ get_or_default names c n no_names low in
    omega (arith, names_within names c low, ap (λ (m : ContestNames). length m.targets) at)

-- the row of target i of a contest whose targets are numbered from `first`
pub target_line : (n : ContestNames) (number : List ℕ) (ballot : List Bool) (first i : ℕ)
    → i < length n.targets
    → mark_line (names_in n) number (drop first ballot) i
    ≡ (if get_or ballot (first + i) false then line number n.id (get_or n.targets i []) else [])
target_line n number ballot first i low =
    rw (get_or-map (λ (id : List ℕ). record { contest = n.id; target = id }) n.targets i [] no_name low, get_or-drop first ballot i false) refl

-- equal pieces make equal texts
same_pieces : (f g : ℕ → List ℕ) (a b n : ℕ) → ((i : ℕ) → i < n → f (a + i) ≡ g (b + i))
    → flat_map f (range_with_len a n) ≡ flat_map g (range_with_len b n)
same_pieces f g a b zero same = refl
same_pieces f g a b (suc n) same =
    let at : a ≡ a + 0 = omega arith in
    let to : b + 0 ≡ b = omega arith in
    let here : f a ≡ g b = ap f at ∙ same 0 (omega arith) ∙ ap g to in
    let next : (i : ℕ) → i < n → f ((a + 1) + i) ≡ g ((b + 1) + i) =
    (λ i low.
    let left : (a + 1) + i ≡ a + suc i = omega arith in
    let right : b + suc i ≡ (b + 1) + i = omega arith in
    ap f left ∙ same (suc i) (omega (arith, low)) ∙ ap g right) in
    (λ i. here i ++ same_pieces f g (a + 1) (b + 1) n next i)

-- the numbers of a range and those that follow
range_join : (a m n : ℕ) → range_with_len a (m + n) ≡ range_with_len a m ++ range_with_len (a + m) n
range_join a zero n =
    let none : 0 + n ≡ n = omega arith in
    let start : a ≡ a + 0 = omega arith in
    ap (range_with_len a) none ∙ ap (λ (k : ℕ). range_with_len k n) start
range_join a (suc m) n =
    let count : suc m + n ≡ suc (m + n) = omega arith in
    let next : (a + 1) + m ≡ a + suc m = omega arith in
    ap (range_with_len a) count
    ∙ ap (λ (ks : List ℕ). a ∷ ks) (range_join (a + 1) m n ∙ ap (λ (k : ℕ). range_with_len (a + 1) m ++ range_with_len k n) next)

-- a target's row by its number among all, and within its contest
same_line : (names : List ContestNames) (number : List ℕ) (ballot : List Bool) (c first i : ℕ)
    → c < length names
    → first ≡ length (target_names (take c names)) → i < length (names_at names c).targets
    → mark_line (target_names names) number ballot (first + i)
    ≡ mark_line (names_in (names_at names c)) number (drop first ballot) i
same_line names number ballot c first i within place low =
    let n = names_at names c in
    let name : name_at (target_names names) (first + i) ≡ name_at (names_in n) i =
    ap (λ (k : ℕ). name_at (target_names names) (k + i)) place ∙ get_or-flat_map names_in names c i no_names no_name within (omega (arith, names_long n, low)) in
    let mark : is_marked ballot (first + i) ≡ is_marked (drop first ballot) i = sym (get_or-drop first ballot i false) in
    (λ k. if mark k then line number (name k).contest (name k).target else [])

-- the rows of the next contest
pub contest_more : (names : List ContestNames) (text number : List ℕ) (ballot : List Bool)
    (c first : ℕ) → c < length names
    → first ≡ length (target_names (take c names))
    → text ++ flat_map (mark_line (target_names names) number ballot)
    (range_with_len 0 (first + length (names_at names c).targets))
    ≡ (text ++ flat_map (mark_line (target_names names) number ballot) (range_with_len 0 first))
    ++ flat_map (mark_line (names_in (names_at names c)) number (drop first ballot)) (range_with_len 0 (length (names_at names c).targets))
contest_more names text number ballot c first within place =
    let n = names_at names c in
    let all = mark_line (target_names names) number ballot in
    let own = mark_line (names_in n) number (drop first ballot) in
    let many = length n.targets in
    let start : 0 + first ≡ first = omega arith in
    let same : (i : ℕ) → i < many → all (first + i) ≡ own (0 + i) =
    (λ i low. let here : i ≡ 0 + i = omega arith in same_line names number ballot c first i within place low ∙ ap own here) in
    ap (λ (ks : List ℕ). text ++ flat_map all ks) (range_join 0 first many ∙ ap (λ (k : ℕ). range_with_len 0 first ++ range_with_len k many) start)
    ∙ ap (λ (more : List ℕ). text ++ more) (flat_map-append all (range_with_len 0 first) (range_with_len first many))
    ∙ sym (append_assoc text (flat_map all (range_with_len 0 first)) (flat_map all (range_with_len first many)))
    ∙ ap (λ (more : List ℕ). (text ++ flat_map all (range_with_len 0 first)) ++ more) (same_pieces all own first 0 many same)
