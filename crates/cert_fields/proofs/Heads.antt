-- A head is read exactly.
use Rattle.std.proofs.Common.{◌≡◌, ℕ, zero, suc, ◌<◌, ◌≤◌, Bool, true, false, cond, List, [], ◌∷◌, ◌++◌, length, Option, Some, None, refl, sym, ap, subst, ◌∙◌, append_assoc, arith, length-append}
use Rattle.std.specs.Prelude.{◌||◌, ◌==◌, is_none, nat_le}
use Rattle.std.specs.List.{flat_map, AllByRecursion, list_any}
use Rattle.std.specs.Str.{bytes_eq}
use Rattle.std.proofs.lemmas.Bool.{false≢true, or_parts, or_from, leb-true}
use Rattle.std.proofs.lemmas.Slice.Eq.{bytes_eq-Decides}
use Rattle.std.proofs.Math.Seq.{get_or-append_seam}
use Rattle.std.proofs.lemmas.Option.{same_Some, none-some}
use Rattle.std.proofs.lemmas.List.{append-nil, map-append}
use Rattle.lat_base.specs.declared.contest.Contest.{Contest}
use Rattle.lat_base.specs.declared.contest_names.ContestNames.{ContestNames}
use Rattle.lat_base.specs.declared.shape_fault.ShapeFault.{ShapeFault}
use Rattle.lat_base.specs.declared.rules.RuleFault.{RuleFault}
use Rattle.lat_base.specs.Names.{StyleNames, AreNames, contest_ids, has_twice, is_repeated}
use Rattle.lat_base.specs.ShapeFault.{shape_fault}
use Rattle.lat_base.specs.Rules.{rule_fault}
use Rattle.lat_base.proofs.NamesFacts.{names_more}
use Rattle.lat_base.proofs.ShapeFacts.{is_shape}
use Rattle.lat_base.proofs.ValidFacts.{no_shape_fault, no_rule_fault}
use Rattle.cert_fields.proofs.Limits.{is_rule_set}
use Rattle.cert_fields.specs.Spelling.{u16_text, id_text, IsText}
use Rattle.cert_fields.specs.Reading.{◌>>=◌, u8_at, u16_at, two_at, id_at, pair_at, tested_at, made_at, many_at}
use Rattle.cert_fields.specs.Exact.{Exact}
use Rattle.cert_fields.proofs.Exact.{step, AnyOf, u8_exact, u16_exact, two_exact, id_exact, tested_exact, pair_exact, many_exact, same_exact}
use Rattle.cert_fields.specs.Head.{Head, contest_text, contests_text, rules_text, head_text, IsNamed, AreNamed, IsHead, contest_at, contests_at, flag_at, rules_at, style_at, head_at}
use Rattle.cert_fields.proofs.Contests.{never_true}

pub made_by : {A V : Type 0} (make : A → V) (field : List ℕ → Option (A × List ℕ)) (F : A → Type 0)
    (t : A → List ℕ) (G : V → Type 0) (u : V → List ℕ)
    → Exact field F t → ((a : A) → F a → G (make a) × (u (make a) ≡ t a))
    → ((v : V) → G v → (a : A) × (make a ≡ v) × F a × (u v ≡ t a)) → Exact (made_at make field) G u
made_by {A} {V} make field F t G u x there back = record {
  takes = λ bytes v rest e.
      let p = step (field bytes) (λ a. Some (make a.0, a.1)) (v, rest) e in
      let h = x.takes bytes p.0.0 p.0.1 p.1 in
      let k = there p.0.0 h.0 in
      subst (λ (w : V × List ℕ). G w.0 × (bytes ≡ u w.0 ++ w.1)) (same_Some (make p.0.0, p.0.1) (v, rest) p.2) (k.0, h.1 ∙ ap (λ (r : List ℕ). r ++ p.0.1) (sym k.1));
  again = λ v rest g.
      let b = back v g in
      ap (λ (r : List ℕ). made_at make field (r ++ rest)) b.3 ∙ ap (λ (o : Option (A × List ℕ)). o >>= λ a. Some (make a.0, a.1)) (x.again b.0 rest b.2) ∙ ap (λ (w : V). Some (w, rest)) b.1;
}

-- ---- one contest

abbrev Ids : ℕ → List (List ℕ) → Type 0
Ids n ids = (length ids ≡ n) × AllByRecursion IsText ids

abbrev Raw : Type 0
Raw = (List ℕ × ℕ) × (ℕ × List (List ℕ))

raw_exact : Exact (pair_at (pair_at id_at (λ _. u16_at))
    (λ _. pair_at u16_at (λ n. many_at id_at n)))
    (λ (p : Raw). (IsText p.0.0 × Unit {0}) × (Unit {0} × Ids p.1.0 p.1.1))
    (λ (p : Raw). (id_text p.0.0 ++ u16_text p.0.1) ++ (u16_text p.1.0 ++ flat_map id_text p.1.1))
raw_exact = pair_exact (pair_at id_at (λ _. u16_at)) (λ _. pair_at u16_at (λ n. many_at id_at n)) (λ p. IsText p.0 × Unit {0}) (λ _ p. Unit {0} × Ids p.0 p.1) (λ p. id_text p.0 ++ u16_text p.1) (λ _ p. u16_text p.0 ++ flat_map id_text p.1)
    (pair_exact id_at (λ _. u16_at) IsText (λ _ _. Unit {0}) id_text (λ _. u16_text) id_exact (λ _. u16_exact))
    (λ _. pair_exact u16_at (λ n. many_at id_at n) AnyOf Ids u16_text (λ _. flat_map id_text) u16_exact (λ n. many_exact id_at IsText id_text id_exact n))

contest_exact : Exact contest_at (λ p. IsNamed p.0 p.1) (λ p. contest_text p.0 p.1)
unfolding contest_at
contest_exact =
    made_by (λ (p : Raw). (record { id = p.0.0; targets = p.1.1 }, record { limit = p.0.1; targets = p.1.0 })) (pair_at (pair_at id_at (λ _. u16_at)) (λ _. pair_at u16_at (λ n. many_at id_at n)))
    (λ (p : Raw). (IsText p.0.0 × Unit {0}) × (Unit {0} × Ids p.1.0 p.1.1)) (λ (p : Raw). (id_text p.0.0 ++ u16_text p.0.1) ++ (u16_text p.1.0 ++ flat_map id_text p.1.1))
    (λ p. IsNamed p.0 p.1) (λ p. contest_text p.0 p.1) raw_exact
    (λ p f. (record { id = f.0.0; count = f.1.1.0; targets = f.1.1.1 }, refl))
    (λ v g. (((v.0.id, v.1.limit), (v.1.targets, v.0.targets)), refl, ((g.id, tt), (tt, (g.count, g.targets))), refl))

-- ---- names that don't repeat

list_any-append : (p : List ℕ → Bool) (xs ys : List (List ℕ)) → list_any p (xs ++ ys) ≡ false
    → (list_any p xs ≡ false) × (list_any p ys ≡ false)
list_any-append p [] ys e = (refl, e)
list_any-append p (x ∷ xs) ys e = let o = or_parts (p x) (list_any p (xs ++ ys)) e in let k = list_any-append p xs ys o.1 in (or_from _ _ o.0 k.0, k.1)

pub is_same : (xs ys : List ℕ) → bytes_eq xs ys ≡ true → xs ≡ ys
is_same xs ys e = grind (arith, bytes_eq-Decides)

pub is_true : (xs ys : List ℕ) → xs ≡ ys → bytes_eq xs ys ≡ true
is_true xs ys e = grind (arith, bytes_eq-Decides)

bytes_eq-sym : (x y : List ℕ) → bytes_eq x y ≡ false → bytes_eq y x ≡ false
bytes_eq-sym x y e = never_true (bytes_eq y x) (λ t. let s : y ≡ x = is_same y x t in false≢true (sym e ∙ is_true x y (sym s)))

not-before : (ids : List (List ℕ)) (id : List ℕ) (others : List (List ℕ))
    → has_twice (ids ++ id ∷ others) ≡ false → list_any (bytes_eq id) ids ≡ false
not-before [] id others e = refl
not-before (x ∷ ids) id others e =
    let o = or_parts (list_any (bytes_eq x) (ids ++ id ∷ others)) (has_twice (ids ++ id ∷ others)) e in
    let k = list_any-append (bytes_eq x) ids (id ∷ others) o.0 in
    let here = or_parts (bytes_eq x id) (list_any (bytes_eq x) others) k.1 in
    or_from _ _ (bytes_eq-sym x id here.0) (not-before ids id others o.1)

any-ids : (id : List ℕ) (ns : List ContestNames)
    → list_any (λ c. bytes_eq id c.id) ns ≡ list_any (bytes_eq id) (contest_ids ns)
any-ids id [] = refl
any-ids id (n ∷ ns) = ap (λ (b : Bool). bytes_eq id n.id || b) (any-ids id ns)

-- a contest's names stand once among names that don't repeat
once : (ns ms : List ContestNames) (n : ContestNames) → AreNames (ns ++ n ∷ ms)
    → is_repeated ns n.id n.targets ≡ false
once ns ms n names =
    let ids : has_twice (contest_ids ns ++ n.id ∷ contest_ids ms) ≡ false = ap has_twice (sym (map-append (λ (c : ContestNames). c.id) ns (n ∷ ms))) ∙ names.ids in
    let place : length ns < length (ns ++ n ∷ ms) = omega (arith, length-append ns (n ∷ ms)) in
    let targets : has_twice n.targets ≡ false = subst (λ (c : ContestNames). has_twice c.targets ≡ false) (get_or-append_seam ns n ms n) (names.targets (length ns) n place) in
    or_from _ _ (any-ids n.id ns ∙ not-before (contest_ids ns) n.id (contest_ids ms) ids) targets

-- ---- all contests

record Taken (ns : List ContestNames) (cs : List Contest) (k : ℕ) (bytes rest : List ℕ) (v : List ContestNames × List Contest) : Type 0 where
  more : List ContestNames
  others : List Contest
  names : v.0 ≡ ns ++ more
  contests : v.1 ≡ cs ++ others
  unique : AreNames v.0
  many : length others ≡ k
  named : AreNamed more others
  spelled : bytes ≡ contests_text more others ++ rest

guard_else : {A : Type 0} (b : Bool) (x : Option A) (y : A) → cond b None x ≡ Some y
    → (b ≡ false) × (x ≡ Some y)
guard_else true x y e = absurd (none-some y e)
guard_else false x y e = (refl, e)

contests_take : (k : ℕ) (ns : List ContestNames) (cs : List Contest) (bytes : List ℕ)
    (v : List ContestNames × List Contest) (rest : List ℕ) → AreNames ns
    → contests_at k ns cs bytes ≡ Some (v, rest) → Taken ns cs k bytes rest v
contests_take zero ns cs bytes v rest u e =
    subst (λ (w : (List ContestNames × List Contest) × List ℕ). Taken ns cs 0 bytes w.1 w.0) (same_Some ((ns, cs), bytes) (v, rest) e)
    (record { more = []; others = []; names = sym (append-nil ns); contests = sym (append-nil cs); unique = u; many = refl; named = tt; spelled = refl })
contests_take (suc k) ns cs bytes v rest u e =
    let p = step (contest_at bytes) (λ p. cond (is_repeated ns p.0.0.id p.0.0.targets) None (contests_at k (ns ++ p.0.0 ∷ []) (cs ++ p.0.1 ∷ []) p.1)) (v, rest) e in
    let n = p.0.0.0 in
    let d = p.0.0.1 in
    let g = guard_else (is_repeated ns n.id n.targets) (contests_at k (ns ++ n ∷ []) (cs ++ d ∷ []) p.0.1) (v, rest) p.2 in
    let h = contest_exact.takes bytes p.0.0 p.0.1 p.1 in
    let r = contests_take k (ns ++ n ∷ []) (cs ++ d ∷ []) p.0.1 v rest (names_more ns n u g.0) g.1 in
    record {
      more = n ∷ r.more;
      others = d ∷ r.others;
      names = r.names ∙ append_assoc ns (n ∷ []) r.more;
      contests = r.contests ∙ append_assoc cs (d ∷ []) r.others;
      unique = r.unique;
      many = ap suc r.many;
      named = (h.0, r.named);
      spelled = h.1 ∙ ap (λ (x : List ℕ). contest_text n d ++ x) r.spelled ∙ sym (append_assoc (contest_text n d) (contests_text r.more r.others) rest);
    }

contests_again : (ms : List ContestNames) (ds : List Contest) (ns : List ContestNames)
    (cs : List Contest) (rest : List ℕ) → AreNames (ns ++ ms) → AreNamed ms ds
    → contests_at (length ds) ns cs (contests_text ms ds ++ rest)
    ≡ Some ((ns ++ ms, cs ++ ds), rest)
contests_again [] [] ns cs rest u f = ap (λ (x : List ContestNames). Some ((x, cs), rest)) (sym (append-nil ns)) ∙ ap (λ (x : List Contest). Some ((ns ++ [], x), rest)) (sym (append-nil cs))
contests_again [] (d ∷ ds) ns cs rest u f = absurd f
contests_again (m ∷ ms) [] ns cs rest u f = absurd f
contests_again (m ∷ ms) (d ∷ ds) ns cs rest u f =
    let u2 : AreNames ((ns ++ m ∷ []) ++ ms) = subst AreNames (sym (append_assoc ns (m ∷ []) ms)) u in
    let later = contests_again ms ds (ns ++ m ∷ []) (cs ++ d ∷ []) rest u2 f.1 in
    ap (contests_at (suc (length ds)) ns cs) (append_assoc (contest_text m d) (contests_text ms ds) rest)
    ∙ rw (contest_exact.again (m, d) (contests_text ms ds ++ rest) f.0, once ns ms m u) later
    ∙ ap (λ (x : List ContestNames). Some ((x, (cs ++ d ∷ []) ++ ds), rest)) (append_assoc ns (m ∷ []) ms)
    ∙ ap (λ (x : List Contest). Some ((ns ++ (m ∷ ms), x), rest)) (append_assoc cs (d ∷ []) ds)

-- ---- rules

flag_exact : Exact flag_at (λ _. Unit {0}) (λ d. cond d 1 0 ∷ [])
flag_exact =
    made_by (λ (n : ℕ). n == 1) (tested_at (λ n. nat_le n 1) u8_at) (λ n. Unit {0} × (nat_le n 1 ≡ true)) (λ n. n ∷ []) (λ _. Unit {0}) (λ d. cond d 1 0 ∷ []) (tested_exact (λ n. nat_le n 1) u8_at AnyOf (λ n. n ∷ []) u8_exact)
    (λ n f. (tt, flag-is n (leb-true _ _ f.1))) flag-back
  where
    flag-is : (n : ℕ) → n ≤ 1 → cond (n == 1) 1 0 ∷ [] ≡ n ∷ []
    flag-is zero h = refl
    flag-is (suc zero) h = refl
    flag-is (suc (suc n)) h = absurd (omega arith)

    flag-back : (d : Bool) → Unit {0}
        → (n : ℕ) × ((n == 1) ≡ d) × (Unit {0} × (nat_le n 1 ≡ true)) × (cond d 1 0 ∷ [] ≡ n ∷ [])
    flag-back true _ = (1, refl, (tt, refl), refl)
    flag-back false _ = (0, refl, (tt, refl), refl)

no-fault : (o : Option RuleFault) → is_none o ≡ true → o ≡ None
no-fault None e = refl
no-fault (Some f) e = absurd (cc)

abbrev RawRules : Type 0
RawRules = Bool × (ℕ × (ℕ × ℕ))

rules_exact : Exact rules_at (λ r. rule_fault r ≡ None) rules_text
unfolding rules_at
rules_exact = same_exact rules_at (λ r. Unit {0} × (is_none (rule_fault r) ≡ true)) (λ r. rule_fault r ≡ None) rules_text rules_text
    (λ r f. (no-fault (rule_fault r) f.1, refl)) (λ r g. ((tt, ap is_none g), refl))
    (tested_exact (λ r. is_none (rule_fault r)) (made_at (λ (p : RawRules). record { distinct = p.0; least = p.1.0; blank = p.1.1.0; over = p.1.1.1 }) (pair_at flag_at (λ _. pair_at u16_at (λ _. two_at)))) (λ _. Unit {0}) rules_text
    (made_by (λ (p : RawRules). record { distinct = p.0; least = p.1.0; blank = p.1.1.0; over = p.1.1.1 }) (pair_at flag_at (λ _. pair_at u16_at (λ _. two_at)))
    (λ (p : RawRules). Unit {0} × (Unit {0} × (Unit {0} × Unit {0}))) (λ (p : RawRules). (cond p.0 1 0 ∷ []) ++ (u16_text p.1.0 ++ (u16_text p.1.1.0 ++ u16_text p.1.1.1))) (λ _. Unit {0}) rules_text
    (pair_exact flag_at (λ _. pair_at u16_at (λ _. two_at)) (λ _. Unit {0}) (λ _ _. Unit {0} × (Unit {0} × Unit {0})) (λ d. cond d 1 0 ∷ []) (λ _ p. u16_text p.0 ++ (u16_text p.1.0 ++ u16_text p.1.1)) flag_exact
    (λ _. pair_exact u16_at (λ _. two_at) AnyOf (λ _ _. Unit {0} × Unit {0}) u16_text (λ _ p. u16_text p.0 ++ u16_text p.1) u16_exact (λ _. two_exact)))
    (λ p f. (tt, refl))
    (λ r g. ((r.distinct, (r.least, (r.blank, r.over))), refl, (tt, (tt, (tt, tt))), refl))))

-- ---- the head

no-shape-fault : (o : Option ShapeFault) → is_none o ≡ true → o ≡ None
no-shape-fault None e = refl
no-shape-fault (Some f) e = absurd (cc)

pub guard_then : {A : Type 0} (b : Bool) (x y : A) → cond b (Some x) None ≡ Some y
    → (b ≡ true) × (x ≡ y)
guard_then true x y e = (refl, same_Some x y e)
guard_then false x y e = absurd (none-some y e)

no-names : AreNames []
no-names = record { ids = refl; targets = λ k d h. absurd (omega arith) }

abbrev style_text : StyleNames × List Contest → List ℕ
style_text s = id_text s.0.style ++ (u16_text (length s.1) ++ contests_text s.0.contests s.1)

record IsStyle (s : StyleNames × List Contest) : Type 0 where
  style : IsText s.0.style
  named : AreNamed s.0.contests s.1
  unique : AreNames s.0.contests
  shape : shape_fault s.1 ≡ None

style_exact : Exact style_at IsStyle style_text
unfolding style_at
style_exact = record {
  takes = λ bytes v rest e.
      let a = step (id_at bytes) (λ id. u16_at id.1 >>= λ n. contests_at n.0 [] [] n.1 >>= λ cs. cond (is_none (shape_fault cs.0.1)) (Some ((record { style = id.0; contests = cs.0.0 }, cs.0.1), cs.1)) None) (v, rest) e in
      let b = step (u16_at a.0.1) (λ n. contests_at n.0 [] [] n.1 >>= λ cs. cond (is_none (shape_fault cs.0.1)) (Some ((record { style = a.0.0; contests = cs.0.0 }, cs.0.1), cs.1)) None) (v, rest) a.2 in
      let c = step (contests_at b.0.0 [] [] b.0.1) (λ cs. cond (is_none (shape_fault cs.0.1)) (Some ((record { style = a.0.0; contests = cs.0.0 }, cs.0.1), cs.1)) None) (v, rest) b.2 in
      let g = guard_then (is_none (shape_fault c.0.0.1)) ((record { style = a.0.0; contests = c.0.0.0 }, c.0.0.1), c.0.1) (v, rest) c.2 in
      let h = id_exact.takes bytes a.0.0 a.0.1 a.1 in
      let i = u16_exact.takes a.0.1 b.0.0 b.0.1 b.1 in
      let t = contests_take b.0.0 [] [] b.0.1 c.0.0 c.0.1 no-names c.1 in
      let made : AreNamed c.0.0.0 c.0.0.1 = rw (t.names, t.contests) t.named in
      let long : length c.0.0.1 ≡ b.0.0 = ap (λ (l : List Contest). length l) t.contests ∙ t.many in
      let tail : b.0.1 ≡ contests_text c.0.0.0 c.0.0.1 ++ c.0.1 = rw (t.names, t.contests) t.spelled in
      let all : bytes ≡ style_text (record { style = a.0.0; contests = c.0.0.0 }, c.0.0.1) ++ c.0.1 =
      h.1 ∙ ap (λ (x : List ℕ). id_text a.0.0 ++ x) (i.1 ∙ ap (λ (x : List ℕ). u16_text b.0.0 ++ x) tail ∙ ap (λ (n : ℕ). u16_text n ++ (contests_text c.0.0.0 c.0.0.1 ++ c.0.1)) (sym long) ∙ sym (append_assoc (u16_text (length c.0.0.1)) (contests_text c.0.0.0 c.0.0.1) c.0.1))
      ∙ sym (append_assoc (id_text a.0.0) (u16_text (length c.0.0.1) ++ contests_text c.0.0.0 c.0.0.1) c.0.1) in
      subst (λ (w : (StyleNames × List Contest) × List ℕ). IsStyle w.0 × (bytes ≡ style_text w.0 ++ w.1)) g.1
      (record { style = h.0; named = made; unique = t.unique; shape = no-shape-fault (shape_fault c.0.0.1) g.0 }, all);
  again = λ v rest f.
      let text : style_text v ++ rest ≡ id_text v.0.style ++ (u16_text (length v.1) ++ (contests_text v.0.contests v.1 ++ rest)) =
      append_assoc (id_text v.0.style) (u16_text (length v.1) ++ contests_text v.0.contests v.1) rest ∙ ap (λ (x : List ℕ). id_text v.0.style ++ x) (append_assoc (u16_text (length v.1)) (contests_text v.0.contests v.1) rest) in
      ap style_at text ∙ rw (id_exact.again v.0.style (u16_text (length v.1) ++ (contests_text v.0.contests v.1 ++ rest)) f.style)
      (ap (λ (o : Option (ℕ × List ℕ)). o >>= λ n. contests_at n.0 [] [] n.1 >>= λ cs. cond (is_none (shape_fault cs.0.1)) (Some ((record { style = v.0.style; contests = cs.0.0 }, cs.0.1), cs.1)) None) (u16_exact.again (length v.1) (contests_text v.0.contests v.1 ++ rest) tt)
      ∙ rw (contests_again v.0.contests v.1 [] [] rest f.unique f.named, f.shape) refl);
}

pub head_exact : Exact head_at IsHead head_text
unfolding head_at
head_exact = record {
  takes = λ bytes v rest e.
      let a = step (style_at bytes) (λ s. rules_at s.1 >>= λ r. Some (record { names = s.0.0; contests = s.0.1; rules = r.0 }, r.1)) (v, rest) e in
      let b = step (rules_at a.0.1) (λ r. Some (record { names = a.0.0.0; contests = a.0.0.1; rules = r.0 }, r.1)) (v, rest) a.2 in
      let h = style_exact.takes bytes a.0.0 a.0.1 a.1 in
      let k = rules_exact.takes a.0.1 b.0.0 b.0.1 b.1 in
      let made : Head = record { names = a.0.0.0; contests = a.0.0.1; rules = b.0.0 } in
      subst (λ (w : Head × List ℕ). IsHead w.0 × (bytes ≡ head_text w.0 ++ w.1)) (same_Some (made, b.0.1) (v, rest) b.2) (
        record { style = h.0.style; named = h.0.named; unique = h.0.unique; shape = is_shape _ h.0.shape; limits = is_rule_set _ k.0 },
        h.1 ∙ ap (λ (x : List ℕ). style_text a.0.0 ++ x) k.1 ∙ sym (append_assoc (style_text a.0.0) (rules_text b.0.0) b.0.1) ∙ ap (λ (x : List ℕ). x ++ b.0.1) (regrouped made),
      );
  again = λ v rest f.
      ap head_at (ap (λ (x : List ℕ). x ++ rest) (sym (regrouped v)) ∙ append_assoc (style_text (v.names, v.contests)) (rules_text v.rules) rest)
      ∙ rw (style_exact.again (v.names, v.contests) (rules_text v.rules ++ rest) (record { style = f.style; named = f.named; unique = f.unique; shape = no_shape_fault v.contests f.shape }), rules_exact.again v.rules rest (no_rule_fault v.rules f.limits)) refl;
}
  where
    regrouped : (v : Head) → style_text (v.names, v.contests) ++ rules_text v.rules ≡ head_text v
    regrouped v = append_assoc (id_text v.names.style) (u16_text (length v.contests) ++ contests_text v.names.contests v.contests) (rules_text v.rules)
        ∙ ap (λ (x : List ℕ). id_text v.names.style ++ x) (append_assoc (u16_text (length v.contests)) (contests_text v.names.contests v.contests) (rules_text v.rules))
