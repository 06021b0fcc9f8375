-- What stands behind a head is read exactly.
use Rattle.std.proofs.Common.{◌≡◌, ℕ, ◌≤◌, Bool, true, List, [], ◌∷◌, ◌++◌, length, Option, Some, None, refl, sym, ap, subst, arith}
use Rattle.std.specs.List.{AllByRecursion}
use Rattle.std.proofs.lemmas.Bool.{and_parts, and_from, leb-true, le-leb}
use Rattle.std.proofs.lemmas.Option.{same_Some}
use Rattle.lat_base.specs.declared.contest.Contest.{Contest}
use Rattle.lat_base.specs.Part.{IsPart}
use Rattle.lat_base.specs.Shape.{target_count}
use Rattle.lat_ballots.specs.Deck.{Ballots}
use Rattle.tree_core.specs.declared.node.Node.{Node}
use Rattle.close_rules.specs.declared.label.Label.{Label}
use Rattle.close_rules.specs.declared.reason.Reason.{Reason}
use Rattle.evade_space.specs.declared.skipped.Skipped.{Skipped}
use Rattle.cert_fields.specs.Exact.{Exact}
use Rattle.cert_fields.specs.PartList.{part_text, part_at}
use Rattle.cert_fields.specs.Reading.{◌>>=◌, u8_at, u16_at, pair_at, made_at}
use Rattle.cert_fields.specs.Rows.{row_at, row_text, rows_text, rows_at, IsDeckOf}
use Rattle.cert_fields.specs.Spelling.{u16_text}
use Rattle.cert_fields.specs.Trees.{tree_text, IsTreeOf, AnyImage, AnySkipped, AnyLabel, IsReason, skipped_text, label_text, reason_text}
use Rattle.cert_fields.specs.TreeReading.{tree_at, skipped_at, label_at, reason_at}
use Rattle.cert_fields.proofs.Exact.{AnyOf, u16_exact, tested_exact, pair_exact, many_exact}
use Rattle.cert_fields.proofs.Fields.{tagged_exact, label_exact, reason_exact, skipped_exact}
use Rattle.cert_fields.proofs.Heads.{made_by}
use Rattle.cert_fields.proofs.Marks.{row_exact}
use Rattle.cert_fields.proofs.PartLists.{part_exact}
use Rattle.cert_fields.proofs.Tagged.{nothing_at, nothing, Always, nothing_exact, no_tag, one_tag, made_again}
use Rattle.cert_fields.proofs.TreeBytes.{tree_exact}
use Rattle.cert_types.specs.declared.license.License.{License}
use Rattle.cert_types.specs.declared.license.License.TheVariants.{Tree, Deck}
use Rattle.cert_types.specs.declared.proved.Proved.{Proved}
use Rattle.cert_types.specs.declared.verdict.Verdict.{Verdict}
use Rattle.cert_types.specs.declared.verdict.Verdict.TheVariants.{Least, NoneWithin, Bounds}
use Rattle.cert_types.specs.Fitting.{IsVerdict, lower_size, size_below}
use Rattle.cert_types.specs.LowerPart.{LowerPart}
use Rattle.cert_format.specs.Fields.{verdict_text, attacked_text, proved_text, sized_text, best_text, deck_part_text, lower_text, lower_part_text, license_text, IsLowerField}
use Rattle.cert_format.specs.Reading.{in_limits, limited_at, verdict_by, verdict_at, attacked_at, proved_at, sized_at, best_by, best_at, deck_part_at, lower_at, lower_part_at, license_by, license_at, CertBody, cert_body_at, OpenBody, sizes_at, open_body_at}

-- ---- numbers and verdicts

abbrev pub Limited : ℕ → ℕ → ℕ → Type 0
Limited least most n = Unit {0} × (in_limits least most n ≡ true)

limited_exact : (least most : ℕ) → Exact (limited_at least most) (Limited least most) u16_text
limited_exact least most = tested_exact (in_limits least most) u16_at AnyOf u16_text u16_exact

pub limits : (least most n : ℕ) → in_limits least most n ≡ true → (least ≤ n) × (n ≤ most)
limits least most n e = let p = and_parts _ _ e in (leb-true _ _ p.0, leb-true _ _ p.1)

pub within : (least most n : ℕ) → least ≤ n → n ≤ most → in_limits least most n ≡ true
within least most n a b = and_from _ _ (le-leb _ _ a) (le-leb _ _ b)

verdict_exact : Exact verdict_at IsVerdict verdict_text
unfolding verdict_at
verdict_exact = tagged_exact verdict_by verdict_at IsVerdict verdict_text (λ _. refl) takes again
  where
    takes : (tag : ℕ) (bytes : List ℕ) (v : Verdict) (rest : List ℕ)
        → verdict_by tag bytes ≡ Some (v, rest)
        → IsVerdict v × (tag ∷ bytes ≡ verdict_text v ++ rest)
    takes tag bytes v rest =
        one_tag IsVerdict verdict_text tag bytes v rest 1 Least (limited_at 0 1024) (Limited 0 1024) u16_text (limited_exact 0 1024) (λ n f. ((limits 0 1024 n f.1).1, refl)) _ (
        one_tag IsVerdict verdict_text tag bytes v rest 2 NoneWithin (limited_at 1 1024) (Limited 1 1024) u16_text (limited_exact 1 1024) (λ n f. let l = limits 1 1024 n f.1 in ((l.0, l.1), refl)) _ (
        one_tag IsVerdict verdict_text tag bytes v rest 3 Bounds (limited_at 0 1024) (Limited 0 1024) u16_text (limited_exact 0 1024) (λ n f. ((limits 0 1024 n f.1).1, refl)) _ (
        no_tag IsVerdict verdict_text tag bytes v rest)))

    again : (v : Verdict) (rest : List ℕ) → IsVerdict v
        → (u8_at (verdict_text v ++ rest) >>= λ tag. verdict_by tag.0 tag.1) ≡ Some (v, rest)
    again (Least n) rest f = made_again Least (limited_at 0 1024) (Limited 0 1024) u16_text (limited_exact 0 1024) n rest (tt, within 0 1024 n (omega arith) f)
    again (NoneWithin n) rest f = made_again NoneWithin (limited_at 1 1024) (Limited 1 1024) u16_text (limited_exact 1 1024) n rest (tt, within 1 1024 n f.0 f.1)
    again (Bounds n) rest f = made_again Bounds (limited_at 0 1024) (Limited 0 1024) u16_text (limited_exact 0 1024) n rest (tt, within 0 1024 n (omega arith) f)

-- ---- decks with their evade trees

abbrev evade_text : List (Node ℕ Skipped) → List ℕ
evade_text = tree_text u16_text skipped_text

evade_exact : Exact (tree_at u16_at skipped_at) (IsTreeOf AnyImage AnySkipped) evade_text
evade_exact = tree_exact u16_at AnyImage u16_text skipped_at AnySkipped skipped_text u16_exact skipped_exact

deck_tree_exact : Exact (tree_at label_at reason_at) (IsTreeOf AnyLabel IsReason)
    (tree_text label_text reason_text)
deck_tree_exact = tree_exact label_at AnyLabel label_text reason_at IsReason reason_text label_exact reason_exact

abbrev Rows : ℕ → ℕ → List (List Bool) → Type 0
Rows targets k vs = (length vs ≡ k) × AllByRecursion (λ v. length v ≡ targets) vs

abbrev pub AttackedFits : ℕ → ℕ → Ballots × List (Node ℕ Skipped) → Type 0
AttackedFits targets k v = IsDeckOf targets k v.0 × IsTreeOf AnyImage AnySkipped v.1

attacked_exact : (targets k : ℕ)
    → Exact (attacked_at targets k) (AttackedFits targets k) (λ v. attacked_text v.0 v.1)
attacked_exact targets k =
    made_by (λ (p : List (List Bool) × List (Node ℕ Skipped)). (record { targets = targets; ballots = p.0 }, p.1)) (pair_at (rows_at targets k) (λ _. tree_at u16_at skipped_at))
    (λ p. Rows targets k p.0 × IsTreeOf AnyImage AnySkipped p.1) (λ p. rows_text p.0 ++ evade_text p.1) (AttackedFits targets k) (λ v. attacked_text v.0 v.1)
    (pair_exact (rows_at targets k) (λ _. tree_at u16_at skipped_at) (Rows targets k) (λ _. IsTreeOf AnyImage AnySkipped) rows_text (λ _. evade_text) (many_exact (row_at targets) (λ v. length v ≡ targets) row_text (row_exact targets) k) (λ _. evade_exact))
    (λ p f. ((record { width = refl; ballots = record { count = f.0.0; each = f.0.1 } }, f.1), refl))
    (λ v g. ((v.0.ballots, v.1), ap (λ (n : ℕ). (record { targets = n; ballots = v.0.ballots }, v.1)) (sym g.0.width), ((g.0.ballots.count, g.0.ballots.each), g.1), refl))

abbrev pub ProvedFits : ℕ → ℕ → Proved → Type 0
ProvedFits targets k p = AttackedFits targets k (p.deck, p.robust)

proved_exact : (targets k : ℕ) → Exact (proved_at targets k) (ProvedFits targets k) proved_text
unfolding proved_at
proved_exact targets k =
    made_by (λ (p : Ballots × List (Node ℕ Skipped)). record { deck = p.0; robust = p.1 }) (attacked_at targets k) (AttackedFits targets k) (λ v. attacked_text v.0 v.1) (ProvedFits targets k) proved_text
    (attacked_exact targets k) (λ p f. (f, refl)) (λ v g. ((v.deck, v.robust), refl, g, refl))

abbrev pub SizedFits : ℕ → Proved → Type 0
SizedFits targets p = (length p.deck.ballots ≤ 1024) × ProvedFits targets (length p.deck.ballots) p

pub sized_exact : (targets : ℕ) → Exact (sized_at targets) (SizedFits targets) sized_text
unfolding sized_at
sized_exact targets =
    made_by (λ (p : ℕ × Proved). p.1) (pair_at (limited_at 0 1024) (λ n. proved_at targets n)) (λ p. Limited 0 1024 p.0 × ProvedFits targets p.0 p.1) (λ p. u16_text p.0 ++ proved_text p.1)
    (SizedFits targets) sized_text
    (pair_exact (limited_at 0 1024) (λ n. proved_at targets n) (Limited 0 1024) (λ n. ProvedFits targets n) u16_text (λ _. proved_text) (limited_exact 0 1024) (λ n. proved_exact targets n))
    (λ p f. let n : p.0 ≡ length p.1.deck.ballots = sym f.1.0.ballots.count in
    ((subst (λ (i : ℕ). i ≤ 1024) n (limits 0 1024 p.0 f.0.1).1, subst (λ (i : ℕ). ProvedFits targets i p.1) n f.1), ap (λ (i : ℕ). u16_text i ++ proved_text p.1) (sym n)))
    (λ v g. ((length v.deck.ballots, v), refl, ((tt, within 0 1024 (length v.deck.ballots) (omega arith) g.0), g.1), refl))

abbrev pub BestDeckFits : ℕ → Option Proved → Type 0
BestDeckFits targets None = Unit {0}
BestDeckFits targets (Some p) = SizedFits targets p

best_exact : (targets : ℕ) → Exact (best_at targets) (BestDeckFits targets) best_text
unfolding best_at
best_exact targets = tagged_exact (best_by targets) (best_at targets) (BestDeckFits targets) best_text (λ _. refl) takes again
  where
    takes : (tag : ℕ) (bytes : List ℕ) (v : Option Proved) (rest : List ℕ)
        → best_by targets tag bytes ≡ Some (v, rest)
        → BestDeckFits targets v × (tag ∷ bytes ≡ best_text v ++ rest)
    takes tag bytes v rest =
        one_tag (BestDeckFits targets) best_text tag bytes v rest 0 (λ _. None) nothing_at Always nothing nothing_exact (λ _ _. (tt, refl)) _ (
        one_tag (BestDeckFits targets) best_text tag bytes v rest 1 Some (sized_at targets) (SizedFits targets) sized_text (sized_exact targets) (λ p g. (g, refl)) _ (
        no_tag (BestDeckFits targets) best_text tag bytes v rest))

    again : (v : Option Proved) (rest : List ℕ) → BestDeckFits targets v
        → (u8_at (best_text v ++ rest) >>= λ tag. best_by targets tag.0 tag.1) ≡ Some (v, rest)
    again None rest g = refl
    again (Some p) rest g = made_again Some (sized_at targets) (SizedFits targets) sized_text (sized_exact targets) p rest g

none_exact : {V : Type 0} (G : Option V → Type 0) (u : Option V → List ℕ) → G None
    → ((v : V) → G (Some v) → ⊥) → u None ≡ [] → Exact (λ bytes. Some (None, bytes)) G u
none_exact {V} G u g never e = record {
  takes = λ bytes v rest h. subst (λ (w : Option V × List ℕ). G w.0 × (bytes ≡ u w.0 ++ w.1)) (same_Some (None, bytes) (v, rest) h) (g, ap (λ (r : List ℕ). r ++ bytes) (sym e));
  again = back;
}
  where
    back : (v : Option V) (rest : List ℕ) → G v → ◌≡◌ {A = Option (Option V × List ℕ)} (Some (None, u v ++ rest)) (Some (v, rest))
    back None rest h = ap (λ (r : List ℕ). Some (None, r ++ rest)) e
    back (Some v) rest h = absurd (never v h)

some_exact : {V : Type 0} (field : List ℕ → Option (V × List ℕ)) (F : V → Type 0) (t : V → List ℕ)
    (G : Option V → Type 0) (u : Option V → List ℕ)
    → Exact field F t → ((v : V) → F v → G (Some v) × (u (Some v) ≡ t v))
    → ((v : V) → G (Some v) → F v × (u (Some v) ≡ t v)) → (G None → ⊥)
    → Exact (made_at Some field) G u
some_exact {V} field F t G u x there back never = made_by Some field F t G u x there from
  where
    from : (v : Option V) → G v → (a : V) × (Some a ≡ v) × F a × (u v ≡ t a)
    from None g = absurd (never g)
    from (Some v) g = let b = back v g in (v, refl, b.0, b.1)

abbrev pub DeckPartFits : ℕ → Verdict → Option Proved → Type 0
DeckPartFits targets (Least k) (Some p) = ProvedFits targets k p
DeckPartFits targets (NoneWithin m) None = Unit {0}
DeckPartFits targets (Bounds f) best = BestDeckFits targets best
DeckPartFits targets verdict proved = ⊥

deck_part_exact : (targets : ℕ) (v : Verdict)
    → Exact (deck_part_at targets v) (DeckPartFits targets v) (deck_part_text v)
unfolding deck_part_at
deck_part_exact targets (Least k) = some_exact (proved_at targets k) (ProvedFits targets k) proved_text (DeckPartFits targets (Least k)) (deck_part_text (Least k)) (proved_exact targets k) (λ v f. (f, refl)) (λ v g. (g, refl)) (λ g. g)
deck_part_exact targets (NoneWithin m) = none_exact (DeckPartFits targets (NoneWithin m)) (deck_part_text (NoneWithin m)) tt (λ v g. g) refl
deck_part_exact targets (Bounds f) = best_exact targets

-- ---- lower parts

abbrev pub LowerOneFits : List Contest → ℕ → LowerPart → Type 0
LowerOneFits contests size l = (IsPart contests l.contests × (l.size ≡ size)) × IsLowerField l

lower_exact : (contests : List Contest) (size : ℕ)
    → Exact (lower_at contests size) (LowerOneFits contests size) lower_text
unfolding lower_at
lower_exact contests size =
    made_by (λ (p : List ℕ × List (Node Label Reason)). record { contests = p.0; size = size; tree = p.1 }) (pair_at (part_at (length contests)) (λ _. tree_at label_at reason_at))
    (λ p. IsPart contests p.0 × IsTreeOf AnyLabel IsReason p.1) (λ p. part_text p.0 ++ tree_text label_text reason_text p.1) (LowerOneFits contests size) lower_text
    (pair_exact (part_at (length contests)) (λ _. tree_at label_at reason_at) (IsPart contests) (λ _. IsTreeOf AnyLabel IsReason) part_text (λ _. tree_text label_text reason_text) (part_exact contests) (λ _. deck_tree_exact))
    (λ p f. (((f.0, refl), f.1), refl))
    (λ v g. ((v.contests, v.tree), ap (λ (n : ℕ). record { contests = v.contests; size = n; tree = v.tree }) (sym g.0.1), (g.0.0, g.1), refl))

abbrev pub LowerPartFits : List Contest → Option ℕ → Option LowerPart → Type 0
LowerPartFits contests None None = Unit {0}
LowerPartFits contests (Some size) (Some l) = LowerOneFits contests size l
LowerPartFits contests size lower = ⊥

lower_part_exact : (contests : List Contest) (size : Option ℕ)
    → Exact (lower_part_at contests size) (LowerPartFits contests size) lower_part_text
unfolding lower_part_at
lower_part_exact contests None = none_exact (LowerPartFits contests None) lower_part_text tt (λ v g. g) refl
lower_part_exact contests (Some size) = some_exact (lower_at contests size) (LowerOneFits contests size) lower_text (LowerPartFits contests (Some size)) lower_part_text (lower_exact contests size) (λ v f. (f, refl)) (λ v g. (g, refl)) (λ g. g)

-- ---- licenses

abbrev pub LicenseOneFits : ℕ → ℕ → License → Type 0
LicenseOneFits targets from (Tree tree) = IsTreeOf AnyLabel IsReason tree
LicenseOneFits targets from (Deck deck tree) = AttackedFits targets from (deck, tree)

license_exact : (targets from : ℕ)
    → Exact (license_at targets from) (LicenseOneFits targets from) license_text
unfolding license_at
license_exact targets from = tagged_exact (license_by targets from) (license_at targets from) (LicenseOneFits targets from) license_text (λ _. refl) takes again
  where
    takes : (tag : ℕ) (bytes : List ℕ) (v : License) (rest : List ℕ)
        → license_by targets from tag bytes ≡ Some (v, rest)
        → LicenseOneFits targets from v × (tag ∷ bytes ≡ license_text v ++ rest)
    takes tag bytes v rest =
        one_tag (LicenseOneFits targets from) license_text tag bytes v rest 1 Tree (tree_at label_at reason_at) (IsTreeOf AnyLabel IsReason) (tree_text label_text reason_text) deck_tree_exact (λ _ f. (f, refl)) _ (
        one_tag (LicenseOneFits targets from) license_text tag bytes v rest 2 (λ (p : Ballots × List (Node ℕ Skipped)). Deck p.0 p.1) (attacked_at targets from) (AttackedFits targets from) (λ v. attacked_text v.0 v.1) (attacked_exact targets from) (λ _ f. (f, refl)) _ (
        no_tag (LicenseOneFits targets from) license_text tag bytes v rest))

    again : (v : License) (rest : List ℕ) → LicenseOneFits targets from v
        → (u8_at (license_text v ++ rest) >>= λ tag. license_by targets from tag.0 tag.1)
        ≡ Some (v, rest)
    again (Tree t) rest f = made_again Tree (tree_at label_at reason_at) (IsTreeOf AnyLabel IsReason) (tree_text label_text reason_text) deck_tree_exact t rest f
    again (Deck d t) rest f = made_again (λ (p : Ballots × List (Node ℕ Skipped)). Deck p.0 p.1) (attacked_at targets from) (AttackedFits targets from) (λ v. attacked_text v.0 v.1) (attacked_exact targets from) (d, t) rest f

-- ---- bodies

abbrev pub cert_body_text : CertBody → List ℕ
cert_body_text b = (verdict_text b.0.0 ++ deck_part_text b.0.0 b.0.1) ++ lower_part_text b.1

abbrev pub CertBodyFits : List Contest → CertBody → Type 0
CertBodyFits contests b = (IsVerdict b.0.0 × DeckPartFits (target_count contests) b.0.0 b.0.1) × LowerPartFits contests (lower_size b.0.0) b.1

pub cert_body_exact : (contests : List Contest)
    → Exact (cert_body_at contests) (CertBodyFits contests) cert_body_text
unfolding cert_body_at
cert_body_exact contests =
    pair_exact (pair_at verdict_at (deck_part_at (target_count contests))) (λ v. lower_part_at contests (lower_size v.0)) (λ v. IsVerdict v.0 × DeckPartFits (target_count contests) v.0 v.1) (λ v. LowerPartFits contests (lower_size v.0))
    (λ v. verdict_text v.0 ++ deck_part_text v.0 v.1) (λ _. lower_part_text)
    (pair_exact verdict_at (deck_part_at (target_count contests)) IsVerdict (DeckPartFits (target_count contests)) verdict_text deck_part_text verdict_exact (deck_part_exact (target_count contests)))
    (λ v. lower_part_exact contests (lower_size v.0))

abbrev SizesFit : ℕ × ℕ → Type 0
SizesFit p = Limited 1 1024 p.0 × Limited 0 p.0 p.1

abbrev sizes_text : ℕ × ℕ → List ℕ
sizes_text p = u16_text p.0 ++ u16_text p.1

sizes_exact : Exact sizes_at SizesFit sizes_text
sizes_exact = pair_exact (limited_at 1 1024) (λ max. limited_at 0 max) (Limited 1 1024) (λ max. Limited 0 max) u16_text (λ _. u16_text) (limited_exact 1 1024) (λ max. limited_exact 0 max)

abbrev pub open_body_text : OpenBody → List ℕ
open_body_text b = (((u16_text b.0.0.0.0 ++ u16_text b.0.0.0.1) ++ best_text b.0.0.1) ++ lower_part_text b.0.1) ++ license_text b.1

abbrev pub OpenBodyFits : List Contest → OpenBody → Type 0
OpenBodyFits contests b =
    ((SizesFit b.0.0.0 × BestDeckFits (target_count contests) b.0.0.1) × LowerPartFits contests (size_below b.0.0.0.1) b.0.1) × LicenseOneFits (target_count contests) b.0.0.0.1 b.1

pub open_body_exact : (contests : List Contest)
    → Exact (open_body_at contests) (OpenBodyFits contests) open_body_text
unfolding open_body_at
open_body_exact contests =
    let T = target_count contests in
    pair_exact (pair_at (pair_at sizes_at (λ _. best_at T)) (λ v. lower_part_at contests (size_below v.0.1))) (λ v. license_at T v.0.0.1)
    (λ v. (SizesFit v.0.0 × BestDeckFits T v.0.1) × LowerPartFits contests (size_below v.0.0.1) v.1) (λ v. LicenseOneFits T v.0.0.1)
    (λ v. (sizes_text v.0.0 ++ best_text v.0.1) ++ lower_part_text v.1) (λ _. license_text)
    (pair_exact (pair_at sizes_at (λ _. best_at T)) (λ v. lower_part_at contests (size_below v.0.1)) (λ v. SizesFit v.0 × BestDeckFits T v.1) (λ v. LowerPartFits contests (size_below v.0.1))
    (λ v. sizes_text v.0 ++ best_text v.1) (λ _. lower_part_text)
    (pair_exact sizes_at (λ _. best_at T) SizesFit (λ _. BestDeckFits T) sizes_text (λ _. best_text) sizes_exact (λ _. best_exact T))
    (λ v. lower_part_exact contests (size_below v.0.1)))
    (λ v. license_exact T v.0.0.1)
