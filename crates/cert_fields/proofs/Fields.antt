-- Labels and reasons are read exactly.
use Rattle.std.proofs.Common.{◌≡◌, ℕ, ◌≤◌, Bool, true, false, cond, List, [], ◌∷◌, ◌++◌, length, Option, Some, None, refl, sym, ap, ◌∙◌, arith}
use Rattle.std.specs.Prelude.{is_none}
use Rattle.std.specs.List.{flat_map, AllByRecursion}
use Rattle.std.proofs.lemmas.Option.{none-some, same_Some}
use Rattle.std.proofs.lemmas.Bool.{and_parts, leb-true, le-leb, and_from}
use Rattle.close_rules.specs.declared.label.Label.{Label}
use Rattle.close_rules.specs.declared.label.Label.TheVariants.{Mark, Split}
use Rattle.close_rules.specs.declared.reason.Reason.{Reason}
use Rattle.close_rules.specs.declared.reason.Reason.TheVariants.{Order, Totals, Capacity, Blank, Over, Twin, ContestOrder, Pigeon, Columns, Same, Evade}
use Rattle.evade_space.specs.declared.skipped.Skipped.{Skipped}
use Rattle.lat_misassign.specs.declared.fault.MisFault.{MisFault}
use Rattle.lat_misassign.specs.SourceFault.{source_fault}
use Rattle.lat_misassign.specs.Sources.{AreSources}
use Rattle.lat_misassign.proofs.Valid.{valid_sources}
use Rattle.cert_fields.specs.Spelling.{u16_text}
use Rattle.cert_fields.specs.Reading.{◌>>=◌, u8_at, u16_at, two_at, tested_at, many_at}
use Rattle.cert_fields.specs.Exact.{Exact}
use Rattle.cert_fields.proofs.Exact.{step, AnyOf, u8_exact, u16_exact, two_exact, tested_exact, many_exact}
use Rattle.cert_fields.specs.Trees.{label_text, AnyLabel, skipped_text, AnySkipped, reason_text, IsReason}
use Rattle.cert_fields.specs.TreeReading.{label_by, label_at, skipped_at, is_count, sources_at, reason_by, reason_at}
use Rattle.cert_fields.proofs.Sources.{sound}
use Rattle.cert_fields.proofs.Tagged.{nothing_at, nothing, Always, nothing_exact, no_tag, one_tag, made_again}

abbrev pub Both : ℕ × ℕ → Type 0
Both p = Unit {0} × Unit {0}

abbrev two_text : ℕ × ℕ → List ℕ
two_text p = u16_text p.0 ++ u16_text p.1

-- a field behind a tag
pub tagged_exact : {V : Type 0} (by : ℕ → List ℕ → Option (V × List ℕ))
    (read : List ℕ → Option (V × List ℕ)) (F : V → Type 0) (t : V → List ℕ)
    → ((bytes : List ℕ) → read bytes ≡ (u8_at bytes >>= λ tag. by tag.0 tag.1))
    → ((tag : ℕ) (bytes : List ℕ) (v : V) (rest : List ℕ) → by tag bytes ≡ Some (v, rest)
    → F v × (tag ∷ bytes ≡ t v ++ rest))
    → ((v : V) (rest : List ℕ) → F v
    → (u8_at (t v ++ rest) >>= λ tag. by tag.0 tag.1) ≡ Some (v, rest)) → Exact read F t
tagged_exact by read F t is takes again = record {
  takes = λ bytes v rest e.
      let p = step (u8_at bytes) (λ tag. by tag.0 tag.1) (v, rest) (sym (is bytes) ∙ e) in
      let h = u8_exact.takes bytes p.0.0 p.0.1 p.1 in
      let k = takes p.0.0 p.0.1 v rest p.2 in
      (k.0, h.1 ∙ k.1);
  again = λ v rest f. is (t v ++ rest) ∙ again v rest f;
}

pub label_exact : Exact label_at AnyLabel label_text
unfolding label_at
label_exact = tagged_exact label_by label_at AnyLabel label_text (λ _. refl) takes again
  where
    takes : (tag : ℕ) (bytes : List ℕ) (v : Label) (rest : List ℕ)
        → label_by tag bytes ≡ Some (v, rest) → AnyLabel v × (tag ∷ bytes ≡ label_text v ++ rest)
    takes tag bytes v rest =
        one_tag AnyLabel label_text tag bytes v rest 1 (λ (p : ℕ × ℕ). Mark p.0 p.1) two_at Both two_text two_exact (λ _ _. (tt, refl)) _ (
        one_tag AnyLabel label_text tag bytes v rest 2 (λ (p : ℕ × ℕ). Split p.0 p.1) two_at Both two_text two_exact (λ _ _. (tt, refl)) _ (
        no_tag AnyLabel label_text tag bytes v rest))

    again : (v : Label) (rest : List ℕ) → AnyLabel v
        → (u8_at (label_text v ++ rest) >>= λ tag. label_by tag.0 tag.1) ≡ Some (v, rest)
    again (Mark j t) rest _ = made_again (λ (p : ℕ × ℕ). Mark p.0 p.1) two_at Both two_text two_exact (j, t) rest (tt, tt)
    again (Split t x) rest _ = made_again (λ (p : ℕ × ℕ). Split p.0 p.1) two_at Both two_text two_exact (t, x) rest (tt, tt)

guard_some : {A : Type 0} (b : Bool) (x : Option A) (y : A) → cond b x None ≡ Some y
    → (b ≡ true) × (x ≡ Some y)
guard_some true x y e = (refl, e)
guard_some false x y e = absurd (none-some y e)

none_is : (o : Option MisFault) → is_none o ≡ true → o ≡ None
none_is None e = refl
none_is (Some f) e = absurd (cc)

pub all_any : (s : List ℕ) → AllByRecursion (AnyOf {V = ℕ}) s
all_any [] = tt
all_any (n ∷ s) = (tt, all_any s)

abbrev unfaulty : List ℕ → Bool
unfaulty s = is_none (source_fault s)

abbrev AreSo : ℕ → List ℕ → Type 0
AreSo n s = ((length s ≡ n) × AllByRecursion (AnyOf {V = ℕ}) s) × (unfaulty s ≡ true)

numbers_exact : (n : ℕ) → Exact (tested_at unfaulty (many_at u16_at n)) (AreSo n)
    (flat_map u16_text)
numbers_exact n = tested_exact unfaulty (many_at u16_at n) (λ s. (length s ≡ n) × AllByRecursion (AnyOf {V = ℕ}) s) (flat_map u16_text) (many_exact u16_at AnyOf u16_text u16_exact n)

abbrev pub sources_text : List ℕ → List ℕ
sources_text s = u16_text (length s) ++ flat_map u16_text s

pub sources_exact : Exact sources_at AreSources sources_text
sources_exact = record {
  takes = λ bytes v rest e.
      let p = step (u16_at bytes) (λ n. cond (is_count n.0) (tested_at unfaulty (many_at u16_at n.0) n.1) None) (v, rest) e in
      let g = guard_some (is_count p.0.0) (tested_at unfaulty (many_at u16_at p.0.0) p.0.1) (v, rest) p.2 in
      let h = u16_exact.takes bytes p.0.0 p.0.1 p.1 in
      let k = (numbers_exact p.0.0).takes p.0.1 v rest g.1 in
      let c = and_parts _ _ g.0 in
      let some : 1 ≤ p.0.0 = leb-true _ _ c.0 in
      let few : p.0.0 ≤ 256 = leb-true _ _ c.1 in
      let n : length v ≡ p.0.0 = k.0.0.0 in (
        valid_sources v (none_is (source_fault v) k.0.1) (omega arith) (omega arith),
        h.1 ∙ ap (λ (r : List ℕ). u16_text p.0.0 ++ r) k.1 ∙ ap (λ (i : ℕ). u16_text i ++ (flat_map u16_text v ++ rest)) (sym n),
      );
  again = λ v rest fits.
      let c : is_count (length v) ≡ true = and_from _ _ (le-leb _ _ fits.some) (le-leb _ _ fits.few) in
      ap (λ (o : Option (ℕ × List ℕ)). o >>= λ n. cond (is_count n.0) (tested_at unfaulty (many_at u16_at n.0) n.1) None) (u16_exact.again (length v) (flat_map u16_text v ++ rest) tt)
      ∙ rw c ((numbers_exact (length v)).again v rest ((refl, all_any v), sound v fits.is));
}

pub reason_exact : Exact reason_at IsReason reason_text
unfolding reason_at
reason_exact = tagged_exact reason_by reason_at IsReason reason_text (λ _. refl) takes again
  where
    takes : (tag : ℕ) (bytes : List ℕ) (v : Reason) (rest : List ℕ)
        → reason_by tag bytes ≡ Some (v, rest) → IsReason v × (tag ∷ bytes ≡ reason_text v ++ rest)
    takes tag bytes v rest =
        one_tag IsReason reason_text tag bytes v rest 1 Order u16_at AnyOf u16_text u16_exact (λ _ _. (tt, refl)) _ (
        one_tag IsReason reason_text tag bytes v rest 2 Totals u16_at AnyOf u16_text u16_exact (λ _ _. (tt, refl)) _ (
        one_tag IsReason reason_text tag bytes v rest 3 Capacity u16_at AnyOf u16_text u16_exact (λ _ _. (tt, refl)) _ (
        one_tag IsReason reason_text tag bytes v rest 4 (λ _. Blank) nothing_at Always nothing nothing_exact (λ _ _. (tt, refl)) _ (
        one_tag IsReason reason_text tag bytes v rest 5 Over u16_at AnyOf u16_text u16_exact (λ _ _. (tt, refl)) _ (
        one_tag IsReason reason_text tag bytes v rest 6 (λ (p : ℕ × ℕ). Twin p.0 p.1) two_at Both two_text two_exact (λ _ _. (tt, refl)) _ (
        one_tag IsReason reason_text tag bytes v rest 7 (λ (p : ℕ × ℕ). ContestOrder p.0 p.1) two_at Both two_text two_exact (λ _ _. (tt, refl)) _ (
        one_tag IsReason reason_text tag bytes v rest 8 Pigeon u16_at AnyOf u16_text u16_exact (λ _ _. (tt, refl)) _ (
        one_tag IsReason reason_text tag bytes v rest 9 (λ _. Columns) nothing_at Always nothing nothing_exact (λ _ _. (tt, refl)) _ (
        one_tag IsReason reason_text tag bytes v rest 10 (λ (p : ℕ × ℕ). Same p.0 p.1) two_at Both two_text two_exact (λ _ _. (tt, refl)) _ (
        one_tag IsReason reason_text tag bytes v rest 11 Evade sources_at AreSources sources_text sources_exact (λ _ f. (f, refl)) _ (
        no_tag IsReason reason_text tag bytes v rest)))))))))))

    again : (v : Reason) (rest : List ℕ) → IsReason v
        → (u8_at (reason_text v ++ rest) >>= λ tag. reason_by tag.0 tag.1) ≡ Some (v, rest)
    again (Order j) rest _ = made_again Order u16_at AnyOf u16_text u16_exact j rest tt
    again (Totals c) rest _ = made_again Totals u16_at AnyOf u16_text u16_exact c rest tt
    again (Capacity c) rest _ = made_again Capacity u16_at AnyOf u16_text u16_exact c rest tt
    again Blank rest _ = refl
    again (Over c) rest _ = made_again Over u16_at AnyOf u16_text u16_exact c rest tt
    again (Twin c d) rest _ = made_again (λ (p : ℕ × ℕ). Twin p.0 p.1) two_at Both two_text two_exact (c, d) rest (tt, tt)
    again (ContestOrder c d) rest _ = made_again (λ (p : ℕ × ℕ). ContestOrder p.0 p.1) two_at Both two_text two_exact (c, d) rest (tt, tt)
    again (Pigeon c) rest _ = made_again Pigeon u16_at AnyOf u16_text u16_exact c rest tt
    again Columns rest _ = refl
    again (Same t u) rest _ = made_again (λ (p : ℕ × ℕ). Same p.0 p.1) two_at Both two_text two_exact (t, u) rest (tt, tt)
    again (Evade s) rest f = made_again Evade sources_at AreSources sources_text sources_exact s rest f

pub skipped_exact : Exact skipped_at AnySkipped skipped_text
skipped_exact = record {
  takes = λ bytes v rest e. (tt, ap (λ (x : Skipped × List ℕ). x.1) (same_Some (record {}, bytes) (v, rest) e));
  again = λ v rest _. refl;
}
