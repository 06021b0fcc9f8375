-- The list of contests of a part is read exactly.
use Rattle.std.proofs.Common.{◌≡◌, ℕ, true, List, ◌++◌, length, Option, refl, sym, ap, ◌∙◌}
use Rattle.std.specs.List.{flat_map, AllByRecursion}
use Rattle.lat_base.specs.declared.contest.Contest.{Contest}
use Rattle.lat_base.specs.Part.{IsPart}
use Rattle.cert_fields.specs.Exact.{Exact}
use Rattle.cert_fields.specs.PartList.{part_text, is_part, part_at}
use Rattle.cert_fields.specs.Reading.{◌>>=◌, u16_at, tested_at, many_at}
use Rattle.cert_fields.specs.Spelling.{u16_text}
use Rattle.cert_fields.proofs.Exact.{step, AnyOf, u16_exact, tested_exact, many_exact, same_exact}
use Rattle.cert_fields.proofs.Fields.{all_any}
use Rattle.cert_fields.proofs.Limits.{is_part_sound, is_part_complete}

part_test_exact : (count : ℕ) → Exact (part_at count) (λ cs. is_part count cs ≡ true) part_text
unfolding part_at
part_test_exact count = record {
  takes = λ bytes v rest e.
      let p = step (u16_at bytes) (λ n. tested_at (is_part count) (many_at u16_at n.0) n.1) (v, rest) e in
      let h = u16_exact.takes bytes p.0.0 p.0.1 p.1 in
      let k = (numbers p.0.0).takes p.0.1 v rest p.2 in
      let n : length v ≡ p.0.0 = k.0.0.0 in
      (k.0.1, h.1 ∙ ap (λ (r : List ℕ). u16_text p.0.0 ++ r) k.1 ∙ ap (λ (i : ℕ). u16_text i ++ (flat_map u16_text v ++ rest)) (sym n));
  again = λ v rest fits.
      ap (λ (o : Option (ℕ × List ℕ)). o >>= λ n. tested_at (is_part count) (many_at u16_at n.0) n.1) (u16_exact.again (length v) (flat_map u16_text v ++ rest) tt)
      ∙ (numbers (length v)).again v rest ((refl, all_any v), fits);
}
  where
    numbers : (n : ℕ) → Exact (tested_at (is_part count) (many_at u16_at n)) (λ cs. ((length cs ≡ n) × AllByRecursion (AnyOf {V = ℕ}) cs) × (is_part count cs ≡ true)) (flat_map u16_text)
    numbers n = tested_exact (is_part count) (many_at u16_at n) (λ cs. (length cs ≡ n) × AllByRecursion (AnyOf {V = ℕ}) cs) (flat_map u16_text) (many_exact u16_at AnyOf u16_text u16_exact n)

pub part_exact : (contests : List Contest)
    → Exact (part_at (length contests)) (IsPart contests) part_text
part_exact contests = same_exact (part_at (length contests)) (λ cs. is_part (length contests) cs ≡ true) (IsPart contests) part_text part_text
    (λ cs h. (is_part_sound contests cs h, refl)) (λ cs h. (is_part_complete contests cs h, refl)) (part_test_exact (length contests))
