-- How far the plans of generated styles have come, one style more at a time.
use Rattle.std.proofs.Common.{◌≡◌, ◌<◌, ◌+◌, ◌-◌, ◌++◌, ℕ, List, [], ◌∷◌, map, ap, sym, ◌∙◌, subst, arith}
use Rattle.std.proofs.lemmas.List.{append-nil, append_assoc, map-append}
use Rattle.std.proofs.lemmas.List.Elements.{All-append, All-cons, All-nil}
use Rattle.deck_text.specs.CountyText.{StyleCounts, counts_of}
use Rattle.sample_styles.specs.Drawing.{Drawing, behind_style, style_after}
use Rattle.sample_styles.specs.SampleStyles.{sample_id, samples_after}
use Rattle.sample_styles.specs.declared.sample.Sample.{Sample}
use Rattle.sample_styles.proofs.Drawn.{sample_more}
use Rattle.lat_top.specs.declared.county.County.{County}
use Rattle.lat_top.specs.declared.status.Status.TheVariants as s
use Rattle.lat_base.specs.declared.contest.Contest.{Contest}
use Rattle.lat_top.specs.Counted.{AddsDrawn, HoldsDrawn, HoldsSamples}
use Rattle.lat_top.specs.County.{Found}
use Rattle.lat_top.specs.Said.{SaysOf}
use Rattle.lat_top.specs.SampleJob.{IsSampled, SamplePlan, found_in}
use Rattle.lat_top.specs.Words.{Sampled}
use Rattle.lat_top.proofs.Says.{says_more, says_none}

-- before the first style nothing is planned
pub drawn_none : (sample : Sampled) (drawing : Drawing) (county : County)
    → drawing ≡ record { x = sample.seed; made = 0 } → county.lines.items ≡ []
    → county.counts ≡ counts_of [] → county.status ≡ s.Done → HoldsDrawn sample 0 drawing county
drawn_none sample drawing county is lines counts status = record {
  plans = [];
  drawn = let e : sample.styles - 0 ≡ sample.styles = omega arith in
      ap (λ (n : ℕ). samples_after 0 n drawing.x) e
      ∙ ap (λ (d : Drawing). samples_after 0 sample.styles d.x) is;
  made = ap (λ (d : Drawing). d.made) is;
  counted = ap (λ (c : StyleCounts). c.styles) counts;
  answered = All-nil (IsSampled sample);
  says = says_none sample.max county lines counts status;
}

-- the styles that are left begin with the next
left_first : (i styles x : ℕ) → i < styles → samples_after i (styles - i) x
    ≡ record { id = sample_id (i + 1); shape = style_after x }
    ∷ samples_after (i + 1) (styles - (i + 1)) (behind_style x)
left_first i styles x lt =
    sample_more i (styles - i) (styles - (i + 1)) x (omega (arith, lt))

-- one style more is drawn and planned
pub drawn_more : (sample : Sampled) (i : ℕ) (old new : Drawing) (before after : County)
    → i < sample.styles → HoldsDrawn sample i old before → AddsDrawn sample old new before after
    → HoldsDrawn sample (i + 1) new after
drawn_more sample i old new before after lt holds adds =
    let plan = adds.next in
    let styles = map (λ (p : SamplePlan). p.style) holds.plans in
    let left = samples_after (i + 1) (sample.styles - (i + 1)) in
    let id = adds.id ∙ ap (λ (n : ℕ). sample_id (n + 1)) holds.made in
    let style : plan.style ≡ record { id = sample_id (i + 1); shape = style_after old.x } =
    ap (λ (x : List ℕ). record { id = x; shape = plan.style.shape }) id
    ∙ ap (λ (x : List Contest). record { id = sample_id (i + 1); shape = x }) adds.shape in
    record {
      plans = holds.plans ++ plan ∷ [];
      drawn = ap (λ (ss : List Sample). ss ++ left new.x)
          (map-append (λ (p : SamplePlan). p.style) holds.plans (plan ∷ []))
          ∙ append_assoc styles (plan.style ∷ []) (left new.x)
          ∙ ap (λ (s : Sample). styles ++ s ∷ left new.x) style
          ∙ ap (λ (n : ℕ). styles ++ record { id = sample_id (i + 1); shape = style_after old.x } ∷ left n) adds.x
          ∙ ap (λ (ss : List Sample). styles ++ ss) (sym (left_first i sample.styles old.x lt))
          ∙ holds.drawn;
      made = adds.made ∙ ap (λ (n : ℕ). n + 1) holds.made;
      counted = adds.says.styles ∙ ap (λ (n : ℕ). n + 1) holds.counted;
      answered = All-append (IsSampled sample) holds.plans (plan ∷ []) holds.answered
          (All-cons (IsSampled sample) plan [] adds.answered (All-nil (IsSampled sample)));
      says = subst (λ (founds : List Found). SaysOf sample.max founds after)
          (sym (map-append found_in holds.plans (plan ∷ [])))
          (says_more sample.max (map found_in holds.plans) (found_in plan) before after holds.says adds.says);
    }

-- all are planned
pub drawn_all : (sample : Sampled) (drawing : Drawing) (county : County)
    → HoldsDrawn sample sample.styles drawing county → HoldsSamples sample county
drawn_all sample drawing county holds =
    let styles = map (λ (p : SamplePlan). p.style) holds.plans in
    let none : sample.styles - sample.styles ≡ 0 = omega arith in
    record {
      plans = holds.plans;
      styles = sym (append-nil styles)
          ∙ ap (λ (n : ℕ). styles ++ samples_after sample.styles n drawing.x) (sym none)
          ∙ holds.drawn;
      answered = holds.answered;
      says = holds.says;
    }
