use Rattle.std.proofs.Common.{subst}
use Rattle.lat_base.specs.Rules.{RuleSet}
use Rattle.lat_top.specs.PlanJob.{IsAnswered}
use Rattle.lat_top.proofs.sampling.plan_sample.Goals as goal

pub returns : goal.returns
returns c =
    let asked = c.args.asked.now in
    let style = c.in_ok-style.style in
    let answer = c.in_ok-answer.answer in
    record {
      next = record { style = style; answer = answer };
      id = c.in_ok-style.ensures.id;
      shape = c.in_ok-style.ensures.shape;
      x = c.in_ok-style.ensures.x;
      made = c.in_ok-style.ensures.made;
      answered = subst
          (λ (rules : RuleSet). IsAnswered asked.max asked.budget style.shape rules answer)
          c.sample_rules.ensures
          (record {
            is_answer = c.in_ok-answer.ensures.answer;
            searched = c.in_ok-answer.ensures.searched;
            decided = c.in_ok-answer.ensures.ample;
          });
      says = c.in_ok-add_answer.ensures.says;
    }
