use Rattle.close_rules.proofs.Found.{none_holds}
use Rattle.close_rules.proofs.finding.find_reason.Goals as goal

pub returns-clause-none : goal.returns-clause-none
returns-clause-none c = λ none.
    none_holds c.args.state.now (record {
      columns = c.tested.ensures.none c.in_default.is;
      blank = c.tested-2.ensures.none c.in_default-tested.is;
      pigeon = c.find_pigeon.ensures.none c.in_default-find_pigeon.is;
      order = c.find_order.ensures.none c.in_default-find_order.is;
      contest = c.find_contest.ensures.none c.in_default-find_contest.is;
      same = c.find_same.ensures.none c.in_default-find_same.is;
      pair = c.find_pair.ensures.none none;
    })
