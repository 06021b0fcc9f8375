use Rattle.planner.proofs.Outcomes.{found_good, closed_eager, spent_open, halted_open}
use Rattle.planner.proofs.TreeBounds.{open_tree_few}
use Rattle.planner.proofs.searching.search_size.Goals as goal

pub returns-in-Found : goal.returns-in-Found
returns-in-Found c =
    found_good c.args.shape.now c.args.rules.now c.args.k c.args.budget c.in_ok-chooser.chooser.budget c.in_ok-chooser.chooser.kept c.in_ok-state.state c.in_ok-chooser.ensures.kept c.in_ok-chooser.ensures.budget c.in_ok-state.ensures.empty
    c.search.new.state c.in-Found.proved (c.in_ok-outcome.ensures.found c.in-Found.proved (cc))

pub returns-in-Closed : goal.returns-in-Closed
returns-in-Closed c =
    closed_eager c.args.shape.now c.args.rules.now c.args.k c.args.budget c.in_ok-chooser.chooser.budget c.in_ok-chooser.chooser.kept c.in_ok-state.state c.in_ok-chooser.ensures.kept c.in_ok-chooser.ensures.budget c.in_ok-state.ensures.empty
    c.search.new.chooser.kept.items c.in-Closed.tree c.lists_a_tree.ensures (c.in_ok-outcome.ensures.closed c.in-Closed.tree (cc)).0 (c.in_ok-outcome.ensures.follows_closed c.in-Closed.tree (cc))

pub returns-in-Spent : goal.returns-in-Spent
returns-in-Spent c =
    let spent = c.in_ok-outcome.ensures.spent c.in-Spent.tree (cc) in
    let licensed = spent_open c.args.shape.now c.args.rules.now c.args.k c.args.budget c.in_ok-chooser.chooser.budget c.in_ok-chooser.chooser.kept c.in_ok-state.state c.in_ok-chooser.ensures.kept c.in_ok-chooser.ensures.budget c.in_ok-state.ensures.empty
    c.search.new.chooser.kept.items c.in-Spent.tree spent.0 spent.1 (c.in_ok-outcome.ensures.follows_spent c.in-Spent.tree (cc)) in
    record { is_license = licensed.0; searched = licensed.1; reach = open_tree_few c.args.shape.now c.args.rules.now c.args.k c.args.budget c.in-Spent.tree c.targets-targets.ensures.shape c.requires.few licensed.0 }

pub returns : goal.returns
returns c =
    let halted = c.in_ok-outcome.ensures.halted c.in-Halted.field-0 c.in-Halted.attempt (cc) in
    halted_open c.args.shape.now c.args.rules.now c.args.k c.args.budget c.in_ok-chooser.chooser.budget c.in_ok-chooser.chooser.kept c.in_ok-state.state c.in_ok-chooser.ensures.kept c.in_ok-chooser.ensures.budget c.in_ok-state.ensures.empty
    c.in_ok-chooser.chooser.kept.items c.in-Halted.field-0 c.in-Halted.attempt halted.4
