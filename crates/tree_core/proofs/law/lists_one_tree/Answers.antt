use Rattle.tree_core.proofs.Trees.{IsTree-preorder, tree_of-preorder}
use Rattle.tree_core.proofs.law.lists_one_tree.Goals as goal

pub returns-clause-is_tree : goal.returns-clause-is_tree
returns-clause-is_tree g c = λ tree. IsTree-preorder tree

pub returns-clause-same : goal.returns-clause-same
returns-clause-same g c = λ tree. tree_of-preorder tree
