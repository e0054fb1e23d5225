use Rattle.std.proofs.Common.{drop}
use Rattle.box_layout.specs.declared.nodes.Node.{Node}
use Rattle.box_layout.specs.Children.{EachChild, HasFewChildren}
use Rattle.box_layout.proofs.nodes.+counting.Given as goal

-- where the children left have few children, all have
abbrev pub invariant-have_few_children-loop-child : goal.invariant-have_few_children-loop-child
invariant-have_few_children-loop-child l = EachChild Node HasFewChildren (drop l.child-index l.children) → EachChild Node HasFewChildren l.children
