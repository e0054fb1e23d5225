use Rattle.std.proofs.Common.{true, refl, ap, sym, ◌∙◌}
use Rattle.box_layout.specs.declared.nodes.Node.TheVariants.{HSplit, VSplit, When, FloatBox}
use Rattle.box_layout.specs.Children.{HasFewChildren}
use Rattle.box_layout.proofs.Few.{same_test, few_at_HSplit, few_at_VSplit, few_at_Window, few_at_When, few_at_FloatBox}
use Rattle.box_layout.proofs.nodes.+counting.Goals as goal

pub Node::has_few_children-returns-in-HSplit : goal.Node::has_few_children-returns-in-HSplit
Node::has_few_children-returns-in-HSplit t c =
    same_test _ _ _ (ap HasFewChildren (c.in-HSplit.is ∙ ap HSplit (sym c.as_slice.ensures)) ∙ few_at_HSplit _) c.have_few_children.ensures

pub Node::has_few_children-returns-in-VSplit : goal.Node::has_few_children-returns-in-VSplit
Node::has_few_children-returns-in-VSplit t c =
    same_test _ _ _ (ap HasFewChildren (c.in-VSplit.is ∙ ap VSplit (sym c.as_slice-in-VSplit.ensures)) ∙ few_at_VSplit _) c.have_few_children-in-VSplit.ensures

pub Node::has_few_children-returns-in-Window : goal.Node::has_few_children-returns-in-Window
Node::has_few_children-returns-in-Window t c =
    same_test true _ _ (ap HasFewChildren c.in-Window.is ∙ few_at_Window _) (λ _. tt, λ _. refl)

pub Node::has_few_children-returns-in-When : goal.Node::has_few_children-returns-in-When
Node::has_few_children-returns-in-When t c =
    same_test _ _ _ (ap HasFewChildren (c.in-When.is ∙ ap (When c.in-When.field-0) (sym c.get.ensures)) ∙ few_at_When _ _) c.has_few_children.ensures

pub Node::has_few_children-returns-in-FloatBox : goal.Node::has_few_children-returns-in-FloatBox
Node::has_few_children-returns-in-FloatBox t c =
    same_test _ _ _ (ap HasFewChildren (c.in-FloatBox.is ∙ ap (λ n. FloatBox n c.in-FloatBox.field-1) (sym c.get-in-FloatBox.ensures)) ∙ few_at_FloatBox _ _) c.has_few_children-in-FloatBox.ensures
