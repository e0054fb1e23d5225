use Rattle.prompt_view.proofs.ClosedForm.{few_in_layout, height_is, places_are, scroll_is}
use Rattle.prompt_view.proofs.laws.the_closed_form_is_the_placing.Goals as goal

pub returns-clause-few : goal.returns-clause-few
returns-clause-few c = few_in_layout

pub returns-clause-height : goal.returns-clause-height
returns-clause-height c = height_is

pub returns-clause-places : goal.returns-clause-places
returns-clause-places c = places_are

pub returns-clause-scroll : goal.returns-clause-scroll
returns-clause-scroll c = scroll_is
