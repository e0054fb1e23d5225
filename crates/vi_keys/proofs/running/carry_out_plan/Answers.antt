-- The answer tells what the effect, the mark and what is left behind made of the state.
use Rattle.std.proofs.Common.{◌≡◌, Bool, subst, sym, ap, ◌∙◌}
use Rattle.edit_state.specs.declared.states.EditState.{EditState}
use Rattle.edit_state.specs.declared.states.Done.{Done}
use Rattle.edit_state.specs.declared.vi_states.ViState.{ViState}
use Rattle.vi_keys.specs.Answering.{bones, done_by, answer_of, IsAsBefore}
use Rattle.vi_keys.specs.Running.{left_behind, settled, AnswersTo}
use Rattle.vi_keys.specs.Acts.{marked}
use Rattle.vi_keys.proofs.Answered.{answered, as_before, bones_as_before, rest_as_before, left_arg, left_paste}
use Rattle.vi_keys.proofs.running.carry_out_plan.Goals as goal

pub returns-clause-done : goal.returns-clause-done
returns-clause-done c =
    let plan = c.args.plan in
    let s : EditState = c.args.state.now in
    let u : EditState = c.carry_out.new.state in
    let t : EditState = c.settle.new.state in
    let v : ViState = c.args.vi in
    let told = c.in_ok-told.told in
    let differs : Bool = c.differs-differs.result in
    let left : c.leave_behind.new.state ≡ left_behind c.args.command v c.mark.new.state = c.leave_behind.ensures in
    let bare : bones t ≡ bones u = c.settle.ensures.bones ∙ ap bones left ∙ c.mark.ensures.bones in
    let is : t ≡ settled plan.vi (left_behind c.args.command v (marked plan.marks u)) =
    c.settle.ensures.state ∙ ap (settled plan.vi) (left ∙ ap (left_behind c.args.command v) c.mark.ensures.state) in
    let arg = left_arg c.args.command v plan.vi plan.marks s u t is c.in_ok-told.ensures.digits in
    let paste = left_paste c.args.command v plan.vi (marked plan.marks u) t is in
    let answer : AnswersTo plan (answer_of plan.said (done_by told differs)) s v t plan.vi =
    answered plan.said plan.act told differs (IsAsBefore s v t plan.vi) s u c.in_ok-told.ensures.told
    (λ same none. as_before s t v plan.vi (bare ∙ same) (sym c.rest_of.ensures ∙ c.differs-differs.ensures.0 none ∙ c.rest_of-rest.ensures) arg paste)
    (λ before. (sym bare ∙ bones_as_before s t v plan.vi before, c.differs-differs.ensures.1 (c.rest_of.ensures ∙ rest_as_before s t v plan.vi before ∙ sym c.rest_of-rest.ensures))) in
    let done : c.answer_of.result ≡ answer_of plan.said (done_by told differs) = c.answer_of.ensures ∙ ap (answer_of plan.said) c.done_by.ensures in
    let P : Done → Type 0 = λ d. AnswersTo plan d s v t plan.vi in
    subst P (sym done) answer
