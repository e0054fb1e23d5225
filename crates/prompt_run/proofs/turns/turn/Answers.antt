-- The drawing of a state that was settled can be shown.
use Rattle.std.proofs.Common.{◌≡◌, ◌∙◌, false, ap, is_some, sym, subst, rules}
use Rattle.session_core.specs.Draw.{draw}
use Rattle.session_core.specs.Next.{next}
use Rattle.session_core.specs.State.{State, has_ended}
use Rattle.diff_render.specs.Frames.{WasDrawnAt}
use Rattle.prompt_run.proofs.ShowLemmas.{drawn_at}
use Rattle.prompt_run.specs.Run.{shown_at}
use Rattle.prompt_run.specs.Turn.{ShowsState}
use Rattle.prompt_run.proofs.TurnLemmas.{going, shows_state}
use Rattle.prompt_run.proofs.turns.turn.Goals as goal

pub frame-requires-clause-cursor : goal.frame-requires-clause-cursor
frame-requires-clause-cursor g c = λ going.
    let inside = c.in-Ok-drawing.ensures.cursor c.in-Ok.ensures.settled in
    record { in_rows = inside.row; in_cols = inside.col }

pub returns-clause-shows : goal.returns-clause-shows
returns-clause-shows g c =
    let finished : c.is_some-done.result ≡ is_some c.drawing.new.self.outcome = search rules in (
      c.in-Ok-frame.bytes,
      search rules,
      shows_state c.drawing.new.self c.args.session.now.size c.size-size.result c.args.shown.now c.tell_size-2.new.shown c.in-Ok-drawing.drawing c.is_some-done.result
          c.in-Ok-frame.bytes (c.size-size.ensures.size ∙ ap (λ (s : State). s.size) (sym c.in-Ok-drawing.ensures.same)) (c.in-Ok-drawing.ensures.drawn ∙ ap draw (sym c.in-Ok-drawing.ensures.same)) finished
          (c.tell_size-2.ensures ∙ ap (λ e. shown_at e c.size-size.result c.args.shown.now) c.size-before.ensures.size)
          c.in-Ok-frame.ensures.frame,
    )

pub frame-requires-clause-was : goal.frame-requires-clause-was
frame-requires-clause-was g c =
    let on : has_ended c.args.session.now ≡ false = going (has_ended c.args.session.now) (λ over. let clash = c.in-Ok.ensures.ended.1 over in cc) in
    let told = c.tell_size-2.ensures ∙ ap (λ e. shown_at e c.size-size.result c.args.shown.now) c.size-before.ensures.size in
    subst (WasDrawnAt c.size-size.result) (sym told) (drawn_at c.args.session.now.size c.size-size.result c.args.shown.now (c.requires.drawn on))

pub returns-then-is_err-clause-missed : goal.returns-then-is_err-clause-missed
returns-then-is_err-clause-missed g c = λ refused.
    let finished : c.is_some-done.result ≡ is_some c.drawing.new.self.outcome = search rules in
    let is : c.drawing.new.self ≡ next c.args.session.now c.args.event = c.in-Ok-drawing.ensures.same ∙ c.in-Ok.ensures.next in (
      c.in-Ok-frame.bytes,
      search rules,
      subst (λ (s : State). ShowsState (shown_at c.args.session.now.size s.size c.args.shown.now) s c.in-Ok-frame.bytes) is
          (shows_state c.drawing.new.self c.args.session.now.size c.size-size.result c.args.shown.now c.tell_size-2.new.shown c.in-Ok-drawing.drawing c.is_some-done.result
          c.in-Ok-frame.bytes (c.size-size.ensures.size ∙ ap (λ (s : State). s.size) (sym c.in-Ok-drawing.ensures.same)) (c.in-Ok-drawing.ensures.drawn ∙ ap draw (sym c.in-Ok-drawing.ensures.same)) finished
          (c.tell_size-2.ensures ∙ ap (λ e. shown_at e c.size-size.result c.args.shown.now) c.size-before.ensures.size)
          c.in-Ok-frame.ensures.frame),
    )
