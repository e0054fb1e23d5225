use Rattle.std.proofs.Common.{sym, subst}
use Rattle.std.specs.Prelude.{Some}
use Rattle.std.proofs.lemmas.List.{length-take-le}
use Rattle.vt_input.specs.Held.{Paste}
use Rattle.vt_input.specs.Taken.{Takes}
use Rattle.vt_input.proofs.HeldLemmas.{Takes-mark, Takes-key, decision-bounds}
use Rattle.vt_input.proofs.cutter.Cutter.step_text.Goals as goal

pub returns-then-is_opening : goal.returns-then-is_opening
returns-then-is_opening c =
    let rows = c.args.rows.now in
    let before = c.args.self.now in
    let x = c.args.text.now in
    subst (λ (p : Paste). Takes rows c.args.flush before (record { presses = before.presses; paste = Some p }) x 6) (sym c.new.ensures)
    (Takes-mark rows c.args.flush before x c.requires.outside (sym c.if-is_opening.ensures))

pub slice_bounds-from_slice-end : goal.slice_bounds-from_slice-end
slice_bounds-from_slice-end c =
    sym (length-take-le c.in-Some.size c.args.text.now (decision-bounds c.args.rows.now c.args.flush c.args.text.now c.in-Some.key c.in-Some.size c.requires.some c.in-Some.ensures).1)

pub returns-in_ok-push-in-Some : goal.returns-in_ok-push-in-Some
returns-in_ok-push-in-Some c =
    Takes-key c.args.rows.now c.args.flush c.args.self.now c.push.new.self c.args.text.now c.in_ok-text-in-Some.text c.in-Some.key c.in-Some.size
    c.requires.outside (sym c.if-is_opening.ensures) c.in-Some.ensures c.requires.some c.in_ok-text-in-Some.ensures c.in_ok-push-in-Some.ensures.ok
