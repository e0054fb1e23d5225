-- Without an argument each of the two commands goes once.
use Rattle.std.proofs.Common.{◌≡◌, ℕ, false, List, Option, refl, sym, subst}
use Rattle.text_doc.specs.Words.{next_word_end}
use Rattle.edit_state.specs.declared.states.EditState.{EditState}
use Rattle.edit_state.specs.declared.arguments.Arg.{Arg}
use Rattle.edit_state.specs.Arguments.{amount_in, count_of}
use Rattle.edit_state.specs.WordMoves.{stepped, word_back, word_end_ahead}
use Rattle.edit_cmds.specs.Laws.{EndAndStart}
use Rattle.edit_cmds.proofs.Words.{turned}
use Rattle.edit_cmds.proofs.laws.backward_word_finds_start.Goals as goal

pub returns : goal.returns
returns c = λ s is bare.
    let text = s.buffer.doc.text in
    let place = s.buffer.doc.cursor in
    let ahead : Option Arg → ℕ = λ arg. stepped (word_end_ahead false text) (count_of (amount_in arg)) place in
    subst (λ (arg : Option Arg). EndAndStart (next_word_end false text place) text (ahead arg) (stepped (word_back false text) (count_of (amount_in arg)) (ahead arg))) (sym bare)
    (turned text place is.document.cursor_within)
