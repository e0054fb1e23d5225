use Rattle.term_model.specs.Controls.{between, controls_from}
use Rattle.term_model.specs.Obeying.{chars_of, obeyed_bytes}
use Rattle.term_model.proofs.KeepLemmas.{acted-keeps}
use Rattle.diff_render.proofs.Chaining.{begins_next}
use Rattle.diff_render.proofs.laws.frames_chain.Goals as goal

pub returns : goal.returns
returns c = λ size screen drawing done frame fits shows t base begins.
    begins_next size screen t (obeyed_bytes t frame) base drawing done begins (acted-keeps (controls_from between (chars_of frame)) t begins.terminal) fits.high
    (shows t base begins)
