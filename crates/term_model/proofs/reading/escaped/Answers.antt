use Rattle.std.proofs.Common.{◌≡◌, ◌∙◌, drop, ap}
use Rattle.std.proofs.lemmas.List.{drop-drop}
use Rattle.term_model.specs.Obeying.{chars_of}
use Rattle.term_model.specs.Controls.{controls_from, escape}
use Rattle.term_model.proofs.ReadingLemmas.{controls_from-csi, controls_from-escaped}
use Rattle.term_model.proofs.reading.escaped.Goals as goal

pub returns-in_err-c-clause-reads : goal.returns-in_err-c-clause-reads
returns-in_err-c-clause-reads c = rw c.from_residual.ensures (ap (controls_from escape) c.in_err-c.ensures.reads)

pub returns-then-c-ne91-clause-reads : goal.returns-then-c-ne91-clause-reads
returns-then-c-ne91-clause-reads c =
    ap (controls_from escape) c.in_ok-c.ensures.reads
    ∙ controls_from-escaped c.in_ok-c.c (chars_of (drop c.in_ok-c.size c.args.bytes.now)) c.if-c-ne91.true

pub returns-in_err-control-clause-reads : goal.returns-in_err-control-clause-reads
returns-in_err-control-clause-reads c =
    let unfinished = rw c.split_at.ensures.back at c.in_err-control.ensures.reads in
    rw c.from_residual-in_err-control.ensures
    (ap (controls_from escape) c.in_ok-c.ensures.reads
    ∙ controls_from-csi c.in_ok-c.c (chars_of (drop c.in_ok-c.size c.args.bytes.now)) c.if-c-ne91.false
    ∙ unfinished)

pub returns-clause-reads : goal.returns-clause-reads
returns-clause-reads c =
    let bytes = c.args.bytes.now in
    let size = c.in_ok-c.size in
    let reads = rw (c.split_at.ensures.back, drop-drop c.in_ok-control.behind size bytes) at c.in_ok-control.ensures.reads in
    ap (controls_from escape) c.in_ok-c.ensures.reads
    ∙ controls_from-csi c.in_ok-c.c (chars_of (drop size bytes)) c.if-c-ne91.false
    ∙ reads
