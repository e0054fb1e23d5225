-- Which terminal the fields of the code's state are.
use Rattle.term_model.specs.declared.state.State.{State}
use Rattle.term_model.specs.Term.{Term}

abbrev pub term_of : State → Term
term_of s = record {
  rows = s.rows;
  cols = s.cols;
  lines = s.lines.items;
  top = s.top;
  row = s.row;
  col = s.col;
  pen = s.pen;
  wraps = s.wraps;
  visible = s.visible;
  pasting = s.pasting;
  pending = s.pending;
  last = s.last;
}
