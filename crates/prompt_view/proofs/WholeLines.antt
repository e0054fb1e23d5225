-- The lines of a scene are whole: a Tail stands exactly behind each wide Lead.
use Rattle.std.proofs.Common.{Bool, true, false, if◌then◌else◌, List, [], length, replicate, All}
use Rattle.cell_grid.specs.declared.cell.Cell.{Cell}
use Rattle.cell_grid.specs.Cell.{narrow}
use Rattle.cell_grid.specs.Row.{IsWhole}
use Rattle.cell_grid.proofs.RowLemmas.{whole-narrow}
use Rattle.text_doc.specs.Lines.{lines_of}
use Rattle.text_rows.proofs.WholeLines.{whole-lines_from, whole-with_chars}
use Rattle.prompt_view.specs.Lines.{content_of, continuation_cells, drawn_text, message_cells}
use Rattle.prompt_view.specs.Scene.{SceneFields}

whole-continuation : (s : SceneFields) → IsWhole (continuation_cells s)
whole-continuation s = by s.multiline
  where
    by : (b : Bool) → IsWhole (if b then replicate (length (message_cells s)) (narrow 32 s.looks.continuation) else [])
    by true = whole-narrow (length (message_cells s)) 32 s.looks.continuation
    by false = tt

-- those of a scene
pub whole_lines : (s : SceneFields) → All IsWhole (content_of s).lines
whole_lines s =
    whole-lines_from (drawn_text s) (message_cells s) 0 (lines_of (drawn_text s).text) (whole-with_chars s.looks.prompt s.looks.control [] s.message tt) (whole-continuation s)
