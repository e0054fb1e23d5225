-- What operators do.
use Rattle.std.specs.Prelude.{ℕ, ◌+◌, min, Bool, true, false, length, Option, None, Some, if◌then◌else◌}
use Rattle.text_doc.specs.Document.{Document}
use Rattle.text_doc.specs.Rows.{line_start}
use Rattle.edit_state.specs.declared.states.EditState.{EditState}
use Rattle.edit_state.specs.declared.states.Done.TheVariants.{Changed, Same, Bell}
use Rattle.edit_state.specs.declared.vi_states.ViState.{ViState}
use Rattle.edit_state.specs.declared.vi_states.Operator.{Operator}
use Rattle.edit_state.specs.declared.vi_states.Operator.TheVariants.{Delete, Change, Yank}
use Rattle.vi_keys.specs.declared.motions.Kind.TheVariants.{Inclusive, Rows}
use Rattle.vi_keys.specs.declared.motions.Reach.{Reach}
use Rattle.vi_keys.specs.declared.spans.Span.{Span}
use Rattle.vi_keys.specs.declared.acts.Act.{Act}
use Rattle.vi_keys.specs.declared.acts.Act.TheVariants.{Remove, Put}
use Rattle.vi_keys.specs.declared.acts.Marks.TheVariants.{Clear}
use Rattle.vi_keys.specs.declared.plans.Plan.{Plan}
use Rattle.vi_keys.specs.Reaches.{reach}
use Rattle.vi_keys.specs.Spans.{span_of, word_span, rows_reach, clip_of, rows_from}
use Rattle.vi_keys.specs.Plans.{plain, answered, counted, count_for, ended, left_by}

-- the characters of a range go; of rows also the line feed behind them, or the one before them where they are the last
abbrev pub deletion : Bool → Document → Span → Act
deletion false d span = Remove span.from span.to span.from (clip_of d span)
deletion true d span =
    Remove (rows_from d span) (min (length d.text) (span.to + 1)) (line_start d.text (rows_from d span)) (clip_of d span)

-- what an operator does with a range
abbrev pub operated : Operator → Document → Span → Act
operated Delete d span = deletion span.rows d span
operated Change d span = Remove span.from span.to span.from (clip_of d span)
operated Yank d span = Put span.from (clip_of d span)

-- what an operator does with what a motion takes
abbrev pub taken : Operator → Document → Option Reach → ViState → Plan
taken operator d None v = answered v Bell
taken operator d (Some r) v = plain (left_by operator v) (operated operator d (span_of d r))

-- what an operator does with so many rows from the cursor's row on; a copy leaves the cursor
abbrev pub rows_act : Operator → Document → ℕ → Act
rows_act Delete d count = operated Delete d (span_of d (rows_reach d count))
rows_act Change d count = operated Change d (span_of d (rows_reach d count))
rows_act Yank d count = Put d.cursor (clip_of d (span_of d (rows_reach d count)))

abbrev pub on_rows : Operator → Document → ℕ → ViState → Plan
on_rows operator d count v = plain (left_by operator v) (rows_act operator d count)

-- this operator waits
abbrev pub waits : Operator → Option Operator → Bool
waits Delete (Some Delete) = true
waits Change (Some Change) = true
waits Yank (Some Yank) = true
waits _ _ = false

-- an operator's key while one waits
abbrev pub again : Operator → EditState → ViState → Plan
again operator s v =
    if waits operator v.operator then on_rows operator s.buffer.doc (count_for s v) v else answered (ended v) Bell

-- what an operator does with what lies between this mark and the cursor
abbrev pub selected_from : Option ℕ → Operator → EditState → ViState → Plan
selected_from None operator s v = answered v Same
selected_from (Some place) operator s v =
    record (plain (left_by operator v) (operated operator s.buffer.doc (span_of s.buffer.doc (reach (if v.lines then Rows else Inclusive) place)))) {
      marks = Clear;
    }

abbrev pub selected : Operator → EditState → ViState → Plan
selected operator s v = selected_from s.buffer.doc.mark operator s v

-- what this operator does with the word at the cursor
abbrev pub on_word_by : Option Operator → Bool → EditState → ViState → Plan
on_word_by None around s v = answered v Same
on_word_by (Some operator) around s v =
    plain (left_by operator v) (operated operator s.buffer.doc (word_span around s.buffer.doc))

abbrev pub on_word : Bool → EditState → ViState → Plan
on_word around s v = on_word_by v.operator around s v

-- the operator waits, with its count
abbrev pub await_for : Operator → EditState → ViState → Plan
await_for operator s v = answered (record v { operator = Some operator; operator_count = min 999999 (counted s) }) Changed
