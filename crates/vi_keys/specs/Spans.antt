-- The ranges that operators take.
use Rattle.std.specs.Prelude.{ℕ, ◌+◌, ◌-◌, ◌==◌, min, max, Bool, true, false, nat_lt, length, slice_range, unwrap_or, if◌then◌else◌}
use Rattle.text_doc.specs.Document.{Document}
use Rattle.text_doc.specs.Rows.{line_start, line_end, down}
use Rattle.text_doc.specs.Words.{class_at}
use Rattle.text_doc.specs.declared.words.Class.TheVariants.{White}
use Rattle.edit_buffer.specs.declared.rings.Clip.{Clip}
use Rattle.vi_keys.specs.declared.motions.Kind.{Kind}
use Rattle.vi_keys.specs.declared.motions.Kind.TheVariants.{Exclusive, Inclusive, Rows}
use Rattle.vi_keys.specs.declared.motions.Reach.{Reach}
use Rattle.vi_keys.specs.declared.spans.Span.{Span}
use Rattle.vi_keys.specs.Runs.{run_start, run_end}
use Rattle.vi_keys.specs.Reaches.{reach}

abbrev pub chars : ℕ → ℕ → Span
chars from to = record { from = from; to = to; rows = false }

-- the range of a kind that lies between two places
abbrev pub span_between : Kind → Document → ℕ → ℕ → Span
span_between Exclusive d least greatest = chars least greatest
span_between Inclusive d least greatest = chars least (min (length d.text) (greatest + 1))
span_between Rows d least greatest = record { from = line_start d.text least; to = line_end d.text greatest; rows = true }

-- what stands between the cursor and where a motion goes
abbrev pub span_of : Document → Reach → Span
span_of d r = span_between r.kind d (min d.cursor r.place) (max d.cursor r.place)

-- the run of one class at the cursor in its row, and the white space behind it in the row where that is wanted
abbrev pub run_at : Bool → Document → Span
run_at around d =
    let class = class_at false d.text d.cursor in
    let end = line_end d.text d.cursor in
    let to = run_end class d.text d.cursor end in
    chars (run_start class d.text (line_start d.text d.cursor) d.cursor) (if around then run_end White d.text to end else to)

-- the run at the cursor, or nothing at the end of a row
abbrev pub word_span : Bool → Document → Span
word_span around d = if d.cursor == line_end d.text d.cursor then chars d.cursor d.cursor else run_at around d

-- so many rows from the cursor's row on, or fewer where there are fewer
abbrev pub rows_reach : Document → ℕ → Reach
rows_reach d count = reach Rows (unwrap_or (down d.text d.cursor (count - 1) 0) d.cursor)

-- a clip of a range
abbrev pub clip_of : Document → Span → Clip
clip_of d span = record { text = slice_range d.text span.from span.to; lines = span.rows }

-- where the deletion of rows begins: with the line feed before them where they are the last ones
abbrev pub rows_from : Document → Span → ℕ
rows_from d span = if nat_lt span.to (length d.text) then span.from else span.from - 1
