-- Frames as their callers see them.
use Prim.Native.Nat.{zero, suc}
use Rattle.std.proofs.Common.{◌≡◌, ℕ, ◌+◌, ◌-◌, ◌<◌, ◌≤◌, Bool, true, false, not, ◌&&◌, List, [], ◌∷◌, ◌++◌, length}
use Rattle.std.proofs.Common.{nat_lt, Option, None, refl, sym, ap, ◌∙◌, subst, arith, append-nil, length-append}
use Rattle.std.proofs.Common.{length-take-le, ⊎_elim, if◌then◌else◌}
use Rattle.std.specs.List.{list_all}
use Rattle.std.proofs.lemmas.Bool.{cases_lt}
use Rattle.std.proofs.lemmas.Bool.Decides.{nat_tests}
use Rattle.cell_grid.specs.declared.cell.Cell.{Cell}
use Rattle.cell_grid.specs.declared.drawing.Drawing.{Drawing}
use Rattle.cell_grid.specs.Attrs.{plain}
use Rattle.cell_grid.specs.Cell.{same_cell}
use Rattle.cell_grid.specs.Row.{blank_row}
use Rattle.cell_grid.specs.Grid.{row_at}
use Rattle.cell_grid.specs.Size.{Extent}
use Rattle.term_model.specs.Controls.{Control, CUU, Ignored}
use Rattle.term_model.specs.Term.{Term, IsTerminal}
use Rattle.term_model.specs.Obeying.{acted, forgotten, line_of, obeyed_bytes}
use Rattle.diff_render.specs.declared.shown.OnScreen.{OnScreen}
use Rattle.diff_render.specs.declared.shown.OnScreen.TheVariants.{Nothing, Drawn, Resized}
use Rattle.diff_render.specs.Canvas.{Canvas, canvas_of, top_for, IsBase, On, reads, Spells, IsQuiet, question, asked}
use Rattle.diff_render.specs.Canvas.{touched, Touches}
use Rattle.diff_render.specs.Changes.{cell_at, is_changed, changed_rows}
use Rattle.diff_render.specs.Frames.{put, Agree, Begins, rows_before, AsksWhere, has_to_ask, IsOnScreen, IsFrame}
use Rattle.diff_render.specs.Opening.{climb, opening, asking, opening_of}
use Rattle.diff_render.specs.Redrawn.{MayTouchRows}
use Rattle.diff_render.specs.ScreenFields.{IsKept}
use Rattle.diff_render.specs.Turning.{BeginsAnew, Turns}
use Rattle.diff_render.proofs.Reading.{spells_none, spells_low, spells_then, quiet_none, quiet_then}
use Rattle.diff_render.proofs.Leaves.{spells_up, quiet_up, arrow_length}
use Rattle.diff_render.proofs.Made.{made_none, made_then, made_climb, made_opening, made_asking}
use Rattle.diff_render.proofs.LineSteps.{blank_cell, blanks_unchanged}
use Rattle.diff_render.proofs.Drawing.{acted-append, touches_then}
use Rattle.diff_render.proofs.FrameSteps.{spells_reads}
use Rattle.diff_render.proofs.Openings.{opening_controls, spells_opening, quiet_opening, climbed, base_is, opened}

quiet_alone : (bytes : List ℕ) → IsQuiet bytes → asked bytes ≡ 0
quiet_alone bytes h = ap asked (sym (append-nil bytes)) ∙ h []

-- ---- a drawing is on the screen

-- a terminal that agrees with one that shows a drawing shows the drawing's canvas
shown_is : (t : Term) (base : ℕ) (g : Drawing) → Agree t (put t base g false) → On t base (canvas_of g.grid g.row g.col plain) t
shown_is t base g agree = record {
  pending = t.pending;
  last = t.last;
  is = λ i. record (agree i) { pending = t.pending; last = t.last };
}

shown_base : (t : Term) (base rows cols : ℕ) (g : Drawing) → IsTerminal t → t.rows ≡ rows → t.cols ≡ cols → t.top ≤ base → Agree t (put t base g false)
    → IsBase t base rows cols × (base + length g.grid ≤ t.top + t.rows)
shown_base t base rows cols g good tall wide behind agree =
    let top : t.top ≡ top_for t base (length g.grid) = ap (λ (x : Term). x.top) agree in
    let row : t.row ≡ base + g.row - top_for t base (length g.grid) = ap (λ (x : Term). x.row) agree in
    let inside : base < t.top + t.rows = omega (arith, good.row) in (
      record {
        tall = tall;
        wide = wide;
        behind_top = behind;
        in_window = inside;
        before = length-take-le base t.lines (omega (arith, good.count));
      },
      omega arith,
    )

pub frame_of_shown : (size : Extent) (g : Drawing) (drawn_at : Extent) (drawing : Drawing) (done ask : Bool) (bytes : List ℕ)
    → Turns size.rows size.cols g.grid g.row g.col drawing done bytes → (g ≡ drawing → done ≡ false → bytes ≡ []) → IsFrame size (Drawn g drawn_at) drawing done ask bytes
frame_of_shown size g drawn_at drawing done ask bytes turns unchanged = record {
  shows = λ t base begins.
      let both = shown_base t base size.rows size.cols g begins.terminal begins.tall begins.wide begins.base_line.0 begins.base_line.1 in
      turns.shows t base both.0 both.1 t (shown_is t base g begins.base_line.1);
  touches = λ t base begins.
      let both = shown_base t base size.rows size.cols g begins.terminal begins.tall begins.wide begins.base_line.0 begins.base_line.1 in
      turns.touches (is_changed g.grid drawing.grid) (λ row col h. h) t base both.0 t (shown_is t base g begins.base_line.1);
  short = omega (arith, turns.short);
  asks = quiet_alone bytes turns.quiet;
  made = turns.made;
  ends = turns.reading;
  unchanged = unchanged;
}

-- ---- nothing is on the screen, or its size was forgotten

abbrev climb_controls : ℕ → List Control
climb_controls n = if nat_lt 0 n then CUU n ∷ [] else []

spells_climb : (n : ℕ) → n ≤ 999 → Spells (climb n) (climb_controls n)
spells_climb n few = ⊎_elim
    (λ (some : 0 < n). let t : nat_lt 0 n ≡ true = grind (arith, nat_tests) in rw t (spells_up n some few))
    (λ (none : n ≤ 0). let t : nat_lt 0 n ≡ false = grind (arith, nat_tests) in rw t spells_none)
    (cases_lt 0 n)

quiet_climb : (n : ℕ) → n ≤ 999 → IsQuiet (climb n)
quiet_climb n few = ⊎_elim
    (λ (some : 0 < n). let t : nat_lt 0 n ≡ true = grind (arith, nat_tests) in rw t (quiet_up n few))
    (λ (none : n ≤ 0). let t : nat_lt 0 n ≡ false = grind (arith, nat_tests) in rw t quiet_none)
    (cases_lt 0 n)

climb_length : (n : ℕ) → n ≤ 999 → length (climb n) ≤ 6
climb_length n few = ⊎_elim
    (λ (some : 0 < n). let t : nat_lt 0 n ≡ true = grind (arith, nat_tests) in rw t (arrow_length n 65 few))
    (λ (none : n ≤ 0). let t : nat_lt 0 n ≡ false = grind (arith, nat_tests) in rw t (omega arith))
    (cases_lt 0 n)

-- where the way up leads
pub record Climbs (t : Term) (n : ℕ) : Type 0 where
  pub pending : Bool
  pub last : Option (ℕ × ℕ)
  pub is : acted t (climb_controls n) ≡ climbed t n pending last

climbs : (t : Term) (n : ℕ) → Climbs t n
unfolding climbed
climbs t n = ⊎_elim
    (λ (some : 0 < n). let test : nat_lt 0 n ≡ true = grind (arith, nat_tests) in
    let up : Climbs t n = record { pending = false; last = None; is = ap (λ b. acted t (if b then CUU n ∷ [] else [])) test } in up)
    (λ (none : n ≤ 0). let test : nat_lt 0 n ≡ false = grind (arith, nat_tests) in
    let row : t.row ≡ t.row - n = omega arith in
    let still : Climbs t n = record {
      pending = t.pending;
      last = t.last;
      is = ap (λ b. acted t (if b then CUU n ∷ [] else [])) test ∙ (λ i. record t { row = row i });
    } in still)
    (cases_lt 0 n)

climb_touches : (ok : ℕ → ℕ → Bool) (t : Term) (base n : ℕ) → Touches ok t base (climb_controls n)
climb_touches ok t base n = ⊎_elim
    (λ (some : 0 < n). let test : nat_lt 0 n ≡ true = grind (arith, nat_tests) in rw test refl)
    (λ (none : n ≤ 0). let test : nat_lt 0 n ≡ false = grind (arith, nat_tests) in rw test refl)
    (cases_lt 0 n)

abbrev front_controls : ℕ → List Control
front_controls n = climb_controls n ++ opening_controls

front_spells : (n : ℕ) → n ≤ 999 → Spells (climb n ++ opening) (front_controls n)
front_spells n few = spells_then (climb n) opening (climb_controls n) opening_controls (spells_climb n few) spells_opening

front_on : (t : Term) (n cols : ℕ) → IsTerminal t → t.cols ≡ cols → On t (t.top + (t.row - n)) (canvas_of (blank_row cols ∷ []) 0 0 plain) (acted t (front_controls n))
front_on t n cols good wide =
    let up = climbs t n in
    let is : acted t (front_controls n) ≡ acted (climbed t n up.pending up.last) opening_controls =
    acted-append t (climb_controls n) opening_controls ∙ ap (λ x. acted x opening_controls) up.is in
    subst (λ x. On t (t.top + (t.row - n)) (canvas_of (blank_row cols ∷ []) 0 0 plain) x) (sym is)
    (subst (λ k. On t (t.top + (t.row - n)) (canvas_of (blank_row k ∷ []) 0 0 plain) (acted (climbed t n up.pending up.last) opening_controls)) wide
    (opened t n up.pending up.last good))

-- the question has no effect that a terminal shows
asking_controls : Bool → List Control
asking_controls true = Ignored ∷ []
asking_controls false = []

spells_asking : (asks : Bool) → Spells (asking asks) (asking_controls asks)
unfolding asking_controls
spells_asking true = spells_low question (Ignored ∷ []) refl (λ rest. refl)
spells_asking false = spells_none

asking_on : (asks : Bool) (t : Term) (base : ℕ) (c : Canvas) (x : Term) → On t base c x → On t base c (acted x (asking_controls asks))
unfolding asking_controls
asking_on true t base c x on = record { pending = false; last = None; is = ap forgotten on.is }
asking_on false t base c x on = on

asking_touches : (ok : ℕ → ℕ → Bool) (asks : Bool) (x : Term) (base : ℕ) → Touches ok x base (asking_controls asks)
unfolding asking_controls
asking_touches ok true x base = refl
asking_touches ok false x base = refl

asking_length : (asks : Bool) → length (asking asks) ≤ 4
asking_length true = omega arith
asking_length false = omega arith

-- a blank row is no change
may_from_blank : (ok : ℕ → ℕ → Bool) (cols : ℕ) (new : List (List Cell)) → MayTouchRows ok [] new → MayTouchRows ok (blank_row cols ∷ []) new
may_from_blank ok cols new may row col h =
    may row col (ap (λ c. not (same_cell c (cell_at (row_at new row) col))) (same_blank row) ∙ h)
  where
    same_blank : (row : ℕ) → cell_at (row_at [] row) col ≡ cell_at (row_at (blank_row cols ∷ []) row) col
    same_blank zero = sym (blank_cell cols col)
    same_blank (suc row) = refl

changed_from_blank : (cols : ℕ) (new : List (List Cell)) → changed_rows cols (blank_row cols ∷ []) new ≡ changed_rows cols [] new
changed_from_blank cols [] = ap (λ k. k + 0) (blanks_unchanged cols)
changed_from_blank cols (n ∷ ns) = refl

-- the parts of a frame that begins anew
pub record Anew (size : Extent) (screen : OnScreen) (up : ℕ) (done ask asks : Bool) : Type 0 where
  pub few : up ≤ 999
  pub none_before : rows_before screen ≡ []
  pub none_shown : (drawing : Drawing) → IsOnScreen screen drawing → ⊥
  pub where_asked : has_to_ask screen done ask ≡ asks
  pub at_base : (t : Term) (base : ℕ) → Begins size screen t base → t.top + (t.row - up) ≡ base

asks_anew : (asks : Bool) (size : Extent) (screen : OnScreen) (front rest : List ℕ) → IsQuiet front → IsQuiet rest
    → ((t : Term) (base : ℕ) → Begins size screen t base → line_of (obeyed_bytes t front) ≡ base)
    → AsksWhere asks size screen (front ++ asking asks ++ rest)
asks_anew true size screen front rest p q on_base = record {
  before = front;
  behind = rest;
  cut = refl;
  none_before = quiet_alone front p;
  none_behind = quiet_alone rest q;
  on_base = on_base;
}
asks_anew false size screen front rest p q on_base =
    quiet_alone (front ++ [] ++ rest) (quiet_then (front ++ []) rest (quiet_then front [] p quiet_none) q)

pub frame_anew : (size : Extent) (screen : OnScreen) (up : ℕ) (drawing : Drawing) (done ask asks : Bool) (rest bytes : List ℕ) → Anew size screen up done ask asks
    → Turns size.rows size.cols (blank_row size.cols ∷ []) 0 0 drawing done rest → bytes ≡ opening_of up asks ++ rest
    → IsFrame size screen drawing done ask bytes
frame_anew size screen up drawing done ask asks rest bytes anew turns wrote =
    let front = climb up ++ opening in
    let head = front ++ asking asks in
    let controls = front_controls up in
    let asked_for = asking_controls asks in
    let front_reads = front_spells up anew.few in
    let quiet_front : IsQuiet front = quiet_then (climb up) opening (quiet_climb up anew.few) quiet_opening in
    let spells : Spells (head ++ rest) (controls ++ asked_for ++ reads rest) =
    spells_then head rest (controls ++ asked_for) (reads rest) (spells_then front (asking asks) controls asked_for front_reads (spells_asking asks)) turns.reading in
    let is : reads (head ++ rest) ≡ controls ++ asked_for ++ reads rest = spells_reads (head ++ rest) (controls ++ asked_for ++ reads rest) spells in
    let base_good = λ (t : Term) (base : ℕ) (begins : Begins size screen t base).
    subst (λ b. IsBase t b size.rows size.cols) (anew.at_base t base begins) (base_is t up size.rows size.cols begins.terminal begins.tall begins.wide) in
    let stands = λ (t : Term) (base : ℕ) (begins : Begins size screen t base).
    subst (λ b. On t b (canvas_of (blank_row size.cols ∷ []) 0 0 plain) (acted t controls)) (anew.at_base t base begins)
    (front_on t up size.cols begins.terminal begins.wide) in
    let stands_asked = λ (t : Term) (base : ℕ) (begins : Begins size screen t base).
    subst (On t base (canvas_of (blank_row size.cols ∷ []) 0 0 plain)) (sym (acted-append t controls asked_for))
    (asking_on asks t base (canvas_of (blank_row size.cols ∷ []) 0 0 plain) (acted t controls) (stands t base begins)) in
    let frame : IsFrame size screen drawing done ask (head ++ rest) = record {
      shows = λ t base begins.
          let good = base_good t base begins in
          let fits : base + 1 ≤ t.top + t.rows = omega (arith, good.in_window) in
          ap (λ cs. forgotten (acted t cs)) is ∙ ap forgotten (acted-append t (controls ++ asked_for) (reads rest))
          ∙ turns.shows t base good fits (acted t (controls ++ asked_for)) (stands_asked t base begins);
      touches = λ t base begins.
          let good = base_good t base begins in
          let ok = is_changed (rows_before screen) drawing.grid in
          let may : MayTouchRows ok (blank_row size.cols ∷ []) drawing.grid =
          subst (λ old. MayTouchRows (is_changed old drawing.grid) (blank_row size.cols ∷ []) drawing.grid) (sym anew.none_before)
          (may_from_blank (is_changed [] drawing.grid) size.cols drawing.grid (λ row col h. h)) in
          subst (λ cs. Touches ok t base cs) (sym is)
          (touches_then ok t base (controls ++ asked_for) (reads rest)
          (touches_then ok t base controls asked_for
          (touches_then ok t base (climb_controls up) opening_controls (climb_touches ok t base up) refl)
          (asking_touches ok asks (acted t controls) base))
          (turns.touches ok may t base good (acted t (controls ++ asked_for)) (stands_asked t base begins)));
      short = omega (
        arith,
        turns.short,
        length-append head rest,
        length-append front (asking asks),
        length-append (climb up) opening,
        climb_length up anew.few,
        asking_length asks,
        changed_from_blank size.cols drawing.grid,
        ap length anew.none_before,
        ap (λ old. changed_rows size.cols old drawing.grid) anew.none_before,
      );
      made = made_then head rest (made_then front (asking asks) (made_then (climb up) opening (made_climb up anew.few) made_opening) (made_asking asks)) turns.made;
      ends = subst (Spells (head ++ rest)) (sym is) spells;
      asks = subst (λ b. AsksWhere b size screen (head ++ rest)) (sym anew.where_asked)
          (asks_anew asks size screen front rest quiet_front turns.quiet (λ t base begins.
          let good = base_good t base begins in
          let there = stands t base begins in
          let back : top_for t base 1 + (base + 0 - top_for t base 1) ≡ base = omega (arith, good.behind_top, good.in_window) in
          ap (λ cs. line_of (acted t cs)) (spells_reads front controls front_reads) ∙ ap line_of there.is ∙ back));
      unchanged = λ same still. absurd (anew.none_shown drawing same);
    } in
    subst (λ b. IsFrame size screen drawing done ask b) (sym wrote) frame

-- nothing was on the screen
pub anew_nothing : (size : Extent) (done ask : Bool) → Anew size Nothing 0 done ask (ask && not done)
anew_nothing size done ask = record {
  few = omega arith;
  none_before = refl;
  none_shown = λ drawing same. same;
  where_asked = refl;
  at_base = λ t base begins. omega (arith, begins.base_line);
}

-- its size was forgotten
pub anew_resized : (size : Extent) (row : ℕ) (done ask : Bool) → row ≤ 999 → Anew size (Resized row) row done ask (ask && not done)
anew_resized size row done ask few = record {
  few = few;
  none_before = refl;
  none_shown = λ drawing same. same;
  where_asked = refl;
  at_base = λ t base begins. omega (arith, begins.base_line);
}

-- ---- by what is on the screen

pub frame_of_nothing : (size : Extent) (screen : OnScreen) (drawing : Drawing) (done ask asks : Bool) (bytes : List ℕ) → screen ≡ Nothing → asks ≡ (ask && not done)
    → BeginsAnew size 0 drawing done asks bytes → IsFrame size screen drawing done ask bytes
frame_of_nothing size screen drawing done ask asks bytes is wanted begins =
    let anew : Anew size Nothing 0 done ask asks = subst (λ b. Anew size Nothing 0 done ask b) (sym wanted) (anew_nothing size done ask) in
    subst (λ s. IsFrame size s drawing done ask bytes) (sym is) (frame_anew size Nothing 0 drawing done ask asks begins.rest bytes anew begins.turns begins.wrote)

pub frame_of_resized : (size : Extent) (screen : OnScreen) (row : ℕ) (drawing : Drawing) (done ask asks : Bool) (bytes : List ℕ) → screen ≡ Resized row → IsKept screen
    → asks ≡ (ask && not done) → BeginsAnew size row drawing done asks bytes → IsFrame size screen drawing done ask bytes
frame_of_resized size screen row drawing done ask asks bytes is kept wanted begins =
    let few : row ≤ 999 = subst IsKept is kept in
    let anew : Anew size (Resized row) row done ask asks = subst (λ b. Anew size (Resized row) row done ask b) (sym wanted) (anew_resized size row done ask few) in
    subst (λ s. IsFrame size s drawing done ask bytes) (sym is) (frame_anew size (Resized row) row drawing done ask asks begins.rest bytes anew begins.turns begins.wrote)

pub frame_of_drawn : (size : Extent) (screen : OnScreen) (old : Drawing) (drawn_at : Extent) (drawing : Drawing) (done ask : Bool) (bytes : List ℕ) → screen ≡ Drawn old drawn_at
    → Turns size.rows size.cols old.grid old.row old.col drawing done bytes → (old ≡ drawing → done ≡ false → bytes ≡ []) → IsFrame size screen drawing done ask bytes
frame_of_drawn size screen old drawn_at drawing done ask bytes is turns unchanged =
    subst (λ s. IsFrame size s drawing done ask bytes) (sym is) (frame_of_shown size old drawn_at drawing done ask bytes turns unchanged)

nothing_read : reads [] ≡ []
nothing_read = refl

pub frame_of_same : (size : Extent) (screen : OnScreen) (old : Drawing) (drawn_at : Extent) (drawing : Drawing) (done ask : Bool) (bytes : List ℕ) → screen ≡ Drawn old drawn_at
    → done ≡ false → old ≡ drawing → bytes ≡ [] → IsFrame size screen drawing done ask bytes
frame_of_same size screen old drawn_at drawing done ask bytes is still same none =
    let empty : IsFrame size (Drawn old drawn_at) old false ask [] = record {
      shows = λ t base begins. ap (λ cs. forgotten (acted t cs)) nothing_read ∙ begins.base_line.1;
      touches = λ t base begins. ap (λ cs. list_all (λ (place : ℕ × ℕ). is_changed old.grid old.grid place.0 place.1) (touched t base cs)) nothing_read;
      short = omega arith;
      asks = refl;
      made = made_none;
      ends = spells_none;
      unchanged = λ same still. refl;
    } in
    subst (λ s. IsFrame size s drawing done ask bytes) (sym is)
    (subst (λ d. IsFrame size (Drawn old drawn_at) d done ask bytes) same
    (subst (λ b. IsFrame size (Drawn old drawn_at) old b ask bytes) (sym still) (subst (λ b. IsFrame size (Drawn old drawn_at) old false ask b) (sym none) empty)))
