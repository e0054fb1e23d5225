-- How a terminal that shows a drawing begins the next one.
use Rattle.std.proofs.Common.{◌≡◌, ℕ, ◌+◌, ◌-◌, ◌≤◌, Bool, true, false, List, ◌++◌, max, length, take, refl, ap, sym}
use Rattle.std.proofs.Common.{◌∙◌, arith, append_assoc, length-take}
use Rattle.std.proofs.lemmas.List.{take-append-le, take_all}
use Rattle.cell_grid.specs.Grid.{blank_rows}
use Rattle.cell_grid.specs.declared.cell.Cell.{Cell}
use Rattle.cell_grid.specs.declared.drawing.Drawing.{Drawing}
use Rattle.cell_grid.specs.Size.{Extent}
use Rattle.term_model.specs.Obeying.{forgotten, line_of}
use Rattle.term_model.specs.Term.{Term, IsTerminal}
use Rattle.diff_render.specs.Canvas.{top_for}
use Rattle.diff_render.specs.Frames.{put, put_rows, Agree, Begins, IsBaseOf, base_after, screen_after}
use Rattle.diff_render.specs.declared.shown.OnScreen.{OnScreen}
use Rattle.diff_render.specs.declared.shown.OnScreen.TheVariants.{Nothing, Drawn, Resized}

-- what a terminal remembers of the place printed last makes no difference to what it shows of a drawing
put-forgotten : (t : Term) (base : ℕ) (drawing : Drawing) (done : Bool) → put (forgotten t) base drawing done ≡ put t base drawing done
put-forgotten t base drawing true = refl
put-forgotten t base drawing false = refl

-- terminals that agree show a drawing alike
pub put-agree : (s t : Term) (base : ℕ) (drawing : Drawing) (done : Bool) → Agree s t → put s base drawing done ≡ put t base drawing done
put-agree s t base drawing done agree =
    sym (put-forgotten s base drawing done) ∙ ap (λ x. put x base drawing done) agree ∙ put-forgotten t base drawing done

-- a base line is not above the window
pub top_low : (shown : OnScreen) (t : Term) (base : ℕ) → IsBaseOf shown t base → t.top ≤ base
top_low Nothing t base is = omega (arith, is)
top_low (Drawn drawing size) t base is = is.0
top_low (Resized row) t base is = omega (arith, is)

-- nor below the cursor's line
pub base_low : (shown : OnScreen) (t : Term) (base : ℕ) → IsBaseOf shown t base → base ≤ line_of t
base_low Nothing t base is = omega (arith, is)
base_low (Drawn drawing size) t base is = omega (arith, ap (λ x. x.top) is.1, ap (λ x. x.row) is.1)
base_low (Resized row) t base is = omega (arith, is)

-- so the lines before it are there
base_within : (size : Extent) (shown : OnScreen) (t : Term) (base : ℕ) → Begins size shown t base → base ≤ length t.lines
base_within size shown t base begins = omega (arith, base_low shown t base begins.base_line, begins.terminal.count, begins.terminal.row)

take_front : {A : Type 0} → (base : ℕ) (lines rest : List A) → base ≤ length lines → take base (take base lines ++ rest) ≡ take base lines
take_front base lines rest within =
    let long : length (take base lines) ≡ base = omega (arith, length-take base lines) in
    take-append-le base (take base lines) rest (omega (arith, long)) ∙ take_all base (take base lines) (omega (arith, long))

-- a drawing that is shown again from the same line on is shown as before
put-again : (t : Term) (base : ℕ) (drawing : Drawing) → base ≤ length t.lines → put (put t base drawing false) base drawing false ≡ put t base drawing false
put-again t base drawing within =
    let top = top_for t base (length drawing.grid) in
    let same : max top (base + length drawing.grid - t.rows) ≡ top = omega arith in
    let behind : List (List Cell) = blank_rows (top + t.rows - base - length drawing.grid) t.cols in
    let front : take base (take base t.lines ++ drawing.grid ++ behind) ≡ take base t.lines =
    ap (take base) (append_assoc (take base t.lines) drawing.grid behind) ∙ take_front base t.lines (drawing.grid ++ behind) within in
    ap (λ n. put_rows (put t base drawing false) base drawing.grid n (base + drawing.row) drawing.col false) same
    ∙ ap (λ lines. record (put t base drawing false) { lines = lines ++ drawing.grid ++ behind }) front

-- a terminal that shows a drawing from a line on begins the next frame there
pub begins_again : (size : Extent) (shown : OnScreen) (t new : Term) (base : ℕ) (drawing : Drawing) → Begins size shown t base → IsTerminal new
    → length drawing.grid ≤ size.rows → Agree new (put t base drawing false) → Begins size (Drawn drawing size) new base
begins_again size shown t new base drawing begins terminal high agree =
    let low : t.top ≤ base = top_low shown t base begins.base_line in
    let top : new.top ≡ top_for t base (length drawing.grid) = ap (λ x. x.top) agree in
    let rows : new.rows ≡ t.rows = ap (λ x. x.rows) agree in
    let cols : new.cols ≡ t.cols = ap (λ x. x.cols) agree in
    record {
      terminal = terminal;
      tall = rows ∙ begins.tall;
      wide = cols ∙ begins.wide;
      base_line = (
        omega (arith, top, low, high, begins.tall),
        agree ∙ ap forgotten (sym (put-again t base drawing (base_within size shown t base begins)))
            ∙ ap forgotten (sym (put-agree new (put t base drawing false) base drawing false agree)),
      );
    }

-- behind a finished drawing the next one begins on the cursor's line
begins_behind : (size : Extent) (shown : OnScreen) (t new : Term) (base : ℕ) (drawing : Drawing) → Begins size shown t base → IsTerminal new
    → length drawing.grid ≤ size.rows → Agree new (put t base drawing true) → Begins size Nothing new (base + length drawing.grid)
begins_behind size shown t new base drawing begins terminal high agree = record {
  terminal = terminal;
  tall = ap (λ x. x.rows) agree ∙ begins.tall;
  wide = ap (λ x. x.cols) agree ∙ begins.wide;
  base_line = omega (
    arith,
    ap (λ x. x.top) agree,
    ap (λ x. x.row) agree,
    top_low shown t base begins.base_line,
    high,
    begins.tall,
    begins.terminal.row,
  );
}

pub begins_next : (size : Extent) (shown : OnScreen) (t new : Term) (base : ℕ) (drawing : Drawing) (done : Bool) → Begins size shown t base → IsTerminal new
    → length drawing.grid ≤ size.rows → Agree new (put t base drawing done) → Begins size (screen_after done drawing size) new (base_after done drawing base)
begins_next size shown t new base drawing true begins terminal high agree = begins_behind size shown t new base drawing begins terminal high agree
begins_next size shown t new base drawing false begins terminal high agree = begins_again size shown t new base drawing begins terminal high agree
