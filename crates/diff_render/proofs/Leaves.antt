-- What each step of the writer leads to.
use Prim.Native.Nat.{suc}
use Rattle.std.proofs.Common.{◌≡◌, ℕ, ◌+◌, ◌-◌, ◌<◌, ◌≤◌, ◌⊎◌, Bool, true, false, List, [], ◌∷◌, ◌++◌, length, nat_lt}
use Rattle.std.proofs.Common.{min, map, Option, refl, sym, ap, ◌∙◌, subst, arith, length-append, ⊎_elim}
use Rattle.std.proofs.Common.{encode_utf8_all, unwrap_or, if◌then◌else◌}
use Rattle.std.specs.List.{list_all}
use Rattle.std.specs.Fmt.{decimal}
use Rattle.std.proofs.lemmas.Fmt.{length-decimal-le}
use Rattle.std.proofs.lemmas.Bool.{cases_lt}
use Rattle.std.proofs.lemmas.Bool.Decides.{nat_tests}
use Rattle.std.proofs.lemmas.List.{length-replicate}
use Rattle.cell_grid.specs.declared.cell.Cell.{Cell}
use Rattle.cell_grid.specs.declared.cell.Cell.TheVariants.{Lead}
use Rattle.cell_grid.specs.declared.attrs.Attrs.{Attrs}
use Rattle.cell_grid.specs.Attrs.{plain}
use Rattle.cell_grid.specs.Row.{blank_row, laid_at, put_at}
use Rattle.cell_grid.specs.Grid.{blank_rows}
use Rattle.term_model.specs.Parameters.{is_numeric, numbers}
use Rattle.characters.specs.ControlCharacters.{is_parameter}
use Rattle.term_model.specs.Controls.{Control, Print, CR, LF, CUU, CUF, CUB, EL, ED, SGR, only, stepped, rendition}
use Rattle.term_model.specs.Obeying.{width_of}
use Rattle.term_model.specs.Rendition.{styled}
use Rattle.diff_render.specs.declared.writer.Writer.{Writer}
use Rattle.diff_render.specs.Canvas.{Canvas, canvas_of, Draws, Does, Spells, IsQuiet}
use Rattle.cell_grid.specs.Drawable.{AllJoining, IsCharacter, IsPen}
use Rattle.diff_render.specs.Spelling.{arrow, numbers_of, joined, listed_by, spelled_pen, IsBytePen}
use Rattle.diff_render.specs.Pieces.{Piece, Return, Feed, Up, Right, Left, EraseLine, ErasePage, Pen, Added, spelled}
use Rattle.diff_render.specs.Pieces.{IsPiece, IsMade}
use Rattle.diff_render.specs.Writer.{written, canvas_at, IsPlaced, Moves, Grows, Writes, Erases, ErasesBelow, Stood}
use Rattle.diff_render.proofs.Reading.{weaker, spells_low, spells_sequence, parameter_numeric, decimal_numeric}
use Rattle.diff_render.proofs.Reading.{stepped_decimal, quiet_sequence, quiet_others, listed_by_numeric, numbers_anew}
use Rattle.diff_render.proofs.Reading.{numbers_added, rendition_some}
use Rattle.diff_render.proofs.Made.{made_of, made_text}
use Rattle.diff_render.proofs.PenNumbers.{small_numbers, pen_length, styled_numbers, styled_added, some_numbers}
use Rattle.diff_render.proofs.Texts.{AllPrinted, spells_text, quiet_text, length_text, printed_width}
use Rattle.diff_render.proofs.Steps.{does_return, does_right, does_left, does_up, does_down, does_grow, does_pen}
use Rattle.diff_render.proofs.Printing.{AllJoin, does_print, touches_print, does_erase, does_erase_below, same_height}
use Rattle.diff_render.proofs.Drawing.{follows, draws_same}
use lib.Utf8.{scalars}

-- ---- a piece behind what was written

pub stood_more : (ok : ℕ → ℕ → Bool) (old new : Writer) (from : Canvas) (lines new_lines : List (List Cell)) (bytes : List ℕ) (row col : ℕ) (pen : Attrs)
    → Stood ok old from lines → Draws old.rows old.cols ok bytes (canvas_at old lines) (canvas_of new_lines row col pen)
    → written new ≡ written old ++ bytes → new.row ≡ row → new.col ≡ col → new.pen ≡ pen → new.rows ≡ old.rows → new.cols ≡ old.cols
    → length new_lines ≡ new.height → Stood ok new from new_lines
stood_more ok old new from lines new_lines bytes row col pen stood piece wrote r c p rows cols count = record {
  drawn = draws_same old.rows old.cols new.rows new.cols ok (written old ++ bytes) (written new) from (canvas_of new_lines row col pen) (canvas_at new new_lines)
      rows cols wrote (λ i. canvas_of new_lines (r i) (c i) (p i)) (follows old.rows old.cols ok (written old) bytes from (canvas_at old lines) (canvas_of new_lines row col pen) stood.drawn piece);
  count = count;
}

shorter : (old new : Writer) (bytes : List ℕ) (cost : ℕ) → written new ≡ written old ++ bytes → length bytes ≤ cost → length (written new) ≤ length (written old) + cost
shorter old new bytes cost wrote few = omega (arith, ap length wrote, length-append (written old) bytes)

-- the equations of a step that changes no line
pub record Steps (old new : Writer) (bytes : List ℕ) (row col : ℕ) (pen : Attrs) : Type 0 where
  pub wrote : written new ≡ written old ++ bytes
  pub row_is : new.row ≡ row
  pub col_is : new.col ≡ col
  pub pen_is : new.pen ≡ pen
  pub rows_are : new.rows ≡ old.rows
  pub cols_are : new.cols ≡ old.cols
  pub height_is : new.height ≡ old.height

moves_by : (old new : Writer) (bytes : List ℕ) (row col : ℕ) (pen : Attrs) (cost : ℕ) → IsPlaced old → Steps old new bytes row col pen → length bytes ≤ cost
    → row < old.height → col < old.cols
    → ((ok : ℕ → ℕ → Bool) (lines : List (List Cell)) → length lines ≡ old.height → Draws old.rows old.cols ok bytes (canvas_at old lines) (canvas_of lines row col pen))
    → Moves old new row col pen cost
moves_by old new bytes row col pen cost placed steps few r c piece = record {
  stands = λ ok from lines stood. stood_more ok old new from lines lines bytes row col pen stood (piece ok lines stood.count)
      steps.wrote steps.row_is steps.col_is steps.pen_is steps.rows_are steps.cols_are (stood.count ∙ sym steps.height_is);
  to_row = steps.row_is;
  to_col = steps.col_is;
  to_pen = steps.pen_is;
  same = record { rows = steps.rows_are; cols = steps.cols_are; height = steps.height_is };
  placed = record {
    few_rows = omega (arith, steps.rows_are, placed.few_rows);
    few_cols = omega (arith, steps.cols_are, placed.few_cols);
    tall = omega (arith, steps.rows_are, steps.height_is, placed.tall);
    on_line = omega (arith, steps.row_is, steps.height_is);
    in_line = omega (arith, steps.col_is, steps.cols_are);
  };
  short = shorter old new bytes cost steps.wrote few;
}

-- ---- arrows

abbrev arrow_params : ℕ → List ℕ
arrow_params n = if nat_lt 1 n then decimal n else []

arrow_parameters : (n : ℕ) → n ≤ 9999 → list_all is_parameter (arrow_params n) ≡ true
arrow_parameters n few = ⊎_elim
    (λ (more : 1 < n). let t : nat_lt 1 n ≡ true = grind (arith, nat_tests) in
    rw t (weaker is_numeric is_parameter parameter_numeric (decimal n) (decimal_numeric n (omega arith))))
    (λ (one : n ≤ 1). let t : nat_lt 1 n ≡ false = grind (arith, nat_tests) in rw t refl)
    (cases_lt 1 n)

arrow_means : (control : ℕ → Control) (n : ℕ) → 0 < n → n ≤ 9999 → stepped control (only (numbers (arrow_params n))) ≡ control n
arrow_means control n some few = ⊎_elim
    (λ (more : 1 < n). let t : nat_lt 1 n ≡ true = grind (arith, nat_tests) in rw t (stepped_decimal control n some few))
    (λ (one : n ≤ 1). let t : nat_lt 1 n ≡ false = grind (arith, nat_tests) in let is : 1 ≡ n = omega arith in rw t (ap control is))
    (cases_lt 1 n)

pub arrow_length : (n letter : ℕ) → n ≤ 999 → length (arrow n letter) ≤ 6
arrow_length n letter few =
    let digits : length (decimal n) ≤ 3 = length-decimal-le 3 n (omega arith) (omega arith) (omega arith) in
    let params : length (arrow_params n) ≤ 3 = ⊎_elim
    (λ (more : 1 < n). let t : nat_lt 1 n ≡ true = grind (arith, nat_tests) in rw t digits)
    (λ (one : n ≤ 1). let t : nat_lt 1 n ≡ false = grind (arith, nat_tests) in rw t (omega arith))
    (cases_lt 1 n) in
    omega (arith, length-append (27 ∷ 91 ∷ arrow_params n) (letter ∷ []))

pub moves_right : (old new : Writer) (n : ℕ) → IsPlaced old → 0 < n → old.col + n < old.cols → Steps old new (arrow n 67) old.row (old.col + n) old.pen
    → Moves old new old.row (old.col + n) old.pen 6
moves_right old new n placed some fits steps =
    let few : n ≤ 999 = omega (arith, placed.few_cols) in
    moves_by old new (arrow n 67) old.row (old.col + n) old.pen 6 placed steps (arrow_length n 67 few) placed.on_line fits
    (λ ok lines count. record {
      controls = CUF n ∷ [];
      spells = subst (λ c. Spells (arrow n 67) (c ∷ [])) (arrow_means CUF n some (omega arith)) (spells_sequence (arrow_params n) 67 (arrow_parameters n (omega arith)) refl refl refl refl);
      quiet = quiet_sequence (arrow_params n) 67 (arrow_parameters n (omega arith)) refl refl refl;
      made = made_of (Right n) (some, few);
      stands = does_right old.rows old.cols lines old.row old.col old.pen n fits;
      touches = λ t base good x on. refl;
    })

pub moves_left : (old new : Writer) (n : ℕ) → IsPlaced old → 0 < n → n ≤ old.col → Steps old new (arrow n 68) old.row (old.col - n) old.pen
    → Moves old new old.row (old.col - n) old.pen 6
moves_left old new n placed some fits steps =
    let few : n ≤ 999 = omega (arith, placed.few_cols, placed.in_line) in
    moves_by old new (arrow n 68) old.row (old.col - n) old.pen 6 placed steps (arrow_length n 68 few) placed.on_line (omega (arith, placed.in_line))
    (λ ok lines count. record {
      controls = CUB n ∷ [];
      spells = subst (λ c. Spells (arrow n 68) (c ∷ [])) (arrow_means CUB n some (omega arith)) (spells_sequence (arrow_params n) 68 (arrow_parameters n (omega arith)) refl refl refl refl);
      quiet = quiet_sequence (arrow_params n) 68 (arrow_parameters n (omega arith)) refl refl refl;
      made = made_of (Left n) (some, few);
      stands = does_left old.rows old.cols lines old.row old.col old.pen n;
      touches = λ t base good x on. refl;
    })

pub moves_up : (old new : Writer) (n : ℕ) → IsPlaced old → 0 < n → n ≤ old.row → Steps old new (arrow n 65) (old.row - n) old.col old.pen
    → Moves old new (old.row - n) old.col old.pen 6
moves_up old new n placed some fits steps =
    let few : n ≤ 999 = omega (arith, placed.few_rows, placed.tall, placed.on_line) in
    moves_by old new (arrow n 65) (old.row - n) old.col old.pen 6 placed steps (arrow_length n 65 few) (omega (arith, placed.on_line)) placed.in_line
    (λ ok lines count. record {
      controls = CUU n ∷ [];
      spells = subst (λ c. Spells (arrow n 65) (c ∷ [])) (arrow_means CUU n some (omega arith)) (spells_sequence (arrow_params n) 65 (arrow_parameters n (omega arith)) refl refl refl refl);
      quiet = quiet_sequence (arrow_params n) 65 (arrow_parameters n (omega arith)) refl refl refl;
      made = made_of (Up n) (some, few);
      stands = does_up old.rows old.cols lines old.row old.col old.pen n fits;
      touches = λ t base good x on. refl;
    })

pub spells_up : (n : ℕ) → 0 < n → n ≤ 999 → Spells (arrow n 65) (CUU n ∷ [])
spells_up n some few = subst (λ c. Spells (arrow n 65) (c ∷ [])) (arrow_means CUU n some (omega arith)) (spells_sequence (arrow_params n) 65 (arrow_parameters n (omega arith)) refl refl refl refl)

pub quiet_up : (n : ℕ) → n ≤ 999 → IsQuiet (arrow n 65)
quiet_up n few = quiet_sequence (arrow_params n) 65 (arrow_parameters n (omega arith)) refl refl refl

-- ---- CR and LF

pub moves_home : (old new : Writer) → IsPlaced old → Steps old new (13 ∷ []) old.row 0 old.pen → Moves old new old.row 0 old.pen 1
moves_home old new placed steps =
    moves_by old new (13 ∷ []) old.row 0 old.pen 1 placed steps (omega arith) placed.on_line (omega (arith, placed.in_line))
    (λ ok lines count. record {
      controls = CR ∷ [];
      spells = spells_low (13 ∷ []) (CR ∷ []) refl (λ rest. refl);
      quiet = quiet_others (13 ∷ []) refl;
      made = made_of Return tt;
      stands = does_return old.rows old.cols lines old.row old.col old.pen;
      touches = λ t base good x on. refl;
    })

pub moves_down : (old new : Writer) → IsPlaced old → old.row + 1 < old.height → Steps old new (10 ∷ []) (old.row + 1) old.col old.pen
    → Moves old new (old.row + 1) old.col old.pen 1
moves_down old new placed fits steps =
    moves_by old new (10 ∷ []) (old.row + 1) old.col old.pen 1 placed steps (omega arith) fits placed.in_line
    (λ ok lines count. record {
      controls = LF ∷ [];
      spells = spells_low (10 ∷ []) (LF ∷ []) refl (λ rest. refl);
      quiet = quiet_others (10 ∷ []) refl;
      made = made_of Feed tt;
      stands = does_down old.rows old.cols lines old.row old.col old.pen (omega (arith, placed.tall)) (omega arith);
      touches = λ t base good x on. refl;
    })

pub grows_by_line : (old new : Writer) → IsPlaced old → old.row + 1 ≡ old.height → old.height < old.rows → old.pen ≡ plain
    → written new ≡ written old ++ 10 ∷ [] → new.row ≡ old.row + 1 → new.col ≡ old.col → new.pen ≡ old.pen → new.rows ≡ old.rows → new.cols ≡ old.cols
    → new.height ≡ old.height + 1 → Grows old new
grows_by_line old new placed last room pen wrote row col pen_is rows cols height = record {
  stands = λ ok from lines stood.
      let piece : Draws old.rows old.cols ok (10 ∷ []) (canvas_at old lines) (canvas_of (lines ++ blank_row old.cols ∷ []) (old.row + 1) old.col old.pen) = record {
        controls = LF ∷ [];
        spells = spells_low (10 ∷ []) (LF ∷ []) refl (λ rest. refl);
        quiet = quiet_others (10 ∷ []) refl;
        made = made_of Feed tt;
        stands = subst (λ p. Does old.rows old.cols (LF ∷ []) (canvas_of lines old.row old.col p) (canvas_of (lines ++ blank_row old.cols ∷ []) (old.row + 1) old.col p)) (sym pen)
            (does_grow old.rows old.cols lines old.row old.col (omega (arith, stood.count)) (omega (arith, stood.count)));
        touches = λ t base good x on. refl;
      } in
      stood_more ok old new from lines (lines ++ blank_row old.cols ∷ []) (10 ∷ []) (old.row + 1) old.col old.pen stood piece wrote row col pen_is rows cols
      (omega (arith, length-append lines (blank_row old.cols ∷ []), stood.count));
  to_row = row;
  to_col = col;
  to_pen = pen_is;
  rows = rows;
  cols = cols;
  height = height;
  placed = record {
    few_rows = omega (arith, placed.few_rows);
    few_cols = omega (arith, placed.few_cols);
    tall = omega arith;
    on_line = omega arith;
    in_line = omega (arith, placed.in_line);
  };
  short = shorter old new (10 ∷ []) 1 wrote (omega arith);
}

-- ---- pens

-- the sequence of some attributes does this to a pen
moves_styled : (old new : Writer) (adds : Bool) (attrs pen : Attrs) (piece : Piece) (numbers_are : List ℕ) → spelled piece ≡ spelled_pen adds attrs → IsPiece piece
    → IsPlaced old → IsPen attrs → IsBytePen attrs → numbers (listed_by adds (numbers_of attrs)) ≡ numbers_are → rendition numbers_are ≡ SGR numbers_are
    → styled old.pen numbers_are ≡ pen → Steps old new (spelled_pen adds attrs) old.row old.col pen → Moves old new old.row old.col pen 52
moves_styled old new adds attrs pen piece numbers_are is right placed good bytes reads some style steps =
    let small = small_numbers attrs good bytes in
    let params = weaker is_numeric is_parameter parameter_numeric (listed_by adds (numbers_of attrs)) (listed_by_numeric adds (numbers_of attrs) small) in
    moves_by old new (spelled_pen adds attrs) old.row old.col pen 52 placed steps (pen_length adds attrs good bytes) placed.on_line placed.in_line
    (λ ok lines count. record {
      controls = SGR numbers_are ∷ [];
      spells = subst (λ c. Spells (spelled_pen adds attrs) (c ∷ [])) (ap rendition reads ∙ some)
          (spells_sequence (listed_by adds (numbers_of attrs)) 109 params refl refl refl refl);
      quiet = quiet_sequence (listed_by adds (numbers_of attrs)) 109 params refl refl refl;
      made = subst IsMade is (made_of piece right);
      stands = does_pen old.rows old.cols lines old.row old.col old.pen pen numbers_are style;
      touches = λ t base good x on. refl;
    })

pub moves_pen : (old new : Writer) (pen : Attrs) → IsPlaced old → IsPen pen → IsBytePen pen → Steps old new (spelled_pen false pen) old.row old.col pen
    → Moves old new old.row old.col pen 52
moves_pen old new pen placed good bytes steps =
    moves_styled old new false pen pen (Pen pen) (0 ∷ numbers_of pen) refl (good, bytes) placed good bytes
    (numbers_anew (numbers_of pen) (small_numbers pen good bytes)) refl (styled_numbers old.pen pen good bytes) steps

pub moves_added : (old new : Writer) (more : Attrs) (pen : Attrs) → IsPlaced old → IsPen more → IsBytePen more → (more ≡ plain → ⊥) → joined old.pen more ≡ pen
    → Steps old new (spelled_pen true more) old.row old.col pen → Moves old new old.row old.col pen 52
moves_added old new more pen placed good bytes some is steps =
    let added = some_numbers more some in
    moves_styled old new true more pen (Added more) (numbers_of more) refl (good, bytes, added) placed good bytes
    (numbers_added (numbers_of more) (small_numbers more good bytes) added) (rendition_some (numbers_of more) added)
    (styled_added old.pen more good bytes ∙ is) steps

pub moves_plain : (old new : Writer) → IsPlaced old → Steps old new (27 ∷ 91 ∷ 109 ∷ []) old.row old.col plain → Moves old new old.row old.col plain 3
moves_plain old new placed steps =
    moves_by old new (27 ∷ 91 ∷ 109 ∷ []) old.row old.col plain 3 placed steps (omega arith) placed.on_line placed.in_line
    (λ ok lines count. record {
      controls = SGR (0 ∷ []) ∷ [];
      spells = spells_low (27 ∷ 91 ∷ 109 ∷ []) (SGR (0 ∷ []) ∷ []) refl (λ rest. refl);
      quiet = quiet_sequence [] 109 refl refl refl refl;
      made = made_of (Pen plain) ((tt, tt), (tt, tt));
      stands = does_pen old.rows old.cols lines old.row old.col old.pen plain (0 ∷ []) refl;
      touches = λ t base good x on. refl;
    })

-- ---- cells

joining : (zs : List ℕ) → AllJoining zs → AllJoin zs
joining [] h = tt
joining (z ∷ zs) h = (ap (λ (w : Option ℕ). unwrap_or w 0) h.0, joining zs h.1)

joining_printed : (zs : List ℕ) → AllJoining zs → AllPrinted zs
joining_printed [] h = tt
joining_printed (z ∷ zs) h = (printed_width z 0 h.0, joining_printed zs h.1)

-- the equations of printing
pub record Prints (old new : Writer) (text : List ℕ) (width : ℕ) : Type 0 where
  pub wrote : written new ≡ written old ++ encode_utf8_all text
  pub row_is : new.row ≡ old.row
  pub col_is : new.col ≡ min (old.col + width) (old.cols - 1)
  pub pen_is : new.pen ≡ old.pen
  pub rows_are : new.rows ≡ old.rows
  pub cols_are : new.cols ≡ old.cols
  pub height_is : new.height ≡ old.height

pub writes_cell : (old new : Writer) (text : List ℕ) (width : ℕ) → IsPlaced old → IsCharacter text width → (width ≡ 1) ⊎ (width ≡ 2) → old.col + width ≤ old.cols
    → length text ≤ 8 → scalars text ≡ true → Prints old new text width → Writes old new (Lead text width old.pen) 32
writes_cell old new [] width placed is one_or_two fits few valid prints = absurd is
writes_cell old new (c ∷ zs) width placed is one_or_two fits few valid prints =
    let printed : AllPrinted (c ∷ zs) = (printed_width c width is.0, joining_printed zs is.1) in
    let wide : width_of c ≡ width = ap (λ (w : Option ℕ). unwrap_or w 0) is.0 in
    record {
      stands = λ ok from above below line place long passes stood.
          let n : length (above ++ line ∷ below) ≤ old.rows = omega (arith, stood.count, placed.tall) in
          let piece : Draws old.rows old.cols ok (encode_utf8_all (c ∷ zs)) (canvas_at old (above ++ line ∷ below))
          (canvas_of (above ++ put_at line old.col (Lead (c ∷ zs) width old.pen) ∷ below) old.row (min (old.col + width) (old.cols - 1)) old.pen) = record {
            controls = Print c ∷ map Print zs;
            spells = spells_text (c ∷ zs) printed valid;
            quiet = quiet_text (c ∷ zs) printed;
            made = made_text (c ∷ zs) printed valid;
            stands = does_print old.rows old.cols above below line old.row old.col old.pen c width zs place n long wide one_or_two fits (joining zs is.1) (omega arith);
            touches = touches_print ok old.rows old.cols (above ++ line ∷ below) old.row old.col old.pen c width zs n wide one_or_two fits (joining zs is.1) passes;
          } in
          stood_more ok old new from (above ++ line ∷ below) (above ++ put_at line old.col (Lead (c ∷ zs) width old.pen) ∷ below) (encode_utf8_all (c ∷ zs))
          old.row (min (old.col + width) (old.cols - 1)) old.pen stood piece prints.wrote prints.row_is prints.col_is prints.pen_is prints.rows_are prints.cols_are
          (same_height above below line (put_at line old.col (Lead (c ∷ zs) width old.pen)) ∙ stood.count ∙ sym prints.height_is);
      to_row = prints.row_is;
      to_pen = prints.pen_is;
      same = record { rows = prints.rows_are; cols = prints.cols_are; height = prints.height_is };
      placed = record {
        few_rows = omega (arith, prints.rows_are, placed.few_rows);
        few_cols = omega (arith, prints.cols_are, placed.few_cols);
        tall = omega (arith, prints.rows_are, prints.height_is, placed.tall);
        on_line = omega (arith, prints.row_is, prints.height_is, placed.on_line);
        in_line = omega (arith, prints.col_is, prints.cols_are, placed.in_line);
      };
      short = shorter old new (encode_utf8_all (c ∷ zs)) 32 prints.wrote (omega (arith, length_text (c ∷ zs)));
    }

-- ---- erasing

pub erases_line : (old new : Writer) → IsPlaced old → old.pen ≡ plain → Steps old new (27 ∷ 91 ∷ 75 ∷ []) old.row old.col old.pen → Erases old new
erases_line old new placed pen steps = record {
  stands = λ ok from above below line place stood.
      let after = above ++ laid_at line old.col (blank_row (old.cols - old.col)) ∷ below in
      let piece : Draws old.rows old.cols ok (27 ∷ 91 ∷ 75 ∷ []) (canvas_at old (above ++ line ∷ below)) (canvas_of after old.row old.col old.pen) = record {
        controls = EL ∷ [];
        spells = spells_low (27 ∷ 91 ∷ 75 ∷ []) (EL ∷ []) refl (λ rest. refl);
        quiet = quiet_sequence [] 75 refl refl refl refl;
        made = made_of EraseLine tt;
        stands = subst (λ p. Does old.rows old.cols (EL ∷ []) (canvas_of (above ++ line ∷ below) old.row old.col p) (canvas_of after old.row old.col p)) (sym pen)
            (does_erase old.rows old.cols above below line old.row old.col place (omega (arith, stood.count, placed.tall)));
        touches = λ t base good x on. refl;
      } in
      stood_more ok old new from (above ++ line ∷ below) after (27 ∷ 91 ∷ 75 ∷ []) old.row old.col old.pen stood piece
      steps.wrote steps.row_is steps.col_is steps.pen_is steps.rows_are steps.cols_are
      (same_height above below line (laid_at line old.col (blank_row (old.cols - old.col))) ∙ stood.count ∙ sym steps.height_is);
  to_row = steps.row_is;
  to_col = steps.col_is;
  to_pen = steps.pen_is;
  same = record { rows = steps.rows_are; cols = steps.cols_are; height = steps.height_is };
  placed = record {
    few_rows = omega (arith, steps.rows_are, placed.few_rows);
    few_cols = omega (arith, steps.cols_are, placed.few_cols);
    tall = omega (arith, steps.rows_are, steps.height_is, placed.tall);
    on_line = omega (arith, steps.row_is, steps.height_is, placed.on_line);
    in_line = omega (arith, steps.col_is, steps.cols_are, placed.in_line);
  };
  short = shorter old new (27 ∷ 91 ∷ 75 ∷ []) 3 steps.wrote (omega arith);
}

pub erases_below : (old new : Writer) → IsPlaced old → old.pen ≡ plain → Steps old new (27 ∷ 91 ∷ 74 ∷ []) old.row old.col old.pen → ErasesBelow old new
erases_below old new placed pen steps = record {
  stands = λ ok from above below line place stood.
      let blanks = blank_rows (length below) old.cols in
      let erased = laid_at line old.col (blank_row (old.cols - old.col)) in
      let after = above ++ erased ∷ blanks in
      let piece : Draws old.rows old.cols ok (27 ∷ 91 ∷ 74 ∷ []) (canvas_at old (above ++ line ∷ below)) (canvas_of after old.row old.col old.pen) = record {
        controls = ED ∷ [];
        spells = spells_low (27 ∷ 91 ∷ 74 ∷ []) (ED ∷ []) refl (λ rest. refl);
        quiet = quiet_sequence [] 74 refl refl refl refl;
        made = made_of ErasePage tt;
        stands = subst (λ p. Does old.rows old.cols (ED ∷ []) (canvas_of (above ++ line ∷ below) old.row old.col p) (canvas_of after old.row old.col p)) (sym pen)
            (does_erase_below old.rows old.cols above below line old.row old.col place (omega (arith, stood.count, placed.tall)));
        touches = λ t base good x on. refl;
      } in
      stood_more ok old new from (above ++ line ∷ below) after (27 ∷ 91 ∷ 74 ∷ []) old.row old.col old.pen stood piece
      steps.wrote steps.row_is steps.col_is steps.pen_is steps.rows_are steps.cols_are
      (length-append above (erased ∷ blanks) ∙ ap (λ n. length above + suc n) (length-replicate (length below) (blank_row old.cols))
      ∙ sym (length-append above (line ∷ below)) ∙ stood.count ∙ sym steps.height_is);
  to_row = steps.row_is;
  to_col = steps.col_is;
  to_pen = steps.pen_is;
  same = record { rows = steps.rows_are; cols = steps.cols_are; height = steps.height_is };
  placed = record {
    few_rows = omega (arith, steps.rows_are, placed.few_rows);
    few_cols = omega (arith, steps.cols_are, placed.few_cols);
    tall = omega (arith, steps.rows_are, steps.height_is, placed.tall);
    on_line = omega (arith, steps.row_is, steps.height_is, placed.on_line);
    in_line = omega (arith, steps.col_is, steps.cols_are, placed.in_line);
  };
  short = shorter old new (27 ∷ 91 ∷ 74 ∷ []) 3 steps.wrote (omega arith);
}
