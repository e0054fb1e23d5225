-- What the bytes of a frame are made of: characters of cells and a few control functions, each with one spelling (ECMA-48; xterm for
-- the private modes).
use Rattle.std.specs.Prelude.{◌≡◌, ℕ, ◌≤◌, Bool, true, false, List, [], ◌∷◌, ◌++◌, encode_utf8}
use lib.Utf8.{scalar}
use Rattle.cell_grid.specs.declared.attrs.Attrs.{Attrs}
use Rattle.cell_grid.specs.Drawable.{IsPen}
use Rattle.term_model.specs.Controls.{is_control}
use Rattle.diff_render.specs.Spelling.{arrow, numbers_of, spelled_pen, IsBytePen}

pub data Piece : Type 0 where
  -- a character of a cell
  Character : ℕ → Piece
  -- CARRIAGE RETURN (8.3.15) and LINE FEED (8.3.74)
  Return : Piece
  Feed : Piece
  -- CURSOR UP (8.3.22), CURSOR RIGHT (8.3.20) and CURSOR LEFT (8.3.18), by some places
  Up : ℕ → Piece
  Right : ℕ → Piece
  Left : ℕ → Piece
  -- ERASE IN LINE (8.3.41) and ERASE IN PAGE (8.3.39), from the cursor to the end
  EraseLine : Piece
  ErasePage : Piece
  -- SELECT GRAPHIC RENDITION (8.3.117): these attributes and no others, or these beside those of the pen
  Pen : Attrs → Piece
  Added : Attrs → Piece
  -- autowrap on or off, bracketed paste on or off, and the cursor visible
  Wraps : Bool → Piece
  Pastes : Bool → Piece
  Visible : Piece
  -- DEVICE STATUS REPORT (8.3.35), which asks for the cursor's place
  Question : Piece

-- the bytes of a piece
abbrev pub spelled : Piece → List ℕ
spelled (Character c) = encode_utf8 c
spelled Return = 13 ∷ []
spelled Feed = 10 ∷ []
spelled (Up n) = arrow n 65
spelled (Right n) = arrow n 67
spelled (Left n) = arrow n 68
spelled EraseLine = 27 ∷ 91 ∷ 75 ∷ []
spelled ErasePage = 27 ∷ 91 ∷ 74 ∷ []
spelled (Pen attrs) = spelled_pen false attrs
spelled (Added attrs) = spelled_pen true attrs
spelled (Wraps true) = 27 ∷ 91 ∷ 63 ∷ 55 ∷ 104 ∷ []
spelled (Wraps false) = 27 ∷ 91 ∷ 63 ∷ 55 ∷ 108 ∷ []
spelled (Pastes true) = 27 ∷ 91 ∷ 63 ∷ 50 ∷ 48 ∷ 48 ∷ 52 ∷ 104 ∷ []
spelled (Pastes false) = 27 ∷ 91 ∷ 63 ∷ 50 ∷ 48 ∷ 48 ∷ 52 ∷ 108 ∷ []
spelled Visible = 27 ∷ 91 ∷ 63 ∷ 50 ∷ 53 ∷ 104 ∷ []
spelled Question = 27 ∷ 91 ∷ 54 ∷ 110 ∷ []

-- the bytes of some pieces
abbrev pub spelling : List Piece → List ℕ
spelling [] = []
spelling (piece ∷ pieces) = spelled piece ++ spelling pieces

-- a character is no control, the cursor goes at least one place, the colours are those of a terminal, and some attribute is added
abbrev pub IsPiece : Piece → Type 0
IsPiece (Character c) = (scalar c ≡ true) × (is_control c ≡ false)
IsPiece Return = Unit {0}
IsPiece Feed = Unit {0}
IsPiece (Up n) = (1 ≤ n) × (n ≤ 999)
IsPiece (Right n) = (1 ≤ n) × (n ≤ 999)
IsPiece (Left n) = (1 ≤ n) × (n ≤ 999)
IsPiece EraseLine = Unit {0}
IsPiece ErasePage = Unit {0}
IsPiece (Pen attrs) = IsPen attrs × IsBytePen attrs
IsPiece (Added attrs) = IsPen attrs × IsBytePen attrs × (numbers_of attrs ≡ [] → ⊥)
IsPiece (Wraps on) = Unit {0}
IsPiece (Pastes on) = Unit {0}
IsPiece Visible = Unit {0}
IsPiece Question = Unit {0}

abbrev pub ArePieces : List Piece → Type 0
ArePieces [] = Unit {0}
ArePieces (piece ∷ pieces) = IsPiece piece × ArePieces pieces

-- the bytes are those of some pieces
pub record IsMade (bytes : List ℕ) : Type 0 where
  pub pieces : List Piece
  pub right : ArePieces pieces
  pub is : bytes ≡ spelling pieces
