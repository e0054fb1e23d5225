-- What characters read as: each is printed, or belongs to a control function of ECMA-48 (5th edition) or of xterm.
use Rattle.std.specs.Prelude.{ℕ, Bool, true, false, List, [], ◌∷◌, ◌++◌, Option, Some, None, ◌==◌, ◌||◌, nat_lt, max, if◌then◌else◌}
use Rattle.std.specs.Int.{is_in_range}
use Rattle.characters.specs.ControlCharacters.{is_parameter, is_intermediate, is_final}
use Rattle.term_model.specs.Parameters.{numbers}

-- a control function with what it is given, or a character to print
pub data Control : Type 0 where
  -- CARRIAGE RETURN (8.3.15) and LINE FEED (8.3.74)
  CR : Control
  LF : Control
  -- CURSOR UP (8.3.22), CURSOR RIGHT (8.3.20) and CURSOR LEFT (8.3.18), by some places
  CUU : ℕ → Control
  CUF : ℕ → Control
  CUB : ℕ → Control
  -- ERASE IN LINE (8.3.41) and ERASE IN PAGE (8.3.39), from the cursor to the end
  EL : Control
  ED : Control
  -- SELECT GRAPHIC RENDITION (8.3.117), by some numbers
  SGR : List ℕ → Control
  -- xterm's DEC private modes 7 (autowrap), 25 (the cursor is visible) and 2004 (bracketed paste), set or reset
  DECAWM : Bool → Control
  DECTCEM : Bool → Control
  BracketedPaste : Bool → Control
  -- one without an effect: a control character, an escape or control sequence that is not known, or one that another character breaks off
  Ignored : Control
  -- a character that is no control
  Print : ℕ → Control

-- the number where there is just one
abbrev pub only : List ℕ → Option ℕ
only [] = None
only (n ∷ []) = Some n
only (n ∷ m ∷ ns) = None

-- the number behind `?`, the mark of a private mode
abbrev pub private_number : List ℕ → Option ℕ
private_number [] = None
private_number (c ∷ cs) = if c == 63 then only (numbers cs) else None

-- a cursor control goes at least one place
abbrev pub stepped : (ℕ → Control) → Option ℕ → Control
stepped control None = Ignored
stepped control (Some n) = control (max 1 n)

-- erasing is given no parameters
abbrev pub erasing : Control → List ℕ → Control
erasing control [] = control
erasing control (c ∷ cs) = Ignored

-- attributes are given some numbers
abbrev pub rendition : List ℕ → Control
rendition [] = Ignored
rendition (n ∷ ns) = SGR (n ∷ ns)

-- the private modes that are known
abbrev pub mode : Bool → Option ℕ → Control
mode on None = Ignored
mode on (Some n) =
    if n == 7 then DECAWM on else if n == 25 then DECTCEM on else if n == 2004 then BracketedPaste on else Ignored

-- the function of a control sequence with these parameters, no intermediate and this final character
abbrev pub function_of : List ℕ → ℕ → Control
function_of params final =
    if final == 65 then stepped CUU (only (numbers params))
    else if final == 67 then stepped CUF (only (numbers params))
    else if final == 68 then stepped CUB (only (numbers params))
    else if final == 74 then erasing ED params
    else if final == 75 then erasing EL params
    else if final == 104 then mode true (private_number params)
    else if final == 108 then mode false (private_number params)
    else if final == 109 then rendition (numbers params)
    else Ignored

-- how far the characters so far have come
pub data Read : Type 0 where
  -- between control sequences
  between : Read
  -- behind ESC
  escape : Read
  -- behind CSI, which is `ESC [`, and these parameters
  parameters : List ℕ → Read
  -- behind CSI, parameters and an intermediate: no such sequence has an effect
  intermediates : Read

-- the control characters: C0, DELETE and C1
abbrev pub is_control : ℕ → Bool
is_control c = nat_lt c 0x20 || is_in_range 0x7F 0x9F c

-- a character between control sequences
abbrev pub next_plain : ℕ → Read × List Control
next_plain c =
    if c == 0x1B then (escape, [])
    else if c == 0x0D then (between, CR ∷ [])
    else if c == 0x0A then (between, LF ∷ [])
    else if is_control c then (between, Ignored ∷ [])
    else (between, Print c ∷ [])

-- a character that fits none of a control sequence breaks it off, and is read anew
abbrev pub next_broken : ℕ → Read × List Control
next_broken c = ((next_plain c).0, Ignored ∷ (next_plain c).1)

-- what the next character leads to, and the controls that it completes
abbrev pub next_of : Read → ℕ → Read × List Control
next_of between c = next_plain c
next_of escape c = if c == 0x5B then (parameters [], []) else (between, Ignored ∷ [])
next_of (parameters params) c =
    if is_parameter c then (parameters (params ++ c ∷ []), [])
    else if is_intermediate c then (intermediates, [])
    else if is_final c then (between, function_of params c ∷ [])
    else next_broken c
next_of intermediates c =
    if is_intermediate c then (intermediates, []) else if is_final c then (between, Ignored ∷ []) else next_broken c

-- the controls that the characters read as, in order: a sequence that is not finished gives none
abbrev pub controls_from : Read → List ℕ → List Control
controls_from read [] = []
controls_from read (c ∷ cs) = (next_of read c).1 ++ controls_from (next_of read c).0 cs

-- how far the characters come
abbrev pub read_after : Read → List ℕ → Read
read_after read [] = read
read_after read (c ∷ cs) = read_after (next_of read c).0 cs
