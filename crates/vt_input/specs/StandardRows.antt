-- What a contract sees of the standard table: the sequences of xterm's keyboard, in the order of their characters.
use Rattle.std.specs.Prelude.{ℕ, List, [], ◌∷◌, codes}
use Rattle.key_names.specs.declared.key.Key.{Key}
use Rattle.key_names.specs.declared.key.Key.TheVariants.{Control, Escape, Up, Down, Left, Right, Home, End, Insert, Delete, PageUp, PageDown, BackTab, Function, ShiftUp, ShiftDown, ShiftLeft, ShiftRight, ControlUp, ControlDown, ControlLeft, ControlRight, Paste}
use Rattle.vt_input.specs.declared.row.SeqRow.{SeqRow}

abbrev pub row : List ℕ → Key → SeqRow
row text key = record { text = text; key = key }

-- the 75 sequences that are keys
abbrev pub standard_rows : List SeqRow
standard_rows =
    row (0 ∷ []) (Control 64) ∷
    row (1 ∷ []) (Control 97) ∷
    row (2 ∷ []) (Control 98) ∷
    row (3 ∷ []) (Control 99) ∷
    row (4 ∷ []) (Control 100) ∷
    row (5 ∷ []) (Control 101) ∷
    row (6 ∷ []) (Control 102) ∷
    row (7 ∷ []) (Control 103) ∷
    row (8 ∷ []) (Control 104) ∷
    row (9 ∷ []) (Control 105) ∷
    row (10 ∷ []) (Control 106) ∷
    row (11 ∷ []) (Control 107) ∷
    row (12 ∷ []) (Control 108) ∷
    row (13 ∷ []) (Control 109) ∷
    row (14 ∷ []) (Control 110) ∷
    row (15 ∷ []) (Control 111) ∷
    row (16 ∷ []) (Control 112) ∷
    row (17 ∷ []) (Control 113) ∷
    row (18 ∷ []) (Control 114) ∷
    row (19 ∷ []) (Control 115) ∷
    row (20 ∷ []) (Control 116) ∷
    row (21 ∷ []) (Control 117) ∷
    row (22 ∷ []) (Control 118) ∷
    row (23 ∷ []) (Control 119) ∷
    row (24 ∷ []) (Control 120) ∷
    row (25 ∷ []) (Control 121) ∷
    row (26 ∷ []) (Control 122) ∷
    row (27 ∷ []) Escape ∷
    row (27 ∷ codes "OA") Up ∷
    row (27 ∷ codes "OB") Down ∷
    row (27 ∷ codes "OC") Right ∷
    row (27 ∷ codes "OD") Left ∷
    row (27 ∷ codes "OF") End ∷
    row (27 ∷ codes "OH") Home ∷
    row (27 ∷ codes "OP") (Function 1) ∷
    row (27 ∷ codes "OQ") (Function 2) ∷
    row (27 ∷ codes "OR") (Function 3) ∷
    row (27 ∷ codes "OS") (Function 4) ∷
    row (27 ∷ codes "[15~") (Function 5) ∷
    row (27 ∷ codes "[17~") (Function 6) ∷
    row (27 ∷ codes "[18~") (Function 7) ∷
    row (27 ∷ codes "[19~") (Function 8) ∷
    row (27 ∷ codes "[1;2A") ShiftUp ∷
    row (27 ∷ codes "[1;2B") ShiftDown ∷
    row (27 ∷ codes "[1;2C") ShiftRight ∷
    row (27 ∷ codes "[1;2D") ShiftLeft ∷
    row (27 ∷ codes "[1;5A") ControlUp ∷
    row (27 ∷ codes "[1;5B") ControlDown ∷
    row (27 ∷ codes "[1;5C") ControlRight ∷
    row (27 ∷ codes "[1;5D") ControlLeft ∷
    row (27 ∷ codes "[1~") Home ∷
    row (27 ∷ codes "[200~") Paste ∷
    row (27 ∷ codes "[20~") (Function 9) ∷
    row (27 ∷ codes "[21~") (Function 10) ∷
    row (27 ∷ codes "[23~") (Function 11) ∷
    row (27 ∷ codes "[24~") (Function 12) ∷
    row (27 ∷ codes "[2~") Insert ∷
    row (27 ∷ codes "[3~") Delete ∷
    row (27 ∷ codes "[4~") End ∷
    row (27 ∷ codes "[5~") PageUp ∷
    row (27 ∷ codes "[6~") PageDown ∷
    row (27 ∷ codes "[7~") Home ∷
    row (27 ∷ codes "[8~") End ∷
    row (27 ∷ codes "[A") Up ∷
    row (27 ∷ codes "[B") Down ∷
    row (27 ∷ codes "[C") Right ∷
    row (27 ∷ codes "[D") Left ∷
    row (27 ∷ codes "[F") End ∷
    row (27 ∷ codes "[H") Home ∷
    row (27 ∷ codes "[Z") BackTab ∷
    row (28 ∷ []) (Control 92) ∷
    row (29 ∷ []) (Control 93) ∷
    row (30 ∷ []) (Control 94) ∷
    row (31 ∷ []) (Control 95) ∷
    row (127 ∷ []) (Control 104) ∷ []
