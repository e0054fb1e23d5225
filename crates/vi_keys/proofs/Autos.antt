-- What moves by rows, lines and choices leave alone.
use Rattle.std.proofs.Common.{◌≡◌, ◌≢◌, ℕ, ◌-◌, ◌+◌, ◌<◌, min, Bool, true, false, nat_lt, ◌&&◌, if◌then◌else◌, length, Option, Some, None, is_some, refl, sym, ap, ◌∙◌, arith}
use Rattle.std.proofs.lemmas.Bool.Decides.{nat_tests}
use Rattle.text_doc.specs.Rows.{line_end}
use Rattle.edit_buffer.specs.declared.menus.Menu.{Menu}
use Rattle.edit_buffer.specs.BufferState.{BufferState, IsBufferState, line_of}
use Rattle.edit_buffer.specs.Moves.{moved_to, can_go_back, gone_back, can_go_forward, gone_forward, line_ahead}
use Rattle.edit_state.specs.declared.states.EditState.{EditState}
use Rattle.edit_state.specs.declared.states.Search.{Search}
use Rattle.edit_state.specs.declared.arguments.Arg.{Arg}
use Rattle.edit_state.specs.RowMoves.{moved_to_row, place_up, place_down, rows_up, rows_down}
use Rattle.edit_state.specs.HistoryMoves.{lines_back, lines_forward}
use Rattle.edit_state.specs.MenuMoves.{choices, chosen_steps}
use Rattle.edit_state.specs.AutoMoves.{row_or_line, up_or_back, down_or_forward, unless_menu}
use Rattle.vi_keys.specs.Answering.{bones, auto_on}
use Rattle.vi_keys.proofs.Bones.{row_keeps, rows_up_keeps, rows_down_keeps}

-- the search and the argument
abbrev pub held : EditState → Option Search × Option Arg
held s = (s.search, s.arg)

choose_held : (c : Bool) (s a b : EditState) → held a ≡ held s → held b ≡ held s → held (if c then a else b) ≡ held s
choose_held true s a b ea eb = ea
choose_held false s a b ea eb = eb

row_held : (s other : EditState) (place : Option ℕ) → held other ≡ held s → held (row_or_line s place other) ≡ held s
row_held s other (Some at) same = refl
row_held s other None same = choose_held (is_some s.buffer.doc.mark) s s other refl same

chosen_held : (forward : Bool) (s : EditState) (steps : ℕ) (menu : Option Menu) → held (chosen_steps forward s steps menu) ≡ held s
chosen_held forward s steps None = refl
chosen_held forward s steps (Some m) = refl

menu_held : (s a b : EditState) (menu : Option Menu) → held a ≡ held s → held b ≡ held s → held (unless_menu menu a b) ≡ held s
menu_held s a b None ea eb = ea
menu_held s a b (Some m) ea eb = eb

-- they keep the search and the argument
pub auto_held : (forward : Bool) (s : EditState) (count : ℕ) → held (auto_on forward s count) ≡ held s
auto_held true s count =
    menu_held s (down_or_forward s count) (choices true s count) s.buffer.menu
    (row_held s (lines_forward s count) (place_down s count) (choose_held (can_go_forward s.buffer count) s _ s refl refl))
    (chosen_held true s count s.buffer.menu)
auto_held false s count =
    menu_held s (up_or_back s count) (choices false s count) s.buffer.menu
    (row_held s (lines_back s count) (place_up s count) (choose_held (can_go_back s.buffer count) s _ s refl refl))
    (chosen_held false s count s.buffer.menu)

pub auto_search : (forward : Bool) (s : EditState) (count : ℕ) → (auto_on forward s count).search ≡ s.search
auto_search forward s count = ap (λ (h : Option Search × Option Arg). h.0) (auto_held forward s count)

pub auto_arg : (forward : Bool) (s : EditState) (count : ℕ) → (auto_on forward s count).arg ≡ s.arg
auto_arg forward s count = ap (λ (h : Option Search × Option Arg). h.1) (auto_held forward s count)

rows_held : (s : EditState) (place : Option ℕ) → held (moved_to_row s place) ≡ held s
rows_held s None = refl
rows_held s (Some at) = refl

pub rows_up_search : (s : EditState) (count : ℕ) → (rows_up s count).search ≡ s.search
rows_up_search s count = ap (λ (h : Option Search × Option Arg). h.0) (rows_held s (place_up s count))

pub rows_up_arg : (s : EditState) (count : ℕ) → (rows_up s count).arg ≡ s.arg
rows_up_arg s count = ap (λ (h : Option Search × Option Arg). h.1) (rows_held s (place_up s count))

pub rows_down_search : (s : EditState) (count : ℕ) → (rows_down s count).search ≡ s.search
rows_down_search s count = ap (λ (h : Option Search × Option Arg). h.0) (rows_held s (place_down s count))

pub rows_down_arg : (s : EditState) (count : ℕ) → (rows_down s count).arg ≡ s.arg
rows_down_arg s count = ap (λ (h : Option Search × Option Arg). h.1) (rows_held s (place_down s count))

-- where the state is the other one, the index differs
choose_bones : (c : Bool) (s a : EditState) → (c ≡ true → a.buffer.index ≢ s.buffer.index) → (if c then a else s).buffer.index ≡ s.buffer.index → bones (if c then a else s) ≡ bones s
choose_bones true s a differs same = absurd (differs refl same)
choose_bones false s a differs same = refl

both : (p q : Bool) → p && q ≡ true → (p ≡ true) × (q ≡ true)
both true true e = (refl, refl)
both true false e = absurd (grind arith)
both false q e = absurd (grind arith)

less : (m n : ℕ) → nat_lt m n ≡ true → m < n
less m n e = grind (arith, nat_tests)

positive : (n : ℕ) → nat_lt 0 n ≡ true → 0 < n
positive n e = less 0 n e

other_back : (b : BufferState) (count : ℕ) → can_go_back b count ≡ true → (gone_back b count).index ≢ b.index
other_back b count can same =
    let went : (gone_back b count).index ≡ b.index - count = ap (λ (c : Bool). (if c then moved_to b (b.index - count) (length (line_of b (b.index - count))) else b).index) can in
    let parts : (nat_lt 0 count ≡ true) × (nat_lt 0 b.index ≡ true) = both (nat_lt 0 count) (nat_lt 0 b.index) can in
    let some : 0 < count = positive count parts.0 in
    let line : 0 < b.index = positive b.index parts.1 in
    let stays : b.index - count ≡ b.index = sym went ∙ same in
    omega (arith, some, line, stays)

other_forward : (b : BufferState) (count : ℕ) → can_go_forward b count ≡ true → (gone_forward b count).index ≢ b.index
other_forward b count can same =
    let went : (gone_forward b count).index ≡ line_ahead b count =
    ap (λ (c : Bool). (if c then moved_to b (line_ahead b count) (line_end (line_of b (line_ahead b count)) 0) else b).index) can in
    let parts : (nat_lt 0 count ≡ true) × (nat_lt (b.index + 1) (length b.lines) ≡ true) = both (nat_lt 0 count) (nat_lt (b.index + 1) (length b.lines)) can in
    let some : 0 < count = positive count parts.0 in
    let line : b.index + 1 < length b.lines = less (b.index + 1) (length b.lines) parts.1 in
    let stays : min (b.index + count) (length b.lines - 1) ≡ b.index = sym went ∙ same in
    omega (arith, some, line, stays)

back_bones : (s : EditState) (count : ℕ) → (lines_back s count).buffer.index ≡ s.buffer.index → bones (lines_back s count) ≡ bones s
back_bones s count same =
    choose_bones (can_go_back s.buffer count) s (record s { buffer = gone_back s.buffer count; column = None }) (other_back s.buffer count) same

forward_bones : (s : EditState) (count : ℕ) → (lines_forward s count).buffer.index ≡ s.buffer.index → bones (lines_forward s count) ≡ bones s
forward_bones s count same =
    choose_bones (can_go_forward s.buffer count) s (record s { buffer = gone_forward s.buffer count; column = None }) (other_forward s.buffer count) same

mark_bones : (c : Bool) (s a : EditState) → (a.buffer.index ≡ s.buffer.index → bones a ≡ bones s) → (if c then s else a).buffer.index ≡ s.buffer.index → bones (if c then s else a) ≡ bones s
mark_bones true s a rest same = refl
mark_bones false s a rest same = rest same

row_bones : (s other : EditState) (place : Option ℕ) → IsBufferState s.buffer → (other.buffer.index ≡ s.buffer.index → bones other ≡ bones s)
    → (row_or_line s place other).buffer.index ≡ s.buffer.index → bones (row_or_line s place other) ≡ bones s
row_bones s other (Some at) kept rest same = row_keeps s (Some at) kept
row_bones s other None kept rest same = mark_bones (is_some s.buffer.doc.mark) s other rest same

menu_bones : (s a b : EditState) (menu : Option Menu) → is_some menu ≡ false → (a.buffer.index ≡ s.buffer.index → bones a ≡ bones s)
    → (unless_menu menu a b).buffer.index ≡ s.buffer.index → bones (unless_menu menu a b) ≡ bones s
menu_bones s a b None none rest same = rest same
menu_bones s a b (Some m) none rest same = absurd (let e : true ≡ false = none in grind arith)

-- without a menu, and on the same working line, no more than the cursor moves
pub auto_bones : (forward : Bool) (s : EditState) (count : ℕ) → IsBufferState s.buffer → is_some s.buffer.menu ≡ false → (auto_on forward s count).buffer.index ≡ s.buffer.index
    → bones (auto_on forward s count) ≡ bones s
auto_bones true s count kept none same =
    menu_bones s (down_or_forward s count) (choices true s count) s.buffer.menu none
    (λ e. row_bones s (lines_forward s count) (place_down s count) kept (forward_bones s count) e) same
auto_bones false s count kept none same =
    menu_bones s (up_or_back s count) (choices false s count) s.buffer.menu none
    (λ e. row_bones s (lines_back s count) (place_up s count) kept (back_bones s count) e) same

-- another working line is told
pub index_tells : (a b : EditState) → a.buffer.index ≢ b.buffer.index → bones a ≢ bones b
index_tells a b differs same = differs (ap (λ (t : EditState). t.buffer.index) same)

-- what is known of them
pub ruleset autos = (auto_bones, index_tells, auto_search, auto_arg)

-- what moves by rows leave
pub ruleset rows = (rows_up_keeps, rows_down_keeps, rows_up_search, rows_up_arg, rows_down_search, rows_down_arg)
