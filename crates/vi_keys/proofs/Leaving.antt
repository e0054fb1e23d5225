-- What commands with operators leave.
use Rattle.std.proofs.Common.{◌≡◌, ℕ, ◌-◌, ◌*◌, ◌==◌, ◌<◌, ◌≤◌, min, max, Bool, true, false, not, ◌&&◌, nat_lt, if◌then◌else◌, List, [], ◌∷◌, Option, None, Some, is_some, refl, sym, ap, subst, ◌∙◌, arith}
use Rattle.std.proofs.lemmas.Bool.Decides.{nat_tests}
use Rattle.key_names.specs.declared.key.Key.{Key}
use Rattle.text_doc.specs.Document.{Document}
use Rattle.edit_buffer.specs.declared.rings.Clip.{Clip}
use Rattle.edit_state.specs.declared.arguments.Arg.{Arg}
use Rattle.edit_state.specs.declared.arguments.Amount.TheVariants.{Forward, Backward}
use Rattle.edit_state.specs.declared.states.EditState.{EditState}
use Rattle.edit_state.specs.declared.vi_states.ViState.{ViState}
use Rattle.edit_state.specs.declared.vi_states.Find.{Find}
use Rattle.edit_state.specs.declared.vi_states.Operator.{Operator}
use Rattle.edit_state.specs.declared.vi_states.Operator.TheVariants.{Delete, Yank}
use Rattle.edit_state.specs.Arguments.{amount_in, amount_by, counted, count_of, number_of_digits}
use Rattle.edit_state.specs.CharMoves.{place_ahead}
use Rattle.edit_state.specs.StateEdits.{gone_to, killed}
use Rattle.edit_buffer.specs.BufferState.{BufferState}
use Rattle.edit_buffer.specs.Edits.{applied}
use Rattle.edit_buffer.specs.Rings.{with_clip}
use Rattle.edit_buffer.specs.declared.edits.Edit.TheVariants as edit
use Rattle.vi_keys.specs.declared.commands.ViCommand.{ViCommand}
use Rattle.vi_keys.specs.declared.commands.ViCommand.TheVariants.{CutAhead, DeleteOperator, MoveRight}
use Rattle.vi_keys.specs.declared.motions.Motion.{Motion}
use Rattle.vi_keys.specs.declared.motions.Motion.TheVariants.{Left, Right, Down, Up, RowStart, RowText, RowEnd, WordStart, WordBack, WordLast, FirstRow, LastRow, Character, LastFind, LastFindTurned, Bracket}
use Rattle.vi_keys.specs.declared.motions.Kind.TheVariants.{Exclusive}
use Rattle.vi_keys.specs.declared.motions.Reach.{Reach}
use Rattle.vi_keys.specs.Deeds.{motion_of, motion_or, operation_or, operation_of, other_of}
use Rattle.vi_keys.specs.Reaches.{reach, reach_of, find_of}
use Rattle.vi_keys.specs.Spans.{span_of, clip_of}
use Rattle.vi_keys.specs.Plans.{count_for, ended}
use Rattle.vi_keys.specs.Plans.{counted as count_in}
use Rattle.vi_keys.specs.Operating.{taken, operated}
use Rattle.vi_keys.specs.Moving.{moving_by, with_find, with_made}
use Rattle.vi_keys.specs.Acts.{acted}
use Rattle.vi_keys.specs.Planning.{plan_for}
use Rattle.vi_keys.specs.Running.{ran, vi_after, carried_out, settled, left_behind, is_idle, is_navigation, stands_out}
use Rattle.vi_keys.specs.Laws.{SameEdit, EndsAlone}

rest_text : (c : Bool) (s : EditState) (at : ℕ) → (if c then gone_to s at else s).buffer.doc.text ≡ s.buffer.doc.text
rest_text true s at = refl
rest_text false s at = refl

-- where the cursor rests changes no text
pub settled_text : (v : ViState) (s : EditState) → (settled v s).buffer.doc.text ≡ s.buffer.doc.text
settled_text v s = rest_text (is_idle v && stands_out s.buffer.doc) s _

yank_taken : (command : ViCommand) (v w : ViState) (s : EditState) (r : Option Reach)
    → (carried_out (taken Yank s.buffer.doc r w) command v s).buffer.doc.text ≡ s.buffer.doc.text
yank_taken command v w s None = settled_text w (left_behind command v s)
yank_taken command v w s (Some r) =
    settled_text (ended w) (left_behind command v (acted (operated Yank s.buffer.doc (span_of s.buffer.doc r)) s))

-- what holds of a waiting operator that takes what a motion passes holds of the command of that motion
pub taken_moves : (P : EditState → ViState → Type 0) (command : ViCommand) (motion : Motion) (operator : Operator) (key : Key) (s : EditState) (v : ViState)
    → motion_of command ≡ Some motion → v.operator ≡ Some operator
    → (let plan = taken operator s.buffer.doc (reach_of motion key s v.last_find (count_for s v)) (with_find motion key (ended v)) in P (carried_out plan command v s) plan.vi)
    → P (ran command key s v) (vi_after command key s v)
taken_moves P command motion operator key s v is waits holds =
    let Q : Option Operator → Type 0 = λ o. (let plan = moving_by o motion s (reach_of motion key s v.last_find (count_for s v)) (count_for s v) (with_find motion key (ended v)) in P (carried_out plan command v s) plan.vi) in
    let moves : Q v.operator = subst Q (sym waits) holds in
    let R : Option Motion → Type 0 = λ o. (let plan = plan_for (motion_or o (operation_or (operation_of command) (other_of command))) key s v in P (carried_out plan command v s) plan.vi) in
    subst R (sym is) moves

pub yank_text : (command : ViCommand) (motion : Motion) (key : Key) (s : EditState) (v : ViState) → motion_of command ≡ Some motion → v.operator ≡ Some Yank
    → (ran command key s v).buffer.doc.text ≡ s.buffer.doc.text
yank_text command motion key s v is waits =
    taken_moves (λ t w. t.buffer.doc.text ≡ s.buffer.doc.text) command motion Yank key s v is waits
    (yank_taken command v (with_find motion key (ended v)) s (reach_of motion key s v.last_find (count_for s v)))

still : (c d : Bool) (s : EditState) (at : ℕ) → d ≡ false → (if c && d then gone_to s at else s) ≡ s
still true true s at e = absurd (grind arith)
still true false s at e = refl
still false d s at e = refl

-- a cursor that may rest where it is stays
pub settled_still : (v : ViState) (s : EditState) → stands_out s.buffer.doc ≡ false → settled v s ≡ s
settled_still v s e = still (is_idle v) (stands_out s.buffer.doc) s _ e

made_idle : (find : Option Find) (v : ViState) → (with_made find v).operator ≡ v.operator
made_idle None v = refl
made_idle (Some find) v = refl

find_idle : (motion : Motion) (key : Key) (v : ViState) → (with_find motion key v).operator ≡ v.operator
find_idle Left key v = refl
find_idle Right key v = refl
find_idle Down key v = refl
find_idle Up key v = refl
find_idle RowStart key v = refl
find_idle RowText key v = refl
find_idle RowEnd key v = refl
find_idle (WordStart big) key v = refl
find_idle (WordBack big) key v = refl
find_idle (WordLast big) key v = refl
find_idle FirstRow key v = refl
find_idle LastRow key v = refl
find_idle (Character forward before) key v = made_idle (find_of forward before key) v
find_idle LastFind key v = refl
find_idle LastFindTurned key v = refl
find_idle Bracket key v = refl

none_taken : (command : ViCommand) (operator : Operator) (v w : ViState) (s : EditState) (r : Option Reach) → w.operator ≡ None → r ≡ None → stands_out s.buffer.doc ≡ false
    → (let plan = taken operator s.buffer.doc r w in EndsAlone s (carried_out plan command v s) plan.vi)
none_taken command operator v w s None idle none rests =
    let e : settled w (left_behind command v s) ≡ left_behind command v s = settled_still w (left_behind command v s) rests in
    record {
      operator = idle;
      edit = record { document = ap (λ (t : EditState). t.buffer.doc) e; ring = ap (λ (t : EditState). t.ring) e };
    }
none_taken command operator v w s (Some r) idle none rests = absurd (cc none)

pub no_place : (command : ViCommand) (motion : Motion) (operator : Operator) (key : Key) (s : EditState) (v : ViState) → motion_of command ≡ Some motion → v.operator ≡ Some operator
    → reach_of motion key s v.last_find (count_for s v) ≡ None → stands_out s.buffer.doc ≡ false → EndsAlone s (ran command key s v) (vi_after command key s v)
no_place command motion operator key s v is waits none rests =
    taken_moves (λ t w. EndsAlone s t w) command motion operator key s v is waits
    (none_taken command operator v (with_find motion key (ended v)) s (reach_of motion key s v.last_find (count_for s v)) (find_idle motion key (ended v)) none rests)

-- no count is greater than 999,999
number_small : (number : ℕ) (c : Bool) → nat_lt number 1000000 ≡ c → (if c then number else 1) ≤ 999999
number_small number true e = let below : number < 1000000 = grind (arith, nat_tests) in omega (arith, below)
number_small number false e = omega arith

counted_small : (number : ℕ) → counted number ≤ 999999
counted_small number = number_small number (nat_lt number 1000000) refl

least_small : (n : ℕ) → n ≤ 999999 → max n 1 ≤ 999999
least_small n small = omega arith

back_one : (c : Bool) (number : ℕ) → count_of (if c then Backward number else Forward 0) ≡ 1
back_one true number = refl
back_one false number = refl

one_small : (n : ℕ) → n ≡ 1 → n ≤ 999999
one_small n one = omega arith

amount_small : (negative : Bool) (digits : List ℕ) → count_of (amount_by negative digits) ≤ 999999
amount_small false digits = least_small (counted (number_of_digits digits)) (counted_small (number_of_digits digits))
amount_small true [] = one_small 1 refl
amount_small true (digit ∷ digits) =
    one_small _ (back_one (nat_lt 0 (counted (number_of_digits (digit ∷ digits)))) (counted (number_of_digits (digit ∷ digits))))

pub count_small : (arg : Option Arg) → count_of (amount_in arg) ≤ 999999
count_small None = one_small 1 refl
count_small (Some arg) = amount_small arg.negative arg.digits

same_removal : (c : Bool) (s t : EditState) (from to at : ℕ) (clip : Clip) → s.buffer ≡ t.buffer → s.ring ≡ t.ring
    → SameEdit (if c then s else gone_to (killed s from to clip) at) (if c then t else gone_to (killed t from to clip) at)
same_removal true s t from to at clip eb er = record { document = ap (λ (b : BufferState). b.doc) eb; ring = er }
same_removal false s t from to at clip eb er = record {
  document = ap (λ (b : BufferState). (applied (applied b (edit.Delete from to)) (edit.Cursor at)).doc) eb;
  ring = ap (λ (r : List Clip). with_clip r clip) er;
}

same_rest : (c d : Bool) (a b : EditState) → c ≡ d → SameEdit a b
    → SameEdit (if c then gone_to a (a.buffer.doc.cursor - 1) else a) (if d then gone_to b (b.buffer.doc.cursor - 1) else b)
same_rest true true a b e same = record { document = ap (λ (d : Document). record d { cursor = d.cursor - 1 }) same.document; ring = same.ring }
same_rest false false a b e same = same
same_rest true false a b e same = absurd (grind arith)
same_rest false true a b e same = absurd (grind arith)

same_settled : (v w : ViState) (a b : EditState) → is_idle v ≡ is_idle w → SameEdit a b → SameEdit (settled v a) (settled w b)
same_settled v w a b e same =
    same_rest (is_idle v && stands_out a.buffer.doc) (is_idle w && stands_out b.buffer.doc) a b
    (ap (λ (c : Bool). c && stands_out a.buffer.doc) e ∙ ap (λ (d : Document). is_idle w && stands_out d) same.document) same

same_left : (c d : ViCommand) (v w : ViState) (a b : EditState) → SameEdit a b → SameEdit (left_behind c v a) (left_behind d w b)
same_left c d v w a b same = record { document = same.document; ring = same.ring }

pub and_false : (c : Bool) → c && false ≡ false
and_false true = refl
and_false false = refl

waiting_still : (c d : Bool) (s : EditState) (at : ℕ) → c ≡ false → (if c && d then gone_to s at else s) ≡ s
waiting_still true d s at e = absurd (grind arith)
waiting_still false d s at e = refl

-- while an operator waits the cursor rests where it is
settled_waiting : (v : ViState) (operator : Operator) (s : EditState) → v.operator ≡ Some operator → settled v s ≡ s
settled_waiting v operator s waits =
    let e : is_idle v ≡ false = ap (λ (o : Option Operator). is_navigation v.mode && not (is_some o)) waits ∙ and_false (is_navigation v.mode) in
    waiting_still (is_idle v) (stands_out s.buffer.doc) s _ e

pub cut_is_delete : (key first second : Key) (s : EditState) (v : ViState)
    → SameEdit (ran CutAhead key s v) (ran MoveRight second (ran DeleteOperator first s v) (vi_after DeleteOperator first s v))
cut_is_delete key first second s v =
    let d = s.buffer.doc in
    let k = count_in s in
    let waiting : ViState = record v { operator = Some Delete; operator_count = min 999999 k } in
    let t : EditState = left_behind DeleteOperator v s in
    let P : EditState → Type 0 = λ x. SameEdit (ran CutAhead key s v) (ran MoveRight second x waiting) in
    let C : ℕ → Type 0 = λ n. SameEdit (ran CutAhead key s v) (carried_out (taken Delete d (Some (reach Exclusive (place_ahead d n))) (ended waiting)) MoveRight waiting t) in
    let small : k ≤ 999999 = count_small s.arg in
    let count : k ≡ min 999999 (1 * min 999999 k) = omega (arith, small) in
    let span = span_of d (reach Exclusive (place_ahead d k)) in
    subst P (sym (settled_waiting waiting Delete t refl)) (subst C count
    (same_settled (ended v) (ended (ended waiting)) _ _ refl (same_left CutAhead MoveRight v waiting _ _
    (same_removal (span.from == span.to) s t span.from span.to span.from (clip_of d span) refl refl))))
