-- The answer that is worked out tells what it is to tell.
use Rattle.std.proofs.Common.{◌≡◌, ℕ, Bool, true, false, length, Option, Some, None, is_some, ◌&&◌, if◌then◌else◌, refl, sym, ap, ◌∙◌, arith}
use Rattle.text_doc.specs.Document.{Document}
use Rattle.edit_buffer.specs.declared.menus.Menu.{Menu}
use Rattle.edit_state.specs.declared.arguments.Arg.{Arg}
use Rattle.edit_state.specs.declared.states.EditState.{EditState}
use Rattle.edit_state.specs.declared.states.Done.{Done}
use Rattle.edit_state.specs.declared.vi_states.ViState.{ViState}
use Rattle.edit_state.specs.MenuMoves.{stops}
use Rattle.vi_keys.specs.declared.acts.Act.{Act}
use Rattle.vi_keys.specs.declared.acts.Act.TheVariants.{Stay, Go, RowsDown, RowsUp, AutoDown, AutoUp, Exchange, Remove, Put, Undo, Redo, Digit}
use Rattle.vi_keys.specs.declared.acts.Told.{Told}
use Rattle.vi_keys.specs.declared.acts.Told.TheVariants.{Rang, Edited, Kept}
use Rattle.vi_keys.specs.declared.running.Rest.{Rest}
use Rattle.vi_keys.specs.Answering.{bones, Rings, Reported, ReportedUnless, Reports, IsAsBefore, Answers, named, done_by, answer_of, digits_of, named_in_menu, named_by}
use Rattle.edit_state.specs.StateEdits.{gone_to}
use Rattle.vi_keys.specs.declared.commands.ViCommand.{ViCommand}
use Rattle.vi_keys.specs.declared.acts.Marks.{Marks}
use Rattle.vi_keys.specs.declared.acts.Marks.TheVariants.{Keep, Clear, Set}
use Rattle.vi_keys.specs.Acts.{marked}
use Rattle.vi_keys.specs.Deeds.{deed_of}
use Rattle.vi_keys.specs.Running.{rest_of, settled, left_behind, keeps_argument, is_idle, stands_out}

-- a state by its bones and the rest
rebuilt : EditState → ℕ → Option ℕ → Option Arg → Option ℕ → Option ℕ → Option Document → EditState
rebuilt x cursor mark arg previous column paste = record x {
  buffer = record x.buffer { doc = record x.buffer.doc { cursor = cursor; mark = mark } };
  arg = arg;
  previous = previous;
  column = column;
  before_paste = paste;
}

rebuilt_same : (x y : EditState) (c d : ℕ) (m n : Option ℕ) (g h : Option Arg) (p : Option ℕ) (k l : Option ℕ) (q r : Option Document)
    → x ≡ y → c ≡ d → m ≡ n → g ≡ h → k ≡ l → q ≡ r → rebuilt x c m g p k q ≡ rebuilt y d n h p l r
rebuilt_same x y c d m n g h p k l q r ex ec em eg ek eq = rw (ex, ec, em, eg, ek, eq) refl

-- states of the same bones and the same rest are the same, but for the command that ran last
whole : (a b : EditState) → bones a ≡ bones b → a.buffer.doc.cursor ≡ b.buffer.doc.cursor → a.buffer.doc.mark ≡ b.buffer.doc.mark → a.arg ≡ b.arg
    → a.column ≡ b.column → a.before_paste ≡ b.before_paste → a ≡ record b { previous = a.previous }
unfolding rebuilt
whole a b eb ec em eg ek eq =
    rebuilt_same (bones a) (bones b) a.buffer.doc.cursor b.buffer.doc.cursor a.buffer.doc.mark b.buffer.doc.mark a.arg b.arg a.previous a.column b.column a.before_paste b.before_paste eb ec em eg ek eq

none_pasted : (q : Option Document) → false ≡ is_some q → None ≡ q
none_pasted None same = refl
none_pasted (Some doc) same = cc

-- nothing differs where the rest does not
pub as_before : (s t : EditState) (v w : ViState) → bones t ≡ bones s → rest_of t w ≡ rest_of s v → (digits_of t.arg ≡ digits_of s.arg → t.arg ≡ s.arg)
    → t.before_paste ≡ None → IsAsBefore s v t w
as_before s t v w eb er arg paste =
    let digits : digits_of t.arg ≡ digits_of s.arg = ap (λ (r : Rest). r.digits) er in
    let pasted : is_some t.before_paste ≡ is_some s.before_paste = ap (λ (r : Rest). r.pasted) er in
    let gone : false ≡ is_some s.before_paste = ap is_some (sym paste) ∙ pasted in
    record {
      state = whole t s eb (ap (λ (r : Rest). r.cursor) er) (ap (λ (r : Rest). r.mark) er) (arg digits) (ap (λ (r : Rest). r.column) er) (paste ∙ none_pasted s.before_paste gone);
      vi = ap (λ (r : Rest). r.vi) er;
    }

-- where nothing differs the bones and the rest do not
pub bones_as_before : (s t : EditState) (v w : ViState) → IsAsBefore s v t w → bones t ≡ bones s
bones_as_before s t v w same = ap bones same.state

pub rest_as_before : (s t : EditState) (v w : ViState) → IsAsBefore s v t w → rest_of t w ≡ rest_of s v
rest_as_before s t v w same = ap (λ (x : EditState). rest_of x w) same.state ∙ ap (λ (u : ViState). rest_of s u) same.vi

told_answers : (told : Told) (differs : Bool) (rings same : Type 0) (s u : EditState) → Reported told rings s u → (bones u ≡ bones s → differs ≡ false → same)
    → (same → (bones u ≡ bones s) × (differs ≡ false)) → Answers None rings (done_by told differs) same
told_answers Rang differs rings same s u reported whole parts = ((λ e. reported.rang.0 refl, λ r. refl), tt)
told_answers Edited differs rings same s u reported whole parts =
    ((λ e. absurd (grind arith), λ r. absurd (let e : Edited ≡ Rang = reported.rang.1 r in grind arith)), λ is. reported.edited refl (parts is).0)
told_answers Kept true rings same s u reported whole parts =
    ((λ e. absurd (grind arith), λ r. absurd (let e : Kept ≡ Rang = reported.rang.1 r in grind arith)), λ is. absurd (let e : true ≡ false = (parts is).1 in grind arith))
told_answers Kept false rings same s u reported whole parts =
    ((λ e. absurd (grind arith), λ r. absurd (let e : Kept ≡ Rang = reported.rang.1 r in grind arith)), whole (reported.kept refl) refl)

menu_answers : (menu : Option Menu) (stopped : Bool) (told : Told) (differs : Bool) (same : Type 0) (s u : EditState) → ReportedUnless menu stopped told s u
    → (bones u ≡ bones s → differs ≡ false → same) → (same → (bones u ≡ bones s) × (differs ≡ false))
    → Answers (named_in_menu menu stopped) ⊥ (done_by told differs) same
menu_answers None stopped told differs same s u reported whole parts = told_answers told differs ⊥ same s u reported whole parts
menu_answers (Some m) true told differs same s u reported whole parts = ap (λ (t : Told). done_by t differs) reported
menu_answers (Some m) false told differs same s u reported whole parts = ap (λ (t : Told). done_by t differs) reported

effect_answers : (effect : Act) (told : Told) (differs : Bool) (same : Type 0) (s u : EditState) → Reports told effect s u
    → (bones u ≡ bones s → differs ≡ false → same) → (same → (bones u ≡ bones s) × (differs ≡ false))
    → Answers (named_by effect s) (Rings effect s) (done_by told differs) same
effect_answers Stay told differs same s u reports whole parts = told_answers told differs ⊥ same s u reports whole parts
effect_answers (Go at) told differs same s u reports whole parts = told_answers told differs ⊥ same s u reports whole parts
effect_answers (RowsDown count) told differs same s u reports whole parts = told_answers told differs ⊥ same s u reports whole parts
effect_answers (RowsUp count) told differs same s u reports whole parts = told_answers told differs ⊥ same s u reports whole parts
effect_answers (AutoDown count) told differs same s u reports whole parts =
    menu_answers s.buffer.menu (stops true count s.buffer.menu) told differs same s u reports whole parts
effect_answers (AutoUp count) told differs same s u reports whole parts =
    menu_answers s.buffer.menu (stops false count s.buffer.menu) told differs same s u reports whole parts
effect_answers (Exchange from to text at) told differs same s u reports whole parts = told_answers told differs ⊥ same s u reports whole parts
effect_answers (Remove from to at clip) told differs same s u reports whole parts = told_answers told differs ⊥ same s u reports whole parts
effect_answers (Put at clip) told differs same s u reports whole parts = ap (λ (t : Told). done_by t differs) reports
effect_answers Undo told differs same s u reports whole parts = told_answers told differs _ same s u reports whole parts
effect_answers Redo told differs same s u reports whole parts = told_answers told differs _ same s u reports whole parts
effect_answers (Digit c) told differs same s u reports whole parts = told_answers told differs ⊥ same s u reports whole parts

-- the answer of a plan
pub answered : (said : Option Done) (effect : Act) (told : Told) (differs : Bool) (same : Type 0) (s u : EditState) → Reports told effect s u
    → (bones u ≡ bones s → differs ≡ false → same) → (same → (bones u ≡ bones s) × (differs ≡ false))
    → Answers (named said effect s) (Rings effect s) (answer_of said (done_by told differs)) same
answered (Some done) effect told differs same s u reports whole parts = refl
answered None effect told differs same s u reports whole parts = effect_answers effect told differs same s u reports whole parts

rest_keeps : (c : Bool) (s : EditState) (at : ℕ) → ((if c then gone_to s at else s).arg ≡ s.arg) × ((if c then gone_to s at else s).before_paste ≡ s.before_paste)
rest_keeps true s at = (refl, refl)
rest_keeps false s at = (refl, refl)

settled_keeps : (v : ViState) (s : EditState) → ((settled v s).arg ≡ s.arg) × ((settled v s).before_paste ≡ s.before_paste)
settled_keeps v s = rest_keeps (is_idle v && stands_out s.buffer.doc) s _

mark_arg : (marks : Marks) (s : EditState) → (marked marks s).arg ≡ s.arg
mark_arg Keep s = refl
mark_arg Clear s = refl
mark_arg Set s = refl

no_digits : (arg : Option Arg) → digits_of None ≡ digits_of arg → None ≡ arg
no_digits None same = refl
no_digits (Some arg) same = absurd (let e : digits_of None ≡ Some (length arg.digits) = same in cc e)

kept_or_none : (c : Bool) (kept before after : Option Arg) → after ≡ (if c then kept else None) → (digits_of kept ≡ digits_of before → kept ≡ before) → digits_of after ≡ digits_of before → after ≡ before
kept_or_none true kept before after is same digits = is ∙ same (ap digits_of (sym is) ∙ digits)
kept_or_none false kept before after is same digits = is ∙ no_digits before (ap digits_of (sym is) ∙ digits)

-- the argument after a command, which keeps that of its effect or has none
pub left_arg : (command : ViCommand) (v w : ViState) (marks : Marks) (s u t : EditState) → t ≡ settled w (left_behind command v (marked marks u))
    → (digits_of u.arg ≡ digits_of s.arg → u.arg ≡ s.arg) → digits_of t.arg ≡ digits_of s.arg → t.arg ≡ s.arg
left_arg command v w marks s u t is same digits =
    let m : EditState = marked marks u in
    let keeps : Bool = keeps_argument (deed_of command) in
    let after : t.arg ≡ (if keeps then m.arg else None) = ap (λ (x : EditState). x.arg) is ∙ (settled_keeps w (left_behind command v m)).0 in
    let kept : t.arg ≡ (if keeps then u.arg else None) = after ∙ ap (λ (a : Option Arg). if keeps then a else None) (mark_arg marks u) in
    kept_or_none keeps u.arg s.arg t.arg kept same digits

-- no document from before a paste is left
pub left_paste : (command : ViCommand) (v w : ViState) (m t : EditState) → t ≡ settled w (left_behind command v m) → t.before_paste ≡ None
left_paste command v w m t is = ap (λ (x : EditState). x.before_paste) is ∙ (settled_keeps w (left_behind command v m)).1
