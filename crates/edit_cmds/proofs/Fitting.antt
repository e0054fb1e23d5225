-- What holds of a command and of its row where the command fits, and where it doesn't.
use Rattle.std.proofs.Common.{◌≡◌, ◌≢◌, ◌↔◌, ℕ, Bool, true, false, Option, None, Some, refl, sym, ap, ◌∙◌, subst}
use Rattle.std.specs.Prelude.{is_some, not, ◌||◌, if◌then◌else◌}
use Rattle.key_names.specs.declared.key.KeyPress.{KeyPress}
use Rattle.edit_buffer.specs.declared.menus.Menu.{Menu}
use Rattle.edit_state.specs.declared.states.EditState.{EditState}
use Rattle.edit_state.specs.declared.states.Search.{Search}
use Rattle.edit_state.specs.declared.states.Done.{Done}
use Rattle.edit_state.specs.declared.states.Done.TheVariants.{Changed, Same, Bell, StartComplete, Accept, Interrupt, EndOfFile}
use Rattle.edit_state.specs.declared.commands.Command.{Command}
use Rattle.edit_state.specs.declared.commands.Command.TheVariants as does
use Rattle.edit_state.specs.Searches.{HasOrigin}
use Rattle.edit_cmds.specs.declared.leaving.Keeps.{Keeps}
use Rattle.edit_cmds.specs.Leaving.{keeping, left_behind, beside_previous, answer_with, LeavesAlone}
use Rattle.edit_cmds.specs.Running.{searches, starts_search, touches_search, fits, row, Rings, named, asks_without, AnswersAs, keeps_of, effect, answer_named, IsToRing}
use Rattle.edit_cmds.proofs.Behind.{answers_behind}
use Rattle.edit_cmds.proofs.Frames.{quiet_self, alone_of_quiet}
use Rattle.edit_cmds.proofs.Rows.{framed}

-- no row names that nothing changed
asks_anew : (menu : Option Menu) → asks_without menu ≢ Some Same
asks_anew None e = cc
asks_anew (Some m) e = cc

named_anew : (command : Command) (s : EditState) → named command s ≢ Some Same
named_anew does.EndOfFile s e = cc
named_anew does.AcceptLine s e = cc
named_anew does.Interrupt s e = cc
named_anew does.MenuComplete s e = asks_anew s.buffer.menu e
named_anew _ s e = cc

fitting_named : (b : Bool) (answer : Option Done) → answer ≢ Some Same → (if b then answer else None) ≢ Some Same
fitting_named true answer anew e = anew e
fitting_named false answer anew e = cc

-- what a row leaves alone, the effect of its command does
alone_fitting : (b : Bool) (keeps : Keeps) (s t : EditState) → LeavesAlone keeps s t → LeavesAlone keeps s (if b then t else s)
alone_fitting true keeps s t alone = alone
alone_fitting false keeps s t alone = alone_of_quiet keeps s s (quiet_self s)

pub alone_effect : (command : Command) (key : KeyPress) (s : EditState) → LeavesAlone (keeps_of command) s (effect command key s)
alone_effect command key s = alone_fitting (fits command s) (keeps_of command) s (row command key s) (framed command key s).alone

-- a named answer stays, whatever is dropped
named_stays : (dropped : Bool) (answer : Done) → answer ≢ Same → answer_with dropped answer ≡ answer
named_stays true Same anew = absurd (anew refl)
named_stays true Changed anew = refl
named_stays true Bell anew = refl
named_stays true StartComplete anew = refl
named_stays true Accept anew = refl
named_stays true Interrupt anew = refl
named_stays true EndOfFile anew = refl
named_stays false answer anew = refl

answers_as_behind : (answer : Option Done) → answer ≢ Some Same → (rings : Type 0) (done : Done) (dropped : Bool) (keeps : Keeps) (number : ℕ) (s t : EditState)
    → LeavesAlone keeps s t → AnswersAs answer rings done s t → ((dropped ≡ false) ↔ (keeping keeps s ≡ s))
    → AnswersAs answer rings (answer_with dropped done) s (beside_previous s (left_behind number keeps t))
answers_as_behind None anew rings done dropped keeps number s t alone row drops = answers_behind rings done dropped keeps number s t alone row drops
answers_as_behind (Some answer) anew rings done dropped keeps number s t alone row drops =
    let other : answer ≢ Same = λ e. anew (ap (λ (d : Done). Some d) e) in
    ap (answer_with dropped) row ∙ named_stays dropped answer other

-- the answer of a command, by that of its effect
pub answers_of_run : (command : Command) (key : KeyPress) (done answer : Done) (dropped : Bool) (number : ℕ) (keeps : Keeps) (s t u : EditState) → keeps ≡ keeps_of command → t ≡ effect command key s
    → u ≡ left_behind number keeps t → answer ≡ answer_with dropped done → AnswersAs (answer_named command s) (IsToRing command key s) done s t → ((dropped ≡ false) ↔ (keeping keeps s ≡ s))
    → AnswersAs (answer_named command s) (IsToRing command key s) answer s (beside_previous s u)
answers_of_run command key done answer dropped number keeps s t u kept is left said answers drops =
    let alone : LeavesAlone (keeps_of command) s t = subst (LeavesAlone (keeps_of command) s) (sym is) (alone_effect command key s) in
    let same : LeavesAlone keeps s t = subst (λ (k : Keeps). LeavesAlone k s t) (sym kept) alone in
    let whole : AnswersAs (answer_named command s) (IsToRing command key s) (answer_with dropped done) s (beside_previous s (left_behind number keeps t)) =
    answers_as_behind (answer_named command s) (fitting_named (fits command s) (named command s) (named_anew command s)) (IsToRing command key s) done dropped keeps number s t same answers drops in
    subst (λ (d : Done). AnswersAs (answer_named command s) (IsToRing command key s) d s (beside_previous s u)) (sym said)
    (subst (λ (v : EditState). AnswersAs (answer_named command s) (IsToRing command key s) (answer_with dropped done) s (beside_previous s v)) (sym left) whole)

-- where the command fits, its effect, its answer and its bell are those of the row
pub effect_fitting : (command : Command) (key : KeyPress) (s : EditState) → fits command s ≡ true → effect command key s ≡ row command key s
effect_fitting command key s fit = rw fit refl

rings_fitting : (answer : Option Done) (rings : Type 0) (fit : Type 0) → fit → (done : Done) (s t : EditState) → AnswersAs answer rings done s t → AnswersAs answer (fit × rings) done s t
rings_fitting None rings fit here done s t row = record { bell = (λ e. (here, row.bell.0 e), λ r. row.bell.1 r.1); tells = row.tells }
rings_fitting (Some answer) rings fit here done s t row = row

pub answers_fitting : (command : Command) (key : KeyPress) (done : Done) (s t : EditState) → fits command s ≡ true → AnswersAs (named command s) (Rings command key s) done s t
    → AnswersAs (answer_named command s) (IsToRing command key s) done s t
answers_fitting command key done s t fit row =
    let e : answer_named command s ≡ named command s = rw fit refl in
    subst (λ (answer : Option Done). AnswersAs answer (IsToRing command key s) done s t) (sym e)
    (rings_fitting (named command s) (Rings command key s) (fits command s ≡ true) fit done s t row)

-- where it doesn't fit, nothing happens
pub answers_unfitting : (command : Command) (key : KeyPress) (s : EditState) → fits command s ≡ false → AnswersAs (answer_named command s) (IsToRing command key s) Same s s
answers_unfitting command key s fit =
    let e : answer_named command s ≡ None = rw fit refl in
    subst (λ (answer : Option Done). AnswersAs answer (IsToRing command key s) Same s s) (sym e)
    (record { bell = (λ b. cc, λ r. let h = r.0 in cc); tells = refl })

-- the origin of a search stays one
none_runs : (search : Option Search) → not (is_some search) ≡ true → search ≡ None
none_runs None none = refl
none_runs (Some search) none = cc

none_fitting : (runs : Bool) (search : Option Search) → runs ≡ false → (if runs then is_some search else not (is_some search)) ≡ true → search ≡ None
none_fitting true search other fit = cc
none_fitting false search other fit = none_runs search fit

untouched : (starts runs : Bool) → (starts || runs) ≡ false → runs ≡ false
untouched true runs e = cc
untouched false runs e = e

origin_by : (touches : Bool) (command : Command) → touches_search command ≡ touches → (key : KeyPress) (s t : EditState) → fits command s ≡ true → t ≡ row command key s → (touches_search command ≡ true → HasOrigin t) → HasOrigin t
origin_by true command is key s t fit done kept = kept is
origin_by false command is key s t fit done kept =
    let none : s.search ≡ None = none_fitting (searches command) s.search (untouched (starts_search command) (searches command) is) fit in
    let after : t.search ≡ None = ap (λ (u : EditState). u.search) done ∙ ((framed command key s).search is ∙ none) in
    λ search e. cc

pub origin_fitting : (command : Command) (key : KeyPress) (s t : EditState) → fits command s ≡ true → t ≡ row command key s → (touches_search command ≡ true → HasOrigin t) → HasOrigin t
origin_fitting command = origin_by (touches_search command) command refl

-- what is left behind does not touch the search
pub origin_behind : (number : ℕ) (keeps : Keeps) (t u : EditState) → u ≡ left_behind number keeps t → HasOrigin t → HasOrigin u
origin_behind number keeps t u left has = subst HasOrigin (sym left) has
