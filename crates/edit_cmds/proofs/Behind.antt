-- What a row answers still holds behind what every command leaves.
use Rattle.std.proofs.Common.{◌≡◌, ◌↔◌, ℕ, Bool, true, false, Option, None, refl, sym, ap, ◌∙◌}
use Rattle.edit_state.specs.declared.states.EditState.{EditState}
use Rattle.edit_state.specs.declared.states.Done.{Done}
use Rattle.edit_state.specs.declared.states.Done.TheVariants.{Changed, Same, Bell, StartComplete, Accept, Interrupt, EndOfFile}
use Rattle.edit_state.specs.Answers.{Answers}
use Rattle.edit_cmds.specs.declared.leaving.Keeps.{Keeps}
use Rattle.edit_cmds.specs.Leaving.{kept_if, keeping, left_behind, beside_previous, answer_with, LeavesAlone}

-- a part that is as before behind what is dropped was so before that
part_before : {X : Type 0} (keep : Bool) (before after : Option X) → (keep ≡ false → before ≡ None → after ≡ None) → kept_if keep after ≡ before → after ≡ before
part_before true before after alone same = same
part_before false before after alone same = alone refl (sym same) ∙ same

-- two states whose parts are equal are one
equal_parts : (s t : EditState) → t.buffer ≡ s.buffer → t.ring ≡ s.ring → t.arg ≡ s.arg → t.previous ≡ s.previous → t.search ≡ s.search → t.suggestion ≡ s.suggestion
    → t.column ≡ s.column → t.before_paste ≡ s.before_paste → t.multiline ≡ s.multiline → t ≡ s
equal_parts s t buffer ring arg previous search suggestion column paste multiline = λ i. record {
  buffer = buffer i;
  ring = ring i;
  arg = arg i;
  previous = previous i;
  search = search i;
  suggestion = suggestion i;
  column = column i;
  before_paste = paste i;
  multiline = multiline i;
}

-- where all is as before behind a command, its row changed nothing
row_same : (keeps : Keeps) (number : ℕ) (s t : EditState) → LeavesAlone keeps s t → beside_previous s (left_behind number keeps t) ≡ s → t ≡ s
row_same keeps number s t alone same =
    equal_parts s t
    (ap (λ (u : EditState). u.buffer) same)
    (ap (λ (u : EditState). u.ring) same)
    (part_before keeps.argument s.arg t.arg alone.argument (ap (λ (u : EditState). u.arg) same))
    alone.previous
    (ap (λ (u : EditState). u.search) same)
    (ap (λ (u : EditState). u.suggestion) same)
    (part_before keeps.column s.column t.column alone.column (ap (λ (u : EditState). u.column) same))
    (part_before keeps.paste s.before_paste t.before_paste alone.paste (ap (λ (u : EditState). u.before_paste) same))
    (ap (λ (u : EditState). u.multiline) same)

-- the answer of a row, with what is dropped, is that of the whole command
pub answers_behind : (rings : Type 0) (done : Done) (dropped : Bool) (keeps : Keeps) (number : ℕ) (s t : EditState) → LeavesAlone keeps s t
    → Answers rings done s t → ((dropped ≡ false) ↔ (keeping keeps s ≡ s)) → Answers rings (answer_with dropped done) s (beside_previous s (left_behind number keeps t))
answers_behind rings Changed true keeps number s t alone row drops =
    record { bell = row.bell; tells = λ same. row.tells (row_same keeps number s t alone same) }
answers_behind rings Changed false keeps number s t alone row drops =
    record { bell = row.bell; tells = λ same. row.tells (row_same keeps number s t alone same) }
answers_behind rings Same true keeps number s t alone row drops =
    let none : keeping keeps s ≡ s → ⊥ = λ e. let f = drops.1 e in cc in
    record {
      bell = (λ e. cc, λ r. let e = row.bell.1 r in cc);
      tells = λ same. none (ap (λ (u : EditState). beside_previous s (left_behind number keeps u)) (sym row.tells) ∙ same);
    }
answers_behind rings Same false keeps number s t alone row drops =
    record {
      bell = row.bell;
      tells = ap (λ (u : EditState). beside_previous s (left_behind number keeps u)) row.tells ∙ drops.0 refl;
    }
answers_behind rings Bell true keeps number s t alone row drops = record { bell = row.bell; tells = tt }
answers_behind rings Bell false keeps number s t alone row drops = record { bell = row.bell; tells = tt }
answers_behind rings StartComplete dropped keeps number s t alone row drops = absurd row.tells
answers_behind rings Accept dropped keeps number s t alone row drops = absurd row.tells
answers_behind rings Interrupt dropped keeps number s t alone row drops = absurd row.tells
answers_behind rings EndOfFile dropped keeps number s t alone row drops = absurd row.tells
