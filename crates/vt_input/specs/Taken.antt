-- What a contract sees of cutting a text step by step: what was given so far, and what is left of the text.
use Rattle.std.specs.Prelude.{◌≡◌, ℕ, ◌≤◌, Bool, List, [], length, drop, Option, Some, None}
use Rattle.vt_input.specs.declared.row.SeqRow.{SeqRow}
use Rattle.vt_input.specs.declared.cutter.Cutter.{Cutter}
use Rattle.vt_input.specs.Held.{Fed, fed_by, with_presses}

-- what a cutter has given, and what it gives for a text that is left
abbrev pub given_with : List SeqRow → Bool → Cutter → List ℕ → Fed
given_with rows flush cutter x = with_presses cutter.presses (fed_by rows flush cutter.paste x)

-- a cutter that has n characters of a text behind it, n of at least one
pub record Takes (rows : List SeqRow) (flush : Bool) (before after : Cutter) (x : List ℕ) (n : ℕ) : Type 0 where
  pub some : 1 ≤ n
  pub within : n ≤ length x
  pub same : given_with rows flush after (drop n x) ≡ given_with rows flush before x

-- nothing is decided at the front of a text
pub record IsWaiting (rows : List SeqRow) (flush : Bool) (before after : Cutter) (x : List ℕ) : Type 0 where
  pub unchanged : after ≡ before
  pub waits : fed_by rows flush None x ≡ record { presses = []; held = record { text = x; paste = None } }

-- what a step at the front of a text outside a paste answers: how many characters it took, or none where the text waits
abbrev pub StepsFront : List SeqRow → Bool → Cutter → Cutter → List ℕ → Option ℕ → Type 0
StepsFront rows flush before after x None = IsWaiting rows flush before after x
StepsFront rows flush before after x (Some n) = Takes rows flush before after x n

-- a cutter with what was given and is held, once n characters of a text are behind it
abbrev pub cut_at : Cutter → List ℕ → ℕ → Fed
cut_at cutter x n = record { presses = cutter.presses; held = record { text = drop n x; paste = cutter.paste } }
