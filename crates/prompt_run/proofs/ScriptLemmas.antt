-- How the lines of a script are played one after another.
use Rattle.std.proofs.Common.{◌≡◌, ℕ, ◌+◌, Bool, true, false, List, [], ◌∷◌, length, ◌&&◌, ◌==◌, Option, Some, None, if◌then◌else◌, refl, ap, sym, ◌∙◌, subst, arith}
use Rattle.std.proofs.Math.Dec.{eqb-suc-zero}
use Rattle.script_lines.specs.declared.script_line.ScriptLine.{ScriptLine}
use Rattle.script_lines.specs.Lines.{script_lines}
use Rattle.script_lines.specs.ScriptLine.{script_line}
use Rattle.script_lines.proofs.LineLemmas.{has_line}
use Rattle.prompt_run.specs.Given.{Given}
use Rattle.prompt_run.specs.Play.{Play, Played, begun, line_in, played, went}
use Rattle.prompt_run.specs.Playing.{Holds, PlaysLine, SetsLine}
use Rattle.prompt_run.specs.Replay.{Closes, IsFramesOf, IsOutput}
use Rattle.prompt_run.specs.Script.{configured, ended_by, final_by, output, set_or_begun, given_by, whole_play}
use Rattle.prompt_run.specs.declared.players.Player.{Player}

-- what a line says before the bytes behind it
line_before : (long past : Bool) (line behind : List ℕ) → past ≡ (long && (length behind == 0))
    → (if past then None else script_line line) ≡ line_in long line (script_lines behind)
line_before false past line behind is = ap (λ b. if b then None else script_line line) is
line_before true past line [] is = ap (λ b. if b then None else script_line line) is
line_before true past line (byte ∷ bytes) is =
    ap (λ b. if b then None else script_line line) is ∙ ap (λ b. if b then None else script_line line) (eqb-suc-zero (length bytes))
    ∙ sym (ap (line_in true line) (has_line byte bytes).is)

pub nothing_left : (bytes : List ℕ) → length bytes ≡ 0 → bytes ≡ []
nothing_left [] none = refl
nothing_left (byte ∷ bytes) none = absurd (omega arith)

-- ---- the first part

-- a line that sets something
pub next_setting : (start : Played) (long past : Bool) (rest line behind : List ℕ) (old new : Given) (number : ℕ)
    → start ≡ configured long (script_lines rest) old number → script_lines rest ≡ line ∷ script_lines behind → past ≡ (long && (length behind == 0))
    → SetsLine true old (if past then None else script_line line) new → start ≡ configured long (script_lines behind) new (number + 1)
next_setting start long past rest line behind old new number so_far cut is sets =
    let second : Played = played long (line ∷ script_lines behind) (begun old) number in
    so_far ∙ ap (λ ls. configured long ls old number) cut
    ∙ ap (λ said. set_or_begun (given_by old said) (λ more. configured long (script_lines behind) more (number + 1)) second) (sym (line_before long past line behind is))
    ∙ ap (λ found. set_or_begun found (λ more. configured long (script_lines behind) more (number + 1)) second) sets

-- a line that does not
pub last_setting : (start : Played) (long past : Bool) (rest line behind : List ℕ) (old new : Given) (number : ℕ)
    → start ≡ configured long (script_lines rest) old number → script_lines rest ≡ line ∷ script_lines behind → past ≡ (long && (length behind == 0))
    → SetsLine false old (if past then None else script_line line) new → start ≡ played long (script_lines rest) (begun new) number
last_setting start long past rest line behind old new number so_far cut is sets =
    let second : Played = played long (line ∷ script_lines behind) (begun old) number in
    so_far ∙ ap (λ ls. configured long ls old number) cut
    ∙ ap (λ said. set_or_begun (given_by old said) (λ more. configured long (script_lines behind) more (number + 1)) second) (sym (line_before long past line behind is))
    ∙ ap (λ found. set_or_begun found (λ more. configured long (script_lines behind) more (number + 1)) second) sets.0
    ∙ ap (λ ls. played long ls (begun old) number) (sym cut)
    ∙ ap (λ s. played long (script_lines rest) (begun s) number) (sym sets.1)

-- no line is left
pub no_setting : (start : Played) (long : Bool) (rest : List ℕ) (given : Given) (number : ℕ) → start ≡ configured long (script_lines rest) given number → rest ≡ []
    → start ≡ played long (script_lines rest) (begun given) number
no_setting start long rest given number so_far none =
    so_far ∙ ap (λ bytes. configured long (script_lines bytes) given number) none ∙ ap (λ bytes. played long (script_lines bytes) (begun given) number) (sym none)

-- ---- the second part

-- a line that says this leads to a play
pub plays_said : (p q : Play) (said : Option ScriptLine) (line : ScriptLine) (player : Player) → said ≡ Some line → Holds player q
    → ((number : ℕ) (rest : Play → Played) → went p number (Some line) rest ≡ rest q) → PlaysLine true p said player
plays_said p q said line player is holds goes = (q, holds, λ number rest. ap (λ (s : Option ScriptLine). went p number s rest) is ∙ goes number rest)

-- a line that is played
pub next_line : (start : Played) (rest line behind : List ℕ) (long past : Bool) (q : Play) (number : ℕ) (player : Player)
    → start ≡ played long (script_lines rest) q number → script_lines rest ≡ line ∷ script_lines behind → past ≡ (long && (length behind == 0))
    → PlaysLine true q (if past then None else script_line line) player
    → (p : Play) × Holds player p × (start ≡ played long (script_lines behind) p (number + 1))
next_line start rest line behind long past q number player so_far cut is plays =
    let P : Option ScriptLine → Type 0 = λ said. PlaysLine true q said player in
    let these : PlaysLine true q (line_in long line (script_lines behind)) player = subst P (line_before long past line behind is) plays in
    (these.0, these.1, so_far ∙ ap (λ ls. played long ls q number) cut ∙ these.2 number (λ p. played long (script_lines behind) p (number + 1)))

-- a line that is refused
pub refused_line : (start : Played) (rest line behind : List ℕ) (long past : Bool) (q : Play) (number : ℕ) (player : Player)
    → start ≡ played long (script_lines rest) q number → script_lines rest ≡ line ∷ script_lines behind → past ≡ (long && (length behind == 0))
    → PlaysLine false q (if past then None else script_line line) player → (p : Play) × Holds player p × (start ≡ (p, Some number))
refused_line start rest line behind long past q number player so_far cut is plays =
    let P : Option ScriptLine → Type 0 = λ said. PlaysLine false q said player in
    let these : PlaysLine false q (line_in long line (script_lines behind)) player = subst P (line_before long past line behind is) plays in
    (q, these.0, so_far ∙ ap (λ ls. played long ls q number) cut ∙ these.1 number (λ p. played long (script_lines behind) p (number + 1)))

-- no line is left
pub last_line : (start : Played) (rest : List ℕ) (long : Bool) (q : Play) (number : ℕ) (player : Player) → Holds player q → start ≡ played long (script_lines rest) q number
    → rest ≡ [] → (p : Play) × Holds player p × (start ≡ (p, None))
last_line start rest long q number player holds so_far none = (q, holds, so_far ∙ ap (λ bytes. played long (script_lines bytes) q number) none)

-- ---- the whole script

-- what closes the play is the output of the script
pub closes_script : (frames : Bool) (script bytes : List ℕ) (q : Play) (refused : Option ℕ) (status : ℕ) → whole_play script ≡ (q, refused)
    → Closes frames q refused bytes status → IsOutput frames script bytes × (status ≡ (output script).1)
closes_script false script bytes q refused status whole closes =
    let end : ended_by q refused ≡ output script = ap (λ (r : Play × Option ℕ). ended_by r.0 r.1) (sym whole) in
    (closes.0 ∙ ap (λ (r : List ℕ × ℕ). r.0) end, closes.1 ∙ ap (λ (r : List ℕ × ℕ). r.1) end)
closes_script true script bytes q refused status whole closes =
    let end : ended_by q refused ≡ output script = ap (λ (r : Play × Option ℕ). ended_by r.0 r.1) (sym whole) in (
      subst (λ (r : Play × Option ℕ). IsFramesOf (final_by r.0 r.1) bytes) (sym whole) closes.0,
      closes.1 ∙ ap (λ (r : List ℕ × ℕ). r.1) end,
    )
