-- One character comes for each.
use Rattle.std.proofs.Common.{◌≡◌, ℕ, Bool, false, List, [], ◌∷◌, length, refl, ap}
use Rattle.std.specs.Prelude.{◌||◌}
use Rattle.std.specs.Char.{is_ascii_alphabetic}
use Prim.Native.Nat.{suc}
use Rattle.edit_cmds.specs.declared.rewriting.Case.{Case}
use Rattle.edit_cmds.specs.Rewriting.{cased_from}
use Rattle.edit_cmds.proofs.laws.case_keeps_length.Goals as goal

as_long : (kind : Case) (begun : Bool) (chars : List ℕ) → length (cased_from kind begun chars) ≡ length chars
as_long kind begun [] = refl
as_long kind begun (c ∷ chars) = ap (λ n. suc n) (as_long kind (begun || is_ascii_alphabetic c) chars)

pub returns : goal.returns
returns c = λ kind chars. as_long kind false chars
