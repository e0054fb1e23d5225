-- What was found is what the command's definition finds.
use Rattle.std.proofs.Common.{◌≡◌, ◌∙◌, ℕ, List, [], ap, map, rules, string_bytes, subst, Global}
use Rattle.clap.specs.Words.{App, HasKind, app_of, fault_of, found_of, is_simple, is_simple_and_free, kind_of, matches_of, rows_of}
use Rattle.clap.specs.declared.error.kind.ErrorKind.TheVariants.{OutOfMemory}
use Rattle.command_words.specs.Command.{prompt_app}
use Rattle.command_words.proofs.WordLemmas.{faulty, is_known, is_plain}
use Rattle.command_words.proofs.readers.find_options.Goals as goal

pub returns-in-Ok : goal.returns-in-Ok
returns-in-Ok c =
    let words : List (List ℕ) = map (string_bytes {Z = Global}) c.args.words.now in
    let app : app_of c.in_ok-command.command ≡ prompt_app = c.in_ok-command.ensures in (
      subst (λ (a : App). fault_of a words ≡ []) app (c.in-Ok.ensures.kinds (ap is_simple_and_free app ∙ is_plain)),
      subst (λ (a : App). rows_of (found_of c.in-Ok.matches) ≡ matches_of a words) app (c.in-Ok.ensures.matches (ap is_simple app ∙ is_known)).0,
    )

pub returns : goal.returns
returns c =
    let words : List (List ℕ) = map (string_bytes {Z = Global}) c.args.words.now in
    let app : app_of c.in_ok-command.command ≡ prompt_app = c.in_ok-command.ensures in
    let other : (kind_of c.in-Err.error ≡ OutOfMemory) → ⊥ = search rules in
    faulty (fault_of prompt_app words) c.in-Err.error
    (subst (λ (a : App). HasKind (fault_of a words) c.in-Err.error) app (c.in-Err.ensures.kinds (ap is_simple_and_free app ∙ is_plain))) other
