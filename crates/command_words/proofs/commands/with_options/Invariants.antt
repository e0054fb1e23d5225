use Rattle.std.proofs.Common.{◌≡◌, drop, map}
use Rattle.clap.specs.Words.{app_of}
use Rattle.command_words.specs.Command.{with_options}
use Rattle.command_words.proofs.commands.with_options.Given as goal

-- the command with the options that are left is the one with all of them
abbrev pub invariant-loop-name : goal.invariant-loop-name
invariant-loop-name l =
    with_options l.flags (app_of l.command) (map (λ name. name.now) (drop l.name-index l.names))
    ≡ with_options l.flags (app_of l.fn.command) (map (λ name. name.now) l.names)
