use Rattle.std.proofs.Common.{◌≡◌, drop, map}
use Rattle.clap.specs.Words.{found_of, rows_of}
use Rattle.command_words.specs.Asked.{settings_in}
use Rattle.command_words.proofs.readers.set_values.Given as goal

-- the settings so far with the values of the names that are left are those with all values
abbrev pub invariant-loop-name : goal.invariant-loop-name
invariant-loop-name l =
    settings_in l.flags (rows_of (found_of l.matches)) (map (λ name. name.now) (drop l.name-index l.names)) l.config
    ≡ settings_in l.flags (rows_of (found_of l.matches)) (map (λ name. name.now) l.names) l.fn.config
