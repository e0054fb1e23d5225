use Rattle.std.proofs.Common.{◌≡◌, ◌++◌, drop}
use Rattle.script_lines.specs.Spelling.{spelling}
use Rattle.script_lines.proofs.spelling.write_spelling.Given as goal

-- what was written and the spelling of what is left are the whole spelling
abbrev pub invariant-loop-byte : goal.invariant-loop-byte
invariant-loop-byte l = l.out.items ++ spelling (drop l.byte-index l.bytes) ≡ l.fn.out.items ++ spelling l.bytes
