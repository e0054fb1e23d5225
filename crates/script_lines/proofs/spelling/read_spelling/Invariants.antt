use Rattle.std.proofs.Common.{◌≡◌, drop}
use Rattle.script_lines.specs.Spelling.{bytes_from, with_front, unspelled}
use Rattle.script_lines.proofs.spelling.read_spelling.Given as goal

-- the bytes so far and those of what is left are those of the whole text
abbrev pub invariant-loop-c : goal.invariant-loop-c
invariant-loop-c l = with_front l.bytes.items (bytes_from (drop l.c-index l.text) l.reading) ≡ unspelled l.text
