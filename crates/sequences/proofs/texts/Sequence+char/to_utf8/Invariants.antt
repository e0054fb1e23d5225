use Rattle.std.proofs.Common.{◌≡◌, ◌++◌, drop, encode_utf8_all, string_bytes}
use Rattle.sequences.proofs.texts.Sequence+char.to_utf8.Given as goal

abbrev pub invariant-loop-c : goal.invariant-loop-c
invariant-loop-c l = string_bytes l.words ++ encode_utf8_all (drop l.c-index l.chars) ≡ encode_utf8_all l.chars
