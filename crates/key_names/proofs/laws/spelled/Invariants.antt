use Rattle.std.proofs.Common.{◌≡◌, ◌++◌, drop, encode_utf8_all, string_bytes}
use Rattle.key_names.proofs.laws.spelled.Given as goal

abbrev pub invariant-loop-c : goal.invariant-loop-c
invariant-loop-c l = string_bytes l.name ++ encode_utf8_all (drop l.c-index l.text) ≡ encode_utf8_all l.text
