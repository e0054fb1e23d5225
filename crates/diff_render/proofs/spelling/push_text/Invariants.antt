use Rattle.std.proofs.Common.{◌≡◌, ◌++◌, true, drop, encode_utf8_all}
use Rattle.std.specs.String.{string_bytes}
use lib.Utf8.{scalars}
use Rattle.diff_render.proofs.spelling.push_text.Given as goal

-- the characters that are left give the bytes that are left, and are all that has to be seen of
abbrev pub invariant-loop-c : goal.invariant-loop-c
invariant-loop-c l = record {
  bytes : string_bytes l.out ++ encode_utf8_all (drop l.c-index l.text) ≡ string_bytes l.initial.out ++ encode_utf8_all l.text;
  valid : scalars (drop l.c-index l.text) ≡ true → scalars l.text ≡ true;
}
