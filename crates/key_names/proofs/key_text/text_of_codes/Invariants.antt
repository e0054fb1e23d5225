use Rattle.std.proofs.Common.{◌≡◌, take}
use Rattle.key_names.proofs.key_text.text_of_codes.Given as goal

abbrev pub invariant-loop-byte : goal.invariant-loop-byte
invariant-loop-byte l = l.text ≡ take l.byte-index l.bytes
