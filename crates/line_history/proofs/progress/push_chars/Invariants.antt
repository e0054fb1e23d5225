use Rattle.std.proofs.Common.{◌≡◌, ◌+◌, ◌≤◌, ◌++◌, length}
use Rattle.bstr.specs.Utf8.{lossy_chars}
use Rattle.text_doc.specs.declared.documents.TheConstants.{MAX_LENGTH}
use Rattle.line_history.specs.Reading.{front}
use Rattle.line_history.proofs.progress.push_chars.Given as goal

abbrev pub invariant-loop-c : goal.invariant-loop-c
invariant-loop-c l = record {
  short : length l.text ≤ MAX_LENGTH + 1;
  so_far : front (l.text ++ l.c-iterator) ≡ front (l.initial.text ++ lossy_chars l.fn.bytes);
}
