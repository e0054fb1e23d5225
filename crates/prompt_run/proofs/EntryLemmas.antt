-- The entries of a history file are short enough for a document.
use Rattle.std.proofs.Common.{◌≤◌, ℕ, List, length, map}
use Rattle.std.specs.List.{All}
use Rattle.std.proofs.lemmas.Bool.{leb-true}
use Rattle.std.proofs.lemmas.List.Elements.{All-weaker, filter_passes}
use Rattle.line_history.specs.History.{entries_of, is_short, run_text, runs_of}
use Rattle.text_doc.specs.Lines.{lines_of}
use Rattle.text_doc.specs.declared.documents.TheConstants.{MAX_LENGTH}

pub entries_short : (bytes : List ℕ) → All (λ (entry : List ℕ). length entry ≤ 32768) (entries_of bytes)
unfolding entries_of
entries_short bytes =
    All-weaker _ (λ (entry : List ℕ). length entry ≤ 32768) (λ entry short. leb-true (length entry) MAX_LENGTH short) (entries_of bytes)
    (filter_passes is_short (map run_text (runs_of (lines_of bytes))))
