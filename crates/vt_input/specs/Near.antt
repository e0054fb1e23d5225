-- What a contract sees of narrowing: rows that are left out change no search.
use Rattle.std.specs.Prelude.{◌≡◌, ℕ, false, List}
use Rattle.key_names.specs.declared.key.Key.{Key}
use Rattle.vt_input.specs.declared.row.SeqRow.{SeqRow}
use Rattle.vt_input.specs.Sequences.{is_prefix, is_proper_prefix, is_begun, is_known, longest_from}

-- neither the row nor the text is a front of the other
pub record IsUnlike (row : SeqRow) (x : List ℕ) : Type 0 where
  pub known : is_prefix row.text x ≡ false
  pub begun : is_proper_prefix x row.text ≡ false

-- searching the near rows is searching all
pub record IsSameSearch (rows near : List SeqRow) (x : List ℕ) : Type 0 where
  pub begun : is_begun near x ≡ is_begun rows x
  pub known : (n : ℕ) → is_known near n x ≡ is_known rows n x
  pub longest : (best : Key × ℕ) → longest_from near best x ≡ longest_from rows best x
