-- What a contract sees of a row as the standard table is written.
use Rattle.vt_input.specs.declared.row.SeqRow.{SeqRow}
use Rattle.vt_input.specs.declared.table.Known.{Known}

abbrev pub row_of : Known → SeqRow
row_of known = record { text = known.text.now; key = known.key }
