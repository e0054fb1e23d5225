use Rattle.std.proofs.Common.{sym, subst, ap, ◌∙◌, arith, List, length}
use Rattle.std.proofs.lemmas.List.{length-map}
use Rattle.key_proc.specs.declared.bindings.Binding.{Binding}
use Rattle.key_proc.specs.Rows.{binding_of}
use Rattle.key_proc.specs.Sizes.{AllSized}
use Rattle.key_proc.proofs.RowLemmas.{rows-sized}
use Rattle.key_proc.proofs.rows.bindings_of.Goals as goal

pub from_rows-requires : goal.from_rows-requires
from_rows-requires g c =
    let same = c.in_ok-bindings.ensures in
    (omega arith, (ap (λ (t : List Binding). length t) same ∙ length-map c.args.rows.now binding_of ∙ c.requires, subst AllSized (sym same) (rows-sized c.args.rows.now)))
