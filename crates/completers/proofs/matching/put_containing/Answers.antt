use Rattle.std.proofs.Common.{◌≡◌, Bool, true, false, List, length, ap, sym, ◌∙◌}
use Rattle.std.proofs.lemmas.List.{append-nil}
use Rattle.text_doc.specs.declared.completions.Completion.{Completion}
use Rattle.completers.specs.Words.{contains_text}
use Rattle.completers.proofs.MatchingLemmas.{contains_by_bytes, put_fitting}
use Rattle.completers.proofs.matching.put_containing.Goals as goal
use Rattle.completers.proofs.matching.put_containing.Goals.{then-is_some+in_ok-put_word, else-is_some}

pub loop-text-preserved : goal.loop-text-preserved
loop-text-preserved c =
    let word = c.as_slice-word.result.now in
    let typed = c.args.typed.now in
    let found : c.is_some.result ≡ contains_text word typed =
    c.is_some.ensures
    ∙ contains_by_bytes word typed c.as_slice-in-loop-text.result.now c.new-finder.result c.find.result (c.as_slice-in-loop-text.ensures.value ∙ c.in_ok-write_marked-2.ensures)
    (c.new-finder.ensures ∙ c.as_slice.ensures.value ∙ c.in_ok-write_marked.ensures) c.find.ensures in
    let goes = λ (there : Bool) (more : List Completion). put_fitting (length typed) typed c.args.words.now c.loop-text.text-index word c.text-item.result there
    c.args.items.now.items c.loop-text.items.items more c.loop-text-test.true (c.as_slice-word.ensures ∙ c.text-item.is) in
    elim c.if-is_some.branch [
      | then-is_some+in_ok-put_word w ↦ goes true c.if-is_some.items.items (sym w.if-is_some.true ∙ found) c.loop-text.invariant (ap (λ v. v.items) w.items-is ∙ w.in_ok-put_word.ensures)
      | else-is_some w ↦ goes false c.if-is_some.items.items (sym w.if-is_some.false ∙ found) c.loop-text.invariant (ap (λ v. v.items) w.items-is ∙ sym (append-nil c.loop-text.items.items))
    ]
