use Rattle.std.proofs.Common.{◌≡◌, ◌+◌, ◌-◌, Some, ap, sym, ◌∙◌, arith, drop, length, take, take_all, length-drop}
use Rattle.prompt_settings.specs.Number.{number_of}
use Rattle.prompt_settings.specs.Size.{size_from}
use Rattle.prompt_settings.proofs.NumberLemmas.{is_number}
use Rattle.prompt_settings.proofs.SizeLemmas.{size_of-uncut, size_of-cut, size_from-screen}
use Rattle.prompt_settings.proofs.sizes.read_size.Goals as goal

pub returns-in_err-at : goal.returns-in_err-at
returns-in_err-at c =
    c.from_residual.ensures ∙ sym (size_of-uncut c.args.separator c.args.text.now (sym c.place_of.ensures ∙ c.in_err-at.was))

pub returns : goal.returns
returns c =
    let text = c.args.text.now in
    let at = c.in_ok-at.at in
    let behind = take_all (length text - (at + 1)) (drop (at + 1) text) (omega (arith, length-drop (at + 1) text)) in
    let rows : number_of 500 (take at text) ≡ Some c.in_ok-rows.rows =
    sym (c.in_ok-rows.ensures ∙ ap (λ most. number_of most (take at text)) c.from.ensures) in
    let cols : number_of 1000 (drop (at + 1) text) ≡ Some c.in_ok-cols.cols =
    sym (c.in_ok-cols.ensures ∙ ap (number_of c.from-2.result) behind ∙ ap (λ most. number_of most (drop (at + 1) text)) c.from-2.ensures) in
    size_from-screen c.in_ok-rows.rows c.in_ok-cols.cols c.new.result (is_number 500 (take at text) c.in_ok-rows.rows rows).within
    (is_number 1000 (drop (at + 1) text) c.in_ok-cols.cols cols).within c.new.ensures.within c.new.ensures.value
    ∙ ap (λ n. size_from n (Some c.in_ok-cols.cols)) (sym rows)
    ∙ ap (size_from (number_of 500 (take at text))) (sym cols)
    ∙ sym (size_of-cut c.args.separator text at (sym c.place_of.ensures ∙ c.in_ok-at.was))
