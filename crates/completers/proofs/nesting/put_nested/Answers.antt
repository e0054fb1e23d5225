use Rattle.std.proofs.Common.{◌++◌, ap, sym, ◌∙◌, false, length, take, map, filter}
use Rattle.completers.specs.Words.{fits, completion}
use Rattle.completers.specs.Nested.{has_space, words_of, option_of, first_run}
use Rattle.completers.proofs.NestingLemmas.{names_items, inner_items_are}
use Rattle.completers.proofs.nesting.put_nested.Goals as goal

pub returns-then-not-has_space : goal.returns-then-not-has_space
returns-then-not-has_space c =
    let none = ap has_space (sym c.trimmed-text.ensures) ∙ sym c.has_space.ensures ∙ c.if-not-has_space.true in
    c.in_ok-put_names.ensures ∙ ap (λ t. c.args.items.now.items ++ t) (names_items c.args.options.now c.args.typed.now c.args.before.now c.requires none)

pub returns-in_ok-put_words : goal.returns-in_ok-put_words
returns-in_ok-put_words c =
    let some = ap has_space (sym c.trimmed-text.ensures) ∙ sym c.has_space.ensures ∙ c.if-not-has_space.false in
    let name = ap (λ n. take n c.trimmed-text.result.now) c.run_len.ensures.len ∙ ap first_run c.trimmed-text.ensures in
    let found = ap (λ n. words_of (option_of n c.args.options.now)) (sym name) ∙ sym c.in-Some.ensures in
    let words = ap (λ ws. map (completion (length c.args.typed.now)) (filter (fits false c.args.typed.now) ws)) c.as_slice.ensures in
    let items = words ∙ inner_items_are c.args.options.now c.args.typed.now c.args.before.now c.in-Some.words.now c.requires some found in
    c.in_ok-put_words.ensures ∙ ap (λ t. c.args.items.now.items ++ t) items
