use Rattle.std.proofs.Common.{◌≡◌, ◌++◌, [], ◌∷◌, length, take, drop, map, filter, ap, sym, ◌∙◌, arith}
use Rattle.completers.specs.Words.{fits, completion}
use Rattle.completers.specs.Gathered.{own_texts}
use Rattle.completers.specs.Trees.{trees_of}
use Rattle.completers.specs.Listed.{before_cursor}
use Rattle.completers.proofs.NestingLemmas.{word_items_typed}
use Rattle.completers.proofs.GatheringLemmas.{take_words, take_merged, take_distinct, last_of}
use Rattle.completers.proofs.listing.take_node.Goals as goal

pub returns-in_ok-put_words-in-Words : goal.returns-in_ok-put_words-in-Words
returns-in_ok-put_words-in-Words c = λ nodes tree gathering.
    let doc = c.args.doc.now in
    let typed = c.args.typed.now in
    let words = c.in-Words.words in
    let middle = c.in-Words.middle in
    let items = c.args.items.now.items in
    let size : c.len.result ≡ length items = omega arith in
    let put = c.in_ok-put_words-in-Words.ensures
    ∙ ap (λ ws. items ++ map (completion (length typed)) (filter (fits middle typed) ws)) c.as_slice.ensures
    ∙ ap (λ ys. items ++ ys) (word_items_typed middle words typed (before_cursor doc) c.requires.typed) in
    let begun = c.in_ok-push-in-Words.ensures.items ∙ ap (λ n. c.args.starts.now.items ++ n ∷ []) size in
    take_words doc gathering.0 nodes tree words middle items c.put_words.new.items.items c.args.starts.now.items c.push.new.self.items gathering.1
    (ap (λ n. trees_of (n ∷ nodes) gathering.0) (sym c.in-Words.is) ∙ gathering.2) put begun

pub returns-in-Merged : goal.returns-in-Merged
returns-in-Merged c = λ nodes tree gathering.
    take_merged c.args.doc.now gathering.0 nodes tree c.args.items.now.items c.args.starts.now.items c.pop.new.self.items c.pop.result gathering.1
    (ap (λ n. trees_of (n ∷ nodes) gathering.0) (sym c.in-Merged.is) ∙ gathering.2) c.pop.ensures.items (λ some. c.pop.ensures.variant.1 (omega arith))

pub returns-in_ok-keep_distinct-in-Distinct : goal.returns-in_ok-keep_distinct-in-Distinct
returns-in_ok-keep_distinct-in-Distinct c = λ nodes tree gathering.
    let last = last_of c.args.starts.now.items c.deref.result.now c.in-Some.start.now c.deref.ensures.value c.in-Some.ensures.item.3.0 (c.in-Some.ensures.item.3.1 0) in
    let kept = c.in_ok-keep_distinct-in-Distinct.ensures
    ∙ ap (λ t. take c.in-Some.start.now c.args.items.now.items ++ own_texts t (drop c.in-Some.start.now c.args.items.now.items)) c.requires.typed in
    take_distinct c.args.doc.now gathering.0 nodes tree c.args.items.now.items c.keep_distinct.new.items.items c.args.starts.now.items c.in-Some.start.now c.requires.within gathering.1
    (ap (λ n. trees_of (n ∷ nodes) gathering.0) (sym c.in-Distinct.is) ∙ gathering.2) last kept
