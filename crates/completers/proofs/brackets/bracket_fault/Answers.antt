use Rattle.std.proofs.Common.{cond, Some, None, ap, ◌∙◌, reverse, arith}
use Rattle.completers.proofs.BracketLemmas.{goes_on, fine_more, stops_here, read_whole, last_open, none_open}
use Rattle.completers.proofs.brackets.bracket_fault.Goals as goal

pub returns-then-not-branch : goal.returns-then-not-branch
returns-then-not-branch c =
    let new = reverse c.take_character.new.opened.items in
    let step = c.in_ok-take_character.ensures ∙ ap (λ b. cond b (Some new) None) c.if-not-branch.true in
    stops_here c.args.doc.now.text c.loop-place.place c.char_at.result (reverse c.loop-place.opened.items) (omega arith)
    c.char_at.ensures
    c.loop-place.invariant.so_far step c.loop-place.invariant.before

pub loop-place-preserved : goal.loop-place-preserved
loop-place-preserved c =
    let new = reverse c.take_character.new.opened.items in
    let step = c.in_ok-take_character.ensures ∙ ap (λ b. cond b (Some new) None) c.if-not-branch.false in
    let next = goes_on c.args.doc.now.text c.loop-place.place c.char_at.result (reverse c.loop-place.opened.items) new (omega arith)
    c.char_at.ensures
    c.loop-place.invariant.so_far step in
    record {
      so_far = next;
      before = fine_more c.args.doc.now.text c.loop-place.place new next c.loop-place.invariant.before;
    }

pub returns-in-Some : goal.returns-in-Some
returns-in-Some c =
    last_open c.loop-place.opened.items c.pop.new.self.items c.in-Some.last c.in-Some.ensures.items
    ∙ read_whole c.args.doc.now.text c.loop-place.place (reverse c.loop-place.opened.items) (omega arith) c.loop-place.invariant.so_far c.loop-place.invariant.before

pub returns : goal.returns
returns c =
    none_open c.loop-place.opened.items (let none = c.in-None.ensures.cases.0 in omega arith)
    ∙ read_whole c.args.doc.now.text c.loop-place.place (reverse c.loop-place.opened.items) (omega arith) c.loop-place.invariant.so_far c.loop-place.invariant.before
