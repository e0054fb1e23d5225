use Rattle.std.proofs.Common.{◌∙◌, arith}
use Rattle.std.proofs.lemmas.List.{take_rest}
use Rattle.characters.proofs.CharacterLemmas.{ReadsOne-from}
use Rattle.characters.proofs.decode.decode_into.Goals as goal

pub overflow_add-at : goal.overflow_add-at
overflow_add-at c =
    let h = ReadsOne-from c.args.bytes.now c.loop-c.text.items c.push.new.self.items _ c.loop-c.at c.in-Some.c c.in-Some.size (take_rest c.args.bytes.now c.loop-c.at) c.in-Some.ensures.whole c.in-Some.ensures.char c.in-Some.ensures.size c.loop-c.invariant.within c.in_ok-push.ensures.items in
    omega (arith, h.within)

pub loop-c-smaller : goal.loop-c-smaller
loop-c-smaller c =
    let h = ReadsOne-from c.args.bytes.now c.loop-c.text.items c.push.new.self.items _ c.loop-c.at c.in-Some.c c.in-Some.size (take_rest c.args.bytes.now c.loop-c.at) c.in-Some.ensures.whole c.in-Some.ensures.char c.in-Some.ensures.size c.loop-c.invariant.within c.in_ok-push.ensures.items in
    omega (arith, h.some, h.within)

pub loop-c-preserved : goal.loop-c-preserved
loop-c-preserved c =
    let h = ReadsOne-from c.args.bytes.now c.loop-c.text.items c.push.new.self.items _ c.loop-c.at c.in-Some.c c.in-Some.size (take_rest c.args.bytes.now c.loop-c.at) c.in-Some.ensures.whole c.in-Some.ensures.char c.in-Some.ensures.size c.loop-c.invariant.within c.in_ok-push.ensures.items in
    record {
      within = h.within;
      read = h.read ∙ c.loop-c.invariant.read;
      rest = h.rest ∙ c.loop-c.invariant.rest;
    }
