use Rattle.std.proofs.Common.{arith, drop, length, refl, rules, take, ◌-◌}
use Rattle.text_rows.proofs.LayingLemmas.{begins, begins_room, few_places, meets}
use Rattle.text_rows.proofs.layings.lay_on.Goals as goal

pub loop-at-init : goal.loop-at-init
loop-at-init c = record {
  within = c.requires.place;
  met_few = omega arith;
  met = λ i other h. absurd (omega (arith, h));
  marks = begins c.args.ground c.args.text.now c.args.marks.now.items c.args.start.place c.args.start.room c.requires.place c.requires.marks c.requires.room;
  room = begins_room c.args.ground c.args.text.now c.args.start.place c.args.start.room c.requires.room;
}

pub push_moved-requires-clause-few : goal.push_moved-requires-clause-few
push_moved-requires-clause-few c =
    few_places c.args.ground c.args.old.now c.args.known.now c.count_before-met.result (length c.args.known.now - c.count_before-met.result) c.requires.short_old c.requires.known.marks_are

pub returns-then-is_mark_at : goal.returns-then-is_mark_at
returns-then-is_mark_at c =
    meets c.args.ground c.args.old.now c.args.text.now c.args.known.now c.loop-at.marks.items c.push_moved.new.to_marks.items (take (length c.args.known.now - c.count_before-met.result) (drop c.count_before-met.result c.args.known.now))
    c.args.last c.args.back c.loop-at.at (length c.args.old.now - (length c.args.text.now - c.loop-at.at)) c.loop-at.room c.count_before-met.result
    c.requires.known c.loop-at-test.true c.if-left-back.true refl c.requires.within_old c.requires.within c.requires.same
    c.count_before-met.ensures.count (search rules) c.loop-at.invariant.marks c.loop-at.invariant.room refl c.in_ok-push_moved.ensures
