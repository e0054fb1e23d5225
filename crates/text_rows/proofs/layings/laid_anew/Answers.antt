use Rattle.text_rows.proofs.LayingLemmas.{kept_marks, kept_room}
use Rattle.text_rows.proofs.layings.laid_anew.Goals as goal

pub lay_on-requires-clause-marks : goal.lay_on-requires-clause-marks
lay_on-requires-clause-marks c =
    kept_marks c.args.ground c.args.old.now c.args.text.now c.args.known.now c.in_ok-marks.marks.items c.common_front-front.result c.start_before-start.result.place c.start_before-start.result.room c.start_before-start.result.count
    c.start_before-start.ensures.starts c.start_before-start.ensures.before c.common_front-front.ensures.within_one c.common_front-front.ensures.within_other c.common_front-front.ensures.same c.in_ok-marks.ensures.items

pub lay_on-requires-clause-room : goal.lay_on-requires-clause-room
lay_on-requires-clause-room c =
    kept_room c.args.ground c.args.old.now c.args.text.now c.args.known.now c.common_front-front.result c.start_before-start.result.place c.start_before-start.result.room c.start_before-start.result.count
    c.start_before-start.ensures.starts c.start_before-start.ensures.before c.common_front-front.ensures.within_one c.common_front-front.ensures.within_other c.common_front-front.ensures.same
