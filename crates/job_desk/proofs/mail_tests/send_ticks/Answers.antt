use Rattle.std.proofs.Common.{[], ◌∷◌, rules, refl}
use Rattle.job_desk.specs.declared.letters.Letter.TheVariants.{Tick}
use Rattle.job_desk.proofs.LetterLists.{open_append}
use Rattle.job_desk.proofs.mail_tests.send_ticks.Goals as goal

pub loop-moment-preserved : goal.loop-moment-preserved
loop-moment-preserved g c = record {
  open_so_far = rw c.send.ensures (open_append c.loop-moment.sender.sent (Tick c.loop-moment.moment ∷ []) c.loop-moment.invariant.open_so_far refl);
  same_room = search rules;
  same_number = search rules;
}
