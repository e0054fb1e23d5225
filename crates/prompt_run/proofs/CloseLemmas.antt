-- A play that was ended closes with its reports where no frames are kept.
use Rattle.std.proofs.Common.{◌≡◌, ◌∙◌, ℕ, Bool, List, Option, None, ap, is_some, subst, sym}
use Rattle.prompt_run.specs.Play.{Play}
use Rattle.prompt_run.specs.Playing.{Finishes}
use Rattle.prompt_run.specs.Replay.{Closes}
use Rattle.prompt_run.specs.declared.players.Player.{Player}

pub closes_reports : (asked : Bool) (p : Play) (refused : Option ℕ) (player : Player) (bytes : List ℕ) (status : ℕ) → Finishes p refused player status
    → player.screen.frames ≡ None → is_some player.screen.frames ≡ asked → bytes ≡ player.reports.items → Closes asked p refused bytes status
closes_reports asked p refused player bytes status finishes none same is =
    let C : Bool → Type 0 = λ b. Closes b p refused bytes status in
    subst C (sym (ap is_some none) ∙ same) (is ∙ finishes.reports, finishes.status)
