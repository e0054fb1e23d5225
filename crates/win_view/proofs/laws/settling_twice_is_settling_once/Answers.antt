use Rattle.win_view.proofs.CursorLaws.{settled-again}
use Rattle.win_view.proofs.ScrollLaws.{scrolled_again}
use Rattle.win_view.proofs.laws.settling_twice_is_settling_once.Goals as goal

pub returns-clause-scrolled : goal.returns-clause-scrolled
returns-clause-scrolled c = scrolled_again

pub returns-clause-settled : goal.returns-clause-settled
returns-clause-settled c = settled-again
