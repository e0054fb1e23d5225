-- What a contract sees of a terminal that is entered and left.
use Rattle.std.specs.Prelude.{ℕ, Option, Some, option_map}
use Rattle.causes.specs.Faults.{counted}
use Rattle.ports.specs.declared.ttys.Entered.{Entered}
use Rattle.ports.specs.declared.ttys.Mode.{Mode}

-- how often the terminal was entered, and what it gave the last time
pub record Entries : Type 0 where
  pub count : ℕ
  pub last : Option Entered

-- one more entry, which gave this
abbrev pub after_entry : Entries → Entered → Entries
after_entry entries entered = record { count = counted entries.count; last = Some entered }

-- this mode, of a terminal that tells its mode
abbrev pub told_mode : Option Mode → Mode → Option Mode
told_mode told mode = option_map (λ _. mode) told

-- a terminal in memory: its mode, its entries, what it gives to who enters, and how many of its calls failed
pub record TtyState : Type 0 where
  pub mode : Mode
  pub entries : Entries
  pub gives : Entered
  pub faults : ℕ
