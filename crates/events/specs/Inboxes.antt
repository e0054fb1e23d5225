-- What a contract sees of an inbox in memory, and what one call does to it.
use Rattle.std.specs.Prelude.{◌≡◌, ℕ, List, [], ◌∷◌, ◌++◌, Result, Ok, Err}
use Rattle.causes.specs.Faults.{counted}
use Rattle.events.specs.declared.events.Event.{Event}
use Rattle.events.specs.declared.events.Event.TheVariants.{End}
use Rattle.events.specs.declared.inboxes.InboxFault.{InboxFault}
use Rattle.events.specs.declared.inboxes.InboxFault.TheVariants.{Failed, NoMemory}

-- the events that it gave and those that are left of what it was made with, how often it gave the end of the input
-- behind them, and how many of its calls failed
pub record Supplied : Type 0 where
  pub given : List Event
  pub left : List Event
  pub ends : ℕ
  pub faults : ℕ

-- the next event: the first that is left, and behind the last one the end of the input
abbrev pub next_event : List Event → Event
next_event [] = End
next_event (event ∷ events) = event

-- the inbox behind its next event, by the events that were left: an end behind the last one is counted
abbrev pub given_by : List Event → Supplied → Supplied
given_by [] s = record s { ends = counted s.ends }
given_by (event ∷ events) s = record s { given = s.given ++ event ∷ []; left = events }

-- what one call does, by what it answers: an event is the next one and is given once, and a refusal takes none
abbrev pub Gives : Supplied → Result Event InboxFault → Supplied → Type 0
Gives old (Ok event) new = (event ≡ next_event old.left) × (new ≡ given_by old.left old)
Gives old (Err Failed) new = new ≡ record old { faults = new.faults }
Gives old (Err NoMemory) new = new ≡ old
