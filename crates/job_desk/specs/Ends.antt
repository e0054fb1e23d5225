-- What a contract sees of the ends of a mailbox: which mailbox each is of, what a sender sent, and what the end took.
use Rattle.std.specs.Prelude.{◌≡◌, ℕ, List, [], ◌∷◌, ◌++◌}
use Rattle.atomic_table.specs.Seated.{TableId}
use Rattle.atomic_table.specs.declared.badge.Badge.{Badge}
use Rattle.crossbeam_channel.specs.declared.flavors.array.Key.{Key}
use Rattle.crossbeam_channel.specs.Claims.{Pass}
use Rattle.job_desk.specs.declared.letters.Letter.{Letter}
use Rattle.job_desk.specs.declared.letters.Mail.{Mail}

-- which mailbox an end is of
pub record Room : Type 0 where
  pub table : TableId
  pub key : Badge (Key Mail)

-- the mailbox of a pass
abbrev pub room_of : {V : Type 0} → Pass Mail V → Room
room_of pass = record { table = pass.table_id; key = pass.me.0.of }

-- the pass is one of this mailbox
abbrev pub IsPassIn : {V : Type 0} → Room → Pass Mail V → Type 0
IsPassIn room pass = (room_of pass ≡ room) × (pass.me.1 ≡ [])

-- its mailbox, its number, and all that it sent
pub record SenderFields : Type 0 where
  pub room : Room
  pub number : ℕ
  pub sent : List Letter

-- its mailbox, and all that was taken from it
pub record EndFields : Type 0 where
  pub room : Room
  pub taken : List Mail

-- a sender that sent nothing
abbrev pub new_sender : Room → ℕ → SenderFields
new_sender room number = record { room = room; number = number; sent = [] }

-- the end of a mailbox from which nothing was taken
abbrev pub new_end : Room → EndFields
new_end room = record { room = room; taken = [] }

-- the sender once it sent these letters, behind those before
abbrev pub sends_more : SenderFields → List Letter → SenderFields
sends_more sender letters = record sender { sent = sender.sent ++ letters }

-- the end once it took this mail, behind those before
abbrev pub takes_more : EndFields → Mail → EndFields
takes_more end mail = record end { taken = end.taken ++ mail ∷ [] }
