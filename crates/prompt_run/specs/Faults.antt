-- Which fault of a run a fault of the outside is.
use Rattle.events.specs.declared.inboxes.InboxFault.{InboxFault}
use Rattle.events.specs.declared.inboxes.InboxFault.TheVariants as inbox
use Rattle.line_history.specs.declared.keepers.KeeperFault.{KeeperFault}
use Rattle.line_history.specs.declared.keepers.KeeperFault.TheVariants as keeper
use Rattle.prompt_run.specs.declared.runners.RunFault.{RunFault}
use Rattle.prompt_run.specs.declared.runners.RunFault.TheVariants.{Inbox, Keeper, NoMemory}

abbrev pub inbox_fault : InboxFault → RunFault
inbox_fault inbox.Failed = Inbox
inbox_fault inbox.NoMemory = NoMemory

abbrev pub keeper_fault : KeeperFault → RunFault
keeper_fault keeper.Failed = Keeper
keeper_fault keeper.NoMemory = NoMemory
