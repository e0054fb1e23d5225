-- What a contract sees of the requests whose answers a session wants.
use Rattle.events.specs.Jobs.{Wanted, none_wanted}
use Rattle.session_core.specs.State.{State}

-- the requests that are wanted; no setting asks for answers yet
unfoldable pub wanted : State → Wanted
wanted s = none_wanted
