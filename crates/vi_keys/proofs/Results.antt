-- What holds of a value that may not be there.
use Rattle.std.proofs.Common.{Result, Ok, Err, IfOk}

-- what follows of a value, wherever there is one
pub ok_implies : {A E : Type 0} (r : Result A E) (P Q : A → Type 0) → ((x : A) → P x → Q x) → IfOk r P → IfOk r Q
ok_implies (Ok x) P Q follows holds = follows x holds
ok_implies (Err e) P Q follows holds = tt
