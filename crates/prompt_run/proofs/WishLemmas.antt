-- What a call of jobs changes of what they hold.
use Rattle.std.proofs.Common.{◌≡◌, ℕ, false, Option, None, Some, refl, sym}
use Rattle.std.specs.Prelude.{option_map}
use Rattle.std.proofs.lemmas.Bool.{false≢true}
use Rattle.events.specs.Jobs.{Wanted, with_wanted}
use Rattle.requests.specs.Requests.{RequestFields}
use Rattle.requests.specs.declared.requests.Kind.{Kind}
use Rattle.requests.specs.declared.requests.Kind.TheVariants.{Complete, Suggest, Check}
use Rattle.prompt_run.specs.Wishes.{IsHeld, is_same_kind, number_of}

-- they hold the request that they were told
pub holds_now : (kind : Kind) (request : Option RequestFields) (jobs : Option Wanted)
    → IsHeld (Some (number_of request)) (option_map (with_wanted kind request) jobs) kind
holds_now kind request None = tt
holds_now Complete request (Some wanted) = refl
holds_now Suggest request (Some wanted) = refl
holds_now Check request (Some wanted) = refl

-- and of the other kinds what they held
pub holds_others : (kind other : Kind) (request : Option RequestFields) (jobs : Option Wanted) (told : Option (Option ℕ)) → is_same_kind kind other ≡ false
    → IsHeld told jobs other → IsHeld told (option_map (with_wanted kind request) jobs) other
holds_others kind other request jobs None differs held = tt
holds_others kind other request None (Some number) differs held = tt
holds_others Complete Complete request (Some wanted) (Some number) differs held = absurd (false≢true (sym differs))
holds_others Complete Suggest request (Some wanted) (Some number) differs held = held
holds_others Complete Check request (Some wanted) (Some number) differs held = held
holds_others Suggest Complete request (Some wanted) (Some number) differs held = held
holds_others Suggest Suggest request (Some wanted) (Some number) differs held = absurd (false≢true (sym differs))
holds_others Suggest Check request (Some wanted) (Some number) differs held = held
holds_others Check Complete request (Some wanted) (Some number) differs held = held
holds_others Check Suggest request (Some wanted) (Some number) differs held = held
holds_others Check Check request (Some wanted) (Some number) differs held = absurd (false≢true (sym differs))
