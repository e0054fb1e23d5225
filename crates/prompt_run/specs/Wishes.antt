-- What jobs were told of the requests that are wanted, and whether they hold that still.
use Rattle.std.specs.Prelude.{◌≡◌, ◌≤◌, ◌<◌, ◌-◌, ◌^◌, ℕ, Bool, true, false, Option, None, Some, option_map}
use Rattle.events.specs.Jobs.{Wanted, wanted_of}
use Rattle.requests.specs.Requests.{RequestFields}
use Rattle.requests.specs.declared.requests.Kind.{Kind}
use Rattle.requests.specs.declared.requests.Kind.TheVariants.{Complete, Suggest, Check}
use Rattle.prompt_run.specs.declared.wishes.ToldWishes.{ToldWishes}

-- the number of a request, if there is one
abbrev pub number_of : Option RequestFields → Option ℕ
number_of request = option_map (λ (r : RequestFields). r.id) request

-- the number of the request of a kind that is wanted, if one is
abbrev pub wanted_number : Kind → Wanted → Option ℕ
wanted_number kind wishes = number_of (wanted_of kind wishes)

-- nothing was told of a kind, or jobs that tell hold the request of this number, or none
abbrev pub IsHeld : Option (Option ℕ) → Option Wanted → Kind → Type 0
IsHeld None jobs kind = Unit {0}
IsHeld (Some number) None kind = Unit {0}
IsHeld (Some number) (Some wishes) kind = wanted_number kind wishes ≡ number

-- jobs that tell hold all that they were told
pub record AreHeld (told : ToldWishes) (jobs : Option Wanted) : Type 0 where
  pub complete : IsHeld told.complete jobs Complete
  pub suggest : IsHeld told.suggest jobs Suggest
  pub check : IsHeld told.check jobs Check

-- of each kind jobs that tell hold the request with the number of the one that is wanted, or none where none is
pub record HoldWanted (jobs : Option Wanted) (wishes : Wanted) : Type 0 where
  pub complete : IsHeld (Some (wanted_number Complete wishes)) jobs Complete
  pub suggest : IsHeld (Some (wanted_number Suggest wishes)) jobs Suggest
  pub check : IsHeld (Some (wanted_number Check wishes)) jobs Check

abbrev pub is_same_kind : Kind → Kind → Bool
is_same_kind Complete Complete = true
is_same_kind Complete Suggest = false
is_same_kind Complete Check = false
is_same_kind Suggest Complete = false
is_same_kind Suggest Suggest = true
is_same_kind Suggest Check = false
is_same_kind Check Complete = false
is_same_kind Check Suggest = false
is_same_kind Check Check = true

-- what jobs held of the kinds but this one they hold still
abbrev pub KeepsOthers : Kind → Option Wanted → Option Wanted → Type 0
KeepsOthers kind old new = (other : Kind) (told : Option (Option ℕ)) → is_same_kind kind other ≡ false → IsHeld told old other → IsHeld told new other

-- ---- the faults that jobs count

-- a count that was not past its last number is not past it, and has not fallen
abbrev pub CountsOn : ℕ → ℕ → Type 0
CountsOn before now = before ≤ 2 ^ 64 - 1 → (before ≤ now) × (now ≤ 2 ^ 64 - 1)

-- a count stands where it stood, before its last number: it did not rise
abbrev pub Stands : ℕ → ℕ → Type 0
Stands before now = (now ≡ before) × (before < 2 ^ 64 - 1)
