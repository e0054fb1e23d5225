-- What a contract sees of jobs: the request that is wanted of each kind.
use Rattle.std.specs.Prelude.{ℕ, Option, None}
use Rattle.requests.specs.Requests.{RequestFields}
use Rattle.requests.specs.declared.requests.Kind.{Kind}
use Rattle.requests.specs.declared.requests.Kind.TheVariants.{Complete, Suggest, Check}

-- the last request that was wanted of each kind, or none
pub record Wanted : Type 0 where
  pub complete : Option RequestFields
  pub suggest : Option RequestFields
  pub check : Option RequestFields

abbrev pub none_wanted : Wanted
none_wanted = record { complete = None; suggest = None; check = None }

-- with this request, or none, as the last one of its kind
abbrev pub with_wanted : Kind → Option RequestFields → Wanted → Wanted
with_wanted Complete request w = record w { complete = request }
with_wanted Suggest request w = record w { suggest = request }
with_wanted Check request w = record w { check = request }

-- the last one of this kind
abbrev pub wanted_of : Kind → Wanted → Option RequestFields
wanted_of Complete w = w.complete
wanted_of Suggest w = w.suggest
wanted_of Check w = w.check

-- jobs in memory: what is wanted, and how many of their calls found no memory
pub record Wishes : Type 0 where
  pub wanted : Wanted
  pub faults : ℕ
