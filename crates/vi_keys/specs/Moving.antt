-- What motions do in Navigation.
use Rattle.std.specs.Prelude.{ℕ, Option, None, Some}
use Rattle.key_names.specs.declared.key.Key.{Key}
use Rattle.edit_state.specs.declared.states.EditState.{EditState}
use Rattle.edit_state.specs.declared.states.Done.TheVariants.{Bell}
use Rattle.edit_state.specs.declared.vi_states.ViState.{ViState}
use Rattle.edit_state.specs.declared.vi_states.Operator.{Operator}
use Rattle.edit_state.specs.declared.vi_states.Find.{Find}
use Rattle.vi_keys.specs.declared.motions.Motion.{Motion}
use Rattle.vi_keys.specs.declared.motions.Motion.TheVariants.{Down, Up, Character}
use Rattle.vi_keys.specs.declared.motions.Reach.{Reach}
use Rattle.vi_keys.specs.declared.acts.Act.{Act}
use Rattle.vi_keys.specs.declared.acts.Act.TheVariants.{Go, RowsDown, RowsUp, AutoDown, AutoUp}
use Rattle.vi_keys.specs.declared.plans.Plan.{Plan}
use Rattle.vi_keys.specs.Reaches.{reach_of, find_of}
use Rattle.vi_keys.specs.Plans.{plain, answered, count_for, ended}
use Rattle.vi_keys.specs.Operating.{taken}

-- the cursor goes where the motion goes
abbrev pub gone : Option Reach → ViState → Plan
gone None v = answered v Bell
gone (Some r) v = plain v (Go r.place)

-- a move by rows, where there is a row
abbrev pub stepped : Act → Option Reach → ViState → Plan
stepped act None v = answered v Bell
stepped act (Some r) v = plain v act

-- what a motion does while no operator waits; by rows it goes with a selection, and else as the arrows do
abbrev pub moved : Motion → Option ℕ → Option Reach → ℕ → ViState → Plan
moved Down None reach count v = plain v (AutoDown count)
moved Down (Some mark) reach count v = stepped (RowsDown count) reach v
moved Up None reach count v = plain v (AutoUp count)
moved Up (Some mark) reach count v = stepped (RowsUp count) reach v
moved _ mark reach count v = gone reach v

-- a find that is made becomes the last one
abbrev pub with_made : Option Find → ViState → ViState
with_made None v = v
with_made (Some find) v = record v { last_find = Some find }

abbrev pub with_find : Motion → Key → ViState → ViState
with_find (Character forward before) key v = with_made (find_of forward before key) v
with_find _ key v = v

-- what a motion does by a key: a waiting operator takes what it passes, and else the cursor goes there
abbrev pub moving_by : Option Operator → Motion → EditState → Option Reach → ℕ → ViState → Plan
moving_by None motion s reach count v = moved motion s.buffer.doc.mark reach count v
moving_by (Some operator) motion s reach count v = taken operator s.buffer.doc reach v

abbrev pub moving : Motion → Key → EditState → ViState → Plan
moving motion key s v =
    let count = count_for s v in
    moving_by v.operator motion s (reach_of motion key s v.last_find count) count (with_find motion key (ended v))
