-- The facts that hold as vi's keys are read.
use Rattle.std.specs.Prelude.{Bool, true, false, ◌||◌, is_some}
use Rattle.key_proc.specs.declared.facts.Fact.{Fact}
use Rattle.key_proc.specs.declared.facts.Fact.TheVariants as fact
use Rattle.edit_state.specs.declared.states.EditState.{EditState}
use Rattle.edit_state.specs.declared.vi_states.ViState.{ViState}
use Rattle.edit_state.specs.declared.vi_states.ViMode.{ViMode}
use Rattle.edit_state.specs.declared.vi_states.ViMode.TheVariants.{Insert, Navigation, Replace}
use Rattle.edit_state.specs.StateFacts.{holds_in}

-- the fact that keys are read in this mode
abbrev pub mode_fact : ViMode → Fact
mode_fact Insert = fact.Insert
mode_fact Navigation = fact.Navigation
mode_fact Replace = fact.Replace

-- whether a fact of the way in which keys are read holds, in a mode and while an operator waits or does not
abbrev pub holds_in_mode : ViMode → Bool → Fact → Bool
holds_in_mode Insert waits fact.Insert = true
holds_in_mode Navigation waits fact.Navigation = true
holds_in_mode Replace waits fact.Replace = true
holds_in_mode mode waits fact.Operator = waits
holds_in_mode _ waits _ = false

-- whether a fact holds: one of the way in which keys are read, or one of the edit state
abbrev pub holds_as_vi : EditState → ViState → Fact → Bool
holds_as_vi s v fact = holds_in_mode v.mode (is_some v.operator) fact || holds_in s fact
