-- The rows of an incremental search.
use Rattle.std.specs.Prelude.{◌≡◌, ℕ, ◌+◌, ◌-◌, Bool, true, false, List, [], ◌∷◌, ◌++◌, length, take, Option, None, Some, if◌then◌else◌}
use Rattle.key_names.specs.declared.key.Key.{Key}
use Rattle.key_names.specs.declared.key.Key.TheVariants.{Char}
use Rattle.edit_buffer.specs.BufferState.{BufferState}
use Rattle.edit_state.specs.declared.spots.Spot.{Spot}
use Rattle.edit_state.specs.declared.states.Search.{Search}
use Rattle.edit_state.specs.declared.states.EditState.{EditState}
use Rattle.edit_state.specs.StateFacts.{is_empty}
use Rattle.edit_state.specs.Searches.{spot_at, match_ahead, match_back, look_target, looked, gone_to_spot}

-- the search for one more character
abbrev pub with_char : Search → ℕ → Search
with_char search c = record search { needle = search.needle ++ c ∷ [] }

abbrev pub extended_from : Option Search → ℕ → EditState → EditState
extended_from None c s = s
extended_from (Some search) c s = looked s (with_char search c)

-- a typed character is added to what is searched for; any other key changes nothing
abbrev pub extend_needle : Key → EditState → EditState
extend_needle (Char c) s = extended_from s.search c s
extend_needle _ s = s

abbrev pub IsLostWith : Option Search → ℕ → EditState → Type 0
IsLostWith None c s = ⊥
IsLostWith (Some search) c s = look_target (with_char search c) s.buffer ≡ None

abbrev pub IsExtensionLost : Key → EditState → Type 0
IsExtensionLost (Char c) s = IsLostWith s.search c s
IsExtensionLost _ s = ⊥

-- the search for one character less
abbrev pub without_last : Search → Search
without_last search = record search { needle = take (length search.needle - 1) search.needle }

-- the last character is taken from what is searched for, if there is one
abbrev pub shortened_from : Option Search → EditState → EditState
shortened_from None s = s
shortened_from (Some search) s = if is_empty search.needle then s else looked s (without_last search)

abbrev pub shorten_needle : EditState → EditState
shorten_needle s = shortened_from s.search s

abbrev pub IsLostWithout : Option Search → EditState → Type 0
IsLostWithout None s = ⊥
IsLostWithout (Some search) s = (is_empty search.needle ≡ false) × (look_target (without_last search) s.buffer ≡ None)

-- the least match above the present place, or the greatest below it; none without a needle
abbrev pub match_beside : Bool → List ℕ → BufferState → Option Spot
match_beside true needle b = match_ahead needle b (spot_at b.index (b.doc.cursor + 1))
match_beside false needle b = match_back needle b (spot_at b.index b.doc.cursor)

abbrev pub next_target : Bool → Search → BufferState → Option Spot
next_target forward search b = if is_empty search.needle then None else match_beside forward search.needle b

abbrev pub again_from : Option Search → Bool → EditState → EditState
again_from None forward s = s
again_from (Some search) forward s = record s {
  buffer = gone_to_spot s.buffer (next_target forward search s.buffer);
  search = Some (record search { forward = forward });
}

-- the search goes in this direction from now on, to the next match
abbrev pub search_again : Bool → EditState → EditState
search_again forward s = again_from s.search forward s

abbrev pub HasNoNext : Option Search → Bool → EditState → Type 0
HasNoNext None forward s = ⊥
HasNoNext (Some search) forward s = next_target forward search s.buffer ≡ None
