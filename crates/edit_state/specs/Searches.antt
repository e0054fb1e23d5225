-- Where the needle of a search matches, and what a look makes of an edit state. Places are ordered by their line first.
use Rattle.std.specs.Prelude.{ℕ, ◌+◌, ◌==◌, ◌<◌, ◌≤◌, min, nat_eq, Bool, true, false, List, [], length, drop, Option, None, Some, is_some, option_map, option_and_then, if◌then◌else◌}
use Rattle.std.specs.List.{starts_with}
use Rattle.std.specs.Option.{ForSome}
use Rattle.text_doc.specs.Places.{first, last, passing}
use Rattle.edit_buffer.specs.BufferState.{BufferState, line_of}
use Rattle.edit_buffer.specs.Moves.{moved_to}
use Rattle.edit_state.specs.declared.spots.Spot.{Spot}
use Rattle.edit_state.specs.declared.states.Search.{Search}
use Rattle.edit_state.specs.declared.states.EditState.{EditState}
use Rattle.edit_state.specs.StateFacts.{is_empty}

-- the text from a place on starts with the needle
abbrev pub stands_at : List ℕ → List ℕ → ℕ → Bool
stands_at needle text i = starts_with nat_eq (drop i text) needle

-- the least match in a text from a place on
unfoldable pub first_in : List ℕ → List ℕ → ℕ → Option ℕ
first_in needle text from = first (passing (stands_at needle text) from (length text + 1))

-- the greatest match in a text below a place
unfoldable pub last_in : List ℕ → List ℕ → ℕ → Option ℕ
last_in needle text to = last (passing (stands_at needle text) 0 (min to (length text + 1)))

abbrev pub spot_at : ℕ → ℕ → Spot
spot_at line at = record { line = line; at = at }

-- the least match in a line, which in the line of the spot is from the spot on
abbrev pub ahead_in : List ℕ → BufferState → Spot → ℕ → Option ℕ
ahead_in needle b spot line = first_in needle (line_of b line) (if line == spot.line then spot.at else 0)

-- the greatest match in a line, which in the line of the spot is below the spot
abbrev pub back_in : List ℕ → BufferState → Spot → ℕ → Option ℕ
back_in needle b spot line = last_in needle (line_of b line) (if line == spot.line then spot.at else length (line_of b line) + 1)

-- the least match from a spot on: that of the least line that has one
abbrev pub match_ahead : List ℕ → BufferState → Spot → Option Spot
match_ahead needle b spot =
    option_and_then (λ line. option_map (spot_at line) (ahead_in needle b spot line))
    (first (passing (λ line. is_some (ahead_in needle b spot line)) spot.line (length b.lines)))

-- the greatest match below a spot: that of the greatest line that has one
abbrev pub match_back : List ℕ → BufferState → Spot → Option Spot
match_back needle b spot =
    option_and_then (λ line. option_map (spot_at line) (back_in needle b spot line))
    (last (passing (λ line. is_some (back_in needle b spot line)) 0 (spot.line + 1)))

-- where a search started
abbrev pub origin : Search → Spot
origin search = spot_at search.line search.at

-- the greatest match that is at most the origin, or the least that is at least the origin
abbrev pub nearest_match : Bool → Search → BufferState → Option Spot
nearest_match true search b = match_ahead search.needle b (origin search)
nearest_match false search b = match_back search.needle b (spot_at search.line (search.at + 1))

-- where a look goes: without a needle to the origin
abbrev pub look_target : Search → BufferState → Option Spot
look_target search b = if is_empty search.needle then Some (origin search) else nearest_match search.forward search b

-- the place is one of a working line
abbrev pub IsSpot : BufferState → Spot → Type 0
IsSpot b spot = (spot.line < length b.lines) × (spot.at ≤ length (line_of b spot.line))

-- the origin of a search that runs is a place of a working line
abbrev pub HasOrigin : EditState → Type 0
HasOrigin s = ForSome s.search (λ search. IsSpot s.buffer (origin search))

-- the buffer at a place of a working line, or as it was where there is none
abbrev pub gone_to_spot : BufferState → Option Spot → BufferState
gone_to_spot b None = b
gone_to_spot b (Some spot) = moved_to b spot.line spot.at

-- the state with a search that starts at the cursor
abbrev pub search_started : EditState → Bool → EditState
search_started s forward = record s {
  search = Some (record { needle = []; forward = forward; line = s.buffer.index; at = s.buffer.doc.cursor });
}

-- the state with this search, and where its look from the origin goes
abbrev pub looked : EditState → Search → EditState
looked s search = record s { buffer = gone_to_spot s.buffer (look_target search s.buffer); search = Some search }

-- the state without this search, at its origin
abbrev pub aborted_from : Option Search → EditState → EditState
aborted_from None s = s
aborted_from (Some search) s = record s { buffer = gone_to_spot s.buffer (Some (origin search)); search = None }

-- the state without its search
abbrev pub aborted : EditState → EditState
aborted s = aborted_from s.search s
