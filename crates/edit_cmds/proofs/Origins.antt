-- Another search from the same place of the same lines has its origin there.
use Rattle.std.proofs.Common.{◌≡◌, Option, Some, None, refl, ap, ◌∙◌, subst}
use Rattle.edit_buffer.specs.BufferState.{BufferState}
use Rattle.edit_state.specs.declared.spots.Spot.{Spot}
use Rattle.edit_state.specs.declared.states.Search.{Search}
use Rattle.edit_state.specs.declared.states.EditState.{EditState}
use Rattle.edit_state.specs.Searches.{HasOrigin, IsSpot, origin, gone_to_spot}

pub origin_stays : (s : EditState) (search other : Search) → HasOrigin s → s.search ≡ Some search → other.line ≡ search.line → other.at ≡ search.at → IsSpot s.buffer (origin other)
origin_stays s search other has is line at =
    let here : IsSpot s.buffer (origin search) = has search is in
    rw (line, at) here

same_lines : (b : BufferState) (spot : Option Spot) → (gone_to_spot b spot).lines ≡ b.lines
same_lines b None = refl
same_lines b (Some spot) = refl

pub origin_moved : (s : EditState) (search other : Search) (b : BufferState) (spot : Option Spot) → HasOrigin s → s.search ≡ Some search → b ≡ gone_to_spot s.buffer spot
    → other.line ≡ search.line → other.at ≡ search.at → (found : Search) → Some other ≡ Some found → IsSpot b (origin found)
origin_moved s search other b spot has is moved line at found e =
    let f : other ≡ found = cc in
    let lines : b.lines ≡ s.buffer.lines = ap (λ (c : BufferState). c.lines) moved ∙ same_lines s.buffer spot in
    let here : IsSpot s.buffer (origin other) = origin_stays s search other has is line at in
    let there : IsSpot b (origin other) = rw lines here in
    subst (λ (x : Search). IsSpot b (origin x)) f there
