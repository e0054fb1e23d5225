-- No key of a search moves where it started, or changes a line.
use Rattle.std.proofs.Common.{◌≡◌, ℕ, Bool, true, false, List, [], ◌∷◌, Option, Some, None, refl, sym, ap, ◌∙◌, subst}
use Rattle.std.specs.Prelude.{if◌then◌else◌, fold, slice_index_or}
use Rattle.key_names.specs.declared.key.Key.{Key}
use Rattle.key_names.specs.declared.key.Key.TheVariants.{Char}
use Rattle.edit_buffer.specs.BufferState.{BufferState, IsBufferState, line_of}
use Rattle.edit_state.specs.declared.spots.Spot.{Spot}
use Rattle.edit_state.specs.declared.states.Search.{Search}
use Rattle.edit_state.specs.declared.states.EditState.{EditState}
use Rattle.edit_state.specs.StateFacts.{is_empty}
use Rattle.edit_state.specs.Searches.{gone_to_spot, look_target, search_started, aborted, aborted_from}
use Rattle.edit_cmds.specs.Searching.{extended_from, extend_needle, shortened_from, again_from, next_target, with_char, without_last}
use Rattle.edit_cmds.specs.Laws.{SearchStep, Extend, Shorten, Again, search_stepped, IsBack}
use Rattle.edit_cmds.proofs.laws.abort_returns.Goals as goal

-- a search runs that started where `s` stands, among the same lines
record StartedAt (s t : EditState) : Type 0 where
  pub found : Search
  pub search : t.search ≡ Some found
  pub line : found.line ≡ s.buffer.index
  pub at : found.at ≡ s.buffer.doc.cursor
  pub lines : t.buffer.lines ≡ s.buffer.lines

same_lines : (b : BufferState) (spot : Option Spot) → (gone_to_spot b spot).lines ≡ b.lines
same_lines b None = refl
same_lines b (Some spot) = refl

-- another needle and another place, or another direction
elsewhere : (s t : EditState) (started : StartedAt s t) (search : Search) (spot : Option Spot) → search.line ≡ started.found.line → search.at ≡ started.found.at
    → StartedAt s (record t { buffer = gone_to_spot t.buffer spot; search = Some search })
elsewhere s t started search spot line at = record {
  found = search;
  search = refl;
  line = line ∙ started.line;
  at = at ∙ started.at;
  lines = same_lines t.buffer spot ∙ started.lines;
}

started_if : (b : Bool) (s t u : EditState) → StartedAt s t → StartedAt s u → StartedAt s (if b then t else u)
started_if true s t u first second = first
started_if false s t u first second = second

extended : (key : Key) (s t : EditState) → StartedAt s t → StartedAt s (extend_needle key t)
extended (Char c) s t h =
    subst (λ (o : Option Search). StartedAt s (extended_from o c t)) (sym h.search)
    (elsewhere s t h (with_char h.found c) (look_target (with_char h.found c) t.buffer) refl refl)
extended _ s t h = h

step : (s t : EditState) (key : SearchStep) → StartedAt s t → StartedAt s (search_stepped t key)
step s t (Extend key) h = extended key s t h
step s t Shorten h =
    subst (λ (o : Option Search). StartedAt s (shortened_from o t)) (sym h.search)
    (started_if (is_empty h.found.needle) s t _ h (elsewhere s t h (without_last h.found) (look_target (without_last h.found) t.buffer) refl refl))
step s t (Again forward) h =
    subst (λ (o : Option Search). StartedAt s (again_from o forward t)) (sym h.search)
    (elsewhere s t h (record h.found { forward = forward }) (next_target forward h.found t.buffer) refl refl)

steps_on : (s t : EditState) (keys : List SearchStep) → StartedAt s t → StartedAt s (fold search_stepped t keys)
steps_on s t [] h = h
steps_on s t (key ∷ keys) h = steps_on s (search_stepped t key) keys (step s t key h)

back : (s t : EditState) → IsBufferState s.buffer → StartedAt s t → IsBack s (aborted t)
back s t is h =
    subst (λ (o : Option Search). IsBack s (aborted_from o t)) (sym h.search)
    (record {
      line = h.line;
      document = record { text = ap (λ (ls : List (List ℕ)). slice_index_or ls h.found.line []) h.lines ∙ (ap (line_of s.buffer) h.line ∙ is.present); cursor = h.at };
      lines = h.lines;
      search = refl;
    })

pub returns : goal.returns
returns c = λ s forward keys is.
    back s _ is (steps_on s (search_started s forward) keys (record { found = record { needle = []; forward = forward; line = s.buffer.index; at = s.buffer.doc.cursor }; search = refl; line = refl; at = refl; lines = refl }))
