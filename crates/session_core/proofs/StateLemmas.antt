-- What an event leaves of a state, whatever the event does: the size.
use Rattle.std.proofs.Common.{◌≡◌, ℕ, ◌≤◌, Bool, true, false, List, [], ◌∷◌, length, is_some, if◌then◌else◌, refl, sym, ◌∙◌, arith, ap}
use Rattle.std.specs.Prelude.{Option, Some}
use Rattle.key_names.specs.declared.key.KeyPress.{KeyPress}
use Rattle.vt_input.specs.Inputs.{fed_bytes, flushed, parsing_after, parsing_flushed}
use Rattle.events.specs.declared.events.Event.{Event}
use Rattle.events.specs.declared.events.Event.TheVariants.{Start, Piece, Tick, Resize, Answer, End}
use Rattle.requests.specs.Batches.{BatchFields}
use Rattle.session_core.specs.Draw.{settle}
use Rattle.session_core.specs.Keys.{kept_behind, ran_key, ran_keys, typing_of, with_typing}
use Rattle.session_core.specs.Next.{again, are_keys_due, flushed_input, flushed_keys, is_input_due, kept_if_ended, next, pieced, size_after, started, stepped, timed}
use Rattle.session_core.specs.State.{State}
use Rattle.session_core.specs.Typing.{drained}
use Rattle.cell_grid.specs.Size.{Extent}

-- ---- the size

settle_size : (s : State) → (settle s).size ≡ s.size
unfolding settle
settle_size s = refl

ran_key_size : (s : State) (key : KeyPress) → (ran_key s key).size ≡ s.size
unfolding ran_key
ran_key_size s key = settle_size (with_typing (record s { key_moment = s.moment }) _)

ran_keys_size : (s : State) (keys : List KeyPress) → (ran_keys s keys).size ≡ s.size
ran_keys_size s [] = refl
ran_keys_size s (key ∷ keys) = by (is_some (ran_key s key).outcome) (ran_keys_size (ran_key s key) keys)
  where
    by : (b : Bool) → (ran_keys (ran_key s key) keys).size ≡ (ran_key s key).size
        → (if b then kept_behind (ran_key s key) keys else ran_keys (ran_key s key) keys).size ≡ s.size
    by true rest = ran_key_size s key
    by false rest = rest ∙ ran_key_size s key

started_size : (s : State) → (started s).size ≡ s.size
unfolding started
started_size s = ran_keys_size (settle (record s { kept = [] })) s.kept ∙ settle_size (record s { kept = [] })

pieced_size : (s : State) (bytes : List ℕ) → (pieced s bytes).size ≡ s.size
unfolding pieced
pieced_size s bytes = ran_keys_size _ (fed_bytes s.input bytes).presses

flushed_input_size : (s : State) → (flushed_input s).size ≡ s.size
unfolding flushed_input
flushed_input_size s = by (is_input_due s)
  where
    by : (b : Bool) → (if b then ran_keys (record s { input = parsing_flushed s.input }) (flushed s.input).presses else s).size ≡ s.size
    by true = ran_keys_size (record s { input = parsing_flushed s.input }) (flushed s.input).presses
    by false = refl

kept_size : (s : State) → (kept_if_ended s).size ≡ s.size
kept_size s = by (is_some s.outcome)
  where
    by : (b : Bool) → (if b then kept_behind s [] else s).size ≡ s.size
    by true = refl
    by false = refl

flushed_keys_size : (s : State) → (flushed_keys s).size ≡ s.size
unfolding flushed_keys
flushed_keys_size s = by (are_keys_due s)
  where
    by : (b : Bool) → (if b then kept_if_ended (with_typing s (drained true (typing_of s))) else s).size ≡ s.size
    by true = kept_size (with_typing s (drained true (typing_of s)))
    by false = refl

stepped_size : (s : State) (event : Event) → (stepped s event).size ≡ size_after event s.size
stepped_size s Start = started_size s
stepped_size s (Piece bytes) = pieced_size s bytes
stepped_size s (Tick moment) = flushed_keys_size (flushed_input (timed s moment)) ∙ flushed_input_size (timed s moment)
stepped_size s (Resize size) = refl
stepped_size s (Answer batch) = refl
stepped_size s End = refl

-- the size behind an event
pub next_size : (s : State) (event : Event) → (next s event).size ≡ size_after event s.size
unfolding next
next_size s event = settle_size (stepped s event) ∙ stepped_size s event

-- a further prompt has the same size
pub again_size : (s : State) → (again s).size ≡ s.size
unfolding again
again_size s = refl

-- ---- answers

pub answer_settles : (s : State) (batch : BatchFields) → next s (Answer batch) ≡ settle s
unfolding next
answer_settles s batch = refl
