-- Where a walk along the working lines stops.
use Rattle.std.proofs.Common.{◌≡◌, ℕ, ◌+◌, ◌<◌, ◌≤◌, Bool, true, false, List, length, Some, None, refl, sym, ap, arith}
use Rattle.std.specs.Prelude.{is_some}
use Rattle.text_doc.specs.Places.{first, last, passing}
use Rattle.text_doc.proofs.Walks.{first_found, first_none, last_found, last_none}
use Rattle.edit_buffer.specs.BufferState.{BufferState}
use Rattle.edit_state.specs.declared.spots.Spot.{Spot}
use Rattle.edit_state.specs.Searches.{spot_at, ahead_in, back_in, match_ahead, match_back}

-- the first line that has a match
pub found_ahead : (needle : List ℕ) (b : BufferState) (spot : Spot) (line at : ℕ) → Some at ≡ ahead_in needle b spot line → spot.line ≤ line → line < length b.lines → ((k : ℕ) → spot.line ≤ k → k < line → is_some (ahead_in needle b spot k) ≡ false) → Some (spot_at line at) ≡ match_ahead needle b spot
found_ahead needle b spot line at here lo hi before =
    let has : ℕ → Bool = λ l. is_some (ahead_in needle b spot l) in
    let is : true ≡ has line = ap is_some here in
    let e : Some line ≡ first (passing has spot.line (length b.lines)) = first_found has spot.line (length b.lines) line lo hi (sym is) before in
    rw (← e, ← here) refl

-- no line has a match
pub none_ahead : (needle : List ℕ) (b : BufferState) (spot : Spot) → ((k : ℕ) → spot.line ≤ k → k < length b.lines → is_some (ahead_in needle b spot k) ≡ false) → None ≡ match_ahead needle b spot
none_ahead needle b spot before =
    let has : ℕ → Bool = λ l. is_some (ahead_in needle b spot l) in
    let e : None ≡ first (passing has spot.line (length b.lines)) = first_none has spot.line (length b.lines) before in
    rw (← e) refl

-- the last line that has a match
pub found_back : (needle : List ℕ) (b : BufferState) (spot : Spot) (line at : ℕ) → Some at ≡ back_in needle b spot line → line < spot.line + 1 → ((k : ℕ) → line < k → k < spot.line + 1 → is_some (back_in needle b spot k) ≡ false) → Some (spot_at line at) ≡ match_back needle b spot
found_back needle b spot line at here hi behind =
    let has : ℕ → Bool = λ l. is_some (back_in needle b spot l) in
    let is : true ≡ has line = ap is_some here in
    let e : Some line ≡ last (passing has 0 (spot.line + 1)) = last_found has 0 (spot.line + 1) line (omega arith) hi (sym is) behind in
    rw (← e, ← here) refl

-- no line has a match
pub none_back : (needle : List ℕ) (b : BufferState) (spot : Spot) → ((k : ℕ) → k < spot.line + 1 → is_some (back_in needle b spot k) ≡ false) → None ≡ match_back needle b spot
none_back needle b spot behind =
    let has : ℕ → Bool = λ l. is_some (back_in needle b spot l) in
    let e : None ≡ last (passing has 0 (spot.line + 1)) = last_none has 0 (spot.line + 1) (λ k lo hi. behind k hi) in
    rw (← e) refl
