-- What moving and writing items beside a gap makes of the list on its sides.
use Rattle.std.proofs.Common.{◌≡◌, ℕ, ◌+◌, ◌-◌, ◌<◌, ◌≤◌, List, [], ◌∷◌, ◌++◌, length, take, drop, set, sym, ap, subst, ◌∙◌, arith, append_assoc, append-nil, refl}
use Rattle.std.proofs.Math.Seq.{take-append_seam, drop-append_seam, take-append-add, drop-append-add, paste, length_paste_head}
use Rattle.std.proofs.lemmas.List.{length-append, length-take-le, length-drop, drop-take, drop-drop, drop_all, take_all, take_more_set, drop-set-lt}
use Rattle.std.proofs.lemmas.Slice.{drop-append-drop}
use Rattle.text_doc.specs.Gap.{Gap}

-- a block that was moved up stands before what it was moved to
pub block_up : {X : Type 0} (xs : List X) (from n to : ℕ) → to + n ≤ length xs → drop to (paste xs to (drop from xs) n) ≡ drop from (take (from + n) xs) ++ drop (to + n) xs
block_up xs from n to fits =
    let size : length (take to xs) ≡ to = length-take-le to xs (omega arith) in
    let block = take n (drop from xs) in
    let behind = drop (to + n) xs in
    let P : ℕ → Type 0 = λ d. drop d (take to xs ++ block ++ behind) ≡ block ++ behind in
    subst P size (ap (drop (length (take to xs))) (append_assoc (take to xs) block behind) ∙ drop-append_seam (take to xs) (block ++ behind))
    ∙ ap (λ ys. ys ++ behind) (sym (drop-take from n xs))

-- what a vector holds after all of it was written
pub written_whole : {X : Type 0} (xs new : List X) (len : ℕ) → len ≡ length xs → length new ≡ length xs → take len (new ++ drop (length new) xs) ≡ new
written_whole xs new len whole same =
    ap (λ ys. take len (new ++ ys)) (drop_all (length new) xs (omega arith)) ∙ ap (take len) (append-nil new) ∙ take_all len new (omega arith)

-- the sides of the gap after items were written at its start
pub pushed : {X : Type 0} (xs new chars : List X) (start end : ℕ) → start + length chars ≤ end → end ≤ length xs
    → new ≡ take start xs ++ chars ++ drop (start + length chars) xs
    → (let side : Gap X = record { front = take (start + length chars) new; back = drop end new; room = end - (start + length chars) } in side)
    ≡ record { front = take start xs ++ chars; back = drop end xs; room = end - start - length chars }
pushed xs new chars start end room within written =
    let front = take start xs ++ chars in
    let size : length front ≡ start + length chars = length-append (take start xs) chars ∙ ap (λ n. n + length chars) (length-take-le start xs (omega arith)) in
    let P : ℕ → Type 0 = λ k. take k (front ++ drop (start + length chars) xs) ≡ front in
    let before : take (start + length chars) (front ++ drop (start + length chars) xs) ≡ front = subst P size (take-append_seam front (drop (start + length chars) xs)) in
    let behind : drop end (front ++ drop (start + length chars) xs) ≡ drop end xs = drop-append-drop (start + length chars) xs front end room size in
    let left : end - (start + length chars) ≡ end - start - length chars = omega arith in
    rw (written, before, behind, left) refl

-- what stands behind a block is as it was after the block was moved down
pub block_down : {X : Type 0} (xs : List X) (from n to end : ℕ) → to + n ≤ end → end ≤ length xs → from + n ≤ length xs → drop end (paste xs to (drop from xs) n) ≡ drop end xs
block_down xs from n to end behind within fits =
    drop-append-drop (to + n) xs (take to xs ++ take n (drop from xs)) end behind (length_paste_head xs to (drop from xs) n (omega arith) (omega (arith, length-drop from xs)))

-- the sides of the gap after it moved ahead
pub moved_front : {X : Type 0} (xs new : List X) (start end at : ℕ) → start ≤ at → start ≤ length xs
    → take (start + (end + (at - start) - end)) new ≡ take start xs ++ take (end + (at - start) - end) (drop end xs) → take at new ≡ take at (take start xs ++ drop end xs)
moved_front xs new start end at ahead within written =
    let count : end + (at - start) - end ≡ at - start = omega arith in
    let place : start + (at - start) ≡ at = omega arith in
    let size : length (take start xs) + (at - start) ≡ at = omega (arith, length-take-le start xs within) in
    let moved : take (start + (at - start)) new ≡ take start xs ++ take (at - start) (drop end xs) = rw count at written in
    ap (λ n. take n new) (sym place) ∙ moved ∙ sym (take-append-add (take start xs) (drop end xs) (at - start)) ∙ ap (λ n. take n (take start xs ++ drop end xs)) size

pub moved_back : {X : Type 0} (xs new : List X) (start end at : ℕ) → start ≤ at → start ≤ length xs
    → drop (end + (at - start)) new ≡ drop (end + (at - start)) xs → drop (end + (at - start)) new ≡ drop at (take start xs ++ drop end xs)
moved_back xs new start end at ahead within kept =
    let size : length (take start xs) + (at - start) ≡ at = omega (arith, length-take-le start xs within) in
    kept ∙ sym (drop-drop (at - start) end xs) ∙ sym (drop-append-add (take start xs) (drop end xs) (at - start)) ∙ ap (λ n. drop n (take start xs ++ drop end xs)) size

-- the sides of the gap after it passed one item
pub passed_ahead : {X : Type 0} (xs : List X) (item : X) (start end : ℕ) → start ≤ end → end < length xs
    → (let side : Gap X = record { front = take (start + 1) (set xs start item); back = drop (end + 1) (set xs start item); room = end + 1 - (start + 1) } in side)
    ≡ record { front = take start xs ++ item ∷ []; back = drop 1 (drop end xs); room = end - start }
passed_ahead xs item start end ordered within =
    let before = take_more_set xs start item (omega arith) in
    let behind : drop (end + 1) (set xs start item) ≡ drop 1 (drop end xs) = drop-set-lt (end + 1) xs start item (omega arith) ∙ sym (drop-drop 1 end xs) in
    let left : end + 1 - (start + 1) ≡ end - start = omega arith in
    rw (before, behind, left) refl
