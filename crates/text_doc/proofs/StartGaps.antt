-- How the row starts lie beside the gap of their text.
use Prim.Native.Nat.{suc}
use Rattle.std.proofs.Common.{◌≡◌, ℕ, ◌+◌, ◌-◌, ◌<◌, ◌≤◌, List, [], ◌∷◌, ◌++◌, length, map, take, drop, get_or, refl, sym, ap, ◌∙◌, arith}
use Rattle.std.proofs.Math.Seq.{take-append_seam, drop-append_seam, drop-cons}
use Rattle.std.proofs.lemmas.List.{length-append, length-take, length-take-le, length-drop, length-map, get_or-take, get_or-drop, get_or-map, take-take, take_more}
use Rattle.text_doc.specs.Gap.{Gap, joined}
use Rattle.text_doc.specs.Rows.{row_of}
use Rattle.text_doc.specs.RowStarts.{starts_from, row_starts, distances, IsIndexed, IsParted}
use Rattle.text_doc.proofs.StartLists.{IsStart-nth, starts_from-append, starts_from-shift, row_of-starts, row_starts-parted}

distances-shift : (len n at : ℕ) (places : List ℕ) → len ≡ at + n → distances len (map (λ p. p + at) places) ≡ distances n places
distances-shift len n at [] is = refl
distances-shift len n at (p ∷ places) is =
    let first : len - (p + at) ≡ n - p = omega arith in
    rw (first, distances-shift len n at places is) refl

-- the distances of the row starts behind a place, from the end of the whole text or of what is behind
distances-behind : (len at : ℕ) (back : List ℕ) → len ≡ at + length back → distances len (starts_from at back) ≡ distances (length back) (row_starts back)
distances-behind len at back is =
    ap (distances len) (starts_from-shift 0 at at back (omega arith)) ∙ distances-shift len (length back) at (row_starts back) is

pub IsParted-indexed : (chars starts : Gap ℕ) → IsIndexed chars starts → IsParted (joined chars) starts
IsParted-indexed chars starts is =
    let before : List ℕ = row_starts chars.front in
    let behind : List ℕ = starts_from (length chars.front) chars.back in
    let all : row_starts (joined chars) ≡ before ++ behind = starts_from-append 0 (length chars.front) chars.front chars.back (omega arith) in
    let size : length (joined chars) ≡ length chars.front + length chars.back = length-append chars.front chars.back in
    let count : length starts.front ≡ length before = ap length is.front in
    let first : take (length starts.front) (row_starts (joined chars)) ≡ before =
    ap (λ xs. take (length starts.front) xs) all ∙ ap (λ n. take n (before ++ behind)) count ∙ take-append_seam before behind in
    let others : drop (length starts.front) (row_starts (joined chars)) ≡ behind =
    ap (λ xs. drop (length starts.front) xs) all ∙ ap (λ n. drop n (before ++ behind)) count ∙ drop-append_seam before behind in
    record {
      front = is.front ∙ sym first;
      back = is.back ∙ sym (distances-behind (length (joined chars)) (length chars.front) chars.back size) ∙ sym (ap (distances (length (joined chars))) others);
    }

-- the row starts of the text before a place are the first of all
pub starts_before : (text : List ℕ) (at row : ℕ) → at ≤ length text → row ≡ row_of text at → take row (row_starts text) ≡ row_starts (take at text)
starts_before text at row within is =
    let before : List ℕ = row_starts (take at text) in
    let behind : List ℕ = starts_from at (drop at text) in
    let count : row ≡ length before = is ∙ sym (row_of-starts text at) in
    ap (take row) (row_starts-parted text at within) ∙ ap (λ n. take n (before ++ behind)) count ∙ take-append_seam before behind

-- and those of the text behind it are the others
pub starts_behind : (text : List ℕ) (at row : ℕ) → at ≤ length text → row ≡ row_of text at
    → distances (length text) (drop row (row_starts text)) ≡ distances (length (drop at text)) (row_starts (drop at text))
starts_behind text at row within is =
    let before : List ℕ = row_starts (take at text) in
    let behind : List ℕ = starts_from at (drop at text) in
    let count : row ≡ length before = is ∙ sym (row_of-starts text at) in
    let size : length text ≡ at + length (drop at text) = omega (arith, length-drop at text) in
    ap (distances (length text)) (ap (drop row) (row_starts-parted text at within) ∙ ap (λ n. drop n (before ++ behind)) count ∙ drop-append_seam before behind)
    ∙ distances-behind (length text) at (drop at text) size

-- with the row starts before a place on its one side, both gaps are at the place
pub IsIndexed-parted : (chars starts : Gap ℕ) (text : List ℕ) (at : ℕ) → at ≤ length text → length text ≤ 32768 → chars.front ≡ take at text → chars.back ≡ drop at text
    → IsParted text starts → length starts.front ≡ row_of text at → IsIndexed chars starts
IsIndexed-parted chars starts text at within short front back is count =
    record {
      front = is.front ∙ starts_before text at (length starts.front) within count ∙ ap row_starts (sym front);
      back = is.back ∙ starts_behind text at (length starts.front) within count ∙ ap (λ xs. distances (length xs) (row_starts xs)) (sym back);
      short = omega (arith, length-append chars.front chars.back, ap length front, ap length back, length-take-le at text within, length-drop at text);
    }

-- the gap passes the last row start before it
pub IsParted-back : (text : List ℕ) (starts moved : Gap ℕ) → IsParted text starts → 0 < length starts.front
    → moved.front ≡ take (length starts.front - 1) starts.front
    → moved.back ≡ (length text - get_or starts.front (length starts.front - 1) 0) ∷ starts.back
    → IsParted text moved
IsParted-back text starts moved is some front back =
    let all = row_starts text in
    let old = length starts.front in
    let new = old - 1 in
    let size : length moved.front ≡ new = ap length front ∙ length-take-le new starts.front (omega arith) in
    let within : old ≤ length all = omega (arith, ap length is.front, length-take old all) in
    let last : get_or starts.front new 0 ≡ get_or all new 0 = ap (λ xs. get_or xs new 0) is.front ∙ get_or-take old all new 0 (omega arith) in
    let next : suc new ≡ old = omega arith in
    let seam : drop new all ≡ get_or all new 0 ∷ drop old all = drop-cons all new 0 (omega arith) ∙ ap (λ n. get_or all new 0 ∷ drop n all) next in
    record {
      front = front ∙ ap (take new) is.front ∙ take-take new old all (omega arith) ∙ ap (λ n. take n all) (sym size);
      back = back ∙ ap (λ n. (length text - n) ∷ starts.back) last ∙ ap (λ xs. (length text - get_or all new 0) ∷ xs) is.back
          ∙ sym (ap (λ n. distances (length text) (drop n all)) size ∙ ap (distances (length text)) seam);
    }

-- the gap passes the first row start behind it
pub IsParted-ahead : (text : List ℕ) (starts moved : Gap ℕ) → IsParted text starts → length starts.front < length (row_starts text)
    → moved.front ≡ starts.front ++ (length text - get_or starts.back 0 0) ∷ []
    → moved.back ≡ drop 1 starts.back
    → IsParted text moved
IsParted-ahead text starts moved is some front back =
    let all = row_starts text in
    let old = length starts.front in
    let start = get_or all old 0 in
    let size : length moved.front ≡ old + 1 = ap length front ∙ length-append starts.front ((length text - get_or starts.back 0 0) ∷ []) in
    let seam : drop old all ≡ start ∷ drop (suc old) all = drop-cons all old 0 some in
    let behind : starts.back ≡ (length text - start) ∷ distances (length text) (drop (suc old) all) = is.back ∙ ap (distances (length text)) seam in
    let first : get_or starts.back 0 0 ≡ length text - start = ap (λ xs. get_or xs 0 0) behind in
    let bound = IsStart-nth 0 text old some in
    let top = bound.within in
    let again : length text - get_or starts.back 0 0 ≡ start = omega arith in
    let next : suc old ≡ length moved.front = omega arith in
    record {
      front = front ∙ ap (λ n. starts.front ++ n ∷ []) again ∙ ap (λ xs. xs ++ start ∷ []) is.front ∙ sym (take_more all old 0 some) ∙ ap (λ n. take n all) (sym size);
      back = back ∙ ap (drop 1) behind ∙ ap (λ n. distances (length text) (drop n all)) next;
    }

-- how many row starts there are
pub length-parted : (text : List ℕ) (starts : Gap ℕ) → IsParted text starts → length (joined starts) ≡ length (row_starts text)
length-parted text starts is =
    let all = row_starts text in
    omega (arith, length-append starts.front starts.back, ap length is.front, length-take (length starts.front) all, ap length is.back, length-map (drop (length starts.front) all) (λ place. length text - place), length-drop (length starts.front) all)

-- the row start with a number
pub record IsNth (text : List ℕ) (nth start : ℕ) : Type 0 where
  pub is : start ≡ get_or (row_starts text) nth 0
  pub above : 0 < start
  pub within : start ≤ length text

IsNth-bounded : (text : List ℕ) (nth start : ℕ) → nth < length (row_starts text) → start ≡ get_or (row_starts text) nth 0 → IsNth text nth start
IsNth-bounded text nth start below is =
    let bound = IsStart-nth 0 text nth below in
    let bottom = bound.above in
    let top = bound.within in
    record { is = is; above = omega arith; within = omega arith }

length-front : (text : List ℕ) (starts : Gap ℕ) → IsParted text starts → length starts.front ≤ length (row_starts text)
length-front text starts is = omega (arith, ap length is.front, length-take (length starts.front) (row_starts text))

-- it stands before the gap
pub IsNth-before : (text : List ℕ) (starts : Gap ℕ) (nth : ℕ) → IsParted text starts → nth < length starts.front → IsNth text nth (get_or starts.front nth 0)
IsNth-before text starts nth is before =
    IsNth-bounded text nth (get_or starts.front nth 0) (omega (arith, length-front text starts is))
    (ap (λ xs. get_or xs nth 0) is.front ∙ get_or-take (length starts.front) (row_starts text) nth 0 before)

-- or behind it, as a distance
pub record IsBehind (text : List ℕ) (nth distance : ℕ) : Type 0 where
  pub fits : distance ≤ length text
  pub start : IsNth text nth (length text - distance)

pub IsBehind-nth : (text : List ℕ) (starts : Gap ℕ) (nth : ℕ) → IsParted text starts → length starts.front ≤ nth → nth < length (row_starts text)
    → IsBehind text nth (get_or starts.back (nth - length starts.front) 0)
IsBehind-nth text starts nth is behind below =
    let all = row_starts text in
    let old = length starts.front in
    let place : ℕ → ℕ = λ start. length text - start in
    let is_nth : get_or (drop old all) (nth - old) 0 ≡ get_or all nth 0 = get_or-drop old all (nth - old) 0 ∙ ap (λ n. get_or all n 0) (omega arith) in
    let less : nth - old < length (drop old all) = omega (arith, length-drop old all) in
    let distance : get_or starts.back (nth - old) 0 ≡ length text - get_or all nth 0 =
    ap (λ xs. get_or xs (nth - old) 0) is.back ∙ get_or-map place (drop old all) (nth - old) 0 0 less ∙ ap place is_nth in
    let bound = IsStart-nth 0 text nth below in
    let top = bound.within in
    record { fits = omega arith; start = IsNth-bounded text nth (length text - get_or starts.back (nth - old) 0) below (omega arith) }
