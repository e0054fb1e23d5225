-- The marks of a text: those of its parts one behind the other, where they stand, and how they move with it.
use Prim.Native.Nat.{zero, suc}
use Rattle.std.proofs.Common.{◌≡◌, ℕ, ◌+◌, ◌-◌, ◌<◌, ◌≤◌, inl, inr, List, [], ◌∷◌, ◌++◌, length, get_or, replicate, take, drop, All, refl, sym, ap, ◌∙◌, subst, add-one, append_assoc, arith, length-append, take-append-drop, drop-cons}
use Rattle.std.proofs.lemmas.Bool.{cases_lt}
use Rattle.std.proofs.lemmas.List.{drop_at, get_or-append-add, get_or_append_left, length-take-le, take_at}
use Rattle.std.proofs.lemmas.List.Elements.{All-append, All-nil, All-replicate, All-weaker}
use Rattle.text_rows.specs.declared.flows.Flow.{Flow}
use Rattle.text_rows.specs.declared.marks.Mark.{Mark}
use Rattle.text_rows.specs.Flows.{StandBefore, begun_by, marks_from, moved, room_after, room_at}

-- ---- the marks of two parts

pub room-append : (width : ℕ) (under : Flow) (room : ℕ) (xs ys : List ℕ) → room_at width under room (xs ++ ys) ≡ room_at width under (room_at width under room xs) ys
room-append width under room [] ys = refl
room-append width under room (x ∷ xs) ys = room-append width under (room_after width under room x) xs ys

pub marks-append : (width : ℕ) (under : Flow) (room place : ℕ) (xs ys : List ℕ) → marks_from width under room place (xs ++ ys) ≡ marks_from width under room place xs ++ marks_from width under (room_at width under room xs) (place + length xs) ys
marks-append width under room place [] ys = let same : place ≡ place + 0 = omega arith in ap (λ (n : ℕ). marks_from width under room n ys) same
marks-append width under room place (x ∷ xs) ys =
    let here : List Mark = replicate (begun_by width under room x) (record { place = place; room = room }) in
    let after : ℕ = room_after width under room x in
    let same : place + 1 + length xs ≡ place + suc (length xs) = omega arith in
    ap (λ (l : List Mark). here ++ l) (marks-append width under after (place + 1) xs ys
    ∙ ap (λ (n : ℕ). marks_from width under after (place + 1) xs ++ marks_from width under (room_at width under after xs) n ys) same)
    ∙ sym (append_assoc here (marks_from width under after (place + 1) xs) (marks_from width under (room_at width under after xs) (place + suc (length xs)) ys))

-- ---- where they stand

pub above : (width : ℕ) (under : Flow) (room place : ℕ) (xs : List ℕ) → All (λ mark. place ≤ mark.place) (marks_from width under room place xs)
above width under room place [] = All-nil (λ (mark : Mark). place ≤ mark.place)
above width under room place (x ∷ xs) =
    All-append (λ (mark : Mark). place ≤ mark.place) (replicate (begun_by width under room x) (record { place = place; room = room })) _
    (All-replicate (λ (mark : Mark). place ≤ mark.place) (begun_by width under room x) (record { place = place; room = room }) (omega arith))
    (All-weaker (λ (mark : Mark). place + 1 ≤ mark.place) (λ (mark : Mark). place ≤ mark.place) (λ mark h. omega (arith, h)) _ (above width under (room_after width under room x) (place + 1) xs))

pub below : (width : ℕ) (under : Flow) (room place : ℕ) (xs : List ℕ) → All (λ mark. mark.place < place + length xs) (marks_from width under room place xs)
below width under room place [] = All-nil (λ (mark : Mark). mark.place < place + 0)
below width under room place (x ∷ xs) =
    let P : Mark → Type 0 = λ mark. mark.place < place + suc (length xs) in
    All-append P (replicate (begun_by width under room x) (record { place = place; room = room })) _
    (All-replicate P (begun_by width under room x) (record { place = place; room = room }) (omega arith))
    (All-weaker (λ (mark : Mark). mark.place < place + 1 + length xs) P (λ mark h. omega (arith, h)) _ (below width under (room_after width under room x) (place + 1) xs))

-- ---- the marks before a place

-- those below a place and those above it part there
parted : (front back : List Mark) (place count : ℕ) → All (λ mark. mark.place < place) front → All (λ mark. place ≤ mark.place) back → StandBefore (front ++ back) place count → count ≡ length front
parted front back place count low high stand =
    let other : Mark = record { place = 0; room = 0 } in
    elim (cases_lt count (length front)) [
      | inl less ↦ absurd (omega (
        arith,
        stand.behind other (omega (arith, less, length-append front back)),
        low count other less,
        ap (λ (m : Mark). m.place) (get_or_append_left front back other count less),
      ))
      | inr enough ↦ elim (cases_lt (length front) count) [
        | inl more ↦
            let at : get_or (front ++ back) (length front) other ≡ get_or back 0 other =
            ap (λ (n : ℕ). get_or (front ++ back) n other) (omega arith) ∙ get_or-append-add front back 0 other in
            absurd (omega (
              arith,
              stand.before (length front) other more,
              high 0 other (omega (arith, more, stand.within, length-append front back)),
              ap (λ (m : Mark). m.place) at,
            ))
        | inr no_more ↦ omega (arith, enough, no_more)
      ]
    ]

-- how the marks of a text part at one of its places
pub record PartsAt (width : ℕ) (under : Flow) (room : ℕ) (text : List ℕ) (marks : List Mark) (place count : ℕ) : Type 0 where
  pub front : take count marks ≡ marks_from width under room 0 (take place text)
  pub back : drop count marks ≡ marks_from width under (room_at width under room (take place text)) place (drop place text)

pub parts_at : (width : ℕ) (under : Flow) (room : ℕ) (text : List ℕ) (marks : List Mark) (place count : ℕ) → place ≤ length text → marks ≡ marks_from width under room 0 text → StandBefore marks place count → PartsAt width under room text marks place count
parts_at width under room text marks place count within are stand =
    let front = marks_from width under room 0 (take place text) in
    let last = room_at width under room (take place text) in
    let back = marks_from width under last place (drop place text) in
    let long : length (take place text) ≡ place = length-take-le place text within in
    let start : 0 + length (take place text) ≡ place = omega (arith, long) in
    let whole : marks ≡ front ++ back =
    are ∙ ap (marks_from width under room 0) (sym (take-append-drop place text)) ∙ marks-append width under room 0 (take place text) (drop place text)
    ∙ ap (λ (n : ℕ). front ++ marks_from width under last n (drop place text)) start in
    let low : All (λ mark. mark.place < place) front =
    All-weaker (λ (mark : Mark). mark.place < 0 + length (take place text)) (λ (mark : Mark). mark.place < place) (λ mark h. omega (arith, h, long)) front (below width under room 0 (take place text)) in
    let here : count ≡ length front =
    parted front back place count low (above width under last place (drop place text)) (subst (λ (l : List Mark). StandBefore l place count) whole stand) in
    record {
      front = ap (λ (n : ℕ). take n marks) here ∙ ap (take (length front)) whole ∙ take_at front back (length front) refl;
      back = ap (λ (n : ℕ). drop n marks) here ∙ ap (drop (length front)) whole ∙ drop_at front back (length front) refl;
    }

-- ---- the room at a mark

first_room : (width : ℕ) (under : Flow) (room place : ℕ) (text : List ℕ) (mark : Mark) (rest : List Mark) → marks_from width under room place text ≡ mark ∷ rest → mark.place ≡ place → mark.room ≡ room
first_room width under room place [] mark rest are here = cc
first_room width under room place (c ∷ text) mark rest are here =
    by (begun_by width under room c) (marks_from width under (room_after width under room c) (place + 1) text) (above width under (room_after width under room c) (place + 1) text) are
  where
    by : (count : ℕ) (others : List Mark) → All (λ mark. place + 1 ≤ mark.place) others → replicate count (record { place = place; room = room }) ++ others ≡ mark ∷ rest → mark.room ≡ room
    by zero others high e =
        absurd (omega (arith, here, high 0 mark (omega (arith, ap length e)), ap (λ (l : List Mark). (get_or l 0 mark).place) e))
    by (suc count) others high e = sym (ap (λ (l : List Mark). (get_or l 0 mark).room) e)

pub room_is : (width : ℕ) (under : Flow) (room place : ℕ) (text : List ℕ) (marks : List Mark) (count : ℕ) (mark : Mark) → drop count marks ≡ marks_from width under room place text → count < length marks → mark ≡ get_or marks count mark → mark.place ≡ place → mark.room ≡ room
room_is width under room place text marks count mark back within is here =
    let next : drop count marks ≡ mark ∷ drop (count + 1) marks = rw (add-one, drop-cons marks count mark) (ap (λ y. y ∷ drop (suc count) marks) (sym is)) in
    first_room width under room place text mark (drop (count + 1) marks) (sym back ∙ next) here

-- ---- marks that move

moved_copies : (from to place room count : ℕ) → moved from to (replicate count (record { place = place; room = room })) ≡ replicate count (record { place = place - from + to; room = room })
moved_copies from to place room zero = refl
moved_copies from to place room (suc count) = ap (λ (l : List Mark). record { place = place - from + to; room = room } ∷ l) (moved_copies from to place room count)

moved-append : (from to : ℕ) (xs ys : List Mark) → moved from to (xs ++ ys) ≡ moved from to xs ++ moved from to ys
moved-append from to [] ys = refl
moved-append from to (x ∷ xs) ys = ap (λ (l : List Mark). record { place = x.place - from + to; room = x.room } ∷ l) (moved-append from to xs ys)

moved_by : (width : ℕ) (under : Flow) (room from to more : ℕ) (text : List ℕ) → moved from to (marks_from width under room (from + more) text) ≡ marks_from width under room (to + more) text
moved_by width under room from to more [] = refl
moved_by width under room from to more (c ∷ text) =
    let after = room_after width under room c in
    let count = begun_by width under room c in
    let here : from + more - from + to ≡ to + more = omega arith in
    let next : from + more + 1 ≡ from + (more + 1) = omega arith in
    let there : to + (more + 1) ≡ to + more + 1 = omega arith in
    moved-append from to (replicate count (record { place = from + more; room = room })) (marks_from width under after (from + more + 1) text)
    ∙ ap (λ (l : List Mark). l ++ moved from to (marks_from width under after (from + more + 1) text)) (moved_copies from to (from + more) room count ∙ ap (λ (n : ℕ). replicate count (record { place = n; room = room })) here)
    ∙ ap (λ (l : List Mark). replicate count (record { place = to + more; room = room }) ++ l)
    (ap (λ (n : ℕ). moved from to (marks_from width under after n text)) next ∙ moved_by width under after from to (more + 1) text ∙ ap (λ (n : ℕ). marks_from width under after n text) there)

pub moved_is : (width : ℕ) (under : Flow) (room from to : ℕ) (text : List ℕ) → moved from to (marks_from width under room from text) ≡ marks_from width under room to text
moved_is width under room from to text =
    let one : from ≡ from + 0 = omega arith in
    let other : to + 0 ≡ to = omega arith in
    ap (λ (n : ℕ). moved from to (marks_from width under room n text)) one ∙ moved_by width under room from to 0 text ∙ ap (λ (n : ℕ). marks_from width under room n text) other
