-- How a laying begins, goes on, and meets the marks of the old text.
use Rattle.std.proofs.Common.{◌≡◌, ℕ, ◌+◌, ◌-◌, ◌<◌, ◌≤◌, inl, inr, List, ◌++◌, length, get_or, take, drop, All, refl, sym, ap, ◌∙◌, arith, length-drop, take-append-drop}
use Rattle.std.proofs.lemmas.Bool.{cases_lt}
use Rattle.std.proofs.lemmas.List.{drop-drop, get_or_default, length-take-le, take_all, take_at}
use Rattle.std.proofs.lemmas.List.Elements.{All-drop, All-same, All-take, All-weaker}
use Rattle.std.proofs.Math.Seq.{take-add}
use Rattle.text_rows.specs.declared.layings.Ground.{Ground}
use Rattle.text_rows.specs.declared.marks.Mark.{Mark}
use Rattle.text_rows.specs.Flows.{AreMarks, StandBefore, marks_from, moved, room_at}
use Rattle.text_rows.specs.Layings.{IsMarkAt, StartsAt}
use Rattle.text_rows.proofs.MarkLemmas.{below, marks-append, moved_is, parts_at, room-append, room_is}

-- ---- where a laying begins

starts_at_mark : (ground : Ground) (text : List ℕ) (marks : List Mark) (first : ℕ) (mark : Mark) → mark.place ≤ length text → marks ≡ marks_from ground.width ground.under ground.room 0 text → first < length marks → mark ≡ get_or marks first mark → StandBefore marks mark.place first → StartsAt ground text marks mark.place mark.room first
starts_at_mark ground text marks first mark within are some is stand =
    let parts = parts_at ground.width ground.under ground.room text marks mark.place first within are stand in
    record {
      within = within;
      few = stand.within;
      front = parts.front;
      room_is = room_is ground.width ground.under (room_at ground.width ground.under ground.room (take mark.place text)) mark.place (drop mark.place text) marks first mark parts.back some is refl;
    }

-- the first mark at the place of the last one before the change
pub starts_before : (ground : Ground) (text : List ℕ) (marks : List Mark) (front count first : ℕ) (other : Mark) → front ≤ length text → marks ≡ marks_from ground.width ground.under ground.room 0 text → 0 < count → StandBefore marks front count → StandBefore marks (get_or marks (count - 1) other).place first → StartsAt ground text marks (get_or marks first other).place (get_or marks first other).room first
starts_before ground text marks front count first other within are some stand stand_first =
    let mark = get_or marks first other in
    let last = get_or marks (count - 1) other in
    let sooner : first < count =
    elim (cases_lt (count - 1) first) [
      | inl later ↦ absurd (omega (arith, stand_first.before (count - 1) other later))
      | inr not_later ↦ omega (arith, not_later, some)
    ] in
    let there : first < length marks = omega (arith, sooner, stand.within) in
    let place : mark.place < front = stand.before first other sooner in
    let behind : last.place ≤ mark.place = stand_first.behind other there in
    let is : mark ≡ get_or marks first mark = get_or_default marks first other mark there in
    starts_at_mark ground text marks first mark (omega (arith, place, within)) are there is
    (record {
      within = stand_first.within;
      before = λ i any h. omega (arith, stand_first.before i any h, behind);
      behind = λ any h. omega (arith, ap (λ (m : Mark). m.place) (get_or_default marks first any other h));
    })

take_less : (one other : List ℕ) (less more : ℕ) → less ≤ more → more ≤ length one → more ≤ length other → take more one ≡ take more other → take less one ≡ take less other
take_less one other less more ordered within_one within_other same =
    let whole : less + (more - less) ≡ more = omega (arith, ordered) in
    let front_of : (xs : List ℕ) → more ≤ length xs → take less (take more xs) ≡ take less xs =
    λ xs within. ap (take less) (ap (λ (n : ℕ). take n xs) (sym whole) ∙ take-add less (more - less) xs)
    ∙ take_at (take less xs) (take (more - less) (drop less xs)) less (length-take-le less xs (omega (arith, ordered, within))) in
    sym (front_of one within_one) ∙ ap (take less) same ∙ front_of other within_other

-- what is kept of the old text's marks is marks of the new text, which is the same up to there
pub kept_marks : (ground : Ground) (old text : List ℕ) (marks kept : List Mark) (front place room count : ℕ) → StartsAt ground old marks place room count → place ≤ front → front ≤ length old → front ≤ length text → take front old ≡ take front text → kept ≡ take count marks → kept ≡ marks_from ground.width ground.under ground.room 0 (take place text)
kept_marks ground old text marks kept front place room count starts before within_old within same is =
    is ∙ starts.front ∙ ap (marks_from ground.width ground.under ground.room 0) (take_less old text place front before within_old within same)

pub kept_room : (ground : Ground) (old text : List ℕ) (marks : List Mark) (front place room count : ℕ) → StartsAt ground old marks place room count → place ≤ front → front ≤ length old → front ≤ length text → take front old ≡ take front text → room ≡ room_at ground.width ground.under ground.room (take place text)
kept_room ground old text marks front place room count starts before within_old within same =
    starts.room_is ∙ ap (room_at ground.width ground.under ground.room) (take_less old text place front before within_old within same)

-- ---- how it goes on

pub begins : (ground : Ground) (text : List ℕ) (marks : List Mark) (place room : ℕ) → place ≤ length text → marks ≡ marks_from ground.width ground.under ground.room 0 (take place text) → room ≡ room_at ground.width ground.under ground.room (take place text) → marks ++ marks_from ground.width ground.under room place (drop place text) ≡ marks_from ground.width ground.under ground.room 0 text
begins ground text marks place room within are is =
    let front = take place text in
    let back = drop place text in
    let start : place ≡ 0 + length front = omega (arith, length-take-le place text within) in
    (λ i. are i ++ marks_from ground.width ground.under (is i) (start i) back)
    ∙ sym (marks-append ground.width ground.under ground.room 0 front back)
    ∙ ap (marks_from ground.width ground.under ground.room 0) (take-append-drop place text)

pub begins_room : (ground : Ground) (text : List ℕ) (place room : ℕ) → room ≡ room_at ground.width ground.under ground.room (take place text) → room_at ground.width ground.under room (drop place text) ≡ room_at ground.width ground.under ground.room text
begins_room ground text place room is =
    ap (λ (n : ℕ). room_at ground.width ground.under n (drop place text)) is
    ∙ sym (room-append ground.width ground.under ground.room (take place text) (drop place text))
    ∙ ap (room_at ground.width ground.under ground.room) (take-append-drop place text)

-- ---- what it meets

pub few_places : (ground : Ground) (text : List ℕ) (marks : List Mark) (from count : ℕ) → length text ≤ 32768 → marks ≡ marks_from ground.width ground.under ground.room 0 text → All (λ mark. mark.place ≤ 32768) (take count (drop from marks))
few_places ground text marks from count short are =
    let P : Mark → Type 0 = λ mark. mark.place ≤ 32768 in
    All-take P count (drop from marks) (All-drop P from marks
    (All-same P marks (marks_from ground.width ground.under ground.room 0 text) are
    (All-weaker (λ (mark : Mark). mark.place < 0 + length text) P (λ mark h. omega (arith, h, short)) (marks_from ground.width ground.under ground.room 0 text) (below ground.width ground.under ground.room 0 text))))

same_behind : (old text : List ℕ) (back left : ℕ) → left ≤ back → back ≤ length old → back ≤ length text → drop (length old - back) old ≡ drop (length text - back) text → drop (length old - left) old ≡ drop (length text - left) text
same_behind old text back left less within_old within same =
    let place : length old - back + (back - left) ≡ length old - left = omega (arith, less, within_old) in
    let place' : length text - back + (back - left) ≡ length text - left = omega (arith, less, within) in
    sym (drop-drop (back - left) (length old - back) old ∙ ap (λ (n : ℕ). drop n old) place)
    ∙ ap (drop (back - left)) same
    ∙ drop-drop (back - left) (length text - back) text ∙ ap (λ (n : ℕ). drop n text) place'

-- a mark of the old text at the same place before its end, with the same room: the others are those of the new text, moved
pub meets : (ground : Ground) (old text : List ℕ) (known so_far now tail : List Mark) (last back at here room met : ℕ) → AreMarks ground.width ground.under ground.room old known last → at < length text → length text - at ≤ back → here ≡ length old - (length text - at) → back ≤ length old → back ≤ length text → drop (length old - back) old ≡ drop (length text - back) text → StandBefore known here met → IsMarkAt known met here room
    → so_far ++ marks_from ground.width ground.under room at (drop at text) ≡ marks_from ground.width ground.under ground.room 0 text → room_at ground.width ground.under room (drop at text) ≡ room_at ground.width ground.under ground.room text
    → tail ≡ take (length known - met) (drop met known) → now ≡ so_far ++ moved here at tail → AreMarks ground.width ground.under ground.room text now last
meets ground old text known so_far now tail last back at here room met are within left place within_old within_new same stand mark marks_so_far room_so_far tail_is now_is =
    let other : Mark = record { place = 0; room = 0 } in
    let there = room_at ground.width ground.under ground.room (take here old) in
    let parts = parts_at ground.width ground.under ground.room old known here met (omega (arith, place)) are.marks_are stand in
    let one = get_or known met other in
    let room_same : room ≡ there =
    sym (mark.room_is other) ∙ room_is ground.width ground.under there here (drop here old) known met one parts.back mark.within (get_or_default known met other one mark.within) (mark.place_is other) in
    let behind : drop here old ≡ drop at text =
    ap (λ (n : ℕ). drop n old) place ∙ same_behind old text back (length text - at) left within_old within_new same
    ∙ ap (λ (n : ℕ). drop n text) (omega (arith, within)) in
    let all : tail ≡ drop met known = tail_is ∙ take_all (length known - met) (drop met known) (omega (arith, length-drop met known)) in
    let those : moved here at tail ≡ marks_from ground.width ground.under room at (drop at text) =
    ap (moved here at) (all ∙ parts.back) ∙ moved_is ground.width ground.under there here at (drop here old)
    ∙ (λ i. marks_from ground.width ground.under (sym room_same i) at (behind i)) in
    record {
      marks_are = now_is ∙ ap (λ (l : List Mark). so_far ++ l) those ∙ marks_so_far;
      last_is =
          are.last_is ∙ sym (begins_room ground old here there refl)
          ∙ (λ i. room_at ground.width ground.under (sym room_same i) (behind i)) ∙ room_so_far;
    }
