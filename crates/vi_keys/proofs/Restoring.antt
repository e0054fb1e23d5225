-- What was deleted comes back where it is put.
use Rattle.std.proofs.Common.{◌≡◌, ◌≢◌, ℕ, ◌+◌, ◌-◌, ◌*◌, ◌==◌, ◌&&◌, ◌<◌, ◌≤◌, min, max, Bool, true, false, nat_lt, if◌then◌else◌, List, [], ◌∷◌, ◌++◌, length, take, drop, slice_get, slice_range, Option, None, Some, refl, sym, ap, subst, ◌∙◌, arith, length-append}
use Rattle.std.proofs.lemmas.Bool.Decides.{nat_tests}
use Rattle.std.proofs.Math.Seq.{take-append_seam, drop-append_seam, take-add}
use Rattle.std.proofs.lemmas.List.{append-nil, take-append-drop, length-take-le, length-drop}
use Rattle.std.specs.List.{repeat}
use Rattle.key_names.specs.declared.key.Key.{Key}
use Rattle.text_doc.specs.Document.{Document, IsDocument}
use Rattle.edit_buffer.specs.declared.rings.Clip.{Clip}
use Rattle.edit_state.specs.declared.arguments.Arg.{Arg}
use Rattle.edit_state.specs.declared.states.EditState.{EditState}
use Rattle.edit_state.specs.declared.states.Done.TheVariants.{Bell}
use Rattle.edit_state.specs.declared.vi_states.ViState.{ViState}
use Rattle.edit_state.specs.declared.vi_states.Operator.TheVariants.{Delete}
use Rattle.edit_state.specs.Arguments.{amount_in, count_of}
use Rattle.edit_state.specs.StateEdits.{gone_to, killed}
use Rattle.vi_keys.specs.declared.commands.ViCommand.{ViCommand}
use Rattle.vi_keys.specs.declared.commands.ViCommand.TheVariants.{PutBefore}
use Rattle.vi_keys.specs.declared.motions.Motion.{Motion}
use Rattle.vi_keys.specs.declared.motions.Kind.{Kind}
use Rattle.vi_keys.specs.declared.motions.Kind.TheVariants.{Exclusive, Inclusive, Rows}
use Rattle.vi_keys.specs.declared.motions.Reach.{Reach}
use Rattle.vi_keys.specs.declared.acts.Act.TheVariants.{Exchange}
use Rattle.vi_keys.specs.declared.plans.Plan.{Plan}
use Rattle.vi_keys.specs.Deeds.{motion_of, motion_or, operation_or, operation_of, other_of, deed_of}
use Rattle.vi_keys.specs.Reaches.{reach_of}
use Rattle.vi_keys.specs.Spans.{span_between, span_of, chars, clip_of}
use Rattle.vi_keys.specs.Plans.{count_for, counted, ended, plain, answered}
use Rattle.vi_keys.specs.Operating.{taken, operated}
use Rattle.vi_keys.specs.Moving.{with_find}
use Rattle.vi_keys.specs.Acts.{removed, exchanged}
use Rattle.vi_keys.specs.Changing.{put_first, put_some, put_chars, insertion}
use Rattle.vi_keys.specs.Running.{ran, vi_after, carried_out, settled, left_behind, keeps_argument, is_idle, stands_out}
use Rattle.vi_keys.proofs.Leaving.{settled_text, taken_moves}

-- a range between what stands before it and behind it
joined : (text : List ℕ) (from to : ℕ) → from ≤ to → to ≤ length text → take from text ++ slice_range text from to ++ drop to text ≡ text
joined text from to ordered within =
    let sum : from + (to - from) ≡ to = omega arith in
    let front : take to text ≡ take from text ++ take (to - from) (drop from text) = ap (λ n. take n text) (sym sum) ∙ take-add from (to - from) text in
    ap (λ xs. xs ++ drop to text) (sym front) ∙ take-append-drop to text

-- a text put once where a range was
assembled : (front back chars all : List ℕ) (text : List ℕ) (c k n : ℕ) → text ≡ front ++ back → length front ≡ n → c ≡ n → k ≡ 1 → front ++ chars ++ back ≡ all
    → take c text ++ repeat k chars ++ drop c text ≡ all
assembled front back chars all text c k n et en ec ek whole =
    let at : c ≡ length front = ec ∙ sym en in
    let once : repeat 1 chars ≡ chars = append-nil chars in
    rw (et, at, ek, take-append_seam front back, drop-append_seam front back, once) whole

put_some_text : (xs : List ℕ) (d : Document) (k : ℕ) (v : ViState) → 0 < length xs → put_some false false xs d k v ≡ put_chars false xs d k v
put_some_text [] d k v some = absurd (omega (arith, some))
put_some_text (x ∷ xs) d k v some = refl

room : (c : Bool) (n m : ℕ) (a b : Plan) → nat_lt n m ≡ c → m ≤ n → (if c then a else b) ≡ b
room true n m a b e fits = let above : n < m = grind (arith, nat_tests) in absurd (omega (arith, above, fits))
room false n m a b e fits = refl

-- a clip of characters that is the first of the ring is put at the cursor
put_text : (other : Key) (v : ViState) (t : EditState) (xs : List ℕ) → slice_get t.ring 0 ≡ Some (record { text = xs; lines = false }) → 0 < length xs → t.arg ≡ None
    → length t.buffer.doc.text + length xs ≤ 32768
    → (ran PutBefore other t v).buffer.doc.text ≡ take t.buffer.doc.cursor t.buffer.doc.text ++ repeat (counted t) xs ++ drop t.buffer.doc.cursor t.buffer.doc.text
put_text other v t xs first some arg fits =
    let d = t.buffer.doc in
    let k = counted t in
    let once : k ≡ 1 = ap (λ (a : Option Arg). count_of (amount_in a)) arg in
    let P : Plan → Type 0 = λ plan. (carried_out plan PutBefore v t).buffer.doc.text ≡ take d.cursor d.text ++ repeat k xs ++ drop d.cursor d.text in
    let change : Plan = plain v (Exchange d.cursor d.cursor (repeat k xs) (d.cursor + k * length xs - 1)) in
    let changes : P change = settled_text v (left_behind PutBefore v (exchanged t d.cursor d.cursor (repeat k xs) (d.cursor + k * length xs - 1))) in
    let fit : length d.text + k * length xs ≤ 32768 = rw once (omega (arith, fits)) in
    let roomy : insertion d d.cursor k xs (d.cursor + k * length xs - 1) v v ≡ change = room (nat_lt 32768 (length d.text + k * length xs)) 32768 (length d.text + k * length xs) (answered v Bell) change refl fit in
    let chars_put : P (put_chars false xs d k v) = subst P (sym roomy) changes in
    let some_put : P (put_some false false xs d k v) = subst P (sym (put_some_text xs d k v some)) chars_put in
    let Q : Option Clip → Type 0 = λ o. P (put_first false o t v) in
    subst Q (sym first) some_put

rest_ring : (c : Bool) (s : EditState) (at : ℕ) → (if c then gone_to s at else s).ring ≡ s.ring
rest_ring true s at = refl
rest_ring false s at = refl

rest_arg : (c : Bool) (s : EditState) (at : ℕ) → (if c then gone_to s at else s).arg ≡ s.arg
rest_arg true s at = refl
rest_arg false s at = refl

no_arg : (c : Bool) (arg : Option Arg) → c ≡ false → (if c then arg else None) ≡ None
no_arg true arg e = absurd (grind arith)
no_arg false arg e = refl

removed_some : (c : Bool) (s t : EditState) → c ≡ false → (if c then s else t) ≡ t
removed_some true s t e = absurd (grind arith)
removed_some false s t e = refl

-- after the deletion of characters that leaves the cursor there
deleted_put : (command : ViCommand) (motion : Motion) (other : Key) (w v u : ViState) (s : EditState) (from to : ℕ) → motion_of command ≡ Some motion → length s.buffer.doc.text ≤ 32768
    → from < to → to ≤ length s.buffer.doc.text
    → (let t = settled w (left_behind command v (removed s from to from (clip_of s.buffer.doc (chars from to)))) in
    t.buffer.doc.cursor ≡ from → (ran PutBefore other t u).buffer.doc.text ≡ s.buffer.doc.text)
deleted_put command motion other w v u s from to is short ordered within stays =
    let text = s.buffer.doc.text in
    let clip = clip_of s.buffer.doc (chars from to) in
    let gone : EditState = gone_to (killed s from to clip) from in
    let apart : from == to ≡ false = grind (arith, nat_tests) in
    let R : EditState → Type 0 = λ r. (let t = settled w (left_behind command v r) in t.buffer.doc.cursor ≡ from → (ran PutBefore other t u).buffer.doc.text ≡ text) in
    let direct : R gone = (λ stays.
    let t = settled w (left_behind command v gone) in
    let t_text : t.buffer.doc.text ≡ take from text ++ drop to text = settled_text w (left_behind command v gone) in
    let t_ring : t.ring ≡ gone.ring = rest_ring (is_idle w && stands_out (left_behind command v gone).buffer.doc) (left_behind command v gone) _ in
    let first : slice_get t.ring 0 ≡ Some clip = ap (λ (r : List Clip). slice_get r 0) t_ring in
    let moves : keeps_argument (deed_of command) ≡ false = ap (λ (o : Option Motion). keeps_argument (motion_or o (operation_or (operation_of command) (other_of command)))) is in
    let t_arg : t.arg ≡ None = rest_arg (is_idle w && stands_out (left_behind command v gone).buffer.doc) (left_behind command v gone) _ ∙ no_arg (keeps_argument (deed_of command)) gone.arg moves in
    let front : length (take from text) ≡ from = length-take-le from text (omega arith) in
    let part : length (slice_range text from to) ≡ to - from = length-take-le (to - from) (drop from text) (rw (length-drop from text) (omega arith)) in
    let all : length (take from text ++ drop to text) ≡ length text - (to - from) = length-append (take from text) (drop to text) ∙ rw (front, length-drop to text) (omega arith) in
    let size : length t.buffer.doc.text ≡ length text - (to - from) = ap length t_text ∙ all in
    let fits : length t.buffer.doc.text + length (slice_range text from to) ≤ 32768 = rw (size, part) (omega arith) in
    let some : 0 < length (slice_range text from to) = rw part (omega arith) in
    let once : counted t ≡ 1 = ap (λ (a : Option Arg). count_of (amount_in a)) t_arg in
    put_text other u t (slice_range text from to) first some t_arg fits
    ∙ assembled (take from text) (drop to text) (slice_range text from to) text t.buffer.doc.text t.buffer.doc.cursor (counted t) from t_text front stays once (joined text from to (omega arith) within)) in
    subst R (sym (removed_some (from == to) s gone apart)) direct stays

by_kind : (kind : Kind) (command : ViCommand) (motion : Motion) (other : Key) (w v : ViState) (s : EditState) (lo hi : ℕ) → kind ≢ Rows → motion_of command ≡ Some motion
    → length s.buffer.doc.text ≤ 32768
    → (let span = span_between kind s.buffer.doc lo hi in let plan = plain (ended w) (operated Delete s.buffer.doc span) in let t = carried_out plan command v s in
    span.from < span.to → span.to ≤ length s.buffer.doc.text → t.buffer.doc.cursor ≡ span.from → (ran PutBefore other t plan.vi).buffer.doc.text ≡ s.buffer.doc.text)
by_kind Exclusive command motion other w v s lo hi kinds is short ordered within stays =
    deleted_put command motion other (ended w) v (ended w) s lo hi is short ordered within stays
by_kind Inclusive command motion other w v s lo hi kinds is short ordered within stays =
    deleted_put command motion other (ended w) v (ended w) s lo (min (length s.buffer.doc.text) (hi + 1)) is short ordered within stays
by_kind Rows command motion other w v s lo hi kinds is short ordered within stays = absurd (kinds refl)

pub put_restores : (command : ViCommand) (motion : Motion) (key other : Key) (s : EditState) (v : ViState) (r : Reach) → motion_of command ≡ Some motion → v.operator ≡ Some Delete
    → reach_of motion key s v.last_find (count_for s v) ≡ Some r → r.kind ≢ Rows → IsDocument s.buffer.doc → (span_of s.buffer.doc r).from < (span_of s.buffer.doc r).to
    → (span_of s.buffer.doc r).to ≤ length s.buffer.doc.text → (ran command key s v).buffer.doc.cursor ≡ (span_of s.buffer.doc r).from
    → (ran PutBefore other (ran command key s v) (vi_after command key s v)).buffer.doc.text ≡ s.buffer.doc.text
put_restores command motion key other s v r is waits found kinds document ordered within =
    let d = s.buffer.doc in
    let w = with_find motion key (ended v) in
    let P : EditState → ViState → Type 0 = λ t u. t.buffer.doc.cursor ≡ (span_of d r).from → (ran PutBefore other t u).buffer.doc.text ≡ d.text in
    let Q : Option Reach → Type 0 = λ o. (let plan = taken Delete d o w in P (carried_out plan command v s) plan.vi) in
    let direct : Q (Some r) = by_kind r.kind command motion other w v s (min d.cursor r.place) (max d.cursor r.place) kinds is document.short ordered within in
    taken_moves P command motion Delete key s v is waits (subst Q (sym found) direct)
