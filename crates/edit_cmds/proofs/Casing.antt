-- Words in another case, one by one, and where no further word ends.
use Rattle.std.proofs.Common.{◌≡◌, ℕ, ◌-◌, ◌<◌, false, List, [], ◌++◌, ◌≤◌, length, drop, slice_range, refl, sym, ap, ◌∙◌, arith, append_assoc, length-drop}
use Rattle.std.proofs.lemmas.List.{append-nil, length-take-le}
use Prim.Native.Nat.{zero, suc}
use Rattle.edit_state.specs.WordMoves.{stepped, word_end_ahead}
use Rattle.edit_state.proofs.Steps.{stepped-first, stepped-stays}
use Rattle.edit_cmds.specs.declared.rewriting.Case.{Case}
use Rattle.edit_cmds.specs.Rewriting.{cased, words_cased}

pub words_cased-first : (kind : Case) (text : List ℕ) (place more : ℕ) → 0 < more → words_cased kind text place more ≡ cased kind (slice_range text place (word_end_ahead false text place)) ++ words_cased kind text (word_end_ahead false text place) (more - 1)
words_cased-first kind text place zero some = absurd (omega (arith, some))
words_cased-first kind text place (suc more) some =
    let e : suc more - 1 ≡ more = omega arith in
    let end = word_end_ahead false text place in
    sym (ap (λ n. cased kind (slice_range text place end) ++ words_cased kind text end n) e)

nothing : (text : List ℕ) (place end : ℕ) → end ≡ place → slice_range text place end ≡ []
nothing text place end here = let none : end - place ≡ 0 = omega arith in rw none refl

pub words_cased-stays : (kind : Case) (text : List ℕ) (place more : ℕ) → word_end_ahead false text place ≡ place → words_cased kind text place more ≡ []
words_cased-stays kind text place zero stays = refl
words_cased-stays kind text place (suc more) stays =
    ap (λ xs. cased kind xs ++ words_cased kind text (word_end_ahead false text place) more) (nothing text place _ stays)
    ∙ ap (λ p. words_cased kind text p more) stays ∙ words_cased-stays kind text place more stays

-- one more word is put
pub step_text : (kind : Case) (text out new whole : List ℕ) (at end left : ℕ) → 0 < left → end ≡ word_end_ahead false text at → new ≡ out ++ cased kind (slice_range text at end)
    → out ++ words_cased kind text at left ≡ whole → new ++ words_cased kind text end (left - 1) ≡ whole
step_text kind text out new whole at end left some here made so_far =
    ap (λ (xs : List ℕ). xs ++ words_cased kind text end (left - 1)) made
    ∙ (append_assoc out (cased kind (slice_range text at end)) (words_cased kind text end (left - 1))
    ∙ (ap (λ (e : ℕ). out ++ (cased kind (slice_range text at e) ++ words_cased kind text e (left - 1))) here
    ∙ (ap (λ (xs : List ℕ). out ++ xs) (sym (words_cased-first kind text at left some)) ∙ so_far)))

pub step_place : (text : List ℕ) (at end left last : ℕ) → 0 < left → end ≡ word_end_ahead false text at → stepped (word_end_ahead false text) left at ≡ last → stepped (word_end_ahead false text) (left - 1) end ≡ last
step_place text at end left last some here steps =
    ap (λ (e : ℕ). stepped (word_end_ahead false text) (left - 1) e) here ∙ (sym (stepped-first (word_end_ahead false text) left at some) ∙ steps)

pub length_slice : (text : List ℕ) (at end : ℕ) → at ≤ end → end ≤ length text → length (slice_range text at end) ≡ end - at
length_slice text at end ordered within = length-take-le (end - at) (drop at text) (omega (arith, length-drop at text))

-- no further word ends
pub stop_text : (kind : Case) (text out whole : List ℕ) (at end left : ℕ) → end ≡ word_end_ahead false text at → end ≡ at → out ++ words_cased kind text at left ≡ whole → out ≡ whole
stop_text kind text out whole at end left here stays so_far =
    sym (append-nil out) ∙ (ap (λ (xs : List ℕ). out ++ xs) (sym (words_cased-stays kind text at left (sym here ∙ stays))) ∙ so_far)

pub stop_place : (text : List ℕ) (at end left last : ℕ) → end ≡ word_end_ahead false text at → end ≡ at → stepped (word_end_ahead false text) left at ≡ last → at ≡ last
stop_place text at end left last here stays steps = sym (stepped-stays (word_end_ahead false text) left at (sym here ∙ stays)) ∙ steps
