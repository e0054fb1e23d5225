use Rattle.std.proofs.Common.{◌≡◌, ◌<◌, ◌≤◌, ℕ, refl, ◌+◌, ◌∙◌, ◌∷◌, length, drop, take, get_or, sym, ap, arith, length-drop, length-take-le}
use Rattle.std.proofs.lemmas.List.{get_or-drop, drop_all}
use Rattle.characters.specs.ControlCharacters.{is_final}
use Rattle.term_model.specs.Controls.{Control, controls_from, between}
use Rattle.term_model.specs.Obeying.{chars_of}
use Rattle.term_model.proofs.ReadingLemmas.{reads-final, reads-unfinished, reads-broken, function_behind, function_behind-some}
use Rattle.term_model.proofs.reading.sequence.Goals as goal

pub returns-then-size-bytes-clause-reads : goal.returns-then-size-bytes-clause-reads
returns-then-size-bytes-clause-reads c =
    reads-unfinished c.args.bytes.now c.run_len-params_len.result c.run_len.result c.run_len-params_len.ensures.inside
    (rw c.split_at.ensures.back at c.run_len.ensures.inside)
    (let past : length c.args.bytes.now ≤ c.run_len-params_len.result + c.run_len.result = omega (arith, c.if-size-bytes.true) in
    rw (drop_all (c.run_len-params_len.result + c.run_len.result) c.args.bytes.now past) refl)

pub returns-in_err-_read_anew-clause-reads : goal.returns-in_err-_read_anew-clause-reads
returns-in_err-_read_anew-clause-reads c =
    let none = rw c.split_at-then-not-is_final.ensures.back at c.in_err-_read_anew.ensures.reads in
    rw c.from_residual.ensures
    (reads-unfinished c.args.bytes.now c.run_len-params_len.result c.run_len.result c.run_len-params_len.ensures.inside
    (rw c.split_at.ensures.back at c.run_len.ensures.inside) none)

pub returns-then-not-is_final-clause-reads : goal.returns-then-not-is_final-clause-reads
returns-then-not-is_final-clause-reads c =
    let bytes = c.args.bytes.now in
    let n = c.run_len-params_len.result in
    let m = c.run_len.result in
    let first = c.run_len-params_len.ensures.inside in
    let second = rw c.split_at.ensures.back at c.run_len.ensures.inside in
    let within = rw c.split_at.ensures.back at c.run_len.ensures.within in
    let ended = rw c.split_at.ensures.back at c.run_len.ensures.ended in
    let more : n + m < length bytes = omega (arith, c.if-size-bytes.false, within, length-drop n bytes) in
    reads-broken bytes n m first second more
    (λ none.
    let same : n + m ≡ n = omega arith in
    rw same (c.run_len-params_len.ensures.ended (omega arith)))
    (rw (sym (get_or-drop n bytes m 0)) (ended (omega (arith, length-drop n bytes))))
    (ap is_final (sym c.from.ensures) ∙ sym c.is_final.ensures ∙ c.if-not-is_final.true)
    (rw c.split_at-then-not-is_final.ensures.back at c.in_ok-_read_anew.ensures.whole)

pub returns-then-params_len-size-clause-reads : goal.returns-then-params_len-size-clause-reads
returns-then-params_len-size-clause-reads c =
    let bytes = c.args.bytes.now in
    let n = c.run_len-params_len.result in
    let m = c.run_len.result in
    let first = c.run_len-params_len.ensures.inside in
    let second = rw c.split_at.ensures.back at c.run_len.ensures.inside in
    let within = rw c.split_at.ensures.back at c.run_len.ensures.within in
    let more : n + m < length bytes = omega (arith, c.if-size-bytes.false, within, length-drop n bytes) in
    let some : 0 < length (take m (drop n bytes)) = omega (arith, length-take-le m (drop n bytes) within) in
    reads-final bytes n m first second more (ap is_final (sym c.from.ensures) ∙ sym c.is_final.ensures ∙ c.if-not-is_final.false)
    ∙ ap (λ (control : Control). control ∷ controls_from between (chars_of (drop (n + m + 1) bytes)))
    (function_behind-some (take n bytes) (take m (drop n bytes)) (get_or bytes (n + m) 0) some)

pub returns-clause-reads : goal.returns-clause-reads
returns-clause-reads c =
    let bytes = c.args.bytes.now in
    let n = c.run_len-params_len.result in
    let m = c.run_len.result in
    let first = c.run_len-params_len.ensures.inside in
    let second = rw c.split_at.ensures.back at c.run_len.ensures.inside in
    let within = rw c.split_at.ensures.back at c.run_len.ensures.within in
    let more : n + m < length bytes = omega (arith, c.if-size-bytes.false, within, length-drop n bytes) in
    let none : m ≡ 0 = omega arith in
    let called = rw c.split_at.ensures.front at c.function_of.ensures in
    reads-final bytes n m first second more (ap is_final (sym c.from.ensures) ∙ sym c.is_final.ensures ∙ c.if-not-is_final.false)
    ∙ ap (λ (control : Control). control ∷ controls_from between (chars_of (drop (n + m + 1) bytes)))
    (ap (λ (k : ℕ). function_behind (take n bytes) (take k (drop n bytes)) (get_or bytes (n + m) 0)) none ∙ sym called)
