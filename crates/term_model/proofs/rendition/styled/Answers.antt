use Rattle.std.proofs.Common.{◌≡◌, ◌∷◌, ◌<◌, length, sym, ap, ◌∙◌, arith, length-drop}
use Rattle.term_model.specs.Meaning.{numbers_behind}
use Rattle.term_model.specs.Rendition.{styled}
use Rattle.term_model.proofs.RenditionLemmas.{styled-once, styled-coloured}
use Rattle.term_model.proofs.rendition.styled.Goals as goal

pub loop-rest-preserved-in-Some-colour_behind : goal.loop-rest-preserved-in-Some-colour_behind
loop-rest-preserved-in-Some-colour_behind c =
    let pen = c.loop-rest.pen in
    let n = c.first_number-number.result.0 in
    let behind = numbers_behind c.first_number-number.result.1 in
    let found = c.in-Some-colour_behind in
    let read : numbers_behind c.loop-rest.rest ≡ n ∷ behind = ap numbers_behind c.in-Some.is ∙ c.first_number-number.ensures.value in
    rw (c.with_colour-pen.ensures, found.ensures.rest)
    (sym (styled-coloured pen n behind found.colour (sym found.ensures.colour)) ∙ sym (ap (styled pen) read) ∙ c.loop-rest.invariant)

pub loop-rest-preserved : goal.loop-rest-preserved
loop-rest-preserved c =
    let pen = c.loop-rest.pen in
    let n = c.first_number-number.result.0 in
    let behind = numbers_behind c.first_number-number.result.1 in
    let read : numbers_behind c.loop-rest.rest ≡ n ∷ behind = ap numbers_behind c.in-Some.is ∙ c.first_number-number.ensures.value in
    rw c.styled_once-pen.ensures
    (sym (styled-once pen n behind (sym c.in-None.ensures.colour)) ∙ sym (ap (styled pen) read) ∙ c.loop-rest.invariant)

pub loop-rest-smaller-in-Some-colour_behind : goal.loop-rest-smaller-in-Some-colour_behind
loop-rest-smaller-in-Some-colour_behind c =
    let n = c.first_number-number.result.0 in
    let behind = numbers_behind c.first_number-number.result.1 in
    let after = numbers_behind c.in-Some-colour_behind.after in
    let read : numbers_behind c.loop-rest.rest ≡ n ∷ behind = ap numbers_behind c.in-Some.is ∙ c.first_number-number.ensures.value in
    let fewer : length after < length (numbers_behind c.loop-rest.rest) =
    omega (arith, ap length read, ap length c.in-Some-colour_behind.ensures.rest, length-drop 4 behind) in
    fewer
