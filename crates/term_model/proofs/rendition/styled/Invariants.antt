use Rattle.std.proofs.Common.{◌≡◌, length}
use Rattle.term_model.specs.Parameters.{numbers_from}
use Rattle.term_model.specs.Meaning.{numbers_behind}
use Rattle.term_model.specs.Rendition.{styled}
use Rattle.term_model.proofs.rendition.styled.Given as goal

-- the numbers that are left give from here what all of them give
abbrev pub invariant-loop-rest : goal.invariant-loop-rest
invariant-loop-rest l = styled l.pen (numbers_behind l.rest) ≡ styled l.fn.pen (numbers_from 0 l.fn.params)

abbrev pub decreases-loop-rest : goal.decreases-loop-rest
decreases-loop-rest l = length (numbers_behind l.rest)
