use Rattle.std.proofs.Common.{sym, ◌∙◌}
use Rattle.text_doc.proofs.Joins.{joined_parts, front_of_joined, back_of_joined}
use Rattle.text_doc.proofs.comparing.is_joined.Goals as goal

pub returns-then-are_equal : goal.returns-then-are_equal
returns-then-are_equal c =
    let front = c.args.front.now in
    let back = c.args.back.now in
    let chars = c.args.chars.now in (
      λ same. joined_parts front back chars (c.are_equal.ensures.0 c.if-are_equal.true ∙ c.split_at.ensures.front) (c.are_equal-then-are_equal.ensures.0 same ∙ c.split_at.ensures.back),
      λ is. c.are_equal-then-are_equal.ensures.1 (back_of_joined front back chars is ∙ sym c.split_at.ensures.back),
    )

pub returns-else-are_equal : goal.returns-else-are_equal
returns-else-are_equal c = (
  λ same. absurd (cc),
  λ is. c.are_equal.ensures.1 (front_of_joined c.args.front.now c.args.back.now c.args.chars.now is ∙ sym c.split_at.ensures.front),
)
