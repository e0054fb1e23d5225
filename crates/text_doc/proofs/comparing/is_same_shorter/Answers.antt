use Rattle.std.proofs.Common.{sym, ap, ◌++◌, ◌∙◌}
use Rattle.text_doc.proofs.Joins.{joined_rest, front_of_longer, rest_of_longer}
use Rattle.text_doc.proofs.comparing.is_same_shorter.Goals as goal

pub returns-then-are_equal : goal.returns-then-are_equal
returns-then-are_equal c =
    let front = c.args.front.now in
    let back = c.args.back.now in
    let longer = c.args.other_front.now in
    let behind = c.args.other_back.now in (
      λ same. joined_rest front back longer behind (c.are_equal.ensures.0 c.if-are_equal.true ∙ c.split_at.ensures.front) (ap (λ xs. xs ++ behind) (sym c.split_at.ensures.back) ∙ c.is_joined.ensures.0 same),
      λ is. c.is_joined.ensures.1 (ap (λ xs. xs ++ behind) c.split_at.ensures.back ∙ rest_of_longer front back longer behind c.requires is),
    )

pub returns-else-are_equal : goal.returns-else-are_equal
returns-else-are_equal c = (
  λ same. absurd (cc),
  λ is. c.are_equal.ensures.1 (front_of_longer c.args.front.now c.args.back.now c.args.other_front.now c.args.other_back.now c.requires is ∙ sym c.split_at.ensures.front),
)
