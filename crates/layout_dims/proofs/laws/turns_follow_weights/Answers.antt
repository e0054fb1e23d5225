use Rattle.layout_dims.proofs.Orders.{share}
use Rattle.layout_dims.proofs.laws.turns_follow_weights.Goals as goal

pub returns-clause-least : goal.returns-clause-least
returns-clause-least c = λ ws i r weights h. (share ws i r h (weights.positive i h)).0

pub returns-clause-most : goal.returns-clause-most
returns-clause-most c = λ ws i r weights h. (share ws i r h (weights.positive i h)).1
