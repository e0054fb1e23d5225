use Rattle.std.proofs.Common.{◌≡◌, ℕ, List, sym, subst, ap}
use Rattle.characters.specs.Cut.{Cut}
use Rattle.term_model.specs.Controls.{between, read_after}
use Rattle.term_model.proofs.CharLemmas.{characters-encoded}
use Rattle.term_model.proofs.laws.end_encoded.Goals as goal

pub returns : goal.returns
returns c = λ chars all whole. record {
  characters = ap (λ (t : Cut ℕ). t.rest) (characters-encoded chars all);
  sequences = subst (λ (t : Cut ℕ). read_after between t.items ≡ between) (sym (characters-encoded chars all)) whole;
}
