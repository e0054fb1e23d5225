use Rattle.std.proofs.Common.{length, ap, arith}
use Rattle.prompt_view.specs.Scene.{SceneFields}
use Rattle.prompt_view.proofs.Counts.{few_columns}
use Rattle.prompt_view.proofs.floats.push_right_prompt.Goals as goal

pub overflow_cast-cols : goal.overflow_cast-cols
overflow_cast-cols c =
    omega (
      arith,
      c.in_ok-cols.ensures,
      few_columns c.scene.inside.right_prompt.now,
      ap (λ (s : SceneFields). length s.right_prompt) c.scene.view_is,
      c.requires.short_right_prompt,
    )

pub text_pane-requires-clause-cols : goal.text_pane-requires-clause-cols
text_pane-requires-clause-cols c =
    omega (
      arith,
      c.in_ok-cols.ensures,
      few_columns c.scene.inside.right_prompt.now,
      ap (λ (s : SceneFields). length s.right_prompt) c.scene.view_is,
      c.requires.short_right_prompt,
    )
