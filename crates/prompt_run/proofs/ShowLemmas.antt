-- How a terminal that shows one drawing after another keeps up with the screens of a run.
use Rattle.std.proofs.Common.{◌≡◌, ℕ, ◌≤◌, nat_eq, Bool, true, false, max, refl, ap, ◌∙◌, subst, arith, if◌then◌else◌}
use Rattle.std.proofs.lemmas.Bool.{and_parts, eqb-true}
use Rattle.term_model.specs.Obeying.{forgotten}
use Rattle.term_model.specs.Resizing.{resized}
use Rattle.term_model.specs.Term.{Term, IsTerminal}
use Rattle.diff_render.specs.Frames.{Agree, Begins, IsBaseOf, WasDrawnAt, forgetting}
use Rattle.diff_render.specs.declared.shown.OnScreen.{OnScreen}
use Rattle.diff_render.specs.declared.shown.OnScreen.TheVariants.{Nothing, Drawn, Resized}
use Rattle.cell_grid.specs.Size.{Extent}
use Rattle.prompt_run.specs.Run.{base_at, same_size, shown_at, terminal_at}

-- ---- resizes

base_resized : (shown : OnScreen) (t : Term) (base : ℕ) (now : Extent) → 1 ≤ now.rows → IsBaseOf shown t base
    → IsBaseOf (forgetting shown) (resized t now) (max base (resized t now).top)
base_resized Nothing t base now some is = omega (arith, is)
base_resized (Resized row) t base now some is = omega (arith, is)
base_resized (Drawn drawing size) t base now some is = omega (arith, is.0, ap (λ x. x.top) is.1, ap (λ x. x.row) is.1)

same_extent : (before now : Extent) → same_size before now ≡ true → before ≡ now
same_extent before now same =
    let parts : (nat_eq before.rows now.rows ≡ true) × (nat_eq before.cols now.cols ≡ true) = and_parts (nat_eq before.rows now.rows) (nat_eq before.cols now.cols) same in
    ap (λ n. record { rows = n; cols = before.cols }) (eqb-true before.rows now.rows parts.0) ∙ ap (λ n. record { rows = now.rows; cols = n }) (eqb-true before.cols now.cols parts.1)

-- where the size changes the next frame begins with a forgotten one, and else as before
pub begins_at : (before now : Extent) (shown : OnScreen) (t : Term) (base : ℕ) → 1 ≤ now.rows → Begins before shown t base → IsTerminal (terminal_at before now t)
    → Begins now (shown_at before now shown) (terminal_at before now t) (base_at before now t base)
begins_at before now shown t base some begins terminal = by (same_size before now) refl terminal
  where
    by : (b : Bool) → same_size before now ≡ b → IsTerminal (if b then t else resized t now)
        → Begins now (if b then shown else forgetting shown) (if b then t else resized t now) (if b then base else max base (resized t now).top)
    by true same kept = subst (λ e. Begins e shown t base) (same_extent before now same) begins
    by false other kept = record { terminal = kept; tall = refl; wide = refl; base_line = base_resized shown t base now some begins.base_line }

-- terminals that agree, agree at another size, and have the same base line there
pub agree_at : (before now : Extent) (s t : Term) → Agree s t → Agree (terminal_at before now s) (terminal_at before now t)
agree_at before now s t agree = elim (same_size before now) as (λ b. Agree (if b then s else resized s now) (if b then t else resized t now)) [
  | true ↦ agree
  | false ↦ ap (λ x. forgotten (resized x now)) agree
]

pub base_agree : (before now : Extent) (s t : Term) (base : ℕ) → Agree s t → base_at before now s base ≡ base_at before now t base
base_agree before now s t base agree = ap (λ x. base_at before now x base) agree

-- what was drawn at a size before is drawn at this one, or its size is forgotten
pub drawn_at : (before now : Extent) (shown : OnScreen) → WasDrawnAt before shown → WasDrawnAt now (shown_at before now shown)
drawn_at before now shown was = by (same_size before now) refl
  where
    by : (b : Bool) → same_size before now ≡ b → WasDrawnAt now (if b then shown else forgetting shown)
    by true same = subst (λ e. WasDrawnAt e shown) (same_extent before now same) was
    by false other = forgot shown
      where
        forgot : (shown : OnScreen) → WasDrawnAt now (forgetting shown)
        forgot Nothing = tt
        forgot (Drawn drawing size) = tt
        forgot (Resized row) = tt
