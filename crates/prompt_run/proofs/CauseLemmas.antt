-- Causes of faults, of calls that follow each other, and how a run goes on behind an accepted line.
use Rattle.std.proofs.Common.{◌≡◌, ℕ, ◌≤◌, true, is_some, sym, subst, arith}
use Rattle.std.proofs.lemmas.Bool.{false≢true}
use Rattle.causes.specs.Faults.{Rose, counted}
use Rattle.diff_render.specs.Frames.{WasDrawnAt}
use Rattle.diff_render.specs.declared.shown.OnScreen.{OnScreen}
use Rattle.diff_render.specs.declared.shown.OnScreen.TheVariants.{Nothing}
use Rattle.session_core.specs.Next.{again}
use Rattle.session_core.specs.State.{State}
use Rattle.prompt_run.specs.Turn.{MayTurn}
use Rattle.prompt_run.specs.Wishes.{CountsOn, Stands}

-- a count that rose before or behind other calls rose
pub rose_later : (before mid now : ℕ) → Rose before mid → mid ≤ now → Rose before now
rose_later before mid now rose later = omega (arith, rose, later)

pub rose_earlier : (before mid now : ℕ) → before ≤ mid → Rose mid now → Rose before now
rose_earlier before mid now later rose = omega (arith, rose, later)

-- a count of jobs goes on from call to call, and where it stands over both it stands over the second
pub counts_same : (before now : ℕ) → now ≡ before → CountsOn before now
counts_same before now same = λ few. (omega (arith, same), omega (arith, same, few))

pub counts_once : (before now : ℕ) → now ≡ counted before → CountsOn before now
counts_once before now once = λ few. (omega (arith, once, few), omega (arith, once))

pub counts_on : (before mid now : ℕ) → CountsOn before mid → CountsOn mid now → CountsOn before now
counts_on before mid now one two = λ few.
    let first = one few in
    let second = two first.1 in (omega (arith, first.0, second.0), second.1)

pub stands_last : (before mid now : ℕ) → CountsOn before mid → CountsOn mid now → Stands before now → Stands mid now
stands_last before mid now one two stands =
    let first = one (omega (arith, stands.1)) in
    let second = two first.1 in (omega (arith, stands.0, first.0, second.0), omega (arith, stands.0, stands.1, first.0, second.0))

pub counted_once : (before now : ℕ) → now ≡ counted before → Stands before now → ⊥
counted_once before now once stands = omega (arith, once, stands.0, stands.1)

-- a screen on which nothing is shown may be used in any turn
pub may_begin : (s : State) (shown : OnScreen) → shown ≡ Nothing → MayTurn s shown
may_begin s shown none = λ going. subst (WasDrawnAt s.size) (sym none) tt

pub again_open : (s : State) → is_some (again s).outcome ≡ true → ⊥
unfolding again
again_open s some = false≢true some
