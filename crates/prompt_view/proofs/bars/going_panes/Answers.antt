use Rattle.std.proofs.Common.{ℕ, List, ◌++◌, codes, ap, ◌∙◌, map}
use Rattle.prompt_view.specs.Bars.{bar, bar_pane, going_bars, labelled}
use Rattle.prompt_view.specs.Scene.{SceneFields}
use Rattle.prompt_view.proofs.Counts.{all_bars}
use Rattle.prompt_view.proofs.bars.going_panes.Goals as goal

pub returns-clause-panes : goal.returns-clause-panes
returns-clause-panes c =
    let s = c.scene.inside in
    let pane = bar_pane c.args.scene.now in
    let verdict = bar s.looks.verdict s.verdict.now in
    let toolbar = bar s.looks.toolbar s.toolbar.now in
    all_bars pane verdict (bar s.looks.argument c.as_slice.result.now) (bar s.looks.search c.as_slice-2.result.now) toolbar
    c.new-panes.result.items c.push_bar.new.panes.items c.push_bar-2.new.panes.items c.push_bar-3.new.panes.items c.push_bar-4.new.panes.items
    c.new-panes.ensures.items c.in_ok-push_bar.ensures.pushed c.in_ok-push_bar-2.ensures.pushed c.in_ok-push_bar-3.ensures.pushed c.in_ok-push_bar-4.ensures.pushed
    ∙ ap (λ (text : List ℕ). map pane (verdict ++ (bar s.looks.argument text ++ (bar s.looks.search c.as_slice-2.result.now ++ toolbar)))) (c.as_slice.ensures ∙ c.in_ok-argument.ensures.value)
    ∙ ap (λ (text : List ℕ). map pane (verdict ++ (bar s.looks.argument (labelled (codes "Repeat: ") s.argument.now) ++ (bar s.looks.search text ++ toolbar)))) (c.as_slice-2.ensures ∙ c.in_ok-search.ensures.value)
    ∙ ap (λ (now : SceneFields). map pane (going_bars now)) c.scene.view_is
