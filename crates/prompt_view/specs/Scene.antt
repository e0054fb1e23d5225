-- What a contract sees of a scene: all that is drawn of a prompt.
use Rattle.std.specs.Prelude.{ℕ, ◌≤◌, ◌<◌, Bool, List, length, Option}
use Rattle.std.specs.Option.{ForSome}
use Rattle.cell_grid.specs.Size.{Extent}
use Rattle.text_doc.specs.Document.{Document}
use Rattle.text_doc.specs.declared.completions.Completion.{Completion}
use Rattle.win_view.specs.declared.scrolls.Scroll.{Scroll}
use Rattle.prompt_view.specs.declared.scenes.Direction.{Direction}
use Rattle.prompt_view.specs.declared.scenes.SceneLooks.{SceneLooks}
use Rattle.prompt_view.specs.declared.scenes.Selection.{Selection}

-- texts that are empty are not there, and a menu without items is none
pub record SceneFields : Type 0 where
  pub message : List ℕ
  pub document : Document
  pub multiline : Bool
  pub password : Bool
  pub wrap : Bool
  pub selection : Selection
  pub suggestion : List ℕ
  pub items : List Completion
  pub chosen : Option ℕ
  pub origin : ℕ
  pub completes : Bool
  pub right_prompt : List ℕ
  pub verdict : List ℕ
  pub argument : List ℕ
  pub search : Option Direction
  pub needle : List ℕ
  pub toolbar : List ℕ
  pub finished : Bool
  pub size : Extent
  pub scroll : Scroll
  pub room : Option ℕ
  pub looks : SceneLooks

-- its texts are so short, and its items so few, that their cells can be counted, and the chosen item is one of the menu
pub record IsScene (s : SceneFields) : Type 0 where
  pub short_message : length s.message ≤ 200
  pub short_suggestion : length s.suggestion ≤ 32768
  pub short_right_prompt : length s.right_prompt ≤ 200
  pub short_verdict : length s.verdict ≤ 32768
  pub short_argument : length s.argument ≤ 32768
  pub short_toolbar : length s.toolbar ≤ 32768
  pub few_items : length s.items ≤ 10000
  pub chosen : ForSome s.chosen (λ item. item < length s.items)
