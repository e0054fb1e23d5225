-- What the frames of a play are, and the prompts that follow each other in it.
use Rattle.std.proofs.Common.{◌≡◌, ℕ, ◌+◌, ◌<◌, zero, suc, add-one, Bool, true, false, List, [], ◌∷◌, ◌++◌, is_some, Option, Some, if◌then◌else◌, refl, ap, sym, ◌∙◌, subst, arith}
use Rattle.events.specs.declared.events.Event.{Event}
use Rattle.events.specs.declared.events.Event.TheVariants.{Start}
use Rattle.std.specs.List.{concat}
use Rattle.diff_render.specs.Frames.{Agree}
use Rattle.term_model.specs.Obeying.{acted, obeyed_bytes}
use Rattle.term_model.specs.Term.{Term}
use Rattle.session_core.specs.Next.{is_accepted}
use Rattle.session_core.specs.State.{has_ended}
use Rattle.diff_render.specs.Canvas.{Spells, reads}
use Rattle.term_model.proofs.ActedLemmas.{acted-append}
use Rattle.prompt_run.specs.FramesShown.{FramesShow, obeyed_each, obeying}
use Rattle.prompt_run.specs.Play.{Play, done, done_by, followed, with_event}
use Rattle.prompt_run.specs.Playing.{Finishes, Holds, KeepsFrames}
use Rattle.prompt_run.specs.Replay.{Closes, IsFramesOf}
use Rattle.prompt_run.specs.Run.{Run, ran_on}
use Rattle.prompt_run.specs.Script.{final_by}
use Rattle.prompt_run.specs.declared.players.Player.{Player}

-- ---- frames

-- the frame of one more event
pub frames-more : (t : Term) (r : Run) (events : List Event) (frames : List (List ℕ)) (end : Term) (last : Run) (event : Event) (frame : List ℕ)
    → FramesShow t r events frames end last → Spells frame (reads frame) → Agree (obeying end last event frame) (ran_on last event).screen
    → FramesShow t r (events ++ event ∷ []) (frames ++ frame ∷ []) (obeying end last event frame) (ran_on last event)
frames-more t r [] [] end last event frame show ends agree =
    let P : Term → Run → Type 0 = λ u q. FramesShow u q (event ∷ []) (frame ∷ []) (obeying end last event frame) (ran_on last event) in
    subst (λ u. P u r) show.0 (subst (λ q. P end q) show.1 (ends, agree, (refl, refl)))
frames-more t r [] (first ∷ frames) end last event frame show ends agree = absurd show
frames-more t r (first ∷ events) [] end last event frame show ends agree = absurd show
frames-more t r (first ∷ events) (one ∷ frames) end last event frame show ends agree =
    (show.0, show.1, frames-more (obeying t r first one) (ran_on r first) events frames end last event frame show.2 ends agree)

-- frames that are joined do what they do one by one
pub joined_at_once : (t : Term) (r : Run) (events : List Event) (frames : List (List ℕ)) (end : Term) (last : Run) → FramesShow t r events frames end last
    → (u : Term) → obeyed_bytes u (concat frames) ≡ obeyed_each u frames
joined_at_once t r [] [] end last show u = refl
joined_at_once t r [] (frame ∷ frames) end last show u = absurd show
joined_at_once t r (event ∷ events) [] end last show u = absurd show
joined_at_once t r (event ∷ events) (frame ∷ frames) end last show u =
    ap (acted u) (show.0 (concat frames))
    ∙ acted-append u (reads frame) (reads (concat frames))
    ∙ joined_at_once (obeying t r event frame) (ran_on r event) events frames end last show.2 (obeyed_bytes u frame)

-- the frames that are kept are those of the play
frames_of : (p : Play) (t : Term) (bytes : List ℕ) → KeepsFrames (Some bytes) p t → IsFramesOf p bytes
frames_of p t bytes kept = record {
  frames = kept.0;
  last = t;
  show = kept.1;
  joined = kept.2;
  at_once = λ u. ap (obeyed_bytes u) kept.2 ∙ joined_at_once p.first.screen p.first p.events kept.0 t p.run kept.1 u;
}

-- so a play that was ended closes with its frames, where they are kept
pub closes_frames : (asked : Bool) (p : Play) (refused : Option ℕ) (player : Player) (bytes : List ℕ) (status : ℕ) → Finishes p refused player status
    → player.screen.frames ≡ Some bytes → is_some player.screen.frames ≡ asked → Closes asked p refused bytes status
closes_frames asked p refused player bytes status finishes kept same =
    let P : Option (List ℕ) → Type 0 = λ frames. KeepsFrames frames (final_by p refused) player.screen.terminal in
    let C : Bool → Type 0 = λ b. Closes b p refused bytes status in
    subst C (sym (ap is_some kept) ∙ same) (frames_of (final_by p refused) player.screen.terminal bytes (subst P kept finishes.frames), finishes.status)

-- ---- an event

-- an event behind the end changes nothing
pub held_ended : (player : Player) (p : Play) (event : Event) → Holds player p → has_ended player.runner.session ≡ true → Holds player (done p event)
held_ended player p event holds ended =
    let over : has_ended p.run.state ≡ true = ap has_ended (sym holds.state) ∙ ended in
    let P : Bool → Type 0 = λ b. Holds player (done_by b p event) in subst P (sym over) holds

-- ---- the prompts of a run

-- a further prompt, where there is to be one more line at least
pub followed_more : (p : Play) (left more : ℕ) → left ≡ more + 1 → is_accepted p.run.state.outcome ≡ true → followed left p ≡ followed more (with_event p Start)
followed_more p left more is accepted =
    ap (λ n. followed n p) (is ∙ add-one more)
    ∙ ap (λ b. if b then followed more (with_event p Start) else p) accepted

-- no further prompt
pub followed_none : (p : Play) (left : ℕ) → (0 < left → is_accepted p.run.state.outcome ≡ false) → followed left p ≡ p
followed_none p zero none = refl
followed_none p (suc more) none = ap (λ b. if b then followed more (with_event p Start) else p) (none (omega arith))
