-- Guesses and seats come back from the workers.
use Rattle.std.proofs.Common.{◌≡◌, ◌∙◌, ℕ, All, Bool, List, Option, None, Some, [], ◌∷◌, ◌++◌, if◌then◌else◌, subst, sym, true, false}
use Rattle.std.proofs.lemmas.List.Elements.{All-nil, All-push, All-weaker}
use Rattle.retro_pool.specs.Guesses.{IsGuess}
use Rattle.retro_pool.specs.declared.guess.Guess.{Guess}
use Rattle.retro_keep.specs.Recording.{RecordingValue}
use Rattle.retro_keep.specs.declared.edit.Edit.{Edit}
use Rattle.retro_keep.specs.declared.noted.Noted.{Noted}
use Rattle.retro_redo.specs.Ground.{GroundValue, edit_lent}
use Rattle.retro_redo.specs.Progress.{IsNewRunOf}
use Rattle.retro_redo.specs.Settling.{IsGuessOf}
use Rattle.retro_rounds.specs.declared.attempt.Attempt.{Attempt}
use Rattle.retro_rounds.specs.declared.worker.Worker.{Worker}
use Rattle.retro_rounds.specs.inner.Attempts.{IsAttempt, IsGuessIn}
use Rattle.retro_rounds.specs.inner.Workers.{HasGuesses}

pub guess_in : (g : GroundValue) (guess : Guess) → IsGuess g guess → IsGuessIn (edit_lent g) g.recording guess
guess_in g guess is = λ noted at.
    let both : Some is.noted ≡ Some noted = sym is.line ∙ at in
    let same : is.noted ≡ noted = cc in
    subst (λ (n : Noted). IsNewRunOf (edit_lent g) (guess.number, n) guess.run) same is.new_run

-- an item was pushed, or there was no room
pub all_pushed : {X : Type 0} (P : X → Type 0) (b : Bool) (xs : List X) (x : X) → All P xs → P x
    → All P (if b then xs ++ x ∷ [] else xs)
all_pushed P true xs x all here = All-push P xs x all here
all_pushed P false xs x all here = all

pub none_right : (edit : ℕ → Option Edit) (r : RecordingValue) (a : Attempt) → a.run ≡ None → IsAttempt edit r a
none_right edit r a none = λ noted at. subst (IsGuessOf edit (a.number, noted)) (sym none) tt

-- workers that have no guess
pub idle_all : (g : GroundValue) (ws : List Worker) → All (λ w. w.guesses.items ≡ []) ws → All (HasGuesses g) ws
idle_all g ws =
    All-weaker (λ (w : Worker). w.guesses.items ≡ []) (HasGuesses g)
    (λ w idle. subst (All (IsGuess g)) (sym idle) (All-nil (IsGuess g))) ws
