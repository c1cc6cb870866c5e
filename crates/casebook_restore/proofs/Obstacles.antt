-- What is said of obstacles and states is printable.
use Rattle.std.proofs.Common.{IsTrue, refl}
use Rattle.std.specs.List.{list_all}
use Rattle.casebook_text.specs.SafeText.{is_printable}
use Rattle.casebook_folder.specs.declared.obstacle.Obstacle.{Obstacle}
use Rattle.casebook_folder.specs.declared.obstacle.Obstacle.TheVariants as obstacles
use Rattle.casebook_folder.specs.declared.state.State.{State}
use Rattle.casebook_folder.specs.declared.state.State.TheVariants as states
use Rattle.casebook_restore.specs.Words.{obstacle_words, state_words}

pub printable : (o : Obstacle) → IsTrue (list_all is_printable (obstacle_words o))
unfolding obstacle_words
printable obstacles.Link = refl
printable obstacles.Special = refl
printable obstacles.Mount = refl
printable obstacles.Above = refl
printable obstacles.Unreadable = refl
printable obstacles.TooLarge = refl
printable obstacles.SeveralNames = refl
printable obstacles.Changing = refl
printable obstacles.TemporaryName = refl
printable obstacles.NameTaken = refl
printable obstacles.NameTooLong = refl
printable obstacles.OtherChild = refl

pub printable_state : (s : State) → IsTrue (list_all is_printable (state_words s))
printable_state states.Ready = refl
printable_state states.Done = refl
printable_state states.Differs = refl
printable_state (states.Blocked o) = refl
