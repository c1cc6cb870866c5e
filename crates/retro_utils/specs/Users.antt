-- `id -u name` (XCU id).
use Rattle.std.specs.Prelude.{ℕ, List, [], ◌∷◌, ◌++◌, Option, Some, None, decimal, codes}
use Rattle.retro_tree.specs.Path.{passwd}
use Rattle.retro_tree.specs.Tree.{node_in}
use Rattle.retro_tree.specs.User.{user_in}
use Rattle.retro_tree.specs.declared.state.State.{State}
use Rattle.retro_tree.specs.declared.user.User.{User}
use Rattle.retro_utils.specs.Outcomes.{complaint, output, usage}
use Rattle.retro_utils.specs.declared.done.Done.{Done}

abbrev pub user_done : List ℕ → Option User → Done
user_done name None = complaint (codes "id: " ++ name ++ codes ": no such user\n")
user_done name (Some user) = output (decimal user.number ++ codes "\n")

-- the number of a user and a newline
unfoldable pub id : List (List ℕ) → State → State × Done
id [] s = (s, usage (codes "id"))
id (name ∷ []) s = (s, user_done name (user_in name (node_in passwd s.tree)))
id (x ∷ y ∷ more) s = (s, usage (codes "id"))
