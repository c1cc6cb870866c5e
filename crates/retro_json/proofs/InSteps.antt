-- A tree and sessions are read in two steps.
use Rattle.std.proofs.Common.{◌≡◌, List, Result, Ok, Err, refl}
use Rattle.serde_json.specs.Data.{Data}
use Rattle.retro_json.specs.declared.fault.Part.TheVariants.{Sessions, Tree}
use Rattle.retro_json.specs.declared.fault.Refusal.{Refusal}
use Rattle.retro_json.specs.SessionsPart as sessions
use Rattle.retro_json.specs.SessionsPart.{sessions_of}
use Rattle.retro_json.specs.Shape.{cells}
use Rattle.retro_json.specs.Steps.{◌>>=◌}
use Rattle.retro_json.specs.TreePart as tree
use Rattle.retro_json.specs.TreePart.{tree_of}
use Rattle.retro_json.specs.Worst.{every}
use Rattle.retro_json.specs.Rows.{session_rows, sessions_of_all, tree_of_rows, tree_rows}

regroup : {A B C : Type 0} (read : Result A Refusal) (f : A → Result B Refusal) (g : B → Result C Refusal)
    → (read >>= λ x. f x >>= g) ≡ ((read >>= f) >>= g)
regroup (Ok x) f g = refl
regroup (Err e) f g = refl

pub tree_in_steps : (d : Data) → tree_of d ≡ (tree_rows d >>= tree_of_rows)
unfolding tree_of
tree_in_steps d = regroup (cells Tree d) (every tree.row_of) tree_of_rows

pub sessions_in_steps : (d : Data) → sessions_of d ≡ (session_rows d >>= sessions_of_all)
unfolding sessions_of
sessions_in_steps d = regroup (cells Sessions d) (every sessions.row_of) sessions_of_all
