-- The rows of a plan, path by path.
use Rattle.std.specs.Prelude.{◌≡◌, Bool, List, [], ◌∷◌, ◌++◌}
use Rattle.retro_path.specs.Path.{PathValue}
use Rattle.retro_tree.specs.Tree.{Tree}
use Rattle.casebook_folder.specs.Changes.{state_of}
use Rattle.casebook_folder.specs.Plans.{AreSeenRows, IsPlan}
use Rattle.casebook_folder.specs.Steps.{Contents}
use Rattle.casebook_folder.specs.declared.given.GivenAttributes.{GivenAttributes}
use Rattle.casebook_folder.specs.declared.planned_row.PlannedRow.{PlannedRow}

-- the state of a row is that of its change, by what was found
abbrev pub HasState : PlannedRow → Type 0
HasState r = (has_other_child : Bool) × (r.state ≡ state_of r.change r.before has_other_child)

-- the plan of one path was appended to rows
pub record AppendsPlan (recorded repaired : Tree) (given : GivenAttributes) (path : PathValue)
    (old new : List PlannedRow) : Type 0 where
  pub more : List PlannedRow
  pub is : new ≡ old ++ more
  pub plan : IsPlan recorded repaired given (path ∷ []) more

-- rows that say what a folder holds were appended to rows
pub record AppendsSeen (f : Contents) (old new : List PlannedRow) : Type 0 where
  pub more : List PlannedRow
  pub is : new ≡ old ++ more
  pub seen : AreSeenRows f more
