-- Answers to requests for restores.
use Rattle.std.specs.Prelude.{◌≡◌, ℕ, Bool, true, false, not, ◌&&◌, List, [], Ok, codes, is_some, map}
use Rattle.retro_tree.specs.Tree.{Tree}
use Rattle.casebook_folder.specs.Plans.{AreSeenRows}
use Rattle.casebook_folder.specs.Remaining.{undo}
use Rattle.casebook_folder.specs.declared.given.GivenAttributes.{GivenAttributes}
use Rattle.casebook_folder_cli.specs.Folders.{AllFolders}
use Rattle.casebook_folder_cli.specs.RestoreWords.{RestoreValue, UndoValue}
use Rattle.casebook_folder_cli.specs.declared.folders.Owner.{Owner}
use Rattle.casebook_folder_cli.specs.declared.restoring.KnownAttributes.{KnownAttributes}
use Rattle.casebook_folder_cli.specs.declared.restoring.RestoreAnswer.{RestoreAnswer}
use Rattle.casebook_restore.specs.Plans.{can_be_carried_out}
use Rattle.casebook_restore.specs.Restores.{IsRestorePlan}
use Rattle.casebook_restore.specs.Restores as restores
use Rattle.casebook_restore.specs.RowPlans.{planned_in}
use Rattle.casebook_restore.specs.Words.{plan_lines}
use Rattle.casebook_restore.specs.declared.task.RestorePlan.{RestorePlan}
use Rattle.casebook_undo.specs.Reading.{UndoView, undo_in}

-- from which tree to which a folder is brought, and what is known of modes and owners
pub record RepairedValue : Type 0 where
  pub recorded : Tree
  pub repaired : Tree
  pub known : KnownAttributes

-- What is known of paths is given them. All other files get the mode 0600, directories 0700, and both
-- the owner.
pub record IsGiven (known : KnownAttributes) (owner : Owner) (given : GivenAttributes) : Type 0 where
  pub files : given.files ≡ known.files
  pub dirs : given.dirs ≡ known.dirs
  pub file : given.file ≡ record { mode = 384; uid = owner.uid; gid = owner.gid }
  pub dir : given.dir ≡ record { mode = 448; uid = owner.uid; gid = owner.gid }

-- what is said of what was done
abbrev pub said_of : Bool → List ℕ
said_of true = codes "restored"
said_of false = codes "nothing was changed"

abbrev pub task_of : RestoreValue → RepairedValue → GivenAttributes → restores.RestoreValue
task_of request tree given = record {
  recorded = tree.recorded;
  repaired = tree.repaired;
  given = given;
  at = request.at;
  only = request.only;
}

-- The answer is the plan that brings the folder, as it was when it was opened, from a recorded to a
-- repaired tree, in lines. It is no if what was at a path isn't kept, or if the folder is neither
-- ready for it nor done with it.
pub record IsRestoreAnswer (folders : AllFolders) (request : RestoreValue) (tree : RepairedValue)
    (answer : RestoreAnswer) : Type 0 where
  pub owner : Owner
  pub given : GivenAttributes
  pub is_given : IsGiven tree.known owner given
  pub plan : RestorePlan
  pub is_plan : IsRestorePlan (task_of request tree given) plan
  pub seen : AreSeenRows (folders.opened request.root request.at) plan.rows.items
  pub lines : answer.lines.items ≡ plan_lines plan
  pub is_no : answer.is_no ≡ not (can_be_carried_out plan)
  pub remark : answer.remark ≡ said_of (can_be_carried_out plan && is_some request.undo)

-- The answer says how the folder, as it was when it was opened, is to each row that takes back one
-- of the undo file. It is no if it is neither ready for a row nor done with it.
pub record IsUndoAnswer (folders : AllFolders) (request : UndoValue) (bytes : List ℕ) (answer : RestoreAnswer)
    : Type 0 where
  pub file : UndoView
  pub is_file : undo_in bytes ≡ Ok file
  pub plan : RestorePlan
  pub rows : plan.rows.items ≡ map (planned_in (folders.opened request.root file.at)) (undo file.rows)
  pub unkept : plan.unkept.items ≡ []
  pub outside : plan.outside ≡ 0
  pub left_out : plan.left_out ≡ 0
  pub lines : answer.lines.items ≡ plan_lines plan
  pub is_no : answer.is_no ≡ not (can_be_carried_out plan)
  pub remark : answer.remark ≡ said_of (can_be_carried_out plan && request.apply)
