-- The values of the code as the definitions have them.
use Rattle.casebook_restore.specs.Restores.{RestoreValue}
use Rattle.casebook_restore.specs.declared.task.RestoreTask.{RestoreTask}

abbrev pub task_view : RestoreTask → RestoreValue
task_view task = record {
  recorded = task.trees.recorded.now;
  repaired = task.trees.repaired.now;
  given = task.trees.given.now;
  at = task.at.now;
  only = task.only.now;
}
