use Rattle.retro_moves.proofs.Removals.{missing_removed, file_childless, file_removed}
use Rattle.retro_moves.proofs.RemovedFiles.{leaf_removed}
use Rattle.retro_moves.proofs.removal.remove_file.Goals as goal

pub returns-in-Missing-clause-means : goal.returns-in-Missing-clause-means
returns-in-Missing-clause-means g c =
    leaf_removed _ _ c.args.path.now _ (λ e. cc)
    (missing_removed _ _ c.args.path.now (rw c.in-Missing.is at c.in_ok-kind.ensures.means) c.keeps_law.ensures.lawful)

pub remove-requires-clause-childless : goal.remove-requires-clause-childless
remove-requires-clause-childless g c =
    rw c.in_ok-copy-in-File.ensures
    (file_childless c.args.local.now c.kind.new.self c.args.path.now (rw c.in-File.is at c.in_ok-kind.ensures.means))

pub returns-in_ok-remove-in-File-clause-means : goal.returns-in_ok-remove-in-File-clause-means
returns-in_ok-remove-in-File-clause-means g c =
    leaf_removed _ _ c.args.path.now _ (λ e. cc)
    (file_removed _ _ _ c.args.path.now (rw c.in-File.is at c.in_ok-kind.ensures.means)
    (rw c.in_ok-copy-in-File.ensures at c.in_ok-remove-in-File.ensures.means) c.keeps_law.ensures.lawful)
