-- The folders so far, and those that are left.
use Rattle.std.proofs.Common.{◌≡◌, ◌++◌, drop, map}
use Rattle.casebook_words.specs.Words.{path_words}
use Rattle.casebook_status.proofs.pieces.folder_pieces.Given as goal

abbrev pub invariant-loop-folder : goal.invariant-loop-folder
invariant-loop-folder l =
    l.pieces.items ++ map path_words (drop l.folder-index l.folders)
    ≡ map path_words l.folders
