-- Restorations, as they are found.
use Rattle.std.specs.Prelude.{◌≡◌, List, [], ◌∷◌}
use Rattle.casebook_changes.specs.declared.changed_path.ChangedPath.{ChangedPath}
use Rattle.retro_keep.specs.Recording.{RecordingValue}
use Rattle.retro_redo.specs.declared.repair.Repair.{Repair}
use Rattle.retro_tree.specs.Path.{PathValue}
use Rattle.casebook_summary.specs.Restorations.{IsExtent, IsWriter, restored_change, tree_after, tree_before}
use Rattle.casebook_summary.specs.declared.restoration.Restoration.{Restoration}
use Rattle.casebook_summary.specs.inner.PathSets.{has_path}

-- What was found of a path that differs, if these paths are doubtful.
pub record IsFound (r : RecordingValue) (repair : Repair) (written : List PathValue) (changed : ChangedPath)
    (x : Restoration) : Type 0 where
  pub changes : restored_change x ≡ changed
  pub extent : IsExtent (tree_before r) (tree_after repair) x.path x.extent
  pub doubt : x.is_doubtful ≡ has_path x.path written
  pub writer : IsWriter r repair x.path x.writer

-- what was found of each path, in order
abbrev pub AreFound : RecordingValue → Repair → List PathValue → List ChangedPath → List Restoration → Type 0
AreFound r repair written [] [] = Unit {0}
AreFound r repair written [] (x ∷ xs) = ⊥
AreFound r repair written (c ∷ cs) [] = ⊥
AreFound r repair written (c ∷ cs) (x ∷ xs) = IsFound r repair written c x × AreFound r repair written cs xs
