-- Restorations, one after another.
use Rattle.std.proofs.Common.{◌≡◌, ◌∙◌, ℕ, ◌≤◌, List, [], ◌∷◌, ◌++◌, Option, Some, None, ap₂, refl, sym, subst}
use Rattle.std.proofs.Common.{drop, length, map}
use Rattle.std.proofs.lemmas.List.{append-nil, drop_all}
use Rattle.casebook_changes.specs.ChangedPaths.{AreChangedPaths}
use Rattle.casebook_changes.specs.declared.changed_path.ChangedPath.{ChangedPath}
use Rattle.casebook_profile.specs.declared.unknown_line.UnknownLine.{UnknownLine}
use Rattle.retro_keep.specs.Recording.{RecordingValue}
use Rattle.retro_redo.specs.declared.repair.Repair.{Repair}
use Rattle.retro_tree.specs.Path.{PathValue}
use Rattle.casebook_summary.specs.Doubts.{is_doubtful}
use Rattle.casebook_summary.specs.Restorations.{AreEach, AreRestorations, IsExtentBy, IsLines, restored_change}
use Rattle.casebook_summary.specs.Restorations.{tree_after, tree_before}
use Rattle.casebook_summary.specs.declared.restoration.Extent.{Extent}
use Rattle.casebook_summary.specs.declared.restoration.Restoration.{Restoration}
use Rattle.casebook_summary.specs.inner.Found.{AreFound}
use Rattle.casebook_summary.specs.inner.PathSets.{has_path}

-- no paths are left
pub all_found : (r : RecordingValue) (repair : Repair) (written : List PathValue) (cs : List ChangedPath) (i : ℕ)
    (xs : List Restoration) → length cs ≤ i
    → ((rest : List Restoration) → AreFound r repair written (drop i cs) rest → AreFound r repair written cs (xs ++ rest))
    → AreFound r repair written cs xs
all_found r repair written cs i xs le so_far =
    subst (AreFound r repair written cs) (append-nil xs)
    (so_far [] (subst (λ t. AreFound r repair written t []) (sym (drop_all i cs le)) tt))

-- an extent that is known, and one that is lines
pub known : (kind : Option Extent) (old new : List (List ℕ)) (extent : Extent) → Some extent ≡ kind
    → IsExtentBy kind old new extent
known kind old new extent is = subst (λ k. IsExtentBy k old new extent) is refl

pub of_lines : (kind : Option Extent) (old new : List (List ℕ)) (extent : Extent) → None ≡ kind
    → IsLines old new extent → IsExtentBy kind old new extent
of_lines kind old new extent is lines = subst (λ k. IsExtentBy k old new extent) is lines

-- what was found has the paths, and each is right
same_changes : (r : RecordingValue) (repair : Repair) (written : List PathValue) (cs : List ChangedPath)
    (xs : List Restoration) → AreFound r repair written cs xs → cs ≡ map restored_change xs
same_changes r repair written [] [] are = refl
same_changes r repair written [] (x ∷ xs) are = absurd are
same_changes r repair written (c ∷ cs) [] are = absurd are
same_changes r repair written (c ∷ cs) (x ∷ xs) are =
    ap₂ (λ d ds. d ∷ ds) (sym are.0.changes) (same_changes r repair written cs xs are.1)

all_right : (r : RecordingValue) (repair : Repair) (unknown : List UnknownLine) (written : List PathValue)
    (cs : List ChangedPath) (xs : List Restoration)
    → ((p : PathValue) → has_path p written ≡ is_doubtful r repair.recording unknown p)
    → AreFound r repair written cs xs → AreEach r repair unknown xs
all_right r repair unknown written [] [] same are = tt
all_right r repair unknown written [] (x ∷ xs) same are = absurd are
all_right r repair unknown written (c ∷ cs) [] same are = absurd are
all_right r repair unknown written (c ∷ cs) (x ∷ xs) same are = (
  record { extent = are.0.extent; doubt = are.0.doubt ∙ same x.path; writer = are.0.writer },
  all_right r repair unknown written cs xs same are.1,
)

pub are_restorations : (r : RecordingValue) (repair : Repair) (unknown : List UnknownLine) (written : List PathValue)
    (cs : List ChangedPath) (xs : List Restoration)
    → ((p : PathValue) → has_path p written ≡ is_doubtful r repair.recording unknown p)
    → AreChangedPaths (tree_before r) (tree_after repair) cs → AreFound r repair written cs xs
    → AreRestorations r repair unknown xs
are_restorations r repair unknown written cs xs same changed are = record {
  paths = subst (AreChangedPaths (tree_before r) (tree_after repair)) (same_changes r repair written cs xs are) changed;
  each = all_right r repair unknown written cs xs same are;
}
