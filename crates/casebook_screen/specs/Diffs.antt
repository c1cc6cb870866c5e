-- Diffs of what a repair changes: of files, and of what lines printed.
use Rattle.std.specs.Prelude.{◌≡◌, ℕ, Bool, true, false, ◌||◌, List, [], ◌∷◌, ◌++◌, Option, Some, None}
use Rattle.std.specs.Prelude.{codes, decimal}
use Rattle.std.specs.FinMap as map_of
use Rattle.casebook_words.specs.FileLines.{lines_at, shown_lines}
use Rattle.casebook_words.specs.Words.{path_words}
use Rattle.retro_keep.specs.Recording.{RecordingValue, last_state}
use Rattle.retro_redo.specs.Moments.{CompensationValue}
use Rattle.retro_redo.specs.Repair.{compensations_in, repaired_state}
use Rattle.retro_redo.specs.declared.repair.Repair.{Repair}
use Rattle.retro_tree.specs.Path.{PathValue}
use Rattle.retro_tree.specs.Tree.{Tree}
use Rattle.retro_tree.specs.declared.entry.Entry.{Entry}
use Rattle.retro_tree.specs.declared.entry.Entry.TheVariants.{Dir, File}
use Rattle.casebook_summary.specs.declared.restoration.Restoration.{Restoration}
use Rattle.casebook_screen.specs.Unified.{IsUnified}

-- The lines of a diff of two texts: their names, and what differs.
pub record IsDiff (old_name new_name : List ℕ) (old new lines : List (List ℕ)) : Type 0 where
  pub body : List (List ℕ)
  pub unified : IsUnified old new body
  pub shown : lines ≡ (codes "--- " ++ old_name) ∷ (codes "+++ " ++ new_name) ∷ body

-- lines that are made of parts, one for each item, in order
abbrev pub AreParts : {A : Type 0} → (A → List (List ℕ) → Type 0) → List A → List (List ℕ) → Type 0
AreParts IsPart [] lines = lines ≡ []
AreParts IsPart (x ∷ xs) lines =
    (part : List (List ℕ)) × (rest : List (List ℕ))
    × IsPart x part × AreParts IsPart xs rest × (lines ≡ part ++ rest)

-- ---- files

abbrev pub is_file : Option Entry → Bool
is_file None = false
is_file (Some Dir) = false
is_file (Some (File bytes)) = true

abbrev pub has_file : Option Entry → Option Entry → Bool
has_file before after = is_file before || is_file after

-- the name of a side without a file
abbrev pub name_of_side : Bool → PathValue → List ℕ
name_of_side true path = path_words path
name_of_side false path = codes "/dev/null"

abbrev pub side_name : PathValue → Option Entry → List ℕ
side_name path entry = name_of_side (is_file entry) path

-- the diff of the files at a path in two trees, if there is a file
abbrev pub IsPathDiffIf : Bool → Tree → Tree → PathValue → List (List ℕ) → Type 0
IsPathDiffIf false before after path lines = lines ≡ []
IsPathDiffIf true before after path lines =
    IsDiff (side_name path (map_of.get before path)) (side_name path (map_of.get after path))
    (lines_at path before) (lines_at path after) lines

abbrev pub IsPathDiff : Tree → Tree → PathValue → List (List ℕ) → Type 0
IsPathDiff before after path lines =
    IsPathDiffIf (has_file (map_of.get before path) (map_of.get after path)) before after path lines

-- ---- outputs

abbrev pub output_name : ℕ → List ℕ
output_name number = codes "output of line " ++ decimal number

-- the diff of what a line printed and prints
abbrev pub IsOutputDiff : CompensationValue → List (List ℕ) → Type 0
IsOutputDiff c lines =
    IsDiff (output_name c.number) (output_name c.number) (shown_lines c.before) (shown_lines c.now) lines

-- ---- all

-- An empty line, a diff for each path to restore, and a diff for each output that differs.
pub record AreDiffs (r : RecordingValue) (repair : Repair) (restorations : List Restoration)
    (lines : List (List ℕ)) : Type 0 where
  pub files : List (List ℕ)
  pub outputs : List (List ℕ)
  pub of_paths : AreParts
      (λ x. IsPathDiff (last_state r.lines r.first).tree (repaired_state repair).tree x.path)
      restorations files
  pub of_outputs : AreParts IsOutputDiff (compensations_in r repair) outputs
  pub shown : lines ≡ [] ∷ (files ++ outputs)
