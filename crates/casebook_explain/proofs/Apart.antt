-- Shelves are apart from all that isn't below /.casebook.
use Rattle.std.proofs.Common.{◌≡◌, ◌∙◌, ℕ, ◌+◌, true, false, refl, sym, ap, List, [], ◌∷◌}
use Rattle.std.proofs.lemmas.Bool.{false≢true}
use Rattle.retro_path.specs.Path.{PathValue}
use Rattle.retro_tree.specs.Cell.{value}
use Rattle.retro_tree.specs.State.{put_node}
use Rattle.retro_tree.specs.declared.cell.Cell.{Cell}
use Rattle.retro_tree.specs.declared.cell.Cell.TheVariants as cells
use Rattle.retro_tree.specs.declared.node.Node.{Node}
use Rattle.retro_tree.specs.declared.node.Node.TheVariants.{Dir, File}
use Rattle.retro_tree.specs.declared.state.State.{State}
use Rattle.retro_tree.specs.declared.value.Value.TheVariants as values
use Rattle.retro_tree.proofs.Lookups.{node_put_apart}
use Rattle.casebook_explain.specs.Places.{casebook, is_ours, shelf_directory, shelf_path}
use Rattle.casebook_stand_in.specs.Effect.{observed}
use Rattle.casebook_stand_in.specs.Shelf.{shelf_of}
use Rattle.casebook_explain.specs.Shelves.{with_files, with_shelf, with_shelves}
use Rattle.casebook_explain.specs.States.{is_our_cell}
use Rattle.casebook_explain.specs.declared.seen_line.SeenLine.{SeenLine}

casebook_is_ours : is_ours casebook ≡ true
unfolding casebook
casebook_is_ours = refl

directory_is_ours : (line : ℕ) → is_ours (shelf_directory line) ≡ true
unfolding casebook shelf_directory
directory_is_ours line = refl

file_is_ours : (line k : ℕ) → is_ours (shelf_path line k) ≡ true
unfolding casebook shelf_path
file_is_ours line k = refl

-- a node that is put below /.casebook
put_ours : (p : PathValue) (node : Node) (s : State) (c : Cell)
    → is_ours p ≡ true → is_our_cell c ≡ false → value c (put_node p node s) ≡ value c s
unfolding value
put_ours p node s (cells.At q) ours apart =
    ap values.Node (node_put_apart p q node s.tree
    (λ e. false≢true (sym apart ∙ ap is_ours e ∙ ours)))
put_ours p node s (cells.Cwd sid) ours apart = refl
put_ours p node s (cells.Var sid name) ours apart = refl
put_ours p node s (cells.Status sid) ours apart = refl

files_apart : (line k : ℕ) (files : List (List ℕ)) (s : State) (c : Cell)
    → is_our_cell c ≡ false → value c (with_files line k files s) ≡ value c s
files_apart line k [] s c apart = refl
files_apart line k (bytes ∷ files) s c apart =
    files_apart line (k + 1) files (put_node (shelf_path line k) (File bytes) s) c apart
    ∙ put_ours (shelf_path line k) (File bytes) s c (file_is_ours line k) apart

pub shelf_apart : (line : ℕ) (files : List (List ℕ)) (s : State) (c : Cell)
    → is_our_cell c ≡ false → value c (with_shelf line files s) ≡ value c s
shelf_apart line [] s c apart = refl
shelf_apart line (bytes ∷ files) s c apart =
    files_apart line 1 (bytes ∷ files)
    (put_node (shelf_directory line) Dir (put_node casebook Dir s)) c apart
    ∙ put_ours (shelf_directory line) Dir (put_node casebook Dir s) c (directory_is_ours line) apart
    ∙ put_ours casebook Dir s c casebook_is_ours apart

pub apart : (line : ℕ) (lines : List SeenLine) (now s : State) (c : Cell)
    → is_our_cell c ≡ false → value c (with_shelves line lines now s) ≡ value c s
apart line [] now s c h = refl
apart line (seen ∷ lines) now s c h =
    apart (line + 1) lines (observed seen.effect now) (with_shelf line (shelf_of seen.effect now) s)
    c h
    ∙ shelf_apart line (shelf_of seen.effect now) s c h
