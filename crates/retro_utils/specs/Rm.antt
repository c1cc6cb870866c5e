-- `rm` (XCU rm).
use Rattle.std.specs.Prelude.{ℕ, Bool, ◌||◌, List, [], ◌∷◌, Option, Some, None, Result, Err}
use Rattle.std.specs.Prelude.{codes, if◌then◌else◌}
use Rattle.retro_tree.specs.Node.{kind_of}
use Rattle.retro_tree.specs.Order.{text_eq}
use Rattle.retro_tree.specs.Path.{PathValue, is_null, is_root}
use Rattle.retro_tree.specs.Resolving.{parts_of}
use Rattle.retro_tree.specs.Tree.{node_in}
use Rattle.retro_tree.specs.declared.kind.Kind.{Kind}
use Rattle.retro_tree.specs.declared.kind.Kind.TheVariants as kinds
use Rattle.retro_tree.specs.declared.state.State.{State}
use Rattle.retro_utils.specs.Operands.{Action, at_operand, in_turn}
use Rattle.retro_utils.specs.Outcomes.{made_unless, nothing_done, usage}
use Rattle.retro_moves.specs.Trees.{with_tree, without}
use Rattle.retro_utils.specs.declared.done.Done.{Done}
use Rattle.retro_utils.specs.declared.reason.Reason.{Reason}
use Rattle.retro_utils.specs.declared.removal.Removal.{Removal}
use Rattle.retro_utils.specs.declared.reason.Reason.TheVariants.{IsDirectory, NoSuchFile, NotPermitted}

-- a part, or the last one before it if it is empty
abbrev pub part_or : List ℕ → List ℕ → List ℕ
part_or [] last = last
part_or (b ∷ part) last = b ∷ part

-- the last part that isn't empty, or `last` if all are
abbrev pub last_part : List ℕ → List (List ℕ) → List ℕ
last_part last [] = last
last_part last (part ∷ parts) = last_part (part_or part last) parts

-- whether the last part of a text is one or two dots; slashes after it don't count
unfoldable pub ends_in_dots : List ℕ → Bool
ends_in_dots text =
    text_eq (last_part [] (parts_of text)) (codes ".") || text_eq (last_part [] (parts_of text)) (codes "..")

-- whether neither `rm` nor `mv` takes away what an operand names
unfoldable pub is_protected : List ℕ → PathValue → Bool
is_protected operand p = ends_in_dots operand || (is_root p || is_null p)

-- the reason why what has a kind isn't removed
abbrev pub not_removed : Removal → Kind → Option Reason
not_removed how kinds.Missing = if how.forced then None else Some NoSuchFile
not_removed how kinds.Dir = if how.recursive then None else Some IsDirectory
not_removed how kinds.File = None

-- a path removed, with everything below it
unfoldable pub remove_path : Removal → Action
remove_path how p s = made_unless (not_removed how (kind_of (node_in p s.tree))) (with_tree (without p)) s

unfoldable pub remove_at : Removal → List ℕ → Action
remove_at how operand p s =
    if is_protected operand p then (s, Err NotPermitted) else remove_path how p s

-- what an operand names removed
abbrev pub remove_operand : ℕ → Removal → List ℕ → State → State × Result (Unit {0}) Reason
remove_operand sid how operand s = at_operand sid (remove_at how operand) operand s

-- what each operand names in turn; `-f` needs no operand
unfoldable pub rm : ℕ → Removal → List (List ℕ) → State → State × Done
rm sid how [] s = (s, if how.forced then nothing_done 0 else usage (codes "rm"))
rm sid how (x ∷ xs) s = in_turn (codes "rm") (remove_operand sid how) (x ∷ xs) (nothing_done 0) s
