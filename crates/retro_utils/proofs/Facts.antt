-- What answers to queries say of the node at a path.
use Rattle.std.proofs.Common.{◌≡◌, ◌≤◌, Bool, true, false, ◌||◌, ℕ, List, []}
use Rattle.std.proofs.Common.{length, None, Result, Ok, refl, subst, arith}
use Rattle.std.specs.Bool.{if◌then◌else◌}
use Rattle.retro_tree.specs.Lawful.{IsLawful}
use Rattle.retro_tree.specs.Node.{file_limit, kind_of, size_of}
use Rattle.retro_tree.specs.Path.{PathValue, is_null, is_root}
use Rattle.retro_tree.specs.Tree.{node_in}
use Rattle.retro_tree.specs.declared.kind.Kind.TheVariants as kinds
use Rattle.retro_tree.specs.declared.node.Node.{Node}
use Rattle.retro_tree.specs.declared.node.Node.TheVariants.{Missing, Dir, File}
use Rattle.retro_tree.specs.declared.state.State.{State}
use Rattle.retro_tree.specs.declared.permit.Permit.{Permit}
use Rattle.retro_tree.specs.declared.permit.Permit.TheVariants.{Yes, NoParent, NotDir, IsDir, TooLarge}
use Rattle.retro_tree.proofs.TreeLaw.{told}
use Rattle.retro_local.specs.Kinds.{kind_at}
use Rattle.retro_utils.specs.Reading.{content, path_reading}
use Rattle.retro_utils.specs.Reasons.{refusal}
use Rattle.retro_utils.specs.declared.reason.Reason.{Reason}
use Rattle.retro_utils.specs.Rm.{ends_in_dots, is_protected}

dir_of_kind : (n : Node) → kind_of n ≡ kinds.Dir → n ≡ Dir
dir_of_kind Missing e = cc
dir_of_kind Dir e = refl
dir_of_kind (File bytes) e = cc

pub directory_at : (p : PathValue) (s : State) → kind_at p s ≡ kinds.Dir → node_in p s.tree ≡ Dir
unfolding kind_at
directory_at p s e = go (is_null p) e
  where
    go : (b : Bool) → if b then kinds.File else kind_of (node_in p s.tree) ≡ kinds.Dir → node_in p s.tree ≡ Dir
    go true e = cc
    go false e = dir_of_kind (node_in p s.tree) e

-- a write that isn't refused is permitted
pub granted : (permit : Permit) → refusal permit ≡ None → permit ≡ Yes
granted Yes e = refl
granted NoParent e = cc
granted NotDir e = cc
granted IsDir e = cc
granted TooLarge e = cc

-- what isn't protected isn't the root
pub below_root : (operand : List ℕ) (p : PathValue) → is_protected operand p ≡ false → is_root p ≡ false
unfolding is_protected
below_root operand p e = go (ends_in_dots operand) (is_root p) e
  where
    go : (a b : Bool) → (a || (b || is_null p)) ≡ false → b ≡ false
    go true b e = cc
    go false true e = cc
    go false false e = refl

-- what is read of a path is within the limit of files in a lawful state
abbrev fits : List ℕ → Type 0
fits text = length text ≤ file_limit

ok_same : (r : Result (List ℕ) Reason) (x y : List ℕ) → r ≡ Ok x → r ≡ Ok y → x ≡ y
ok_same r x y e f = cc

read_fits : (b : Bool) (n : Node) (text : List ℕ) → size_of n ≤ file_limit
    → (if b then Ok [] else content n) ≡ Ok text → fits text
read_fits true n text h e = subst fits (ok_same (Ok []) [] text refl e) (omega arith)
read_fits false Missing text h e = cc
read_fits false Dir text h e = cc
read_fits false (File bytes) text h e = subst fits (ok_same (Ok bytes) bytes text refl e) h

pub reading_fits : (p : PathValue) (s : State) (text : List ℕ) → IsLawful s → path_reading p s ≡ Ok text → fits text
unfolding path_reading
reading_fits p s text l e = read_fits (is_null p) (node_in p s.tree) text ((told s.tree l.tree).files p) e
