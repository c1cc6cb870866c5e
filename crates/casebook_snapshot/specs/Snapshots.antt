-- Snapshots: a row for each path that is kept, and each path that is skipped with its reason.
use Rattle.std.specs.Prelude.{◌≡◌, ◌⊎◌, ◌↔◌, ℕ, Bool, true, false, List, [], ◌∷◌, ◌++◌}
use Rattle.std.specs.Prelude.{Option, Some, None}
use Rattle.std.specs.BTreeMap as tree
use Rattle.retro_path.specs.Order.{path_cmp}
use Rattle.retro_path.specs.Path.{PathValue, parent_of}
use Rattle.retro_tree.specs.Lawful.{law_at}
use Rattle.retro_tree.specs.Node.{node_of}
use Rattle.retro_tree.specs.declared.entry.Entry.{Entry}
use Rattle.retro_tree.specs.declared.node.Node.{Node}
use Rattle.casebook_snapshot.specs.Items.{Contents, is_missing, is_dir}
use Rattle.casebook_snapshot.specs.Reasons.{reason_of}
use Rattle.casebook_snapshot.specs.Children.{path_of}
use Rattle.casebook_snapshot.specs.Kept.{is_open, kept}
use Rattle.casebook_snapshot.specs.declared.item.Row.{Row}
use Rattle.casebook_snapshot.specs.declared.item.Item.{Item}
use Rattle.casebook_snapshot.specs.declared.item.Item.TheVariants.{Missing, Dir, File, Barred}
use Rattle.casebook_snapshot.specs.declared.reason.Reason.{Reason}
use Rattle.casebook_snapshot.specs.declared.snapshot.SkippedPath.{SkippedPath}
use Rattle.casebook_snapshot.specs.declared.snapshot.Snapshot.{Snapshot}

-- A path is skipped for a reason if the directories above it are kept, something is there, and the
-- reason is the first that applies.
pub record IsSkipped (f : Contents) (skip : List PathValue) (q : PathValue) (r : Reason)
    : Type 0 where
  pub above : is_open f skip (parent_of q) ≡ true
  pub exists : is_missing (f q) ≡ false
  pub reason : reason_of f skip q ≡ Some r

-- a path is listed with a reason
abbrev pub IsIn : List SkippedPath → PathValue → Reason → Type 0
IsIn [] q r = ⊥
IsIn (s ∷ ss) q r = ((path_of s.child ≡ q) × (s.reason ≡ r)) ⊎ IsIn ss q r

-- A snapshot has exactly the rows that are kept and exactly the paths that are skipped, and the
-- root is a directory.
pub record IsSnapshot (f : Contents) (skip : List PathValue) (s : Snapshot) : Type 0 where
  pub root : is_dir (f []) ≡ true
  pub rows : (q : PathValue) → tree.get path_cmp s.rows q ≡ kept f skip q
  pub skipped : (q : PathValue) (r : Reason) → IsIn s.skipped.items q r ↔ IsSkipped f skip q r

-- the row of a path
abbrev pub row_at : Snapshot → PathValue → Option Row
row_at s q = tree.get path_cmp s.rows q

-- a path is at or below one that is skipped
pub record IsBelowSkipped (s : Snapshot) (q : PathValue) : Type 0 where
  pub path : PathValue
  pub rest : PathValue
  pub reason : Reason
  pub listed : IsIn s.skipped.items path reason
  pub same : q ≡ path ++ rest

-- a path has a row
abbrev pub HasRow : Snapshot → PathValue → Type 0
HasRow s q = (h : Row) × (row_at s q ≡ Some h)

-- whether something can be in it: it is a directory, or isn't looked into
abbrev pub may_hold : Item → Bool
may_hold Missing = false
may_hold (Dir a) = true
may_hold (File x a) = false
may_hold (Barred r) = true

-- nothing is below a file, or below nothing
abbrev pub IsTreeLike : Contents → Type 0
IsTreeLike f =
    (p : PathValue) (n : List ℕ) → is_missing (f (p ++ n ∷ [])) ≡ false → may_hold (f p) ≡ true

abbrev pub entry_of : Option Row → Option Entry
entry_of None = None
entry_of (Some h) = Some h.entry

-- the node that a snapshot has at a path
abbrev pub node_at : Snapshot → PathValue → Node
node_at s q = node_of (entry_of (row_at s q))

-- each node may be at its path, as in a lawful tree
abbrev pub IsLawfulSnapshot : Snapshot → Type 0
IsLawfulSnapshot s = (q : PathValue) → law_at q (node_at s q) (node_at s (parent_of q)) ≡ true
