-- Walks that aren't at their end.
use Rattle.std.specs.Prelude.{◌≡◌, ◌⊎◌, true, false, cond, List, [], ◌∷◌, ◌++◌, Some}
use Rattle.std.specs.Ordering.{is_eq}
use Rattle.retro_path.specs.Order.{path_cmp}
use Rattle.retro_path.specs.Path.{PathValue}
use Rattle.casebook_snapshot.specs.Items.{Contents, is_missing, is_dir}
use Rattle.casebook_snapshot.specs.Children.{path_of}
use Rattle.casebook_snapshot.specs.Kept.{is_open, kept}
use Rattle.casebook_snapshot.specs.Snapshots.{IsIn, IsSkipped, row_at}
use Rattle.casebook_snapshot.specs.declared.child.Child.{Child}
use Rattle.casebook_snapshot.specs.declared.item.Row.{Row}
use Rattle.casebook_snapshot.specs.declared.reason.Reason.{Reason}
use Rattle.casebook_snapshot.specs.declared.snapshot.Snapshot.{Snapshot}
use Rattle.casebook_snapshot.specs.declared.visit.Visit.{Visit}
use Rattle.casebook_snapshot.specs.declared.visit.Visit.TheVariants.{Gone, Skip, Keep}
use Rattle.casebook_snapshot.specs.declared.walking.Progress.{Progress}

-- a path is one of some children, or below one
abbrev pub IsUnder : List Child → PathValue → Type 0
IsUnder [] q = ⊥
IsUnder (c ∷ cs) q = ((rest : PathValue) × (q ≡ path_of c ++ rest)) ⊎ IsUnder cs q

-- each child is in a directory that is kept, and something is there
abbrev pub AreOpen : Contents → List PathValue → List Child → Type 0
AreOpen f skip [] = Unit {0}
AreOpen f skip (c ∷ cs) =
    (is_open f skip c.parent ≡ true) × ((is_missing (f (path_of c)) ≡ false) × AreOpen f skip cs)

-- What is kept and skipped is right, and what is missing is at or below a child that is left.
pub record IsWalked (f : Contents) (skip : List PathValue) (s : Snapshot) (left : List Child)
    : Type 0 where
  pub root : is_dir (f []) ≡ true
  pub sound : (q : PathValue) (h : Row) → row_at s q ≡ Some h → kept f skip q ≡ Some h
  pub complete : (q : PathValue) (h : Row) → kept f skip q ≡ Some h
      → (row_at s q ≡ Some h) ⊎ IsUnder left q
  pub right : (q : PathValue) (r : Reason) → IsIn s.skipped.items q r → IsSkipped f skip q r
  pub named : (q : PathValue) (r : Reason) → IsSkipped f skip q r
      → IsIn s.skipped.items q r ⊎ IsUnder left q
  pub reachable : AreOpen f skip left

-- rows with one put at a path
abbrev pub IsRowPut : Snapshot → Snapshot → PathValue → Row → Type 0
IsRowPut s t p h = (q : PathValue) → row_at t q ≡ cond (is_eq (path_cmp p q)) (Some h) (row_at s q)

-- what a walk does with a child
abbrev pub IsTaken : Child → Visit → Progress → Progress → Type 0
IsTaken c Gone v w = w ≡ v
IsTaken c (Skip r) v w =
    (w.snapshot.rows ≡ v.snapshot.rows) × ((w.left.items ≡ v.left.items)
    × (w.snapshot.skipped.items
    ≡ v.snapshot.skipped.items ++ (record { child = c; reason = r }) ∷ []))
IsTaken c (Keep p h cs) v w =
    IsRowPut v.snapshot w.snapshot p h × ((w.left.items ≡ v.left.items ++ cs.items)
    × (w.snapshot.skipped.items ≡ v.snapshot.skipped.items))
