-- The marks of children, with what is below a child skipped.
use Rattle.std.proofs.Common.{◌≡◌, ℕ, Bool, true, false, cond, List, [], ◌∷◌, Option, Some, None}
use Rattle.std.proofs.Common.{refl, sym, ap, ◌∙◌, T}
use Rattle.std.specs.Option.{is_some, option_map}
use Rattle.std.specs.Ordering.{is_le}
use Rattle.std.specs.Bool.{if◌then◌else◌}
use Rattle.std.specs.FinMap as map
use Rattle.std.specs.FinMap.Entries.{is_sorted, below_all}
use Rattle.std.specs.declared.cmp.Ordering.TheVariants.{Less}
use Rattle.retro_tree.specs.CellOrder.{cell_cmp, cell_total}
use Rattle.retro_tree.specs.Path.{PathValue, after_child}
use Rattle.retro_tree.specs.Overlay.{OverlayMap}
use Rattle.retro_tree.specs.inner.Marks.{cell_below}
use Rattle.retro_tree.specs.declared.cell.Cell.{Cell}
use Rattle.retro_tree.specs.declared.cell.Cell.TheVariants as cells
use Rattle.retro_tree.specs.declared.value.Value.{Value}
use Rattle.retro_tree.specs.declared.value.Value.TheVariants as values
use Rattle.retro_tree.specs.declared.overlay_entry.OverlayEntry.TheVariants as entries
use Rattle.retro_tree.proofs.Small.{less, both_fst, both_snd, some_same, none_some}
use Rattle.retro_tree.proofs.Skips.{entries_after, after_all, skipped, less_than}
use Rattle.retro_tree.specs.ValueRef.{ref_value}
use Rattle.retro_history.specs.inner.History.{version_parts, version_ref_parts}
use Rattle.retro_history.specs.inner.Tracks.{VersionValue, version_below}
use Rattle.retro_history.specs.inner.TrackMarks.{is_child_cell, mark_of_value, mark_tracks}
use Rattle.retro_history.specs.inner.TrackMarks.{mark_version}
use Rattle.retro_history.specs.declared.cell_history.CellHistory.{CellHistory}
use Rattle.retro_history.specs.declared.version_ref.VersionRef.{VersionRef}

abbrev Entries : Type 0
Entries = List (Cell × CellHistory)

-- a cell between the path at which a listing stops and the one that it seeks is below a child
cell_skipped : (p x b : PathValue) (c : Cell) → after_child p x ≡ Some b
    → cell_cmp (cells.At x) c ≡ Less → cell_cmp c (cells.At b) ≡ Less
    → (cell_below p c ≡ true) × (is_child_cell p c ≡ false)
cell_skipped p x b (cells.At q) h k m =
    let skip = skipped p x b q h k m in (skip.0, ap is_some skip.1)
cell_skipped p x b (cells.Cwd sid) h k m = cc
cell_skipped p x b (cells.Var sid name) h k m = cc
cell_skipped p x b (cells.Status sid) h k m = cc

-- the marks with that of one cell, if it is a child's
abbrev mark_if : Bool → ℕ → Cell × CellHistory → OverlayMap → OverlayMap
mark_if child n e marks =
    if child then mark_version e.0 (version_below n e.1.track) marks else marks

mark_first : (p : PathValue) (n : ℕ) (e : Cell × CellHistory) (es : Entries) (marks : OverlayMap)
    → cell_below p e.0 ≡ true
    → mark_tracks p n (e ∷ es) marks ≡ mark_tracks p n es (mark_if (is_child_cell p e.0) n e marks)
mark_first p n e es marks h =
    ap (λ c. if c then mark_tracks p n es (mark_if (is_child_cell p e.0) n e marks) else marks) h

-- the version of a child is marked
pub child_marked : (p : PathValue) (n : ℕ) (e : Cell × CellHistory) (es : Entries)
    (marks : OverlayMap) → cell_below p e.0 ≡ true → is_child_cell p e.0 ≡ true
    → mark_tracks p n (e ∷ es) marks
    ≡ mark_tracks p n es (mark_version e.0 (version_below n e.1.track) marks)
child_marked p n e es marks h k = mark_first p n e es marks h
    ∙ ap (λ c. mark_tracks p n es (mark_if c n e marks)) k

-- the history of a cell that is no child's adds no mark
pub none_marked : (p : PathValue) (n : ℕ) (e : Cell × CellHistory) (es : Entries)
    (marks : OverlayMap) → cell_below p e.0 ≡ true → is_child_cell p e.0 ≡ false
    → mark_tracks p n (e ∷ es) marks ≡ mark_tracks p n es marks
none_marked p n e es marks h k = mark_first p n e es marks h
    ∙ ap (λ c. mark_tracks p n es (mark_if c n e marks)) k

-- what a listing skips adds no marks
pub tracks_skip : (p x b : PathValue) (n : ℕ) (es : Entries) (marks : OverlayMap)
    → after_child p x ≡ Some b → T (below_all cell_cmp (cells.At x) es) → T (is_sorted cell_cmp es)
    → mark_tracks p n es marks ≡ mark_tracks p n (entries_after cell_cmp (cells.At b) es) marks
tracks_skip p x b n [] marks h k s = refl
tracks_skip p x b n (e ∷ es) marks h k s =
    elim (is_le (cell_cmp (cells.At b) e.0)) as (λ t. is_le (cell_cmp (cells.At b) e.0) ≡ t
    → mark_tracks p n (e ∷ es) marks
    ≡ mark_tracks p n (cond t (e ∷ entries_after cell_cmp (cells.At b) es)
    (entries_after cell_cmp (cells.At b) es)) marks) [
      | true ↦ λ t. ap (λ fs. mark_tracks p n (e ∷ fs) marks)
          (sym (after_all cell_cmp cell_total (cells.At b) e es t (both_fst _ _ s)))
      | false ↦ λ t.
          let skip = cell_skipped p x b e.0 h (less _ (both_fst _ _ k))
          (cell_total.antisymm e.0 (cells.At b) ∙ less_than _ t) in
          none_marked p n e es marks skip.0 skip.1
          ∙ tracks_skip p x b n es marks h (both_snd _ _ k) (both_snd _ _ s)
    ] refl

-- the mark of a borrowed version
pub version_marked : (c : Cell) (o : Option VersionValue) (v : VersionRef) (marks : OverlayMap)
    → option_map version_parts o ≡ Some (version_ref_parts v)
    → mark_version c o marks
    ≡ map.insert marks c (entries.Value (values.Node (mark_of_value (ref_value v.value))))
version_marked c None v marks h = absurd (none_some (version_ref_parts v) h)
version_marked c (Some w) v marks h =
    ap (λ (parts : ℕ × Value). map.insert marks c
    (entries.Value (values.Node (mark_of_value parts.1))))
    (some_same (version_parts w) (version_ref_parts v) h)

pub no_version_marked : (c : Cell) (o : Option VersionValue) (marks : OverlayMap)
    → option_map version_parts o ≡ None → mark_version c o marks ≡ marks
no_version_marked c None marks h = refl
no_version_marked c (Some w) marks h = absurd (none_some (version_parts w) (sym h))
