-- Overlays after a change.
use Rattle.std.proofs.Common.{◌≡◌, ◌≢◌, ℕ, Bool, true, false, ◌||◌, cond, List, ◌++◌, Option, Some, None, refl, sym, ap}
use Rattle.std.proofs.Common.{◌∙◌, append_assoc}
use Rattle.std.specs.Bool.{if◌then◌else◌}
use Rattle.std.specs.Option.{is_some}
use Rattle.std.specs.Cmp.{eq_by_cmp_equiv}
use Rattle.std.specs.FinMap as map
use Rattle.std.specs.FinMap.{get-insert, get-remove}
use Rattle.std.proofs.lemmas.Bool.{true≢false, false≢true}
use Rattle.retro_tree.specs.CellOrder.{cell_total}
use Rattle.retro_tree.specs.Path.{PathValue}
use Rattle.retro_tree.specs.Node.{grown}
use Rattle.retro_tree.specs.Cell.{value}
use Rattle.retro_tree.specs.Change.{apply, cell_of, written, value_grown}
use Rattle.retro_tree.specs.Notes.{cell_eq}
use Rattle.retro_tree.specs.Overlay.{OverlayMap, Overlays, combined_value, overlay_entry_grown, grown_at}
use Rattle.retro_tree.specs.declared.node.Node.{Node}
use Rattle.retro_tree.specs.declared.node.Node.TheVariants.{Missing, Dir, File}
use Rattle.retro_tree.specs.declared.cell.Cell.{Cell}
use Rattle.retro_tree.specs.declared.cell.Cell.TheVariants as cells
use Rattle.retro_tree.specs.declared.value.Value.{Value}
use Rattle.retro_tree.specs.declared.value.Value.TheVariants as values
use Rattle.retro_tree.specs.declared.overlay_entry.OverlayEntry.{OverlayEntry}
use Rattle.retro_tree.specs.declared.overlay_entry.OverlayEntry.TheVariants as entries
use Rattle.retro_tree.specs.declared.change.Change.{Change}
use Rattle.retro_tree.specs.declared.change.Change.TheVariants as changes
use Rattle.retro_tree.specs.declared.state.State.{State}
use Rattle.retro_tree.proofs.NoteLaws.{value_applied, same_cells, cells_apart}

-- the entry of a cell after an entry is set
pub get_set : (overlay : OverlayMap) (k : Cell) (w : OverlayEntry) (c : Cell)
    → map.get (map.insert overlay k w) c ≡ if cell_eq k c then Some w else map.get overlay c
get_set overlay k w c = get-insert cell_total overlay k w c ∙ ap (λ b. cond b (Some w) (map.get overlay c))
    ((eq_by_cmp_equiv cell_total).symm c k)

-- the entry of a cell after an entry is removed
pub get_erased : (overlay : OverlayMap) (k c : Cell) → map.get (map.remove overlay k) c
    ≡ if cell_eq k c then None else map.get overlay c
get_erased overlay k c = get-remove cell_total overlay k c ∙ ap (λ b. cond b None (map.get overlay c))
    ((eq_by_cmp_equiv cell_total).symm c k)

-- the entry of another cell stays unchanged
pub get_apart : (overlay : OverlayMap) (k : Cell) (w : OverlayEntry) (c : Cell) → c ≢ k
    → map.get (map.insert overlay k w) c ≡ map.get overlay c
get_apart overlay k w c ne = get_set overlay k w c ∙ go (cell_eq k c) refl
  where
    go : (b : Bool) → cell_eq k c ≡ b → if b then Some w else map.get overlay c ≡ map.get overlay c
    go true e = absurd (ne (sym (same_cells k c e)))
    go false e = refl

pub overlays_changed : (change : Change) (w : OverlayEntry) (overlay : OverlayMap) (below now : State)
    → Overlays overlay below now → combined_value (Some w) (value (cell_of change) below)
    ≡ written change (value (cell_of change) now) → Overlays (map.insert overlay (cell_of change) w) below
    (apply change now)
overlays_changed change w overlay below now h is c =
    value_applied change c now
    ∙ go (cell_eq (cell_of change) c) refl
    ∙ ap (λ o. combined_value o (value c below)) (sym (get_set overlay (cell_of change) w c))
  where
    go : (b : Bool) → cell_eq (cell_of change) c ≡ b → if b then written change (value c now) else value c now
        ≡ combined_value (if b then Some w else map.get overlay c) (value c below)
    go true e =
        let same = sym (same_cells (cell_of change) c e) in
        ap (λ k. written change (value k now)) same ∙ sym is ∙ ap (λ k. combined_value (Some w) (value k below))
        (sym same)
    go false e = h c

pub overlays_put : (p : PathValue) (node : Node) (overlay : OverlayMap) (below now : State)
    → Overlays overlay below now
    → Overlays (map.insert overlay (cells.At p) (entries.Value (values.Node node))) below
    (apply (changes.Put p node) now)
overlays_put p node overlay below now h = overlays_changed (changes.Put p node) _ overlay below now h refl

pub overlays_var : (sid : ℕ) (name text : List ℕ) (overlay : OverlayMap) (below now : State)
    → Overlays overlay below now
    → Overlays (map.insert overlay (cells.Var sid name) (entries.Value (values.Text (Some text)))) below
    (apply (changes.SetVar sid name text) now)
overlays_var sid name text overlay below now h =
    overlays_changed (changes.SetVar sid name text) _ overlay below now h refl

pub overlays_cwd : (sid : ℕ) (p : PathValue) (overlay : OverlayMap) (below now : State)
    → Overlays overlay below now
    → Overlays (map.insert overlay (cells.Cwd sid) (entries.Value (values.Cwd p))) below
    (apply (changes.SetCwd sid p) now)
overlays_cwd sid p overlay below now h = overlays_changed (changes.SetCwd sid p) _ overlay below now h refl

pub overlays_status : (sid n : ℕ) (overlay : OverlayMap) (below now : State) → Overlays overlay below now
    → Overlays (map.insert overlay (cells.Status sid) (entries.Value (values.Status n))) below
    (apply (changes.SetStatus sid n) now)
overlays_status sid n overlay below now h = overlays_changed (changes.SetStatus sid n) _ overlay below now h refl

-- ---- growths
-- two growths in turn are one growth
node_grown_twice : (old bytes : List ℕ) (node : Node) → grown (old ++ bytes) node ≡ grown bytes (grown old node)
node_grown_twice old bytes Missing = refl
node_grown_twice old bytes Dir = refl
node_grown_twice old bytes (File first) = ap File (sym (append_assoc first old bytes))

grown_twice : (old bytes : List ℕ) (v : Value) → value_grown (old ++ bytes) v ≡ value_grown bytes (value_grown old v)
grown_twice old bytes (values.Node node) = ap values.Node (node_grown_twice old bytes node)
grown_twice old bytes (values.Cwd q) = refl
grown_twice old bytes (values.Text t) = refl
grown_twice old bytes (values.Status n) = refl

-- an entry with bytes appended gives the combined value with bytes appended
pub grown_combined : (bytes : List ℕ) (l : OverlayEntry) (v : Value)
    → combined_value (Some (overlay_entry_grown bytes l)) v ≡ value_grown bytes (combined_value (Some l) v)
grown_combined bytes (entries.Value w) v = refl
grown_combined bytes (entries.Growth old) v = grown_twice old bytes v

-- likewise a growth as the first entry of a cell
pub first_growth_combined : (p : PathValue) (bytes : List ℕ) (overlay : OverlayMap) (below now : State)
    → Overlays overlay below now → is_some (map.get overlay (cells.At p)) ≡ false
    → combined_value (Some (entries.Growth bytes)) (value (cells.At p) below) ≡ value_grown bytes
    (value (cells.At p) now)
first_growth_combined p bytes overlay below now h none =
    ap (value_grown bytes)
    (sym (h (cells.At p) ∙ ap (λ x. combined_value x (value (cells.At p) below))
    (none_set (map.get overlay (cells.At p)) none)))
  where
    none_set : (x : Option OverlayEntry) → is_some x ≡ false → x ≡ None
    none_set None e = refl
    none_set (Some l) e = absurd (true≢false e)

pub grown_again : (p : PathValue) (bytes : List ℕ) (l : OverlayEntry) (overlay : OverlayMap) (below now : State)
    → Overlays overlay below now → map.get overlay (cells.At p) ≡ Some l
    → combined_value (Some (overlay_entry_grown bytes l)) (value (cells.At p) below) ≡ value_grown bytes
    (value (cells.At p) now)
grown_again p bytes l overlay below now h e =
    grown_combined bytes l (value (cells.At p) below)
    ∙ ap (value_grown bytes) (sym (h (cells.At p) ∙ ap (λ x. combined_value x (value (cells.At p) below)) e))

-- a growth of a cell that has an entry
pub overlays_grown_by : (p : PathValue) (bytes : List ℕ) (overlay : OverlayMap) (below now : State)
    → Overlays overlay below now → is_some (map.get overlay (cells.At p)) ≡ true
    → Overlays (grown_at (cells.At p) bytes (map.get overlay (cells.At p)) overlay) below
    (apply (changes.Grow p bytes) now)
overlays_grown_by p bytes overlay below now h there = go (map.get overlay (cells.At p)) refl there
  where
    go : (x : Option OverlayEntry) → map.get overlay (cells.At p) ≡ x → is_some x ≡ true
        → Overlays (grown_at (cells.At p) bytes x overlay) below (apply (changes.Grow p bytes) now)
    go None e is = absurd (false≢true is)
    go (Some l) e is =
        overlays_changed (changes.Grow p bytes) (overlay_entry_grown bytes l) overlay below now h
        (grown_again p bytes l overlay below now h e)

-- a growth of a cell that has no entry
pub overlays_first : (p : PathValue) (bytes : List ℕ) (overlay : OverlayMap) (below now : State)
    → Overlays overlay below now → is_some (map.get overlay (cells.At p)) ≡ false
    → Overlays (map.insert overlay (cells.At p) (entries.Growth bytes)) below (apply (changes.Grow p bytes) now)
overlays_first p bytes overlay below now h none =
    overlays_changed (changes.Grow p bytes) (entries.Growth bytes) overlay below now h
    (first_growth_combined p bytes overlay below now h none)

-- the cell has no entry
pub none_grown : (c : Cell) (bytes : List ℕ) (overlay : OverlayMap) → is_some (map.get overlay c) ≡ false
    → grown_at c bytes (map.get overlay c) overlay ≡ overlay
none_grown c bytes overlay none = go (map.get overlay c) none
  where
    go : (x : Option OverlayEntry) → is_some x ≡ false → grown_at c bytes x overlay ≡ overlay
    go None e = refl
    go (Some l) e = absurd (true≢false e)

-- ---- which cells have entries
pub key_set : (overlay : OverlayMap) (k : Cell) (w : OverlayEntry) (c : Cell)
    → map.contains_key (map.insert overlay k w) c ≡ (cell_eq k c || map.contains_key overlay c)
key_set overlay k w c = ap is_some (get_set overlay k w c) ∙ go (cell_eq k c)
  where
    go : (b : Bool) → is_some (if b then Some w else map.get overlay c) ≡ (b || map.contains_key overlay c)
    go true = refl
    go false = refl

pub key_grown : (k : Cell) (bytes : List ℕ) (overlay : OverlayMap) (c : Cell) → is_some (map.get overlay k)
    ≡ true → map.contains_key (grown_at k bytes (map.get overlay k) overlay) c
    ≡ (cell_eq k c || map.contains_key overlay c)
key_grown k bytes overlay c there = go (map.get overlay k) there
  where
    go : (x : Option OverlayEntry) → is_some x ≡ true → map.contains_key (grown_at k bytes x overlay) c
        ≡ (cell_eq k c || map.contains_key overlay c)
    go None e = absurd (false≢true e)
    go (Some l) e = key_set overlay k (overlay_entry_grown bytes l) c

-- the entries of other cells
pub get_grown : (k : Cell) (bytes : List ℕ) (overlay : OverlayMap) (c : Cell) → c ≢ k
    → map.get (grown_at k bytes (map.get overlay k) overlay) c ≡ map.get overlay c
get_grown k bytes overlay c ne = go (map.get overlay k)
  where
    go : (x : Option OverlayEntry) → map.get (grown_at k bytes x overlay) c ≡ map.get overlay c
    go None = refl
    go (Some l) = get_apart overlay k (overlay_entry_grown bytes l) c ne

-- ---- a value set, and an entry removed
pub overlays_set : (overlay : OverlayMap) (k : Cell) (v : Value) (below now next : State)
    → Overlays overlay below now → value k next ≡ v → ((c : Cell) → c ≢ k → value c next ≡ value c now)
    → Overlays (map.insert overlay k (entries.Value v)) below next
overlays_set overlay k v below now next h here there c =
    go (cell_eq k c) refl ∙ ap (λ o. combined_value o (value c below)) (sym (get_set overlay k (entries.Value v) c))
  where
    go : (b : Bool) → cell_eq k c ≡ b
        → value c next ≡ combined_value (if b then Some (entries.Value v) else map.get overlay c) (value c below)
    go true e = ap (λ d. value d next) (sym (same_cells k c e)) ∙ here
    go false e = there c (cells_apart k c e) ∙ h c

pub overlays_removed : (overlay : OverlayMap) (k : Cell) (below now next : State) → Overlays overlay below now
    → value k next ≡ value k below → ((c : Cell) → c ≢ k → value c next ≡ value c now)
    → Overlays (map.remove overlay k) below next
overlays_removed overlay k below now next h here there c =
    go (cell_eq k c) refl ∙ ap (λ o. combined_value o (value c below)) (sym (get_erased overlay k c))
  where
    go : (b : Bool) → cell_eq k c ≡ b → value c next ≡ combined_value (if b then None else map.get overlay c)
        (value c below)
    go true e = ap (λ d. value d next) (sym (same_cells k c e)) ∙ here ∙ ap (λ d. value d below) (same_cells k c e)
    go false e = there c (cells_apart k c e) ∙ h c

pub ruleset changing = (
  overlays_put,
  overlays_var,
  overlays_cwd,
  overlays_status,
  overlays_grown_by,
  overlays_first,
  none_grown,
  key_set,
  key_grown,
  get_apart,
  get_grown,
)
