-- Committed states after a change of the overlay.
use Rattle.std.proofs.Common.{◌≡◌, ℕ, Bool, true, false, ◌||◌, List, [], ◌∷◌, length, Option, Some, None, refl, sym, ap}
use Rattle.std.proofs.Common.{◌∙◌, nat_cmp}
use Rattle.std.specs.Option.{is_some}
use Rattle.std.specs.Ordering.{eq_by_cmp}
use Rattle.std.specs.List.{list_any}
use Rattle.std.specs.FinMap as map
use Rattle.std.specs.FinMap.{entries-insert, len-entries, len-empty}
use Rattle.std.specs.FinMap.Entries.{put, by_order}
use Rattle.std.specs.declared.cmp.Ordering.TheVariants.{Less, Equal, Greater}
use Rattle.std.proofs.Math.Nat.{suc-ne-zero}
use Rattle.std.proofs.lemmas.Bool.{false≢true}
use Rattle.retro_tree.specs.CellOrder.{cell_cmp, cell_total, cell_exact}
use Rattle.retro_tree.specs.Path.{PathValue}
use Rattle.retro_tree.specs.Cell.{value}
use Rattle.retro_tree.specs.Change.{apply, cell_of, written}
use Rattle.retro_tree.specs.Overlay.{OverlayMap, Overlays, combined_value, overlay_entry_grown, grown_at}
use Rattle.retro_tree.specs.Commit.{makes, committed, put_cells}
use Rattle.retro_tree.specs.declared.node.Node.{Node}
use Rattle.retro_tree.specs.declared.cell.Cell.{Cell}
use Rattle.retro_tree.specs.declared.cell.Cell.TheVariants as cells
use Rattle.retro_tree.specs.declared.value.Value.TheVariants as values
use Rattle.retro_tree.specs.declared.overlay_entry.OverlayEntry.{OverlayEntry}
use Rattle.retro_tree.specs.declared.overlay_entry.OverlayEntry.TheVariants as entries
use Rattle.retro_tree.specs.declared.change.Change.{Change}
use Rattle.retro_tree.specs.declared.change.Change.TheVariants as changes
use Rattle.retro_tree.specs.declared.state.State.{State}
use Rattle.retro_tree.proofs.PutCells.{key_updated, sessions_made, state_committed}
use Rattle.retro_tree.proofs.OverlayChanges.{overlays_changed, grown_again, first_growth_combined}

-- ---- tests
absorbed : (a b c : Bool) → (b ≡ true → a ≡ true) → (a || c) ≡ (a || (b || c))
absorbed true b c h = refl
absorbed false true c h = absurd (false≢true (h refl))
absorbed false false c h = refl

or_moved : (a b c : Bool) → (a || (b || c)) ≡ (b || (a || c))
or_moved true true c = refl
or_moved true false c = refl
or_moved false true c = refl
or_moved false false c = refl

or_joined : (a b c : Bool) → (a || (b || c)) ≡ ((a || b) || c)
or_joined true b c = refl
or_joined false b c = refl

-- a test that the new value passes if the old value passes it
any_put : (p : Cell × OverlayEntry → Bool) (c : Cell) (v : OverlayEntry)
    → ((old : OverlayEntry) → p (c, old) ≡ true → p (c, v) ≡ true) → (es : List (Cell × OverlayEntry))
    → list_any p (put cell_cmp c v es) ≡ (p (c, v) || list_any p es)
any_put p c v h [] = refl
any_put p c v h (e ∷ es) =
    elim (cell_cmp c e.0) as (λ r. cell_cmp c e.0 ≡ r
    → list_any p (by_order r ((c, v) ∷ e ∷ es) ((e.0, v) ∷ es) (e ∷ put cell_cmp c v es))
    ≡ (p (c, v) || (p e || list_any p es))) [
      | Less ↦ λ t. refl
      | Equal ↦ λ t. let same = cell_exact c e.0 t in
          ap (λ k. p (k, v) || list_any p es) (sym same)
          ∙ absorbed (p (c, v)) (p e) (list_any p es) (λ there. h e.1 (ap (λ k. p (k, e.1)) same ∙ there))
      | Greater ↦ λ t. ap (λ b. p e || b) (any_put p c v h es) ∙ or_moved (p e) (p (c, v)) (list_any p es)
    ] refl

-- ---- sessions
-- whether a change creates a session, if it doesn't exist
abbrev pub sets : ℕ → Change → Bool
sets k (changes.Put p node) = false
sets k (changes.Grow p bytes) = false
sets k (changes.SetVar sid name text) = eq_by_cmp nat_cmp k sid
sets k (changes.SetCwd sid q) = eq_by_cmp nat_cmp k sid
sets k (changes.SetStatus sid n) = eq_by_cmp nat_cmp k sid

pub key_changed : (change : Change) (s : State) (k : ℕ) → map.contains_key (apply change s).sessions k
    ≡ (sets k change || map.contains_key s.sessions k)
unfolding apply
key_changed (changes.Put p node) s k = refl
key_changed (changes.Grow p bytes) s k = refl
key_changed (changes.SetVar sid name text) s k = key_updated s.sessions sid _ k
key_changed (changes.SetCwd sid q) s k = key_updated s.sessions sid _ k
key_changed (changes.SetStatus sid n) s k = key_updated s.sessions sid _ k

-- the entry of the change's cell creates no other session
makes_no_other : (change : Change) (k : ℕ) (l : OverlayEntry) → makes k (cell_of change) l ≡ true → sets k change ≡ true
makes_no_other (changes.Put p node) k l h = h
makes_no_other (changes.Grow p bytes) k l h = h
makes_no_other (changes.SetVar sid name text) k (entries.Value (values.Node node)) h = absurd (false≢true h)
makes_no_other (changes.SetVar sid name text) k (entries.Value (values.Cwd q)) h = absurd (false≢true h)
makes_no_other (changes.SetVar sid name text) k (entries.Value (values.Text None)) h = absurd (false≢true h)
makes_no_other (changes.SetVar sid name text) k (entries.Value (values.Text (Some t))) h = h
makes_no_other (changes.SetVar sid name text) k (entries.Value (values.Status n)) h = absurd (false≢true h)
makes_no_other (changes.SetVar sid name text) k (entries.Growth bytes) h = absurd (false≢true h)
makes_no_other (changes.SetCwd sid p) k (entries.Value (values.Node node)) h = absurd (false≢true h)
makes_no_other (changes.SetCwd sid p) k (entries.Value (values.Cwd q)) h = h
makes_no_other (changes.SetCwd sid p) k (entries.Value (values.Text t)) h = absurd (false≢true h)
makes_no_other (changes.SetCwd sid p) k (entries.Value (values.Status n)) h = absurd (false≢true h)
makes_no_other (changes.SetCwd sid p) k (entries.Growth bytes) h = absurd (false≢true h)
makes_no_other (changes.SetStatus sid m) k (entries.Value (values.Node node)) h = absurd (false≢true h)
makes_no_other (changes.SetStatus sid m) k (entries.Value (values.Cwd q)) h = absurd (false≢true h)
makes_no_other (changes.SetStatus sid m) k (entries.Value (values.Text t)) h = absurd (false≢true h)
makes_no_other (changes.SetStatus sid m) k (entries.Value (values.Status n)) h = h
makes_no_other (changes.SetStatus sid m) k (entries.Growth bytes) h = absurd (false≢true h)

abbrev made_in : ℕ → OverlayMap → Bool
made_in k overlay = list_any (λ e. makes k e.0 e.1) (map.entries overlay)

made_set : (change : Change) (w : OverlayEntry) (overlay : OverlayMap) (k : ℕ) → makes k (cell_of change) w
    ≡ sets k change → made_in k (map.insert overlay (cell_of change) w) ≡ (sets k change || made_in k overlay)
made_set change w overlay k made =
    ap (list_any (λ e. makes k e.0 e.1)) (entries-insert cell_total overlay (cell_of change) w)
    ∙ any_put (λ e. makes k e.0 e.1) (cell_of change) w (λ old there. made ∙ makes_no_other change k old there)
    (map.entries overlay)
    ∙ ap (λ b. b || made_in k overlay) made

-- ---- committed states
pub committed_by : (change : Change) (w : OverlayEntry) (overlay : OverlayMap) (below now : State)
    → Overlays overlay below now → combined_value (Some w) (value (cell_of change) below)
    ≡ written change (value (cell_of change) now) → ((k : ℕ) → makes k (cell_of change) w ≡ sets k change)
    → committed overlay below ≡ now → committed (map.insert overlay (cell_of change) w) below ≡ apply change now
committed_by change w overlay below now h is made same =
    state_committed (map.insert overlay (cell_of change) w) below (apply change now)
    (overlays_changed change w overlay below now h is) (λ k.
    key_changed change now k
    ∙ ap (λ b. sets k change || b) (ap (λ (s : State). map.contains_key s.sessions k) (sym same)
    ∙ sessions_made (map.entries overlay) below k)
    ∙ or_joined (sets k change) (made_in k overlay) (map.contains_key below.sessions k)
    ∙ ap (λ b. b || map.contains_key below.sessions k) (sym (made_set change w overlay k (made k))))

pub committed_put : (p : PathValue) (node : Node) (overlay : OverlayMap) (below now : State)
    → Overlays overlay below now → committed overlay below ≡ now
    → committed (map.insert overlay (cells.At p) (entries.Value (values.Node node))) below
    ≡ apply (changes.Put p node) now
committed_put p node overlay below now h same =
    committed_by (changes.Put p node) _ overlay below now h refl (λ k. refl) same

pub committed_var : (sid : ℕ) (name text : List ℕ) (overlay : OverlayMap) (below now : State)
    → Overlays overlay below now → committed overlay below ≡ now
    → committed (map.insert overlay (cells.Var sid name) (entries.Value (values.Text (Some text)))) below
    ≡ apply (changes.SetVar sid name text) now
committed_var sid name text overlay below now h same =
    committed_by (changes.SetVar sid name text) _ overlay below now h refl (λ k. refl) same

pub committed_cwd : (sid : ℕ) (p : PathValue) (overlay : OverlayMap) (below now : State)
    → Overlays overlay below now → committed overlay below ≡ now
    → committed (map.insert overlay (cells.Cwd sid) (entries.Value (values.Cwd p))) below
    ≡ apply (changes.SetCwd sid p) now
committed_cwd sid p overlay below now h same = committed_by (changes.SetCwd sid p) _ overlay below now h refl
    (λ k. refl) same

pub committed_status : (sid n : ℕ) (overlay : OverlayMap) (below now : State) → Overlays overlay below now
    → committed overlay below ≡ now
    → committed (map.insert overlay (cells.Status sid) (entries.Value (values.Status n))) below
    ≡ apply (changes.SetStatus sid n) now
committed_status sid n overlay below now h same =
    committed_by (changes.SetStatus sid n) _ overlay below now h refl (λ k. refl) same

-- a growth of a cell that has an entry
pub committed_grown : (p : PathValue) (bytes : List ℕ) (overlay : OverlayMap) (below now : State)
    → Overlays overlay below now → is_some (map.get overlay (cells.At p)) ≡ true → committed overlay below ≡ now
    → committed (grown_at (cells.At p) bytes (map.get overlay (cells.At p)) overlay) below
    ≡ apply (changes.Grow p bytes) now
committed_grown p bytes overlay below now h there same = go (map.get overlay (cells.At p)) refl there
  where
    go : (x : Option OverlayEntry) → map.get overlay (cells.At p) ≡ x → is_some x ≡ true
        → committed (grown_at (cells.At p) bytes x overlay) below ≡ apply (changes.Grow p bytes) now
    go None e is = absurd (false≢true is)
    go (Some l) e is =
        committed_by (changes.Grow p bytes) (overlay_entry_grown bytes l) overlay below now h
        (grown_again p bytes l overlay below now h e) (λ k. refl) same

-- a growth of a cell that has no entry
pub committed_first : (p : PathValue) (bytes : List ℕ) (overlay : OverlayMap) (below now : State)
    → Overlays overlay below now → is_some (map.get overlay (cells.At p)) ≡ false → committed overlay below
    ≡ now → committed (map.insert overlay (cells.At p) (entries.Growth bytes)) below ≡ apply (changes.Grow p bytes) now
committed_first p bytes overlay below now h none same =
    committed_by (changes.Grow p bytes) (entries.Growth bytes) overlay below now h
    (first_growth_combined p bytes overlay below now h none) (λ k. refl) same

no_items : (es : List (Cell × OverlayEntry)) → length es ≡ 0 → es ≡ []
no_items [] e = refl
no_items (x ∷ es) e = absurd (suc-ne-zero (length es) e)

abbrev no_cells : OverlayMap
no_cells = map.empty

-- an overlay without entries leaves every state unchanged
pub committed_none : (s : State) → committed map.empty s ≡ s
committed_none s =
    ap (λ es. put_cells es s) (no_items (map.entries no_cells) (sym (len-entries no_cells)
    ∙ len-empty cell_cmp OverlayEntry))

pub ruleset committing =
    (committed_put, committed_var, committed_cwd, committed_status, committed_grown, committed_first)
