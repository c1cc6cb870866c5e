-- The names of the children of a path, by the histories of their cells.
use Rattle.std.proofs.Common.{◌≡◌, ℕ, Bool, true, false, cond, List, [], ◌∷◌, Option, Some, None, refl}
use Rattle.std.proofs.Common.{sym, ap, ◌∙◌, subst, T}
use Rattle.std.specs.Option.{is_some}
use Rattle.std.specs.List.{filter}
use Rattle.std.specs.Bool.{if◌then◌else◌}
use Rattle.std.specs.Cmp.{tied_itself}
use Rattle.std.specs.Ordering.{eq_by_cmp, is_eq, is_le}
use Rattle.std.specs.declared.cmp.Ordering.TheVariants.{Less}
use Rattle.std.specs.FinMap as finmap
use Rattle.std.specs.FinMap.{get-entries, get-empty, get-insert, entries_sorted}
use Rattle.std.specs.FinMap.Entries.{find, is_sorted, below_all, where_key, is_sorted-where_key, find-where_key}
use Rattle.std.proofs.lemmas.Bool.{false≢true}
use Rattle.retro_tree.specs.CellOrder.{cell_cmp, cell_total, cell_exact}
use Rattle.retro_tree.specs.Path.{PathValue, below, is_child, only_name}
use Rattle.retro_tree.specs.inner.Marks.{cell_below}
use Rattle.retro_tree.specs.Overlay.{OverlayMap, Fits}
use Rattle.retro_tree.specs.declared.cell.Cell.{Cell}
use Rattle.retro_tree.specs.declared.cell.Cell.TheVariants as cells
use Rattle.retro_tree.specs.declared.value.Value.TheVariants as values
use Rattle.retro_tree.specs.declared.overlay_entry.OverlayEntry.{OverlayEntry}
use Rattle.retro_tree.specs.declared.overlay_entry.OverlayEntry.TheVariants as entries
use Rattle.retro_tree.proofs.Small.{tied, less, both_fst, both_snd}
use Rattle.retro_tree.proofs.Together.{path_after, apart_from}
use Rattle.retro_tree.proofs.Fitting.{fits_none, fits_set}
use Rattle.retro_history.specs.inner.CellHistory.{HistoryMap}
use Rattle.retro_history.specs.inner.Tracks.{VersionValue, version_below}
use Rattle.retro_history.specs.declared.cell_history.CellHistory.{CellHistory}
use Rattle.retro_history.specs.inner.TrackMarks.{histories_from, mark_of_value, mark_version}
use Rattle.retro_history.specs.inner.TrackMarks.{is_child_cell, mark_tracks}

abbrev Entries : Type 0
Entries = List (Cell × CellHistory)

-- ---- the cells below a path are consecutive and follow the path's own cell
abbrev with_prefix : PathValue → Entries → Entries
with_prefix p [] = []
with_prefix p (e ∷ es) = if cell_below p e.0 then e ∷ with_prefix p es else []

cell_after : (p : PathValue) (c : Cell) → cell_below p c ≡ true → is_le (cell_cmp (cells.At p) c) ≡ true
cell_after p (cells.At q) h = path_after p q h
cell_after p (cells.Cwd sid) h = absurd (false≢true h)
cell_after p (cells.Var sid name) h = absurd (false≢true h)
cell_after p (cells.Status sid) h = absurd (false≢true h)

apart_cell : (p : PathValue) (c d : Cell) → is_le (cell_cmp (cells.At p) c) ≡ true → cell_below p c ≡ false
    → cell_cmp c d ≡ Less → cell_below p d ≡ false
apart_cell p c (cells.Cwd sid) h none e = refl
apart_cell p c (cells.Var sid name) h none e = refl
apart_cell p c (cells.Status sid) h none e = refl
apart_cell p (cells.At k) (cells.At m) h none e = apart_from p k m h none e
apart_cell p (cells.Cwd sid) (cells.At m) h none e = cc
apart_cell p (cells.Var sid name) (cells.At m) h none e = cc
apart_cell p (cells.Status sid) (cells.At m) h none e = cc

none_after : (p : PathValue) (c : Cell) (es : Entries) → is_le (cell_cmp (cells.At p) c) ≡ true
    → cell_below p c ≡ false → T (below_all cell_cmp c es) → filter (λ e. cell_below p e.0) es ≡ []
none_after p c [] h none s = refl
none_after p c (e ∷ es) h none s =
    ap (λ b. cond b (e ∷ filter (λ f. cell_below p f.0) es) (filter (λ f. cell_below p f.0) es))
    (apart_cell p c e.0 h none (less _ (both_fst _ _ s)))
    ∙ none_after p c es h none (both_snd _ _ s)

entries_together : (p : PathValue) (es : Entries) → T (is_sorted cell_cmp es)
    → with_prefix p (filter (λ e. is_le (cell_cmp (cells.At p) e.0)) es) ≡ filter (λ e. cell_below p e.0) es
entries_together p [] s = refl
entries_together p (e ∷ es) s =
    let from = filter (λ f. is_le (cell_cmp (cells.At p) f.0)) es in
    let under = filter (λ f. cell_below p f.0) es in
    elim (cell_below p e.0) as (λ b. cell_below p e.0 ≡ b
    → with_prefix p (cond (is_le (cell_cmp (cells.At p) e.0)) (e ∷ from) from) ≡ cond b (e ∷ under) under) [
      | true ↦ λ t. ap (λ l. with_prefix p (cond l (e ∷ from) from)) (cell_after p e.0 t)
          ∙ ap (λ b. if b then e ∷ with_prefix p from else []) t
          ∙ ap (λ fs. e ∷ fs) (entries_together p es (both_snd _ _ s))
      | false ↦ λ t. elim (is_le (cell_cmp (cells.At p) e.0)) as (λ l. is_le (cell_cmp (cells.At p) e.0) ≡ l
          → with_prefix p (cond l (e ∷ from) from) ≡ under) [
            | true ↦ λ h. ap (λ b. if b then e ∷ with_prefix p from else []) t
                ∙ sym (none_after p e.0 es h t (both_fst _ _ s))
            | false ↦ λ h. entries_together p es (both_snd _ _ s)
          ] refl
    ] refl

-- ---- marks
abbrev no_marks : OverlayMap
no_marks = finmap.empty

abbrev mark_one : PathValue → ℕ → Cell × CellHistory → OverlayMap → OverlayMap
mark_one p n e marks = if is_child_cell p e.0 then mark_version e.0 (version_below n e.1.track) marks else marks

abbrev marks_all : PathValue → ℕ → Entries → OverlayMap → OverlayMap
marks_all p n [] marks = marks
marks_all p n (e ∷ es) marks = marks_all p n es (mark_one p n e marks)

marks_prefixed : (p : PathValue) (n : ℕ) (es : Entries) (marks : OverlayMap)
    → mark_tracks p n es marks ≡ marks_all p n (with_prefix p es) marks
marks_prefixed p n [] marks = refl
marks_prefixed p n (e ∷ es) marks =
    elim (cell_below p e.0) as (λ b. (if b then mark_tracks p n es (mark_one p n e marks) else marks)
    ≡ marks_all p n (if b then e ∷ with_prefix p es else []) marks) [
      | true ↦ marks_prefixed p n es (mark_one p n e marks)
      | false ↦ refl
    ]

-- the entry of a child
abbrev pub entry_by : Option VersionValue → Option OverlayEntry → Option OverlayEntry
entry_by None o = o
entry_by (Some v) o = Some (entries.Value (values.Node (mark_of_value v.value)))

abbrev pub entry_of : ℕ → Option CellHistory → Option OverlayEntry → Option OverlayEntry
entry_of n None o = o
entry_of n (Some h) o = entry_by (version_below n h.track) o

pub no_entry : (c : Cell) (es : Entries) → T (below_all cell_cmp c es) → find cell_cmp c es ≡ None
no_entry c [] h = refl
no_entry c (e ∷ es) h = ap (λ r. cond (is_eq r) (Some e.1) (find cell_cmp c es)) (less _ (both_fst _ _ h))
    ∙ no_entry c es (both_snd _ _ h)

set_here : (c : Cell) (o : Option VersionValue) (marks : OverlayMap)
    → finmap.get (mark_version c o marks) c ≡ entry_by o (finmap.get marks c)
set_here c None marks = refl
set_here c (Some v) marks =
    get-insert cell_total marks c (entries.Value (values.Node (mark_of_value v.value))) c
    ∙ ap (λ r. cond (is_eq r) (Some (entries.Value (values.Node (mark_of_value v.value)))) (finmap.get marks c))
    (tied_itself cell_total c)

set_apart : (c d : Cell) (o : Option VersionValue) (marks : OverlayMap) → eq_by_cmp cell_cmp c d ≡ false
    → finmap.get (mark_version d o marks) c ≡ finmap.get marks c
set_apart c d None marks e = refl
set_apart c d (Some v) marks e =
    get-insert cell_total marks d (entries.Value (values.Node (mark_of_value v.value))) c
    ∙ ap (λ b. cond b (Some (entries.Value (values.Node (mark_of_value v.value)))) (finmap.get marks c)) e

one_apart : (p : PathValue) (n : ℕ) (c : Cell) (e : Cell × CellHistory) (marks : OverlayMap)
    → eq_by_cmp cell_cmp c e.0 ≡ false → finmap.get (mark_one p n e marks) c ≡ finmap.get marks c
one_apart p n c e marks h = go (is_child_cell p e.0)
  where
    go : (b : Bool) → finmap.get (if b then mark_version e.0 (version_below n e.1.track) marks else marks) c
        ≡ finmap.get marks c
    go true = set_apart c e.0 (version_below n e.1.track) marks h
    go false = refl

one_here : (p : PathValue) (n : ℕ) (c : Cell) (h : CellHistory) (marks : OverlayMap) → is_child_cell p c ≡ true
    → finmap.get (mark_one p n (c, h) marks) c ≡ entry_of n (Some h) (finmap.get marks c)
one_here p n c h marks child =
    ap (λ b. finmap.get (if b then mark_version c (version_below n h.track) marks else marks) c) child
    ∙ set_here c (version_below n h.track) marks

marked : (p : PathValue) (n : ℕ) (c : Cell) → is_child_cell p c ≡ true → (es : Entries)
    → T (is_sorted cell_cmp es) → (marks : OverlayMap)
    → finmap.get (marks_all p n es marks) c ≡ entry_of n (find cell_cmp c es) (finmap.get marks c)
marked p n c child [] h marks = refl
marked p n c child (e ∷ es) h marks =
    marked p n c child es (both_snd _ _ h) (mark_one p n e marks)
    ∙ elim (eq_by_cmp cell_cmp c e.0) as (λ b. eq_by_cmp cell_cmp c e.0 ≡ b
    → entry_of n (find cell_cmp c es) (finmap.get (mark_one p n e marks) c)
    ≡ entry_of n (cond b (Some e.1) (find cell_cmp c es)) (finmap.get marks c)) [
      | true ↦ λ s. let same = cell_exact c e.0 (tied _ s) in
          ap (λ x. entry_of n x (finmap.get (mark_one p n e marks) c))
          (no_entry c es (subst (λ d. T (below_all cell_cmp d es)) (sym same) (both_fst _ _ h)))
          ∙ ap (λ d. finmap.get (mark_one p n (d, e.1) marks) c) (sym same) ∙ one_here p n c e.1 marks child
      | false ↦ λ s. ap (entry_of n (find cell_cmp c es)) (one_apart p n c e marks s)
    ] refl

-- a child is below its parent
child_is_below : (o : Option PathValue) → is_some (only_name o) ≡ true → is_some o ≡ true
child_is_below None h = h
child_is_below (Some rest) h = refl

-- the entry of a child in the marks of all histories
pub child_marked : (p q : PathValue) (n : ℕ) (m : HistoryMap) → is_child p q ≡ true
    → finmap.get (mark_tracks p n (histories_from (cells.At p) m) finmap.empty) (cells.At q)
    ≡ entry_of n (finmap.get m (cells.At q)) None
child_marked p q n m child =
    ap (λ marks. finmap.get marks (cells.At q)) (marks_prefixed p n (histories_from (cells.At p) m) finmap.empty
    ∙ ap (λ es. marks_all p n es finmap.empty) (entries_together p (finmap.entries m) (entries_sorted m)))
    ∙ marked p n (cells.At q) child (where_key cell_cmp (cell_below p) (finmap.entries m))
    (is_sorted-where_key cell_cmp (cell_below p) (finmap.entries m) (entries_sorted m)) finmap.empty
    ∙ ap (λ x. entry_of n x (finmap.get no_marks (cells.At q)))
    (find-where_key cell_cmp (cell_below p) (cells.At q)
    (λ c e. ap (cell_below p) (sym (cell_exact (cells.At q) c e))) (finmap.entries m)
    ∙ ap (λ b. cond b (find cell_cmp (cells.At q) (finmap.entries m)) None) (child_is_below (below p q) child)
    ∙ sym (get-entries m (cells.At q)))
    ∙ ap (entry_of n (finmap.get m (cells.At q))) (get-empty cell_cmp (cells.At q))

-- ---- marks fit their cells
fits_marked : (q : PathValue) (o : Option VersionValue) (marks : OverlayMap) → Fits marks
    → Fits (mark_version (cells.At q) o marks)
fits_marked q None marks fit = fit
fits_marked q (Some v) marks fit =
    fits_set marks (cells.At q) (entries.Value (values.Node (mark_of_value v.value))) refl fit

fits_one : (p : PathValue) (n : ℕ) (e : Cell × CellHistory) (marks : OverlayMap) → Fits marks
    → Fits (mark_one p n e marks)
fits_one p n (cells.At q, h) marks fit = go (is_child p q)
  where
    go : (b : Bool) → Fits (if b then mark_version (cells.At q) (version_below n h.track) marks else marks)
    go true = fits_marked q (version_below n h.track) marks fit
    go false = fit
fits_one p n (cells.Cwd sid, h) marks fit = fit
fits_one p n (cells.Var sid name, h) marks fit = fit
fits_one p n (cells.Status sid, h) marks fit = fit

fits_all : (p : PathValue) (n : ℕ) (es : Entries) (marks : OverlayMap) → Fits marks → Fits (mark_tracks p n es marks)
fits_all p n [] marks fit = fit
fits_all p n (e ∷ es) marks fit =
    elim (cell_below p e.0) as (λ b. Fits (if b then mark_tracks p n es (mark_one p n e marks) else marks)) [
      | true ↦ fits_all p n es (mark_one p n e marks) (fits_one p n e marks fit)
      | false ↦ fit
    ]

pub marks_fit : (p : PathValue) (n : ℕ) (m : HistoryMap)
    → Fits (mark_tracks p n (histories_from (cells.At p) m) finmap.empty)
marks_fit p n m = fits_all p n (histories_from (cells.At p) m) finmap.empty fits_none
