-- Overlays in which each entry fits its cell: the committed state is the combined state.
use Rattle.std.proofs.Common.{◌≡◌, ℕ, Bool, true, false, List, [], ◌∷◌, Option, Some, None, refl, sym, ap, ◌∙◌, subst}
use Rattle.std.proofs.Common.{T}
use Rattle.std.specs.Bool.{if◌then◌else◌}
use Rattle.std.specs.FinMap as map
use Rattle.std.specs.FinMap.{get-entries, get-empty, entries_sorted}
use Rattle.std.specs.FinMap.Entries.{find, is_sorted, below_all}
use Rattle.std.proofs.lemmas.Bool.{false≢true}
use Rattle.retro_tree.specs.CellOrder.{cell_cmp}
use Rattle.retro_tree.specs.Cell.{value}
use Rattle.retro_tree.specs.Notes.{cell_eq}
use Rattle.retro_tree.specs.Overlay.{OverlayMap, Overlays, combined_value, fits_cell, Fits, overlay_entry_grown}
use Rattle.retro_tree.specs.Overlay.{grown_at, replaced_at}
use Rattle.retro_tree.specs.Commit.{put_cell, put_cells, committed}
use Rattle.retro_tree.specs.declared.cell.Cell.{Cell}
use Rattle.retro_tree.specs.declared.cell.Cell.TheVariants as cells
use Rattle.retro_tree.specs.declared.value.Value.{Value}
use Rattle.retro_tree.specs.declared.value.Value.TheVariants as values
use Rattle.retro_tree.specs.declared.overlay_entry.OverlayEntry.{OverlayEntry}
use Rattle.retro_tree.specs.declared.overlay_entry.OverlayEntry.TheVariants as entries
use Rattle.retro_tree.specs.declared.state.State.{State}
use Rattle.retro_tree.proofs.Small.{both_fst, both_snd, none_some, some_same}
use Rattle.retro_tree.proofs.NoteLaws.{same_cells}
use Rattle.retro_tree.proofs.OverlayLemmas.{none_found}
use Rattle.retro_tree.proofs.OverlayChanges.{get_set, get_erased}
use Rattle.retro_tree.proofs.PutCells.{held, value_put, found_first, found_later}

-- an entry that fits its cell writes the combined value
held_fits : (c : Cell) (l : OverlayEntry) (v : Value) → fits_cell c l ≡ true → held c l v ≡ combined_value (Some l) v
held_fits (cells.At p) (entries.Value (values.Node node)) v e = refl
held_fits (cells.At p) (entries.Value (values.Cwd q)) v e = absurd (false≢true e)
held_fits (cells.At p) (entries.Value (values.Text t)) v e = absurd (false≢true e)
held_fits (cells.At p) (entries.Value (values.Status n)) v e = absurd (false≢true e)
held_fits (cells.At p) (entries.Growth bytes) v e = refl
held_fits (cells.Cwd sid) (entries.Value (values.Node node)) v e = absurd (false≢true e)
held_fits (cells.Cwd sid) (entries.Value (values.Cwd q)) v e = refl
held_fits (cells.Cwd sid) (entries.Value (values.Text t)) v e = absurd (false≢true e)
held_fits (cells.Cwd sid) (entries.Value (values.Status n)) v e = absurd (false≢true e)
held_fits (cells.Cwd sid) (entries.Growth bytes) v e = absurd (false≢true e)
held_fits (cells.Var sid name) (entries.Value (values.Node node)) v e = absurd (false≢true e)
held_fits (cells.Var sid name) (entries.Value (values.Cwd q)) v e = absurd (false≢true e)
held_fits (cells.Var sid name) (entries.Value (values.Text t)) v e = refl
held_fits (cells.Var sid name) (entries.Value (values.Status n)) v e = absurd (false≢true e)
held_fits (cells.Var sid name) (entries.Growth bytes) v e = absurd (false≢true e)
held_fits (cells.Status sid) (entries.Value (values.Node node)) v e = absurd (false≢true e)
held_fits (cells.Status sid) (entries.Value (values.Cwd q)) v e = absurd (false≢true e)
held_fits (cells.Status sid) (entries.Value (values.Text t)) v e = absurd (false≢true e)
held_fits (cells.Status sid) (entries.Value (values.Status n)) v e = refl
held_fits (cells.Status sid) (entries.Growth bytes) v e = absurd (false≢true e)

in_turn : (es : List (Cell × OverlayEntry)) → T (is_sorted cell_cmp es)
    → ((c : Cell) (l : OverlayEntry) → find cell_cmp c es ≡ Some l → fits_cell c l ≡ true)
    → (s : State) (c : Cell) → value c (put_cells es s) ≡ combined_value (find cell_cmp c es) (value c s)
in_turn [] h fit s c = refl
in_turn (e ∷ es) h fit s c = in_turn es (both_snd _ _ h) later (put_cell e.0 e.1 s) c ∙ go (cell_eq e.0 c) refl
  where
    not_found : (d : Cell) → cell_eq e.0 d ≡ true → find cell_cmp d es ≡ None
    not_found d t = none_found d es (subst (λ k. T (below_all cell_cmp k es)) (same_cells e.0 d t) (both_fst _ _ h))

    later : (d : Cell) (l : OverlayEntry) → find cell_cmp d es ≡ Some l → fits_cell d l ≡ true
    later d l is = by_test (cell_eq e.0 d) refl
      where
        by_test : (b : Bool) → cell_eq e.0 d ≡ b → fits_cell d l ≡ true
        by_test true t = absurd (none_some l (sym (not_found d t) ∙ is))
        by_test false t = fit d l (found_later d e es t ∙ is)

    go : (b : Bool) → cell_eq e.0 c ≡ b → combined_value (find cell_cmp c es) (value c (put_cell e.0 e.1 s))
        ≡ combined_value (find cell_cmp c (e ∷ es)) (value c s)
    go true t =
        ap (λ o. combined_value o (value c (put_cell e.0 e.1 s))) (not_found c t)
        ∙ value_put e.0 e.1 s c
        ∙ ap (λ b. if b then held e.0 e.1 (value c s) else value c s) t
        ∙ held_fits e.0 e.1 (value c s) (fit e.0 e.1 (found_first e es))
        ∙ ap (λ o. combined_value o (value c s)) (sym (found_first e es)
        ∙ ap (λ k. find cell_cmp k (e ∷ es)) (same_cells e.0 c t))
    go false t =
        ap (combined_value (find cell_cmp c es)) (value_put e.0 e.1 s c
        ∙ ap (λ b. if b then held e.0 e.1 (value c s) else value c s) t)
        ∙ ap (λ o. combined_value o (value c s)) (sym (found_later c e es t))

pub fits_overlays : (overlay : OverlayMap) (s : State) → Fits overlay → Overlays overlay s (committed overlay s)
unfolding Fits
fits_overlays overlay s fit c =
    in_turn (map.entries overlay) (entries_sorted overlay) (λ d l is. fit d l (get-entries overlay d ∙ is)) s c
    ∙ ap (λ o. combined_value o (value c s)) (sym (get-entries overlay c))

-- ---- kept
pub fits_none : Fits map.empty
unfolding Fits
fits_none c l is = absurd (none_some l (sym (get-empty cell_cmp c) ∙ is))

pub fits_set : (overlay : OverlayMap) (k : Cell) (w : OverlayEntry) → fits_cell k w ≡ true → Fits overlay
    → Fits (map.insert overlay k w)
unfolding Fits
fits_set overlay k w of fit c l is = go (cell_eq k c) refl
  where
    go : (b : Bool) → cell_eq k c ≡ b → fits_cell c l ≡ true
    go true t =
        let same = some_same w l
        (sym (get_set overlay k w c ∙ ap (λ b. if b then Some w else map.get overlay c) t) ∙ is) in
        (λ i. fits_cell (sym (same_cells k c t) i) (sym same i)) ∙ of
    go false t = fit c l (sym (get_set overlay k w c ∙ ap (λ b. if b then Some w else map.get overlay c) t) ∙ is)

pub fits_removed : (overlay : OverlayMap) (k : Cell) → Fits overlay → Fits (map.remove overlay k)
unfolding Fits
fits_removed overlay k fit c l is = go (cell_eq k c) refl
  where
    go : (b : Bool) → cell_eq k c ≡ b → fits_cell c l ≡ true
    go true t = absurd
        (none_some l (sym (get_erased overlay k c ∙ ap (λ b. if b then None else map.get overlay c) t) ∙ is))
    go false t = fit c l (sym (get_erased overlay k c ∙ ap (λ b. if b then None else map.get overlay c) t) ∙ is)

-- an entry with bytes appended is of the same kind
of_grown : (c : Cell) (bytes : List ℕ) (l : OverlayEntry) → fits_cell c (overlay_entry_grown bytes l) ≡ fits_cell c l
of_grown (cells.At p) bytes (entries.Value (values.Node node)) = refl
of_grown (cells.At p) bytes (entries.Value (values.Cwd q)) = refl
of_grown (cells.At p) bytes (entries.Value (values.Text t)) = refl
of_grown (cells.At p) bytes (entries.Value (values.Status n)) = refl
of_grown (cells.At p) bytes (entries.Growth old) = refl
of_grown (cells.Cwd sid) bytes (entries.Value (values.Node node)) = refl
of_grown (cells.Cwd sid) bytes (entries.Value (values.Cwd q)) = refl
of_grown (cells.Cwd sid) bytes (entries.Value (values.Text t)) = refl
of_grown (cells.Cwd sid) bytes (entries.Value (values.Status n)) = refl
of_grown (cells.Cwd sid) bytes (entries.Growth old) = refl
of_grown (cells.Var sid name) bytes (entries.Value (values.Node node)) = refl
of_grown (cells.Var sid name) bytes (entries.Value (values.Cwd q)) = refl
of_grown (cells.Var sid name) bytes (entries.Value (values.Text t)) = refl
of_grown (cells.Var sid name) bytes (entries.Value (values.Status n)) = refl
of_grown (cells.Var sid name) bytes (entries.Growth old) = refl
of_grown (cells.Status sid) bytes (entries.Value (values.Node node)) = refl
of_grown (cells.Status sid) bytes (entries.Value (values.Cwd q)) = refl
of_grown (cells.Status sid) bytes (entries.Value (values.Text t)) = refl
of_grown (cells.Status sid) bytes (entries.Value (values.Status n)) = refl
of_grown (cells.Status sid) bytes (entries.Growth old) = refl

of_set : (overlay : OverlayMap) (k : Cell) (l : OverlayEntry) → Fits overlay → map.get overlay k ≡ Some l
    → fits_cell k l ≡ true
unfolding Fits
of_set overlay k l fit e = fit k l e

pub fits_grown : (overlay : OverlayMap) (k : Cell) (bytes : List ℕ) → Fits overlay
    → Fits (grown_at k bytes (map.get overlay k) overlay)
fits_grown overlay k bytes fit = go (map.get overlay k) refl
  where
    go : (x : Option OverlayEntry) → map.get overlay k ≡ x → Fits (grown_at k bytes x overlay)
    go None e = fit
    go (Some l) e = fits_set overlay k (overlay_entry_grown bytes l) (of_grown k bytes l ∙ of_set overlay k l fit e) fit

pub fits_replaced : (overlay : OverlayMap) (k : Cell) (w : OverlayEntry) → fits_cell k w ≡ true → Fits overlay
    → Fits (replaced_at k w (map.get overlay k) overlay)
fits_replaced overlay k w of fit = go (map.get overlay k)
  where
    go : (x : Option OverlayEntry) → Fits (replaced_at k w x overlay)
    go None = fit
    go (Some l) = fits_set overlay k w of fit

pub ruleset fitting = (fits_none, fits_set, fits_removed, fits_grown)
