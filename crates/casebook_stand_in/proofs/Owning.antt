-- The cells of effects: each entry is a value of its cell's kind, and of the tree or the session.
use Rattle.std.proofs.Common.{◌≡◌, ℕ, Bool, true, false, Some, Result, Ok, Err, refl, sym, ap, ◌∙◌}
use Rattle.std.proofs.Common.{subst}
use Rattle.std.specs.Result.{OnOk, OnErr}
use Rattle.std.specs.Bool.{if◌then◌else◌}
use Rattle.std.specs.FinMap as map
use Rattle.std.specs.FinMap.{get-empty}
use Rattle.retro_tree.specs.CellOrder.{cell_cmp}
use Rattle.retro_tree.specs.Notes.{cell_eq}
use Rattle.retro_tree.specs.Overlay.{OverlayMap, fits_cell}
use Rattle.retro_tree.specs.declared.cell.Cell.{Cell}
use Rattle.retro_tree.specs.declared.value.Value.{Value}
use Rattle.retro_tree.specs.declared.overlay_entry.OverlayEntry.{OverlayEntry}
use Rattle.retro_tree.specs.declared.overlay_entry.OverlayEntry.TheVariants as entries
use Rattle.retro_tree.proofs.Small.{none_some}
use Rattle.retro_tree.proofs.NoteLaws.{same_cells}
use Rattle.retro_tree.proofs.OverlayChanges.{get_set}
use Rattle.retro_tree.proofs.Fitting.{fits_none, fits_set}
use Rattle.retro_tree.proofs.ValueEntries.{values_none, values_inserted}
use Rattle.casebook_stand_in.specs.Effect.{AreOwn, EffectValue, IsEffect, is_own, with_cell}

own_none : (sid : ℕ) → AreOwn sid map.empty
unfolding AreOwn
own_none sid c l is = absurd (none_some l (sym (get-empty cell_cmp c) ∙ is))

own_inserted : (sid : ℕ) (overlay : OverlayMap) (k : Cell) (w : OverlayEntry) → is_own sid k ≡ true
    → AreOwn sid overlay → AreOwn sid (map.insert overlay k w)
unfolding AreOwn
own_inserted sid overlay k w of own c l is = go (cell_eq k c) refl
  where
    go : (b : Bool) → cell_eq k c ≡ b → is_own sid c ≡ true
    go true t = ap (is_own sid) (sym (same_cells k c t)) ∙ of
    go false t = own c l (sym (get_set overlay k w c ∙ ap (λ b. if b then Some w else map.get overlay c) t) ∙ is)

-- an effect without cells
pub no_cells : (sid : ℕ) → IsEffect (record { sid = sid; cells = map.empty })
no_cells sid = record { fits = fits_none; values = values_none; own = own_none sid }

-- the value of a cell that belongs to an effect
pub one_more : (effect : EffectValue) (k : Cell) (v : Value) → fits_cell k (entries.Value v) ≡ true
    → is_own effect.sid k ≡ true → IsEffect effect → IsEffect (with_cell k v effect)
one_more effect k v fit own is = record {
  fits = fits_set effect.cells k (entries.Value v) fit is.fits;
  values = values_inserted effect.cells k (entries.Value v) refl is.values;
  own = own_inserted effect.sid effect.cells k (entries.Value v) own is.own;
}

-- an effect after a cell is set, or memory ran out
pub set_or_kept : {X E : Type 0} (effect : EffectValue) (k : Cell) (v : Value) (new : OverlayMap) (r : Result X E)
    → fits_cell k (entries.Value v) ≡ true → is_own effect.sid k ≡ true → IsEffect effect
    → OnOk r (new ≡ map.insert effect.cells k (entries.Value v)) → OnErr r (new ≡ effect.cells)
    → IsEffect (record { sid = effect.sid; cells = new })
set_or_kept effect k v new (Ok x) fit own is ok err =
    subst (λ m. IsEffect (record { sid = effect.sid; cells = m })) (sym ok) (one_more effect k v fit own is)
set_or_kept effect k v new (Err e) fit own is ok err =
    subst (λ m. IsEffect (record { sid = effect.sid; cells = m })) (sym err) is
