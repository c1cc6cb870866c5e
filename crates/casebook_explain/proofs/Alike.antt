-- Cells have the same values in the observed states and in the told ones.
use Rattle.std.proofs.Common.{◌≡◌, ◌∙◌, ◌≢◌, ℕ, Bool, true, false, refl, sym, ap, List, [], ◌∷◌}
use Rattle.std.proofs.Common.{Option, Some, None}
use Rattle.std.specs.Prelude.{All}
use Rattle.std.specs.FinMap as map
use Rattle.std.proofs.lemmas.Bool.{false≢true}
use Rattle.std.proofs.lemmas.List.Elements.{All-head, All-tail}
use Rattle.retro_tree.specs.CellOrder.{cell_exact, cell_total}
use Rattle.retro_tree.specs.Cell.{value}
use Rattle.retro_tree.specs.Commit.{committed}
use Rattle.retro_tree.specs.Overlay.{Fits, OverlayMap, combined_value}
use Rattle.retro_tree.specs.declared.cell.Cell.{Cell}
use Rattle.retro_tree.specs.declared.cell.Cell.TheVariants as cells
use Rattle.retro_tree.specs.declared.overlay_entry.OverlayEntry.{OverlayEntry}
use Rattle.retro_tree.specs.declared.overlay_entry.OverlayEntry.TheVariants as entries
use Rattle.retro_tree.specs.declared.state.State.{State}
use Rattle.retro_tree.specs.declared.value.Value.TheVariants as values
use Rattle.retro_tree.proofs.Fitting.{fits_overlays, fits_set}
use Rattle.retro_tree.proofs.Lookups.{get_inserted_apart}
use Rattle.casebook_stand_in.specs.Effect.{EffectValue, IsEffect, observed, with_standing}
use Rattle.casebook_stand_in.specs.Explained.{effect_of_texts}
use Rattle.casebook_explain.specs.States.{SameAfterEach, is_status}
use Rattle.casebook_explain.specs.Told.{AreTold, state_after}
use Rattle.casebook_explain.specs.declared.seen_line.SeenLine.{SeenLine}
use Rattle.casebook_explain.specs.declared.told.ToldLine.{ToldLine}

-- a cell after effects that set it alike
set_alike : (one two : OverlayMap) (now s : State) (c : Cell) → Fits one → Fits two
    → map.get one c ≡ map.get two c → value c now ≡ value c s
    → value c (committed one now) ≡ value c (committed two s)
set_alike one two now s c fit_one fit_two same e =
    fits_overlays one now fit_one c ∙ ap (λ o. combined_value o (value c now)) same
    ∙ ap (combined_value (map.get two c)) e ∙ sym (fits_overlays two s fit_two c)

apart_from_status : (sid : ℕ) (c : Cell) → is_status c ≡ false → c ≢ cells.Status sid
apart_from_status sid c h e = false≢true (sym h ∙ ap is_status e)

standing_get : (sid : ℕ) (entry : Option OverlayEntry) (m : OverlayMap) (c : Cell)
    → is_status c ≡ false → map.get m c ≡ map.get (with_standing sid entry m) c
standing_get sid None m c h = refl
standing_get sid (Some (entries.Growth bytes)) m c h = refl
standing_get sid (Some (entries.Value (values.Node node))) m c h = refl
standing_get sid (Some (entries.Value (values.Cwd p))) m c h = refl
standing_get sid (Some (entries.Value (values.Text t))) m c h = refl
standing_get sid (Some (entries.Value (values.Status status))) m c h =
    sym (get_inserted_apart cell_total cell_exact m (cells.Status sid) _ c
    (apart_from_status sid c h))

standing_fits : (sid : ℕ) (entry : Option OverlayEntry) (m : OverlayMap) → Fits m
    → Fits (with_standing sid entry m)
standing_fits sid None m fit = fit
standing_fits sid (Some (entries.Growth bytes)) m fit = fit
standing_fits sid (Some (entries.Value (values.Node node))) m fit = fit
standing_fits sid (Some (entries.Value (values.Cwd p))) m fit = fit
standing_fits sid (Some (entries.Value (values.Text t))) m fit = fit
standing_fits sid (Some (entries.Value (values.Status status))) m fit =
    fits_set m (cells.Status sid) _ refl fit

told_alike : (modelled : Bool) (effect : EffectValue) (now s : State) (c : Cell)
    → is_status c ≡ false → IsEffect effect → value c now ≡ value c s
    → value c (observed effect now) ≡ value c (observed (effect_of_texts modelled effect) s)
told_alike true effect now s c h is e =
    set_alike effect.cells effect.cells now s c is.fits is.fits refl e
told_alike false effect now s c h is e =
    let entry = map.get effect.cells (cells.Status effect.sid) in
    set_alike effect.cells (with_standing effect.sid entry effect.cells) now s c is.fits
    (standing_fits effect.sid entry effect.cells is.fits)
    (standing_get effect.sid entry effect.cells c h) e

pub alike : (c : Cell) (lines : List SeenLine) (told : List ToldLine) (now s : State)
    → is_status c ≡ false → All (λ line. IsEffect line.effect) lines → AreTold lines told s
    → value c now ≡ value c s → SameAfterEach c lines told now s
alike c [] told now s h are is e = tt
alike c (line ∷ lines) [] now s h are is e = tt
alike c (line ∷ lines) (t ∷ told) now s h are is e =
    let same =
    told_alike t.is_modelled line.effect now s c h
    (All-head (λ line. IsEffect line.effect) line lines are) e in (
      same,
      alike c lines told (observed line.effect now) (state_after line t s) h
          (All-tail (λ line. IsEffect line.effect) line lines are) is.1 same,
    )
