-- Writes in an overlay, undone.
use Rattle.std.proofs.Common.{◌≡◌, ℕ, Bool, true, false, List, [], ◌∷◌, ◌++◌, length, reverse, Some, None, refl, sym}
use Rattle.std.proofs.Common.{ap, ◌∙◌}
use Rattle.std.proofs.lemmas.List.{reverse-append}
use Rattle.std.proofs.Math.Seq.{take-append_seam}
use Rattle.std.specs.Bool.{if◌then◌else◌}
use Rattle.std.specs.FinMap as map
use Rattle.std.specs.FinMap.{same_map}
use Rattle.retro_tree.specs.CellOrder.{cell_total, cell_exact}
use Rattle.retro_tree.specs.Notes.{cell_eq}
use Rattle.retro_tree.specs.Overlay.{OverlayMap, grown_at, overlay_entry_grown, replaced_at}
use Rattle.retro_tree.specs.declared.cell.Cell.{Cell}
use Rattle.retro_tree.specs.declared.value.Value.{Value}
use Rattle.retro_tree.specs.declared.value.Value.TheVariants as values
use Rattle.retro_tree.specs.declared.node.Node.TheVariants as nodes
use Rattle.retro_tree.specs.declared.overlay_entry.OverlayEntry.{OverlayEntry}
use Rattle.retro_tree.specs.declared.overlay_entry.OverlayEntry.TheVariants as entries
use Rattle.retro_tree.proofs.Lookups.{get_inserted}
use Rattle.retro_tree.proofs.NoteLaws.{same_cells}
use Rattle.retro_tree.proofs.OverlayChanges.{get_erased}
use Rattle.retro_tree.proofs.PreviousSettings.{inserted_twice, removed_again, put_back}
use Rattle.retro_difference.specs.inner.Undo.{undone, undone_all, cut, cut_at}
use Rattle.retro_difference.specs.declared.undo.Undo.{Undo}
use Rattle.retro_difference.specs.declared.undo.Undo.TheVariants as undos

-- ---- a cut, over a placeholder
pub replaced_twice : (c : Cell) (x y : OverlayEntry) (overlay : OverlayMap) (old : OverlayEntry)
    → map.get overlay c ≡ Some old
    → replaced_at c y (map.get (replaced_at c x (map.get overlay c) overlay) c)
    (replaced_at c x (map.get overlay c) overlay)
    ≡ map.insert overlay c y
replaced_twice c x y overlay old e =
    ap (λ o. replaced_at c y (map.get (replaced_at c x o overlay) c) (replaced_at c x o overlay)) e
    ∙ ap (λ o. replaced_at c y o (map.insert overlay c x)) (get_inserted cell_total overlay c x)
    ∙ inserted_twice cell_total cell_exact overlay c x y

pub cut_some : (c : Cell) (n : ℕ) (overlay : OverlayMap) (old : OverlayEntry) → map.get overlay c ≡ Some old
    → map.insert overlay c (cut n old) ≡ cut_at c n (map.get overlay c) overlay
cut_some c n overlay old e = sym (ap (λ o. cut_at c n o overlay) e)

pub cut_none : (c : Cell) (n : ℕ) (x : OverlayEntry) (overlay : OverlayMap) → map.get overlay c ≡ None
    → replaced_at c x (map.get overlay c) overlay ≡ cut_at c n (map.get overlay c) overlay
cut_none c n x overlay e = ap (λ o. replaced_at c x o overlay) e ∙ sym (ap (λ o. cut_at c n o overlay) e)

-- ---- a growth
removed_nothing : (overlay : OverlayMap) (c : Cell) → map.get overlay c ≡ None → map.remove overlay c ≡ overlay
removed_nothing overlay c e =
    same_map cell_total cell_exact _ _ (λ d. get_erased overlay c d ∙ go d (cell_eq c d) refl)
  where
    go : (d : Cell) (b : Bool) → cell_eq c d ≡ b → if b then None else map.get overlay d ≡ map.get overlay d
    go d true t = sym e ∙ ap (map.get overlay) (same_cells c d t)
    go d false t = refl

pub grown_absent : (c : Cell) (bytes : List ℕ) (overlay : OverlayMap) → map.get overlay c ≡ None
    → undone (undos.Absent c) (grown_at c bytes (map.get overlay c) overlay) ≡ overlay
grown_absent c bytes overlay e =
    ap (λ o. map.remove (grown_at c bytes o overlay) c) e ∙ removed_nothing overlay c e

pub grown_entry : (c : Cell) (bytes : List ℕ) (overlay : OverlayMap) (l : OverlayEntry) → map.get overlay c ≡ Some l
    → undone (undos.Entry c l) (grown_at c bytes (map.get overlay c) overlay) ≡ overlay
grown_entry c bytes overlay l e =
    ap (λ o. undone (undos.Entry c l) (grown_at c bytes o overlay)) e
    ∙ ap (λ o. replaced_at c l o (map.insert overlay c (overlay_entry_grown bytes l)))
    (get_inserted cell_total overlay c (overlay_entry_grown bytes l))
    ∙ put_back cell_total cell_exact overlay c l (overlay_entry_grown bytes l) e

pub grown_file : (c : Cell) (bytes : List ℕ) (overlay : OverlayMap) (old : List ℕ)
    → map.get overlay c ≡ Some (entries.Value (values.Node (nodes.File old)))
    → undone (undos.Length c (length old)) (grown_at c bytes (map.get overlay c) overlay) ≡ overlay
grown_file c bytes overlay old e =
    let l = entries.Value (values.Node (nodes.File old)) in
    let m = entries.Value (values.Node (nodes.File (old ++ bytes))) in
    ap (λ o. undone (undos.Length c (length old)) (grown_at c bytes o overlay)) e
    ∙ ap (λ o. cut_at c (length old) o (map.insert overlay c m)) (get_inserted cell_total overlay c m)
    ∙ ap (λ bs. map.insert (map.insert overlay c m) c (entries.Value (values.Node (nodes.File bs))))
    (take-append_seam old bytes)
    ∙ put_back cell_total cell_exact overlay c l m e

-- ---- a value
pub set_absent : (c : Cell) (v : Value) (overlay : OverlayMap) → map.get overlay c ≡ None
    → undone (undos.Absent c) (map.insert overlay c (entries.Value v)) ≡ overlay
set_absent c v overlay e = removed_again cell_total cell_exact overlay c (entries.Value v) e

pub set_entry : (c : Cell) (v : Value) (overlay : OverlayMap) (old : OverlayEntry) → map.get overlay c ≡ Some old
    → undone (undos.Entry c old) (map.insert overlay c (entries.Value v)) ≡ overlay
set_entry c v overlay old e =
    ap (λ o. replaced_at c old o (map.insert overlay c (entries.Value v)))
    (get_inserted cell_total overlay c (entries.Value v))
    ∙ put_back cell_total cell_exact overlay c old (entries.Value v) e

-- ---- one write after others
pub undone_last : (us vs : List Undo) (u : Undo) (new old : OverlayMap) → vs ≡ us ++ u ∷ [] → undone u new ≡ old
    → undone_all (reverse vs) new ≡ undone_all (reverse us) old
undone_last us vs u new old pushed is =
    ap (λ ws. undone_all ws new) (ap reverse pushed ∙ reverse-append us (u ∷ [])) ∙ ap (undone_all (reverse us)) is

pub ruleset cutting = (replaced_twice, cut_some, cut_none)

pub ruleset growing = (grown_absent, grown_entry, grown_file)

pub ruleset setting = (set_absent, set_entry)

pub ruleset undoing = (undone_last)
