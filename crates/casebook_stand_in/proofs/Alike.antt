-- States that have the same value in each cell that some cells of a state set.
use Rattle.std.proofs.Common.{◌≡◌, ℕ, true, false, cond, List, [], ◌∷◌, Option, Some, None, refl, sym, ap, ◌∙◌}
use Rattle.std.specs.Ordering.{eq_by_cmp}
use Rattle.std.specs.Option.{is_some, option_copied}
use Rattle.std.specs.Borrow.{Bor}
use Rattle.std.specs.FinMap as map
use Rattle.std.specs.FinMap.{get-entries}
use Rattle.std.specs.FinMap.Entries.{find}
use Rattle.std.proofs.lemmas.Bool.{false≢true, eqb-true}
use Rattle.retro_tree.specs.CellOrder.{cell_cmp, cell_exact}
use Rattle.retro_tree.specs.Cell.{value}
use Rattle.retro_tree.specs.State.{SameSessions}
use Rattle.retro_tree.specs.Overlay.{OverlayMap, Overlays, Fits, combined_value}
use Rattle.retro_tree.specs.Commit.{committed, makes}
use Rattle.retro_tree.specs.declared.cell.Cell.{Cell}
use Rattle.retro_tree.specs.declared.cell.Cell.TheVariants as cells
use Rattle.retro_tree.specs.declared.value.Value.{Value}
use Rattle.retro_tree.specs.declared.value.Value.TheVariants as values
use Rattle.retro_tree.specs.declared.overlay_entry.OverlayEntry.{OverlayEntry}
use Rattle.retro_tree.specs.declared.overlay_entry.OverlayEntry.TheVariants as entries
use Rattle.retro_tree.specs.declared.state.State.{State}
use Rattle.retro_tree.proofs.Small.{none_some, tied}
use Rattle.retro_tree.proofs.Agree.{same_state}
use Rattle.retro_tree.proofs.Fitting.{fits_overlays}
use Rattle.retro_tree.proofs.KeptSessions.{commit_keeps_sessions, same_key}
use Rattle.casebook_stand_in.specs.Effect.{AreOwn, EffectValue, IsEffect, is_own, observed}
use Rattle.casebook_stand_in.specs.inner.Same.{AreSame}

-- the value of a cell that has an entry
found_same : (s t : State) (es : List (Cell × OverlayEntry)) (c : Cell) (l : OverlayEntry) → AreSame s t es
    → find cell_cmp c es ≡ Some l → value c s ≡ value c t
found_same s t [] c l h is = absurd (none_some l is)
found_same s t (e ∷ es) c l h is =
    elim (eq_by_cmp cell_cmp c e.0) as (λ b. eq_by_cmp cell_cmp c e.0 ≡ b
    → cond b (Some e.1) (find cell_cmp c es) ≡ Some l → value c s ≡ value c t) [
      | true ↦ λ x i. let same = cell_exact c e.0 (tied _ x) in ap (λ d. value d s) same ∙ h.0 ∙ sym (ap (λ d. value d t) same)
      | false ↦ λ x i. found_same s t es c l h.1 i
    ] refl is

pub same_found : (s t : State) (m : OverlayMap) (c : Cell) (l : OverlayEntry) → AreSame s t (map.entries m)
    → map.get m c ≡ Some l → value c s ≡ value c t
same_found s t m c l h is = found_same s t (map.entries m) c l h (sym (get-entries m c) ∙ is)

-- the value of a cell without an entry
value_left : (m : OverlayMap) (s : State) (c : Cell) → Fits m → map.get m c ≡ None → value c (committed m s) ≡ value c s
value_left m s c fit is = fits_overlays m s fit c ∙ ap (λ o. combined_value o (value c s)) is

-- two states that are made of one by setting cells are equal if they are equal in these cells
pub alike_states : (one two : OverlayMap) (s : State) → Fits one → Fits two → SameSessions (committed one s) s
    → SameSessions (committed two s) s → AreSame (committed one s) (committed two s) (map.entries one)
    → AreSame (committed one s) (committed two s) (map.entries two) → committed one s ≡ committed two s
alike_states one two s fit_one fit_two keep_one keep_two same_one same_two =
    same_state (committed one s) (committed two s) each (λ sid. keep_one sid ∙ sym (keep_two sid))
  where
    each : (c : Cell) → value c (committed one s) ≡ value c (committed two s)
    each c = go (map.get one c) (map.get two c) refl refl
      where
        go : (x y : Option OverlayEntry) → map.get one c ≡ x → map.get two c ≡ y
            → value c (committed one s) ≡ value c (committed two s)
        go (Some l) y e f = same_found _ _ one c l same_one e
        go None (Some l) e f = same_found _ _ two c l same_two f
        go None None e f = value_left one s c fit_one e ∙ sym (value_left two s c fit_two f)

-- ---- sessions
makes_own : (k sid : ℕ) (c : Cell) (l : OverlayEntry) → makes k c l ≡ true → is_own sid c ≡ true → k ≡ sid
makes_own k sid (cells.At p) l m o = absurd (false≢true m)
makes_own k sid (cells.Cwd n) (entries.Value (values.Cwd p)) m o = same_key k n m ∙ eqb-true n sid o
makes_own k sid (cells.Cwd n) (entries.Value (values.Node x)) m o = absurd (false≢true m)
makes_own k sid (cells.Cwd n) (entries.Value (values.Text x)) m o = absurd (false≢true m)
makes_own k sid (cells.Cwd n) (entries.Value (values.Status x)) m o = absurd (false≢true m)
makes_own k sid (cells.Cwd n) (entries.Growth bytes) m o = absurd (false≢true m)
makes_own k sid (cells.Var n name) (entries.Value (values.Text (Some text))) m o = same_key k n m ∙ eqb-true n sid o
makes_own k sid (cells.Var n name) (entries.Value (values.Text None)) m o = absurd (false≢true m)
makes_own k sid (cells.Var n name) (entries.Value (values.Node x)) m o = absurd (false≢true m)
makes_own k sid (cells.Var n name) (entries.Value (values.Cwd x)) m o = absurd (false≢true m)
makes_own k sid (cells.Var n name) (entries.Value (values.Status x)) m o = absurd (false≢true m)
makes_own k sid (cells.Var n name) (entries.Growth bytes) m o = absurd (false≢true m)
makes_own k sid (cells.Status n) (entries.Value (values.Status x)) m o = same_key k n m ∙ eqb-true n sid o
makes_own k sid (cells.Status n) (entries.Value (values.Node x)) m o = absurd (false≢true m)
makes_own k sid (cells.Status n) (entries.Value (values.Text x)) m o = absurd (false≢true m)
makes_own k sid (cells.Status n) (entries.Value (values.Cwd x)) m o = absurd (false≢true m)
makes_own k sid (cells.Status n) (entries.Growth bytes) m o = absurd (false≢true m)

own_at : (sid : ℕ) (m : OverlayMap) → AreOwn sid m → (c : Cell) (l : OverlayEntry) → map.get m c ≡ Some l
    → is_own sid c ≡ true
unfolding AreOwn
own_at sid m own c l is = own c l is

-- an observed state has the same sessions
pub observed_sessions : (effect : EffectValue) (s : State) → IsEffect effect
    → map.contains_key s.sessions effect.sid ≡ true → SameSessions (observed effect s) s
observed_sessions effect s is has =
    commit_keeps_sessions effect.cells s
    (λ k c l at m. ap (map.contains_key s.sessions) (makes_own k effect.sid c l m (own_at effect.sid effect.cells is.own c l at)) ∙ has)

-- ---- one cell
committed_value : (m : OverlayMap) (s : State) (c : Cell) → Fits m
    → value c (committed m s) ≡ combined_value (map.get m c) (value c s)
committed_value m s c fit = fits_overlays m s fit c

-- the observed value of a cell that was seen
pub seen_value : (effect : EffectValue) (s : State) (c : Cell) (v : Value) → IsEffect effect
    → map.get effect.cells c ≡ Some (entries.Value v) → value c (observed effect s) ≡ v
seen_value effect s c v is at = committed_value effect.cells s c is.fits ∙ ap (λ o. combined_value o (value c s)) at

-- the observed value of any other cell
pub unseen_value : (effect : EffectValue) (s : State) (c : Cell) → IsEffect effect
    → map.get effect.cells c ≡ None → value c (observed effect s) ≡ value c s
unseen_value effect s c is at = committed_value effect.cells s c is.fits ∙ ap (λ o. combined_value o (value c s)) at

-- the value of a cell over some cells
pub set_value : (m : OverlayMap) (s : State) (c : Cell) (v : Value) → Fits m
    → ((now : State) → Overlays m s now → v ≡ value c now) → v ≡ value c (committed m s)
set_value m s c v fit h = h (committed m s) (fits_overlays m s fit)

-- a cell that has an entry has equal values
pub same_at_entry : (s t : State) (m : OverlayMap) (c : Cell) → AreSame s t (map.entries m)
    → is_some (map.get m c) ≡ true → value c s ≡ value c t
same_at_entry s t m c h has = go (map.get m c) refl has
  where
    go : (o : Option OverlayEntry) → map.get m c ≡ o → is_some o ≡ true → value c s ≡ value c t
    go None e x = absurd (false≢true x)
    go (Some l) e x = same_found s t m c l h e

-- a borrowed value is there if the value is
pub copied_some : {T : Type 0} (o : Option (Bor T)) → is_some (option_copied o) ≡ is_some o
copied_some None = refl
copied_some (Some x) = refl

pub ruleset observing = (seen_value, unseen_value, observed_sessions)
