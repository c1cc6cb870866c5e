-- Changes whose sessions exist leave the same sessions, and so do overlays that create none.
use Rattle.std.proofs.Common.{◌≡◌, ℕ, Bool, true, false, not, ◌&&◌, ◌||◌, List, [], ◌∷◌, Some, refl, sym, ap, ◌∙◌}
use Rattle.std.proofs.Common.{nat_cmp}
use Rattle.std.specs.Ordering.{eq_by_cmp}
use Rattle.std.specs.List.{list_any, list_all}
use Rattle.std.specs.FinMap as map
use Rattle.std.specs.FinMap.{nat_cmp-IsAntisymmetric}
use Rattle.std.proofs.lemmas.Bool.{true≢false, false≢true}
use Rattle.retro_tree.specs.CellOrder.{cell_total, cell_exact}
use Rattle.retro_tree.specs.State.{SameSessions}
use Rattle.retro_tree.specs.Overlay.{OverlayMap}
use Rattle.retro_tree.specs.Commit.{committed, makes}
use Rattle.retro_tree.specs.Change.{apply, has_its_session}
use Rattle.retro_tree.specs.Notes.{after, AllAllowed}
use Rattle.retro_tree.specs.declared.cell.Cell.{Cell}
use Rattle.retro_tree.specs.declared.overlay_entry.OverlayEntry.{OverlayEntry}
use Rattle.retro_tree.specs.declared.change.Change.{Change}
use Rattle.retro_tree.specs.declared.change.Change.TheVariants as changes
use Rattle.retro_tree.specs.declared.note.Note.{Note}
use Rattle.retro_tree.specs.declared.note.Note.TheVariants.{Asked, Made}
use Rattle.retro_tree.specs.declared.state.State.{State}
use Rattle.retro_tree.proofs.Small.{tied, or_last}
use Rattle.retro_tree.proofs.Entries.{all_tested}
use Rattle.retro_tree.proofs.MayMake.{session_stays}
use Rattle.retro_tree.proofs.PutCells.{sessions_made}
use Rattle.retro_tree.proofs.CommittedChanges.{key_changed, sets}

pub same_key : (k sid : ℕ) → eq_by_cmp nat_cmp k sid ≡ true → k ≡ sid
same_key k sid e = nat_cmp-IsAntisymmetric k sid (tied _ e)

set_there : (c : Change) (s : State) (k : ℕ) → has_its_session c s ≡ true → sets k c ≡ true
    → map.contains_key s.sessions k ≡ true
set_there (changes.Put p node) s k h e = absurd (false≢true e)
set_there (changes.Grow p bytes) s k h e = absurd (false≢true e)
set_there (changes.SetVar sid name text) s k h e = ap (map.contains_key s.sessions) (same_key k sid e) ∙ h
set_there (changes.SetCwd sid p) s k h e = ap (map.contains_key s.sessions) (same_key k sid e) ∙ h
set_there (changes.SetStatus sid n) s k h e = ap (map.contains_key s.sessions) (same_key k sid e) ∙ h

pub change_keeps_sessions : (c : Change) (s : State) → has_its_session c s ≡ true → SameSessions (apply c s) s
change_keeps_sessions c s h k = key_changed c s k ∙ go (sets k c) refl
  where
    go : (b : Bool) → sets k c ≡ b → (b || map.contains_key s.sessions k) ≡ map.contains_key s.sessions k
    go true e = sym (set_there c s k h e)
    go false e = refl

pub notes_keep_sessions : (notes : List Note) (s : State) → AllAllowed notes s → SameSessions (after notes s) s
notes_keep_sessions [] s h k = refl
notes_keep_sessions (Asked a r ∷ notes) s h k = notes_keep_sessions notes s h k
notes_keep_sessions (Made c ∷ notes) s h k = notes_keep_sessions notes (apply c s) h.1 k
    ∙ change_keeps_sessions c s h.0.session k

-- ---- overlays
pub any_of_none : (p : Cell × OverlayEntry → Bool) (es : List (Cell × OverlayEntry))
    → list_all (λ e. not (p e)) es ≡ true → list_any p es ≡ false
any_of_none p [] h = refl
any_of_none p (e ∷ es) h = go (p e) refl h (any_of_none p es)
  where
    go : (b : Bool) → p e ≡ b → (not b && list_all (λ d. not (p d)) es) ≡ true
        → (list_all (λ d. not (p d)) es ≡ true → list_any p es ≡ false) → (b || list_any p es) ≡ false
    go true i k more = absurd (false≢true k)
    go false i k more = more k

pub commit_keeps_sessions : (overlay : OverlayMap) (s : State)
    → ((sid : ℕ) (c : Cell) (l : OverlayEntry) → map.get overlay c ≡ Some l → makes sid c l ≡ true
    → map.contains_key s.sessions sid ≡ true) → SameSessions (committed overlay s) s
commit_keeps_sessions overlay s h k = sessions_made (map.entries overlay) s k ∙ go (map.contains_key s.sessions k) refl
  where
    none_makes : map.contains_key s.sessions k ≡ false → (c : Cell) (l : OverlayEntry)
        → map.get overlay c ≡ Some l → not (makes k c l) ≡ true
    none_makes absent c l is = by_test (makes k c l) refl
      where
        by_test : (b : Bool) → makes k c l ≡ b → not b ≡ true
        by_test true e = absurd (true≢false (sym (h k c l is e) ∙ absent))
        by_test false e = refl

    go : (b : Bool) → map.contains_key s.sessions k ≡ b
        → (list_any (λ e. makes k e.0 e.1) (map.entries overlay) || map.contains_key s.sessions k)
        ≡ map.contains_key s.sessions k
    go true e = or_last (list_any (λ e. makes k e.0 e.1) (map.entries overlay)) _ e ∙ sym e
    go false e =
        ap (λ b. b || map.contains_key s.sessions k) (any_of_none (λ e. makes k e.0 e.1) (map.entries overlay)
        (all_tested cell_total cell_exact (λ e. not (makes k e.0 e.1)) overlay (none_makes e)))

pub ruleset kept_sessions = (change_keeps_sessions, notes_keep_sessions)

pub ruleset changed_sessions = (session_stays, change_keeps_sessions)
