-- A loop over cells that adds next uses, and loops over notes and entries that collect cells.
use Rattle.std.proofs.Common.{◌≡◌, ◌∙◌, ◌⊎◌, inl, inr, ℕ, ◌+◌, ◌<◌, Bool, true, false, ◌||◌, List, [], ◌∷◌, ◌++◌}
use Rattle.std.proofs.Common.{drop, get_or, length, refl, sym, ap, subst, arith}
use Rattle.std.specs.BTreeMap.{is_at}
use Rattle.std.specs.FinMap as map
use Rattle.std.proofs.lemmas.List.{drop_more}
use Rattle.std.proofs.lemmas.Bool.{true≢false}
use Rattle.retro_tree.specs.Change.{cell_of}
use Rattle.retro_tree.specs.Notes.{cell_eq, changes}
use Rattle.retro_tree.specs.Overlay.{OverlayMap}
use Rattle.retro_tree.specs.declared.cell.Cell.{Cell}
use Rattle.retro_tree.specs.declared.change.Change.{Change}
use Rattle.retro_tree.specs.declared.note.Note.{Note}
use Rattle.retro_tree.specs.declared.note.Note.TheVariants.{Asked, Made}
use Rattle.retro_tree.proofs.NoteLaws.{cell_itself, same_cells}
use Rattle.retro_tree.proofs.Small.{or_first, or_last}
use Rattle.retro_history.specs.Index.{Line}
use Rattle.retro_difference.specs.NextUses.{AddsUses, AreSorted, HasNext, Use, has_cell, has_use}
use Rattle.retro_difference.specs.NextUses.{use_cmp}
use Rattle.retro_difference.proofs.Entries.{least, next_kept, or_rest, same_use}

-- ---- next uses of cells

module _ (after : ℕ) (lines : List Line) (old new : List Use) (adds : AddsUses after lines old new) where
  -- one more of some cells has its next use
  pub cell_done : (d c : Cell) (cells rest : List Cell) → cells ≡ c ∷ rest → HasNext after lines c new
      → HasNext after lines d old ⊎ (has_cell d cells ≡ true) → HasNext after lines d new ⊎ (has_cell d rest ≡ true)
  cell_done d c cells rest is next (inl h) = inl (next_kept after lines d old new adds h)
  cell_done d c cells rest is next (inr h) = by_test (cell_eq d c) refl
    where
      by_test : (b : Bool) → cell_eq d c ≡ b → HasNext after lines d new ⊎ (has_cell d rest ≡ true)
      by_test true e = inl (subst (λ x. HasNext after lines x new) (sym (same_cells d c e)) next)
      by_test false e = inr (or_rest _ _ e (sym (ap (has_cell d) is) ∙ h))

-- a note that is no change
pub no_change : (d : Cell) (note : Note) (notes rest : List Note) → notes ≡ note ∷ rest
    → ((change : Change) → note ≡ Made change → ⊥) → changes notes d ≡ true → changes rest d ≡ true
no_change d (Asked a r) notes rest is other h = sym (ap (λ ns. changes ns d) is) ∙ h
no_change d (Made change) notes rest is other h = absurd (other change refl)

pub note_at : (notes : List Note) (i : ℕ) (note : Note) → i < length notes → note ≡ get_or notes i note
    → drop i notes ≡ note ∷ drop (i + 1) notes
note_at notes i note lt is = drop_more notes i note lt ∙ ap (λ x. x ∷ drop (i + 1) notes) (sym is)

-- ---- cells that are collected

pub pushed_old : (d : Cell) (cells : List Cell) (c : Cell) → has_cell d cells ≡ true
    → has_cell d (cells ++ c ∷ []) ≡ true
pushed_old d [] c h = absurd (true≢false (sym h))
pushed_old d (x ∷ cells) c h = by_test (cell_eq d x) refl (pushed_old d cells c)
  where
    by_test : (b : Bool) → cell_eq d x ≡ b → (has_cell d cells ≡ true → has_cell d (cells ++ c ∷ []) ≡ true)
        → (cell_eq d x || has_cell d (cells ++ c ∷ [])) ≡ true
    by_test true e rest = or_first (cell_eq d x) _ e
    by_test false e rest = or_last (cell_eq d x) _ (rest (or_rest _ _ e h))

pub pushed_new : (d : Cell) (cells : List Cell) → has_cell d (cells ++ d ∷ []) ≡ true
pushed_new d [] = or_first (cell_eq d d) _ (cell_itself d)
pushed_new d (x ∷ cells) = or_last (cell_eq d x) _ (pushed_new d cells)

-- the cell that one more of some notes changes is collected
pub change_done : (d : Cell) (change : Change) (notes rest : List Note) (cells new : List Cell) (c : Cell)
    → notes ≡ Made change ∷ rest → c ≡ cell_of change → new ≡ cells ++ c ∷ []
    → (has_cell d cells ≡ true) ⊎ (changes notes d ≡ true) → (has_cell d new ≡ true) ⊎ (changes rest d ≡ true)
change_done d change notes rest cells new c is made pushed (inl h) =
    inl (ap (has_cell d) pushed ∙ pushed_old d cells c h)
change_done d change notes rest cells new c is made pushed (inr h) = by_test (cell_eq (cell_of change) d) refl
  where
    by_test : (b : Bool) → cell_eq (cell_of change) d ≡ b → (has_cell d new ≡ true) ⊎ (changes rest d ≡ true)
    by_test true e =
        let same : d ≡ c = sym (made ∙ same_cells (cell_of change) d e) in
        inl (ap (has_cell d) pushed ∙ subst (λ x. has_cell d (cells ++ x ∷ []) ≡ true) same (pushed_new d cells))
    by_test false e = inr (or_rest _ _ e (sym (ap (λ ns. changes ns d) is) ∙ h))

-- the cell of one more entry is collected
pub entry_done : (n : ℕ) (d : Cell) (u : Use) (uses rest : List Use) (cells new : List Cell) (c : Cell)
    → uses ≡ u ∷ rest → c ≡ u.1 → new ≡ cells ++ c ∷ [] → (has_cell d cells ≡ true) ⊎ (has_use n d uses ≡ true)
    → (has_cell d new ≡ true) ⊎ (has_use n d rest ≡ true)
entry_done n d u uses rest cells new c is copied pushed (inl h) =
    inl (ap (has_cell d) pushed ∙ pushed_old d cells c h)
entry_done n d u uses rest cells new c is copied pushed (inr h) = by_test (is_at (use_cmp (n, d)) u) refl
  where
    by_test : (b : Bool) → is_at (use_cmp (n, d)) u ≡ b → (has_cell d new ≡ true) ⊎ (has_use n d rest ≡ true)
    by_test true e =
        let same : d ≡ c = ap (λ (x : Use). x.1) (same_use (n, d) u e) ∙ sym copied in
        inl (ap (has_cell d) pushed ∙ subst (λ x. has_cell d (cells ++ x ∷ []) ≡ true) same (pushed_new d cells))
    by_test false e = inr (or_rest _ _ e (subst (λ (us : List Use). has_use n d us ≡ true) is h))

-- an entry of a cell that has none in the overlay is passed over
pub entry_passed : (overlay : OverlayMap) (n : ℕ) (d : Cell) (u : Use) (uses rest : List Use) (cells : List Cell)
    → uses ≡ u ∷ rest → map.contains_key overlay u.1 ≡ false → map.contains_key overlay d ≡ true
    → (has_cell d cells ≡ true) ⊎ (has_use n d uses ≡ true) → (has_cell d cells ≡ true) ⊎ (has_use n d rest ≡ true)
entry_passed overlay n d u uses rest cells is none key (inl h) = inl h
entry_passed overlay n d u uses rest cells is none key (inr h) = by_test (is_at (use_cmp (n, d)) u) refl
  where
    by_test : (b : Bool) → is_at (use_cmp (n, d)) u ≡ b → (has_cell d cells ≡ true) ⊎ (has_use n d rest ≡ true)
    by_test true e =
        let same : d ≡ u.1 = ap (λ (x : Use). x.1) (same_use (n, d) u e) in
        absurd (true≢false (sym key ∙ ap (map.contains_key overlay) same ∙ none))
    by_test false e = inr (or_rest _ _ e (subst (λ (us : List Use). has_use n d us ≡ true) is h))

-- after an entry at a greater number there are none at a number
pub entries_done : (n : ℕ) (d : Cell) (u : Use) (uses rest : List Use) (cells : List Cell) → uses ≡ u ∷ rest
    → AreSorted uses → n < u.0 → (has_cell d cells ≡ true) ⊎ (has_use n d uses ≡ true) → has_cell d cells ≡ true
entries_done n d u uses rest cells is sorted more (inl h) = h
entries_done n d u uses rest cells is sorted more (inr h) =
    let le = least u rest n d (subst AreSorted is sorted) (subst (λ (us : List Use). has_use n d us ≡ true) is h) in
    absurd (omega (arith, le, more))
