-- Notes and states: the effect of notes on each cell, and of two traces in turn.
use Rattle.std.proofs.Common.{◌≡◌, ◌≢◌, ◌↔◌, Bool, true, false, ◌||◌, List, [], ◌∷◌, ◌++◌, refl, sym, ap, ◌∙◌}
use Rattle.std.specs.Bool.{if◌then◌else◌}
use Rattle.std.specs.Ordering.{is_eq}
use Rattle.std.specs.Cmp.{tied_itself}
use Rattle.std.proofs.lemmas.Bool.{true≢false}
use Rattle.retro_tree.specs.CellOrder.{cell_total, cell_exact}
use Rattle.retro_tree.specs.Cell.{value}
use Rattle.retro_tree.specs.Ask.{supports}
use Rattle.retro_tree.specs.Change.{apply, cell_of, written}
use Rattle.retro_tree.specs.Lawful.{IsLawful}
use Rattle.retro_tree.specs.Notes.{after, Holds, AllAllowed, cell_eq, touches, changes, effects}
use Rattle.retro_tree.specs.declared.cell.Cell.{Cell}
use Rattle.retro_tree.specs.declared.value.Value.{Value}
use Rattle.retro_tree.specs.declared.change.Change.{Change}
use Rattle.retro_tree.specs.declared.note.Note.{Note}
use Rattle.retro_tree.specs.declared.note.Note.TheVariants.{Asked, Made}
use Rattle.retro_tree.specs.declared.state.State.{State}
use Rattle.retro_tree.proofs.Small.{tied, or_first, or_last}
use Rattle.retro_tree.proofs.CellLaw.{value_changed, value_kept}
use Rattle.retro_tree.proofs.Agree.{agreeing}

-- ---- cells
pub cell_itself : (c : Cell) → cell_eq c c ≡ true
cell_itself c = ap is_eq (tied_itself cell_total c)

pub same_cells : (a b : Cell) → cell_eq a b ≡ true → a ≡ b
same_cells a b e = cell_exact a b (tied _ e)

pub cells_apart : (a b : Cell) → cell_eq a b ≡ false → b ≢ a
cells_apart a b e same = true≢false (sym (ap (cell_eq a) same ∙ cell_itself a) ∙ e)

or_assoc : (a b c : Bool) → (a || (b || c)) ≡ ((a || b) || c)
or_assoc true b c = refl
or_assoc false b c = refl

-- the value of a cell after a change, by its previous value
pub value_applied : (change : Change) (c : Cell) (s : State) → value c (apply change s)
    ≡ if cell_eq (cell_of change) c then written change (value c s) else value c s
value_applied change c s = go (cell_eq (cell_of change) c) refl
  where
    go : (b : Bool) → cell_eq (cell_of change) c ≡ b → value c (apply change s) ≡ if b then written change
        (value c s) else value c s
    go true e =
        let is = same_cells (cell_of change) c e in
        ap (λ k. value k (apply change s)) (sym is) ∙ value_changed change s ∙ ap (λ k. written change (value k s)) is
    go false e = value_kept change c s (cells_apart (cell_of change) c e)

-- ---- one cell
pub value_after : (notes : List Note) (c : Cell) (s : State) → value c (after notes s) ≡ effects notes c (value c s)
value_after [] c s = refl
value_after (Asked a r ∷ notes) c s = value_after notes c s
value_after (Made change ∷ notes) c s = value_after notes c (apply change s)
    ∙ ap (effects notes c) (value_applied change c s)

pub effects_unchanged : (notes : List Note) (c : Cell) (v : Value) → changes notes c ≡ false → effects notes c v ≡ v
effects_unchanged [] c v h = refl
effects_unchanged (Asked a r ∷ notes) c v h = effects_unchanged notes c v h
effects_unchanged (Made change ∷ notes) c v h = go (cell_eq (cell_of change) c) h (effects_unchanged notes c v)
  where
    go : (b : Bool) → (b || changes notes c) ≡ false → (changes notes c ≡ false → effects notes c v ≡ v)
        → effects notes c (if b then written change v else v) ≡ v
    go true e rest = absurd (true≢false e)
    go false e rest = rest e

pub value_unchanged : (notes : List Note) (c : Cell) (s : State) → changes notes c ≡ false
    → value c (after notes s) ≡ value c s
value_unchanged notes c s h = value_after notes c s ∙ effects_unchanged notes c (value c s) h

pub touched_where_changed : (notes : List Note) (c : Cell) → changes notes c ≡ true → touches notes c ≡ true
touched_where_changed [] c h = h
touched_where_changed (Asked a r ∷ notes) c h =
    or_last (supports a c) (touches notes c) (touched_where_changed notes c h)
touched_where_changed (Made change ∷ notes) c h = go (cell_eq (cell_of change) c) h (touched_where_changed notes c)
  where
    go : (b : Bool) → (b || changes notes c) ≡ true → (changes notes c ≡ true → touches notes c ≡ true)
        → (b || touches notes c) ≡ true
    go true e rest = refl
    go false e rest = rest e

-- ---- states that agree
pub holds_where_agreed : (notes : List Note) (s t : State)
    → ((c : Cell) → touches notes c ≡ true → value c s ≡ value c t) → Holds notes s → Holds notes t
holds_where_agreed [] s t h k = tt
holds_where_agreed (Asked a r ∷ notes) s t h k = (
  sym (agreeing a s t (λ c e. h c (or_first (supports a c) (touches notes c) e))) ∙ k.0,
  holds_where_agreed notes s t (λ c e. h c (or_last (supports a c) (touches notes c) e)) k.1,
)
holds_where_agreed (Made change ∷ notes) s t h k =
    holds_where_agreed notes (apply change s) (apply change t) (λ c e.
    value_applied change c s
    ∙ ap (λ v. if cell_eq (cell_of change) c then written change v else v)
    (h c (or_last (cell_eq (cell_of change) c) (touches notes c) e))
    ∙ sym (value_applied change c t)) k

-- ---- lawful states
pub lawful_after : (notes : List Note) (s : State) → IsLawful s → AllAllowed notes s → IsLawful (after notes s)
lawful_after [] s l h = l
lawful_after (Asked a r ∷ notes) s l h = lawful_after notes s l h
lawful_after (Made change ∷ notes) s l h = lawful_after notes (apply change s) h.0.after h.1

-- ---- notes after notes
pub after_append : (xs ys : List Note) (s : State) → after (xs ++ ys) s ≡ after ys (after xs s)
after_append [] ys s = refl
after_append (Asked a r ∷ xs) ys s = after_append xs ys s
after_append (Made change ∷ xs) ys s = after_append xs ys (apply change s)

pub holds_append : (xs ys : List Note) (s : State) → Holds (xs ++ ys) s ↔ (Holds xs s × Holds ys (after xs s))
holds_append [] ys s = (λ h. (tt, h), λ h. h.1)
holds_append (Asked a r ∷ xs) ys s =
    let rest = holds_append xs ys s in
    (λ h. ((h.0, (rest.0 h.1).0), (rest.0 h.1).1), λ h. (h.0.0, rest.1 (h.0.1, h.1)))
holds_append (Made change ∷ xs) ys s = holds_append xs ys (apply change s)

pub allowed_append : (xs ys : List Note) (s : State)
    → AllAllowed (xs ++ ys) s ↔ (AllAllowed xs s × AllAllowed ys (after xs s))
allowed_append [] ys s = (λ h. (tt, h), λ h. h.1)
allowed_append (Asked a r ∷ xs) ys s = allowed_append xs ys s
allowed_append (Made change ∷ xs) ys s =
    let rest = allowed_append xs ys (apply change s) in
    (λ h. ((h.0, (rest.0 h.1).0), (rest.0 h.1).1), λ h. (h.0.0, rest.1 (h.0.1, h.1)))

pub effects_append : (xs ys : List Note) (c : Cell) (v : Value) → effects (xs ++ ys) c v ≡ effects ys c (effects xs c v)
effects_append [] ys c v = refl
effects_append (Asked a r ∷ xs) ys c v = effects_append xs ys c v
effects_append (Made change ∷ xs) ys c v = effects_append xs ys c _

pub touches_append : (xs ys : List Note) (c : Cell) → touches (xs ++ ys) c ≡ (touches xs c || touches ys c)
touches_append [] ys c = refl
touches_append (Asked a r ∷ xs) ys c = ap (λ b. supports a c || b) (touches_append xs ys c)
    ∙ or_assoc (supports a c) (touches xs c) (touches ys c)
touches_append (Made change ∷ xs) ys c = ap (λ b. cell_eq (cell_of change) c || b) (touches_append xs ys c)
    ∙ or_assoc (cell_eq (cell_of change) c) (touches xs c) (touches ys c)

pub changes_append : (xs ys : List Note) (c : Cell) → changes (xs ++ ys) c ≡ (changes xs c || changes ys c)
changes_append [] ys c = refl
changes_append (Asked a r ∷ xs) ys c = changes_append xs ys c
changes_append (Made change ∷ xs) ys c = ap (λ b. cell_eq (cell_of change) c || b) (changes_append xs ys c)
    ∙ or_assoc (cell_eq (cell_of change) c) (changes xs c) (changes ys c)

pub ruleset one_cell = (value_after, effects_unchanged, value_unchanged, touched_where_changed)

pub ruleset by_cells = (holds_where_agreed, touched_where_changed)

pub ruleset in_turn = (after_append, holds_append, allowed_append, effects_append, touches_append, changes_append)
