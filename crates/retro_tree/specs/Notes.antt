-- Notes: what a trace of reads and writes means on states.
use Rattle.std.specs.Prelude.{◌≡◌, Bool, true, false, ◌||◌, if◌then◌else◌, List, [], ◌∷◌}
use Rattle.std.specs.Ordering.{eq_by_cmp}
use Rattle.retro_tree.specs.CellOrder.{cell_cmp}
use Rattle.retro_tree.specs.Cell.{value}
use Rattle.retro_tree.specs.Ask.{answer, supports}
use Rattle.retro_tree.specs.Change.{apply, cell_of, written, IsLawfulChange}
use Rattle.retro_tree.specs.declared.cell.Cell.{Cell}
use Rattle.retro_tree.specs.declared.value.Value.{Value}
use Rattle.retro_tree.specs.declared.note.Note.{Note}
use Rattle.retro_tree.specs.declared.note.Note.TheVariants.{Asked, Made}
use Rattle.retro_tree.specs.declared.state.State.{State}

-- the state after the changes of notes
abbrev pub after : List Note → State → State
after [] s = s
after (Asked a r ∷ notes) s = after notes s
after (Made c ∷ notes) s = after notes (apply c s)

-- each noted answer is that of the state reached so far
abbrev pub Holds : List Note → State → Type 0
Holds [] s = Unit {0}
Holds (Asked a r ∷ notes) s = (answer a s ≡ r) × Holds notes s
Holds (Made c ∷ notes) s = Holds notes (apply c s)

-- each change is lawful where it is made
abbrev pub AllAllowed : List Note → State → Type 0
AllAllowed [] s = Unit {0}
AllAllowed (Asked a r ∷ notes) s = AllAllowed notes s
AllAllowed (Made c ∷ notes) s = IsLawfulChange c s × AllAllowed notes (apply c s)

-- whether two cells are equal
abbrev pub cell_eq : Cell → Cell → Bool
cell_eq = eq_by_cmp cell_cmp

-- whether a cell is one of the notes' cells: an answer can depend on it, or a change writes it
abbrev pub touches : List Note → Cell → Bool
touches [] c = false
touches (Asked a r ∷ notes) c = supports a c || touches notes c
touches (Made change ∷ notes) c = cell_eq (cell_of change) c || touches notes c

-- whether the notes change a cell
abbrev pub changes : List Note → Cell → Bool
changes [] c = false
changes (Asked a r ∷ notes) c = changes notes c
changes (Made change ∷ notes) c = cell_eq (cell_of change) c || changes notes c

-- two states agree on the cells of the notes
abbrev pub AgreeOn : List Note → State → State → Type 0
AgreeOn notes s t = (c : Cell) → touches notes c ≡ true → value c s ≡ value c t

-- the value of a cell after the notes, by its value before them
abbrev pub effects : List Note → Cell → Value → Value
effects [] c v = v
effects (Asked a r ∷ notes) c v = effects notes c v
effects (Made change ∷ notes) c v =
    effects notes c (if cell_eq (cell_of change) c then written change v else v)
