-- Lists of lines: items between commas, read from the left. Each adds lines to the set so far, or
-- takes lines away from it.
use Rattle.std.specs.Prelude.{◌≡◌, ℕ, ◌+◌, ◌==◌, Bool, false, List, [], ◌∷◌, length, map, filter}
use Rattle.std.specs.Prelude.{fold}
use Rattle.std.specs.Prelude.{if◌then◌else◌, Option, Some, None, Result, Ok, Err}
use Rattle.std.specs.List.{list_any, slice_split}
use Rattle.casebook_text.specs.Item.{Line, is_in, item_in}
use Rattle.casebook_text.specs.declared.item.Item.{Item}
use Rattle.casebook_text.specs.declared.item.Lines.{Lines}
use Rattle.casebook_text.specs.declared.item.Lines.TheVariants.{One, Range, Session}
use Rattle.casebook_text.specs.declared.list_fault.ItemFault.{ItemFault}
use Rattle.casebook_text.specs.declared.list_fault.ItemFault.TheVariants.{NotAnItem, NoLine}
use Rattle.casebook_text.specs.declared.list_fault.ItemFault.TheVariants.{EmptyRange, EmptySession}
use Rattle.casebook_text.specs.declared.list_fault.ListFault.{ListFault}
use Rattle.casebook_text.specs.declared.list_fault.ListFault.TheVariants.{BadItem, NoMem}

abbrev pub comma : ℕ
comma = 44

-- the texts of a list's items; an empty list has none
unfoldable pub texts_in : List ℕ → List (List ℕ)
texts_in text = if length text == 0 then [] else slice_split (λ b. b == comma) text

-- ---- the items

-- why an item is refused if no line is one of its lines
abbrev pub no_lines : Lines → ItemFault
no_lines (One n) = NoLine n
no_lines (Range first last) = EmptyRange first last
no_lines (Session s) = EmptySession s

-- an item of a list over these lines, or why it is refused
abbrev pub checked : List Line → Option Item → Result Item ItemFault
checked lines None = Err NotAnItem
checked lines (Some item) =
    if list_any (is_in item.lines) lines then Ok item else Err (no_lines item.lines)

unfoldable pub checked_item : List Line → List ℕ → Result Item ItemFault
checked_item lines text = checked lines (item_in text)

-- an item and those after it, or the first fault, with the item's place
abbrev pub then_items : ℕ → Result Item ItemFault → Result (List Item) ListFault
    → Result (List Item) ListFault
then_items place (Err fault) rest = Err (BadItem place fault)
then_items place (Ok item) (Err fault) = Err fault
then_items place (Ok item) (Ok items) = Ok (item ∷ items)

-- the items of a list, of which the first has this place
unfoldable pub checked_items : List Line → ℕ → List (List ℕ) → Result (List Item) ListFault
checked_items lines place [] = Ok []
checked_items lines place (text ∷ texts) =
    then_items place (checked_item lines text) (checked_items lines (place + 1) texts)

-- ---- the set

-- whether a line is in the set after an item
abbrev pub after_item : Line → Bool → Item → Bool
after_item line before item = if is_in item.lines line then item.adds else before

-- whether a line is in the set after all items, of which the first finds no line in it
unfoldable pub is_chosen : List Item → Line → Bool
is_chosen items line = fold (after_item line) false items

-- the numbers of the lines in the set
abbrev pub chosen : List Line → List Item → List ℕ
chosen lines items = map (λ line. line.0) (filter (is_chosen items) lines)

abbrev pub chosen_by : List Line → Result (List Item) ListFault → Result (List ℕ) ListFault
chosen_by lines (Ok items) = Ok (chosen lines items)
chosen_by lines (Err fault) = Err fault

-- what a list means: the numbers of its lines, or the first fault
abbrev pub lines_of_list : List Line → List ℕ → Result (List ℕ) ListFault
lines_of_list lines text = chosen_by lines (checked_items lines 1 (texts_in text))

-- ---- results

-- the result is as it has to be, unless memory ran out
abbrev pub IsUnlessNoMem : {X Y : Type 0} → (X → Y) → Result X ListFault → Result Y ListFault
    → Type 0
IsUnlessNoMem view (Ok x) wanted = wanted ≡ Ok (view x)
IsUnlessNoMem view (Err NoMem) wanted = Unit {0}
IsUnlessNoMem view (Err (BadItem place fault)) wanted = wanted ≡ Err (BadItem place fault)
