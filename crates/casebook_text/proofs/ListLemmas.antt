-- The items of a list, one after another.
use Rattle.std.proofs.Common.{◌≡◌, ℕ, ◌+◌, ◌<◌, ◌≤◌, List, [], ◌∷◌, ◌++◌, length, map, drop, get_or}
use Rattle.std.proofs.Common.{refl, sym, ap, ◌∙◌}
use Rattle.std.proofs.Common.{append_assoc, Bool, true, false, Option, Some, Result, Ok, Err}
use Rattle.std.specs.Prelude.{if◌then◌else◌}
use Rattle.std.specs.List.{list_any}
use Rattle.std.proofs.lemmas.List.{append-nil, drop_more}
use Rattle.std.proofs.Math.ListN.{drop_of_length-le}
use denote.Ref.{Bor}
use Rattle.casebook_text.specs.Item.{Line, is_in, item_in}
use Rattle.casebook_text.specs.Lists.{checked, checked_item, checked_items, no_lines, then_items}
use Rattle.casebook_text.specs.declared.item.Item.{Item}
use Rattle.casebook_text.specs.declared.list_fault.ItemFault.{ItemFault}
use Rattle.casebook_text.specs.declared.list_fault.ListFault.{ListFault}
use Rattle.casebook_text.specs.declared.list_fault.ListFault.TheVariants.{BadItem}

-- ---- one item

pub accepted : (lines : List Line) (text : List ℕ) (item : Item) → Some item ≡ item_in text
    → list_any (is_in item.lines) lines ≡ true → Ok item ≡ checked_item lines text
unfolding checked_item
accepted lines text item is has =
    sym (ap (λ (b : Bool). if b then Ok item else Err (no_lines item.lines)) has)
    ∙ ap (λ (o : Option Item). checked lines o) is

pub not_accepted : (lines : List Line) (text : List ℕ) (item : Item) (fault : ItemFault) → Some item ≡ item_in text
    → list_any (is_in item.lines) lines ≡ false → fault ≡ no_lines item.lines → Err fault ≡ checked_item lines text
unfolding checked_item
not_accepted lines text item fault is none why =
    ap (λ (f : ItemFault). Err f) why
    ∙ sym (ap (λ (b : Bool). if b then Ok item else Err (no_lines item.lines)) none)
    ∙ ap (λ (o : Option Item). checked lines o) is

-- ---- the items that are read

abbrev pub with_front : List Item → Result (List Item) ListFault → Result (List Item) ListFault
with_front front (Ok items) = Ok (front ++ items)
with_front front (Err fault) = Err fault

abbrev pub texts_of : List (Bor (List ℕ)) → List (List ℕ)
texts_of = map (λ text. text.now)

-- the items before an index are read
abbrev pub IsReadTo : List Line → List Item → List (Bor (List ℕ)) → ℕ → Type 0
IsReadTo lines out texts i =
    with_front out (checked_items lines (i + 1) (texts_of (drop i texts))) ≡ checked_items lines 1 (texts_of texts)

regroup : (place : ℕ) (out : List Item) (item : Item) (rest : Result (List Item) ListFault)
    → with_front out (then_items place (Ok item) rest) ≡ with_front (out ++ item ∷ []) rest
regroup place out item (Ok items) = ap (λ (xs : List Item). Ok xs) (sym (append_assoc out (item ∷ []) items))
regroup place out item (Err fault) = refl

one_read : (lines : List Line) (place : ℕ) (out : List Item) (text : List ℕ) (texts : List (List ℕ)) (item : Item)
    → checked_item lines text ≡ Ok item
    → with_front out (checked_items lines place (text ∷ texts)) ≡ with_front (out ++ item ∷ []) (checked_items lines (place + 1) texts)
unfolding checked_items
one_read lines place out text texts item e =
    ap (λ r. with_front out (then_items place r (checked_items lines (place + 1) texts))) e
    ∙ regroup place out item (checked_items lines (place + 1) texts)

one_refused : (lines : List Line) (place : ℕ) (out : List Item) (text : List ℕ) (texts : List (List ℕ)) (fault : ItemFault)
    → checked_item lines text ≡ Err fault
    → with_front out (checked_items lines place (text ∷ texts)) ≡ Err (BadItem place fault)
unfolding checked_items
one_refused lines place out text texts fault e =
    ap (λ r. with_front out (then_items place r (checked_items lines (place + 1) texts))) e

none_left : (lines : List Line) (place : ℕ) (out : List Item) → with_front out (checked_items lines place []) ≡ Ok out
unfolding checked_items
none_left lines place out = ap (λ (xs : List Item). Ok xs) (append-nil out)

at_text : (texts : List (Bor (List ℕ))) (i : ℕ) (d : Bor (List ℕ)) → i < length texts
    → texts_of (drop i texts) ≡ (get_or texts i d).now ∷ texts_of (drop (i + 1) texts)
at_text texts i d lt = ap texts_of (drop_more texts i d lt)

pub read_on : (lines : List Line) (out new : List Item) (texts : List (Bor (List ℕ))) (i : ℕ) (d : Bor (List ℕ)) (item : Item)
    → i < length texts → Ok item ≡ checked_item lines (get_or texts i d).now → new ≡ out ++ item ∷ []
    → IsReadTo lines out texts i → IsReadTo lines new texts (i + 1)
read_on lines out new texts i d item lt e push so_far =
    ap (λ xs. with_front xs (checked_items lines (i + 1 + 1) (texts_of (drop (i + 1) texts)))) push
    ∙ sym (ap (λ ts. with_front out (checked_items lines (i + 1) ts)) (at_text texts i d lt)
    ∙ one_read lines (i + 1) out (get_or texts i d).now (texts_of (drop (i + 1) texts)) item (sym e))
    ∙ so_far

pub refused_at : (lines : List Line) (out : List Item) (texts : List (Bor (List ℕ))) (i : ℕ) (d : Bor (List ℕ)) (fault : ItemFault)
    → i < length texts → Err fault ≡ checked_item lines (get_or texts i d).now
    → IsReadTo lines out texts i → checked_items lines 1 (texts_of texts) ≡ Err (BadItem (i + 1) fault)
refused_at lines out texts i d fault lt e so_far =
    sym so_far
    ∙ ap (λ ts. with_front out (checked_items lines (i + 1) ts)) (at_text texts i d lt)
    ∙ one_refused lines (i + 1) out (get_or texts i d).now (texts_of (drop (i + 1) texts)) fault (sym e)

pub all_read : (lines : List Line) (out : List Item) (texts : List (Bor (List ℕ))) (i : ℕ) → length texts ≤ i
    → IsReadTo lines out texts i → checked_items lines 1 (texts_of texts) ≡ Ok out
all_read lines out texts i le so_far =
    sym so_far
    ∙ ap (λ ts. with_front out (checked_items lines (i + 1) (texts_of ts))) (drop_of_length-le texts le)
    ∙ none_left lines (i + 1) out
