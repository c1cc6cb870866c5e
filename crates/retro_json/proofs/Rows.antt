-- Rows that are read from a text one after another.
use Rattle.std.proofs.Common.{◌≡◌, ℕ, List, [], ◌∷◌, ◌++◌, Option, Some, None, Result, Ok, Err, refl, sym, ap, ◌∙◌}
use Rattle.json.specs.Json.{parse_map}
use Rattle.json.specs.Token.{Token}
use Rattle.serde_json.specs.Data.{Data, Items, no_items, item, array}
use Rattle.serde_json.specs.Find.{as_array}
use Rattle.serde_json.specs.View.{items_of}
use Rattle.retro_value.specs.Left.{items_left, value_left}
use Rattle.retro_value.proofs.Left.{none_before}
use Rattle.retro_json.specs.declared.fault.Part.{Part}
use Rattle.retro_json.specs.declared.fault.Refusal.{Refusal}
use Rattle.retro_json.specs.declared.fault.Refusal.TheVariants.{WrongShape}
use Rattle.retro_json.specs.Steps.{◌>>=◌}
use Rattle.retro_json.specs.Shape.{cells, item_list}
use Rattle.retro_json.specs.Worst.{every, with_item}
use Rattle.retro_json.specs.Rows.{IsReadOf}
use Rattle.retro_json.proofs.Json.{item_list-items_of}
use Rattle.retro_json.proofs.Worst.{every_push}

abbrev pub items_before : List Data → Items → Items
items_before [] rest = rest
items_before (d ∷ ds) rest = item d (items_before ds rest)

items_before-no_items : (ds : List Data) → items_before ds no_items ≡ items_of ds
items_before-no_items [] = refl
items_before-no_items (d ∷ ds) = ap (item d) (items_before-no_items ds)

one_more : (ds : List Data) (d : Data) (rest : Items) → items_before ds (item d rest) ≡ items_before (ds ++ d ∷ []) rest
one_more [] d rest = refl
one_more (e ∷ ds) d rest = ap (item e) (one_more ds d rest)

one_more_left : (ds : List Data) (d : Data) (o : Option (Items × List Token))
    → parse_map (items_before ds) (parse_map (item d) o) ≡ parse_map (items_before (ds ++ d ∷ [])) o
one_more_left ds d None = refl
one_more_left ds d (Some p) = ap (λ rest. Some (rest, p.1)) (one_more ds d p.0)

-- `rows` was read of the items between two places of a text
abbrev pub IsReadBetween : {B : Type 0} → (Data → Result B Refusal) → ℕ → List Token → List Token
    → Result (List B) Refusal → Type 0
IsReadBetween f depth old now rows =
    (done : List Data) × (items_left depth old ≡ parse_map (items_before done) (items_left depth now)) ×
    (rows ≡ every f done)

pub rows_start : {B : Type 0} (f : Data → Result B Refusal) (depth : ℕ) (ts : List Token)
    → IsReadBetween f depth ts ts (Ok [])
unfolding every
rows_start f depth ts = ([], none_before (items_left depth ts), refl)

pub rows_go_on : {B : Type 0} (f : Data → Result B Refusal) (depth : ℕ) (old now next : List Token)
    (rows more : Result (List B) Refusal) (d : Data) (y : Result B Refusal)
    → items_left depth now ≡ parse_map (item d) (items_left depth next) → y ≡ f d → more ≡ with_item rows y
    → IsReadBetween f depth old now rows → IsReadBetween f depth old next more
rows_go_on f depth old now next rows more d y here read added so_far = (
  so_far.0 ++ d ∷ [],
  so_far.1 ∙ ap (parse_map (items_before so_far.0)) here ∙ one_more_left so_far.0 d (items_left depth next),
  added ∙ ap (with_item rows) read ∙ ap (λ r. with_item r (f d)) so_far.2 ∙ sym (every_push f so_far.0 d),
)

pub rows_refused : {B : Type 0} (f : Data → Result B Refusal) (depth : ℕ) (old now : List Token)
    (rows : Result (List B) Refusal)
    → items_left depth now ≡ None → IsReadBetween f depth old now rows → items_left depth old ≡ None
rows_refused f depth old now rows none so_far = so_far.1 ∙ ap (parse_map (items_before so_far.0)) none

pub rows_end : {B : Type 0} (f : Data → Result B Refusal) (depth : ℕ) (old now new : List Token)
    (rows : Result (List B) Refusal)
    → items_left depth now ≡ Some (no_items, new) → IsReadBetween f depth old now rows → IsReadOf f depth old new rows
rows_end f depth old now new rows over so_far = (
  items_of so_far.0,
  so_far.1 ∙ ap (parse_map (items_before so_far.0)) over ∙ ap (λ ds. Some (ds, new)) (items_before-no_items so_far.0),
  so_far.2 ∙ ap (every f) (sym (item_list-items_of so_far.0)),
)

-- ---- a value that may be an array

pub array_rows : {B : Type 0} (f : Data → Result B Refusal) (part : Part) (depth deeper : ℕ) (old now new : List Token)
    (rows : Result (List B) Refusal)
    → value_left depth old ≡ parse_map array (items_left deeper now) → IsReadOf f deeper now new rows
    → (d : Data) × (value_left depth old ≡ Some (d, new)) × (rows ≡ (cells part d >>= every f))
array_rows f part depth deeper old now new rows e read = (array read.0, e ∙ ap (parse_map array) read.1, read.2)

pub no_rows : {B : Type 0} (f : Data → Result B Refusal) (part : Part) (d : Data) → as_array d ≡ None
    → Err (WrongShape part) ≡ (cells part d >>= every f)
no_rows f part d e = rw e refl
