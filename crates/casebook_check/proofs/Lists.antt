-- Values that are lists, or aren't.
use Rattle.std.proofs.Common.{◌≡◌, List, map, Option, Some, None, Result, Ok, Err, option_map, refl, sym, ap, ◌∙◌}
use Rattle.std.specs.Prelude.{IfSome, ok_or}
use Rattle.std.specs.Borrow.{Bor}
use Rattle.std.specs.Result.{result_err}
use Rattle.json.specs.declared.value.Value.{Value}
use Rattle.serde_json.specs.Data.{Data}
use Rattle.serde_json.specs.Find.{as_array, get}
use Rattle.serde_json.specs.View.{items_of}
use Rattle.retro_value.specs.Borrowed.{value_data}
use Rattle.retro_json.specs.declared.fault.Part.{Part}
use Rattle.retro_json.specs.declared.fault.Part.TheVariants.{Lines, Sessions, Tree}
use Rattle.retro_json.specs.declared.fault.Refusal.{Refusal}
use Rattle.retro_json.specs.declared.fault.Refusal.TheVariants.{WrongShape}
use Rattle.retro_json.specs.SessionsPart.{sessions_of}
use Rattle.retro_json.specs.Shape.{cells, item_list}
use Rattle.retro_json.specs.Rows.{tree_of_rows}
use Rattle.retro_json.specs.Steps.{◌>>=◌}
use Rattle.retro_json.specs.TreePart.{row_of, tree_of}
use Rattle.retro_json.specs.Worst.{every}
use Rattle.retro_tree.specs.Path.{PathValue}
use Rattle.retro_tree.specs.declared.entry.Entry.{Entry}
use Rattle.retro_log.specs.LinesPart.{lines_of}
use Rattle.retro_log.specs.LogLinesPart.{log_lines_of}
use Rattle.retro_json.proofs.InSteps.{tree_in_steps}
use Rattle.retro_json.proofs.Json.{item_list-items_of}
use Rattle.casebook_check.specs.Keys.{key_name, version_key}
use Rattle.casebook_check.specs.Place.{AreLinesRefused, HasItems, IsValueRefused, version_read}
use Rattle.casebook_check.specs.declared.key.Key.{Key}
use Rattle.casebook_check.specs.declared.kind.Kind.{Kind}
use Rattle.casebook_check.specs.declared.kind.Kind.TheVariants as kinds

pub refusal_is : {A : Type 0} (r : Result A Refusal) (e : Refusal) → result_err r ≡ Some e → r ≡ Err e
refusal_is (Ok x) e h = absurd (cc)
refusal_is (Err f) e h = let same : f ≡ e = cc in ap Err same

-- ---- a value that isn't a list is refused as a whole

pub no_tree : (d : Data) (e : Refusal) → cells Tree d ≡ Err e → tree_of d ≡ Err e
unfolding tree_of
no_tree d e h = rw h refl

pub no_sessions : (d : Data) (e : Refusal) → cells Sessions d ≡ Err e → sessions_of d ≡ Err e
unfolding sessions_of
no_sessions d e h = rw h refl

pub no_lines : (kind : Kind) (d : Data) (e : Refusal) → cells Lines d ≡ Err e → AreLinesRefused kind d e
unfolding lines_of log_lines_of
no_lines kinds.Script d e h = rw h refl
no_lines kinds.Log d e h = rw h refl

-- ---- the items of a list

pub is_list : (part : Part) (d : Data) (items : List Data) → Some (items_of items) ≡ as_array d → cells part d ≡ Ok items
is_list part d items is =
    ap (λ o. ok_or (option_map item_list o) (WrongShape part)) (sym is) ∙ ap Ok (item_list-items_of items)

pub items_there : {A : Type 0} (d v : Data) (key : Key) (o : Option (Bor (List (Value A))))
    → get (key_name key) d ≡ Some v → option_map (λ items. items_of (map value_data items.now)) o ≡ as_array v
    → IfSome o (λ items. HasItems d key (map value_data items.now))
items_there d v key None there h = tt
items_there d v key (Some items) there h = (v, there, is_list Lines v (map value_data items.now) h)

-- ---- versions

pub version_refused : (kind : Kind) (d : Data) (e : Refusal) → version_read kind d ≡ Err e
    → IsValueRefused kind (version_key kind) d e
version_refused kinds.Script d e h = h
version_refused kinds.Log d e h = h

-- ---- trees

-- a tree is refused as its rows are
pub rows_refused : (d : Data) (items : List Data) (rows : List (PathValue × Entry)) (e : Refusal)
    → cells Tree d ≡ Ok items → every row_of items ≡ Ok rows → tree_of_rows rows ≡ Err e → tree_of d ≡ Err e
rows_refused d items rows e listed read refused =
    tree_in_steps d ∙ ap (λ r. r >>= every row_of >>= tree_of_rows) listed ∙ ap (λ r. r >>= tree_of_rows) read ∙ refused
