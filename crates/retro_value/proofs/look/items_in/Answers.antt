use Rattle.std.proofs.Common.{◌≡◌, ◌∙◌, Some, ap, map, sym}
use Rattle.json.proofs.Trees.{view-Array}
use Rattle.serde_json.specs.Find.{as_array}
use Rattle.serde_json.specs.View.{items_of}
use Rattle.retro_value.specs.Borrowed.{data_of, value_data}
use Rattle.retro_value.proofs.Borrowed.{items_are}
use Rattle.retro_value.proofs.look.items_in.Goals as goal

pub returns-in-Array : goal.returns-in-Array
returns-in-Array c =
    let items = c.in-Array.items in
    let is : as_array (value_data c.args.value.now) ≡ Some (items_of (map value_data items.items)) =
    ap (λ v. as_array (value_data v)) c.in-Array.is ∙ ap (λ j. as_array (data_of j)) (view-Array items)
    ∙ ap Some (items_are items.items) in
    ap (λ vs. Some (items_of (map value_data vs))) c.as_slice.ensures.value ∙ sym is
