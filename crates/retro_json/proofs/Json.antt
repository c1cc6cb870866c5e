-- Arrays of JSON values.
use Rattle.std.proofs.Common.{◌≡◌, List, [], ◌∷◌, refl, ap}
use Rattle.serde_json.specs.Data.{Data}
use Rattle.serde_json.specs.View.{items_of}
use Rattle.retro_json.specs.Shape.{item_list}

-- the items of the array of a list are the list
pub item_list-items_of : (ds : List Data) → item_list (items_of ds) ≡ ds
item_list-items_of [] = refl
item_list-items_of (d ∷ ds) = ap (λ (es : List Data). d ∷ es) (item_list-items_of ds)

-- the same, under a name that an attribute can have
pub items_listed : (ds : List Data) → item_list (items_of ds) ≡ ds
items_listed ds = item_list-items_of ds
