use Rattle.std.proofs.Common.{◌≡◌, ◌++◌, ◌∷◌, false, filter, map}
use Rattle.serde_json.specs.View.{items_of}
use Rattle.serde_json.specs.Written.{items_text}
use Rattle.casebook_snapshot_json.specs.Documents.{attributes_row, is_known}
use Rattle.casebook_snapshot_json.proofs.lists.push_attributes.Given as goal

abbrev pub invariant-loop-path : goal.invariant-loop-path
invariant-loop-path l =
    l.text.items ++ items_text l.later (items_of (map attributes_row (filter (is_known l.at) l.path-iterator)))
    ≡ l.fn.text.items ++ (91 ∷ items_text false (items_of (map attributes_row (filter (is_known l.at) l.rows.entries))))
