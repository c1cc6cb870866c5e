use Rattle.std.proofs.Common.{◌≡◌, ◌++◌, ◌∷◌, drop, false, map}
use Rattle.serde_json.specs.View.{items_of}
use Rattle.serde_json.specs.Written.{items_text}
use Rattle.casebook_snapshot_json.specs.Documents.{skipped_data}
use Rattle.casebook_snapshot_json.proofs.lists.push_skipped.Given as goal

abbrev pub invariant-loop-one : goal.invariant-loop-one
invariant-loop-one l =
    l.text.items ++ items_text l.later (items_of (map skipped_data (drop l.one-index l.skipped)))
    ≡ l.fn.text.items ++ (91 ∷ items_text false (items_of (map skipped_data l.skipped)))
