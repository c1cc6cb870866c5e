use Rattle.std.proofs.Common.{◌≡◌, ◌++◌, ◌∷◌, drop, map, false}
use Rattle.std.specs.List.{list_all}
use Rattle.serde_json.specs.View.{items_of}
use Rattle.serde_json.specs.Written.{items_text}
use Rattle.retro_log.specs.LogText.{line_data}
use Rattle.retro_json.specs.Typed.{line_typed}
use Rattle.retro_json.proofs.ReadBack.{AreReadBack}
use Rattle.retro_log.proofs.writing.line.push_lines.Given as goal

abbrev pub invariant-loop-number : goal.invariant-loop-number
invariant-loop-number l =
    (l.text.items ++ items_text l.later (items_of (map line_data (drop l.number-index l.lines)))
    ≡ l.fn.text.items ++ (91 ∷ items_text false (items_of (map line_data l.lines)))) ×
    (AreReadBack (map line_data (drop l.number-index l.lines)) → AreReadBack (map line_data l.lines)) ×
    (list_all line_typed l.lines ≡ list_all line_typed (drop l.number-index l.lines))
