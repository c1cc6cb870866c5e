use Rattle.std.proofs.Common.{◌≡◌, map, string_bytes, take}
use Rattle.casebook_usage.specs.Obstacles.{sample}
use Rattle.casebook_usage.specs.Shape.{shape_view}
use Rattle.casebook_usage.proofs.uses.samples.Given as goal

abbrev pub invariant-loop-word : goal.invariant-loop-word
invariant-loop-word l =
    map string_bytes l.fields.items ≡ map sample (map shape_view (take l.word-index l.words))
