use Rattle.std.proofs.Common.{length}
use Rattle.retro_json.specs.ReadsAs.{seen}
use Rattle.retro_json.specs.TreePart.{row_of}
use Rattle.retro_json.proofs.Rows.{IsReadBetween}
use Rattle.retro_json.proofs.reading.tree.read_rows.Given as goal

abbrev pub invariant-items : goal.invariant-items
invariant-items l = IsReadBetween row_of l.depth l.initial.reader l.reader (seen (λ v. v.items) l.rows)

abbrev pub decreases-items : goal.decreases-items
decreases-items l = length l.reader
