use Rattle.std.proofs.Common.{length}
use Rattle.retro_json.specs.ReadsAs.{seen}
use Rattle.retro_json.proofs.Rows.{IsReadBetween}
use Rattle.retro_log.proofs.reading.lines.read_items.Given as goal

abbrev pub invariant-items : goal.invariant-items
invariant-items g l =
    IsReadBetween g.L.Line.line_of l.depth l.initial.reader l.reader (seen (λ v. v.items) l.lines)

abbrev pub decreases-items : goal.decreases-items
decreases-items g l = length l.reader
