use Rattle.std.proofs.Common.{length, map}
use Rattle.retro_json.specs.ReadsAs.{seen}
use Rattle.retro_json.specs.SessionsPart.{row_of}
use Rattle.retro_json.specs.Views.{row_view}
use Rattle.retro_json.proofs.Rows.{IsReadBetween}
use Rattle.retro_json.proofs.reading.sessions.read_rows.Given as goal

abbrev pub invariant-items : goal.invariant-items
invariant-items l = IsReadBetween row_of l.depth l.initial.reader l.reader (seen (λ v. map row_view v.items) l.rows)

abbrev pub decreases-items : goal.decreases-items
decreases-items l = length l.reader
