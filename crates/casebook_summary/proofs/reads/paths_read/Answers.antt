use Rattle.std.proofs.Common.{rules}
use Rattle.std.proofs.lemmas.List.{drop_more}
use Rattle.casebook_summary.proofs.reads.paths_read.Goals as goal

pub loop-note-preserved : goal.loop-note-preserved
loop-note-preserved c = search (rules, drop_more)
