use Rattle.casebook_cause.proofs.PlaceEntries.{one_kept}
use Rattle.casebook_cause.proofs.differing_lines.DifferingLines.add.Goals as goal

pub returns-clause-kept : goal.returns-clause-kept
returns-clause-kept c =
    one_kept c.args.self.now.lines.keys c.insert.new.self.keys (c.args.place, c.args.number)
    c.in_ok-insert.ensures.updates.0
