use Rattle.retro_tree.proofs.Results.{on_ok}
use Rattle.casebook_cause.proofs.PlaceEntries.{at_children}
use Rattle.casebook_cause.proofs.differing_lines.DifferingLines.add_child.Goals as goal

pub returns-in_ok-parent-in-Put-clause-added : goal.returns-in_ok-parent-in-Put-clause-added
returns-in_ok-parent-in-Put-clause-added c =
    on_ok c.add.result _ _ (at_children c.args.number c.in_ok-parent-in-Put.field-0 c.in-Put.path c.args.change.now
    c.add.new.self.lines.keys c.in_ok-parent-in-Put.ensures c.in-Put.is) c.add.ensures.added
