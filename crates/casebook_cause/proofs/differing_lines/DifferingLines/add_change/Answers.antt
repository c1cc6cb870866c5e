use Rattle.std.proofs.Common.{◌≡◌, ◌∙◌, subst, true}
use Rattle.retro_tree.specs.declared.cell.Cell.{Cell}
use Rattle.retro_tree.proofs.Results.{on_ok}
use Rattle.casebook_cause.specs.declared.place.SearchPlace.TheVariants as places
use Rattle.casebook_cause.specs.inner.Places.{has_line}
use Rattle.casebook_cause.proofs.PlaceEntries.{at_all_places}
use Rattle.casebook_cause.proofs.differing_lines.DifferingLines.add_change.Goals as goal

pub returns-clause-added : goal.returns-clause-added
returns-clause-added c =
    on_ok c.add.result _ _ (λ has. at_all_places c.args.number c.args.change.now c.add_child.new.self.lines.keys
    c.add.new.self.lines.keys c.in_ok-add_child.ensures.added c.add.ensures.kept
    (subst (λ (d : Cell). has_line c.args.number (places.Cell d) c.add.new.self.lines.keys ≡ true)
    (c.in_ok-to_cell.ensures ∙ c.cell.ensures) has)) c.add.ensures.added
