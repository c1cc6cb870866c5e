use Rattle.std.proofs.Common.{Ok, ap, subst, ◌≡◌, ◌++◌, ◌∙◌}
use Rattle.casebook_text.specs.Lists.{lines_of_list}
use Rattle.casebook_repairs.specs.Repairs.{cancelled}
use Rattle.casebook_repairs.specs.Stops.{StopsNumbers}
use Rattle.casebook_repairs.proofs.repairs.edits_of.Goals as goal

pub returns-clause-ok : goal.returns-clause-ok
returns-clause-ok c = record {
  numbers = c.in_ok-numbers.numbers.items;
  are_numbers = subst (λ lines. lines_of_list lines c.args.list.now ≡ Ok c.in_ok-numbers.numbers.items)
      (c.as_slice.ensures.value ∙ c.in_ok-known.ensures) c.in_ok-numbers.ensures.ok;
  are_edits = c.in_ok-append.ensures.items
      ∙ ap (λ front. front ++ c.args.replacements.now.items) (c.in_ok-edits.ensures ∙ ap cancelled c.as_slice-2.ensures.value);
}
