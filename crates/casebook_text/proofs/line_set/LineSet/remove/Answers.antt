use Rattle.casebook_text.proofs.LineSetLemmas.{both_less, others_stay}
use Rattle.casebook_text.proofs.line_set.LineSet.remove.Goals as goal

pub returns-clause-both : goal.returns-clause-both
returns-clause-both c =
    both_less c.args.self.now (record { by_number = c.remove.new.self; by_session = c.remove-2.new.self }) c.args.line
    c.requires c.remove.ensures.updates.0 c.remove-2.ensures.updates.0

pub returns-clause-others : goal.returns-clause-others
returns-clause-others c =
    others_stay c.args.self.now.by_number.keys c.remove.new.self.keys c.args.line c.remove.ensures.updates.0
