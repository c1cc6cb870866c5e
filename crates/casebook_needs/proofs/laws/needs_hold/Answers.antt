use Rattle.casebook_needs.proofs.NeedLaws.{change_nothing, hold_by_answers, needs_hold_at_first}
use Rattle.casebook_needs.proofs.laws.needs_hold.Goals as goal

pub returns-clause-at_first : goal.returns-clause-at_first
returns-clause-at_first c = needs_hold_at_first

pub returns-clause-anywhere : goal.returns-clause-anywhere
returns-clause-anywhere c = hold_by_answers

pub returns-clause-unchanged : goal.returns-clause-unchanged
returns-clause-unchanged c = change_nothing
