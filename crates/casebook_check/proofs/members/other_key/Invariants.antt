use Rattle.casebook_check.proofs.members.other_key.Given as goal

abbrev pub invariant-loop-member : goal.invariant-loop-member
invariant-loop-member l = Unit {0}
