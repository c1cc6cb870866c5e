use Rattle.casebook_check.proofs.finding.place_in_lists.Given as goal

abbrev pub invariant-loop-key : goal.invariant-loop-key
invariant-loop-key l = Unit {0}
