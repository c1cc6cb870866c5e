use Rattle.casebook_case.specs.Cases.{case_of}
use Rattle.casebook_case.proofs.checking.case_of.Goals as goal

pub returns : goal.returns
unfolding case_of
returns c =
    rw (c.in_ok-first.ensures, c.in_ok-lines.ensures, ← c.in_ok-held.ensures) c.case_with.ensures
