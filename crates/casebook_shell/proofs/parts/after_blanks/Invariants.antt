-- What follows the blanks of the rest follows those of the text.
use Rattle.std.proofs.Common.{◌≡◌, length}
use Rattle.casebook_shell.specs.Parts.{after_blanks}
use Rattle.casebook_shell.proofs.parts.after_blanks.Given as goal

abbrev pub invariant-loop-rest : goal.invariant-loop-rest
invariant-loop-rest l = after_blanks l.rest ≡ after_blanks l.text

abbrev pub decreases-loop-rest : goal.decreases-loop-rest
decreases-loop-rest l = length l.rest
