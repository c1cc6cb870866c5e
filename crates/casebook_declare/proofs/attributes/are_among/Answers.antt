use Rattle.std.proofs.Common.{◌∙◌, sym}
use Rattle.casebook_declare.specs.Attributes.{letters}
use Rattle.casebook_declare.proofs.Flags.{next_letter}
use Rattle.casebook_declare.proofs.attributes.are_among.Goals as goal

pub loop-letter-preserved : goal.loop-letter-preserved
loop-letter-preserved c =
    rw c.without-rest.ensures
    (sym (next_letter c.loop-letter.rest.now letters c.loop-letter.letter-index c.loop-letter-test.true)
    ∙ c.loop-letter.invariant)
