-- Whether the flags that are left are among the letters that are left.
use Rattle.std.proofs.Common.{◌≡◌, drop}
use Rattle.casebook_declare.specs.Attributes.{are_among, letters}
use Rattle.casebook_declare.proofs.attributes.are_among.Given as goal

abbrev pub invariant-loop-letter : goal.invariant-loop-letter
invariant-loop-letter l =
    are_among l.rest (drop l.letter-index letters) ≡ are_among l.flags letters
