-- The bytes so far are no blanks.
use Rattle.std.proofs.Common.{◌≡◌, ◌+◌, ℕ, List, length, drop}
use Rattle.retro_shell.specs.Fields.{before_blank}
use Rattle.retro_shell.proofs.fields.length_before_blank.Given as goal

pub record NoBlanks (text rest : List ℕ) (n : ℕ) : Type 0 where
  pub count : n + length rest ≡ length text
  pub left : rest ≡ drop n text
  pub before : n + length (before_blank rest) ≡ length (before_blank text)

abbrev pub invariant-loop-rest : goal.invariant-loop-rest
invariant-loop-rest l = NoBlanks l.text l.rest l.length

abbrev pub decreases-loop-rest : goal.decreases-loop-rest
decreases-loop-rest l = length l.rest
