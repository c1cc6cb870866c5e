use Rattle.std.proofs.Common.{◌≡◌, ◌+◌, ◌++◌, ℕ, Bool, List, length, take, drop}
use Rattle.retro_syntax.specs.Tildes as T
use Rattle.retro_syntax.proofs.tildes.login_length.Given as goal

pub record Read (in_value : Bool) (text rest : List ℕ) (n : ℕ) : Type 0 where
  pub count : n + length rest ≡ length text
  pub left : rest ≡ drop n text
  pub login : take n text ++ T.login_of in_value rest ≡ T.login_of in_value text
  pub after : T.after_login in_value rest ≡ T.after_login in_value text

abbrev pub invariant-loop-rest : goal.invariant-loop-rest
invariant-loop-rest l = Read l.in_value l.text l.rest l.length

abbrev pub decreases-loop-rest : goal.decreases-loop-rest
decreases-loop-rest l = length l.rest
