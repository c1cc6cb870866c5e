use Rattle.std.proofs.Common.{◌≡◌, ℕ, ◌-◌, ◌<◌, false}
use Rattle.casebook_words.specs.Cut.{may_begin}
use Rattle.casebook_words.proofs.cut.cut_end.Given as goal

abbrev pub invariant-loop-back : goal.invariant-loop-back
invariant-loop-back l = (k : ℕ) → k < l.back → may_begin l.bytes (l.limit - k) ≡ false
