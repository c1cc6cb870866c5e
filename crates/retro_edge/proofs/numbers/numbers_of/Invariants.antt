use Rattle.retro_text.specs.Numbers.{number_in}
use Rattle.retro_edge.proofs.ReadLemmas.{IsReadTo}
use Rattle.retro_edge.proofs.numbers.numbers_of.Given as goal

abbrev pub invariant-loop-text : goal.invariant-loop-text
invariant-loop-text l = IsReadTo number_in (λ s. s.now) l.numbers.items l.texts l.text-index
