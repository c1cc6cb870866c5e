use Rattle.retro_edge.proofs.ReadLemmas.{IsReadTo}
use Rattle.retro_edge.specs.Paths.{path_named}
use Rattle.retro_edge.proofs.paths.paths_named.Given as goal

abbrev pub invariant-loop-text : goal.invariant-loop-text
invariant-loop-text l = IsReadTo path_named (λ s. s.now) l.paths.items l.texts l.text-index
