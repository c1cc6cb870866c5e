-- The paths so far, and those that are left.
use Rattle.std.proofs.Common.{◌≡◌, ◌++◌, drop, map}
use Rattle.casebook_words.specs.Words.{path_words}
use Rattle.casebook_status.proofs.pieces.path_pieces.Given as goal

abbrev pub invariant-loop-path : goal.invariant-loop-path
invariant-loop-path l =
    l.pieces.items ++ map path_words (map (λ p. p.now) (drop l.path-index l.paths))
    ≡ map path_words (map (λ p. p.now) l.paths)
