-- The shapes so far, and those of the words that are left.
use Rattle.std.proofs.Common.{◌≡◌, ◌++◌, drop, map}
use Rattle.retro_syntax.specs.View.{word_view}
use Rattle.casebook_usage.specs.Shape.{shape_view}
use Rattle.casebook_profile.specs.Words as W
use Rattle.casebook_profile.specs.inner.Scopes.{scope_view}
use Rattle.casebook_profile.proofs.commands.shapes_of.Given as goal

abbrev pub invariant-loop-word : goal.invariant-loop-word
invariant-loop-word l =
    map shape_view l.shapes.items
    ++ map (W.shape_of (scope_view l.scope)) (map (λ w. word_view w.now) (drop l.word-index l.words))
    ≡ map (W.shape_of (scope_view l.scope)) (map (λ w. word_view w.now) l.words)
