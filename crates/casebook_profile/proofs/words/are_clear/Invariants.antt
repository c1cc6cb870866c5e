use Rattle.std.proofs.Common.{◌≡◌, length, map}
use Rattle.std.specs.List.{list_all}
use Rattle.retro_syntax.specs.View.{word_view}
use Rattle.casebook_profile.specs.Words as W
use Rattle.casebook_profile.specs.inner.Scopes.{scope_view}
use Rattle.casebook_profile.proofs.words.are_clear.Given as goal

abbrev pub invariant-loop-rest : goal.invariant-loop-rest
invariant-loop-rest l =
    list_all (W.is_clear (scope_view l.scope)) (map word_view l.rest)
    ≡ list_all (W.is_clear (scope_view l.scope)) (map word_view l.words)

abbrev pub decreases-loop-rest : goal.decreases-loop-rest
decreases-loop-rest l = length l.rest
