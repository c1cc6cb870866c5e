use Rattle.std.proofs.Common.{◌≡◌, ◌==◌, ◌<◌, ℕ, List, [], ◌∷◌, arith, length, not, refl, rules, tests, ◌∙◌}
use Rattle.std.specs.List.{list_all}
use Rattle.std.proofs.lemmas.Iterator.{YieldsList-from_slice}
use Rattle.std.proofs.lemmas.Iterator.Search.{all_from_yields_List}
use Rattle.retro_rounds.specs.Refusals.{are_cuts}
use Rattle.retro_rounds.proofs.pieces.are_cuts.Goals as goal

none_is_zero : (cuts : List ℕ) → 0 < length cuts → list_all (λ k. not (k == 0)) cuts ≡ are_cuts cuts
none_is_zero [] some = absurd (omega (arith, some))
none_is_zero (n ∷ cuts) some = refl

pub returns-then-not-is_empty : goal.returns-then-not-is_empty
returns-then-not-is_empty c =
    all_from_yields_List (λ k. not (k == 0)) _ _ c.all.result c.all.ensures.ran (YieldsList-from_slice c.args.cuts.now cc)
    (λ x b q k. search (rules, tests))
    ∙ none_is_zero c.args.cuts.now (search rules)
