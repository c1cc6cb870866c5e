use Rattle.std.proofs.Common.{◌==◌, ap, ◌∙◌, rules, tests}
use Rattle.std.proofs.lemmas.Iterator.Search.{any_from_yields_List}
use Rattle.std.proofs.lemmas.Iterator.Splits.{YieldsList-from_slice_split}
use Rattle.retro_text.specs.Search.{is_match, matches}
use Rattle.retro_text.proofs.search.Search.matches.Goals as goal

pub returns : goal.returns
unfolding matches
returns c =
    any_from_yields_List (is_match c.self.inside.whole c.args.line.now) _ _ _ c.any.ensures.ran
    (YieldsList-from_slice_split _ (λ b. b == 10) c.self.inside.patterns.now c.split.ensures.rest c.split.ensures.done
    c.split.ensures.closure (λ x r q k. search (rules, tests)))
    (λ x b q k. search (rules, tests))
    ∙ ap (λ s. matches s c.args.line.now) c.self.view_is
