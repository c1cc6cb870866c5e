use Rattle.std.proofs.Common.{ap, ◌∙◌, sym, []}
use Rattle.std.specs.Option.{option_copied, unwrap_or}
use Rattle.std.specs.FinMap as map
use Rattle.retro_tree.specs.Order.{path_total}
use Rattle.retro_tree.proofs.MapLemmas.{get_made}
use Rattle.retro_history.proofs.path_lines.PathLines.numbers.Goals as goal

pub returns-in-Some-clause-value : goal.returns-in-Some-clause-value
returns-in-Some-clause-value c =
    let es = c.self.inside.lines.entries in
    let found = ap (λ m. map.get m c.args.path.now) (sym c.self.view_is) ∙ get_made path_total es c.args.path.now
    ∙ sym c.get.ensures.value ∙ ap option_copied c.in-Some.is in
    c.as_slice.ensures.value ∙ sym (ap (λ o. unwrap_or o []) found)

pub returns-in-None-clause-value : goal.returns-in-None-clause-value
returns-in-None-clause-value c =
    let es = c.self.inside.lines.entries in
    let absent = ap (λ m. map.get m c.args.path.now) (sym c.self.view_is) ∙ get_made path_total es c.args.path.now
    ∙ sym c.get.ensures.value ∙ ap option_copied c.in-None.is in
    sym (ap (λ o. unwrap_or o []) absent)
