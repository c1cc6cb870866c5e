use Rattle.std.proofs.Common.{◌∙◌, ap, sym}
use Rattle.std.specs.List.{list_any}
use Rattle.std.specs.Option.{is_some, option_copied}
use Rattle.retro_tree.specs.Path.{below}
use Rattle.retro_redo.proofs.AlteredPaths.{below_first, is_below}
use Rattle.retro_redo.proofs.altered_paths.AlteredPaths.has_below.Goals as goal

pub returns-in-Some : goal.returns-in-Some
returns-in-Some c =
    let p = c.args.path.now in
    let ranged = c.range.ensures.in_range tt in
    c.starts_with.ensures
    ∙ ap (λ o. is_below p (option_copied o)) (sym c.in-Some.is)
    ∙ sym (below_first c.self.inside.paths p c.range.result c.next.result c.next.new.self ranged.1 ranged.2 ranged.5
    c.next.ensures.steps)
    ∙ ap (list_any (λ q. is_some (below p q))) c.self.view_is

pub returns-in-None : goal.returns-in-None
returns-in-None c =
    let p = c.args.path.now in
    let ranged = c.range.ensures.in_range tt in
    ap (λ o. is_below p (option_copied o)) (sym c.in-None.is)
    ∙ sym (below_first c.self.inside.paths p c.range.result c.next.result c.next.new.self ranged.1 ranged.2 ranged.5
    c.next.ensures.steps)
    ∙ ap (list_any (λ q. is_some (below p q))) c.self.view_is
