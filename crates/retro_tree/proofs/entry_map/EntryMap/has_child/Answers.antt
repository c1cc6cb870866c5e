use Rattle.std.proofs.Common.{map, sym, ◌∙◌}
use Rattle.std.specs.List.{list_any}
use Rattle.retro_tree.specs.Path.{is_child}
use Rattle.retro_tree.proofs.Together.{together, child_together}
use Rattle.retro_tree.proofs.entry_map.EntryMap.has_child.Goals as goal

pub loop-other-init : goal.loop-other-init
loop-other-init c =
    let p = c.args.path.now in
    let all = c.into_iter-other-iterator.ensures.into_iter_gives ∙ c.from-other-items.ensures in
    child_together p c.args.self.now ∙ (λ i. list_any (is_child p) (together p (map (λ e. e.0) (sym all i))))
