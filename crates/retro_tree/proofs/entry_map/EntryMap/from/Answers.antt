use Rattle.std.proofs.Common.{◌≡◌, Bool, true, false, ◌&&◌, ap, sym, refl, ◌∙◌}
use Rattle.std.specs.List.{filter}
use Rattle.std.specs.Ordering.{is_le}
use Rattle.std.specs.FinMap as map
use Rattle.retro_tree.specs.Order.{path_cmp, path_total, path_exact}
use Rattle.retro_tree.proofs.MapLemmas.{made_entries}
use Rattle.retro_tree.proofs.entry_map.EntryMap.from.Goals as goal

right : (b : Bool) → (b && true) ≡ b
right true = refl
right false = refl

pub returns : goal.returns
returns c =
    let es = c.self.inside.entries.entries in
    let p = c.args.path.now in
    c.range.ensures.between tt
    ∙ (λ i. filter (λ e. right (is_le (path_cmp p e.0)) i) es)
    ∙ ap (filter (λ e. is_le (path_cmp p e.0)))
    (sym (made_entries path_total path_exact es c.range.ensures.ordered) ∙ ap map.entries c.self.view_is)
