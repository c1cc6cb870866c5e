use Rattle.std.proofs.Common.{rules, ◌∙◌}
use Rattle.std.proofs.lemmas.Fn.{always_returns_same}
use Rattle.retro_path.specs.Order.{path_cmp}
use Rattle.casebook_folder.specs.declared.row.Row.{Row}
use Rattle.casebook_folder.proofs.Searching.{found_if_row}
use Rattle.casebook_folder.proofs.fitting.has_row.Goals as goal

pub returns : goal.returns
returns c =
    c.is_ok.ensures.value
    ∙ found_if_row c.args.rows.now c.args.path.now c.requires c.binary_search_by.result
    c.binary_search_by.ensures.bound
    (c.binary_search_by.ensures.position (λ (r : Row). path_cmp r.path c.args.path.now)
    (always_returns_same _ _ _ (λ a r g called. search rules)))
