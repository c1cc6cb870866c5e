-- The names of the rows so far.
use Rattle.std.proofs.Common.{◌≡◌, map, take}
use Rattle.std.specs.FinSet as set
use Rattle.std.specs.List.{filter_map}
use Rattle.retro_path.specs.Order.{text_cmp}
use Rattle.casebook_shell.specs.Rows.{name_in}
use Rattle.casebook_shell.proofs.rules.names_in.Given as goal

abbrev pub invariant-loop-row : goal.invariant-loop-row
invariant-loop-row l = set.from_list {R = text_cmp} l.names.keys
    ≡ set.from_list (filter_map name_in (map (λ row. row.now) (take l.row-index l.rows)))
