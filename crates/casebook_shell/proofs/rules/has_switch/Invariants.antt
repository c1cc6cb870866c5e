-- Whether one of the rows that are left switches on an option, as one of all does.
use Rattle.std.proofs.Common.{◌≡◌, drop, map}
use Rattle.std.specs.List.{list_any}
use Rattle.casebook_shell.specs.Rows.{is_switch}
use Rattle.casebook_shell.proofs.rules.has_switch.Given as goal

abbrev pub invariant-loop-row : goal.invariant-loop-row
invariant-loop-row l =
    list_any is_switch (map (λ row. row.now) (drop l.row-index l.rows))
    ≡ list_any is_switch (map (λ row. row.now) l.rows)
