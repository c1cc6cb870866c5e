-- The changes so far, and those of files that are kept among the ones that are left.
use Rattle.std.proofs.Common.{◌≡◌, ◌++◌}
use Rattle.std.specs.Prelude.{filter}
use Rattle.casebook_cli.specs.Patches.{is_whole}
use Rattle.casebook_cli.proofs.patches.whole_changes.Given as goal

abbrev pub invariant-loop-change : goal.invariant-loop-change
invariant-loop-change l =
    l.found.items ++ filter is_whole l.change-iterator.rest.items ≡ filter is_whole l.fn.changes.items
