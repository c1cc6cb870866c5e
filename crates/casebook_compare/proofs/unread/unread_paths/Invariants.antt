-- The paths so far, and those of what is left.
use Rattle.std.proofs.Common.{◌≡◌, ◌++◌, drop}
use Rattle.std.specs.List.{filter_map}
use Rattle.casebook_compare.specs.Unread.{unread_of}
use Rattle.casebook_compare.proofs.unread.unread_paths.Given as goal

abbrev pub invariant-loop-one : goal.invariant-loop-one
invariant-loop-one l =
    l.unread.items ++ filter_map (unread_of l.recorded) (drop l.one-index l.skipped)
    ≡ filter_map (unread_of l.recorded) l.skipped
