-- What was seen so far, and what the changes say that are left.
use Rattle.std.proofs.Common.{◌≡◌, ◌++◌, drop, map}
use Rattle.std.specs.Prelude.{flat_map}
use Rattle.casebook_typed.specs.Values.{change_value}
use Rattle.casebook_account.specs.Attributes.{change_seen}
use Rattle.casebook_account.proofs.attributes.push_line.Given as goal

abbrev pub invariant-loop-change : goal.invariant-loop-change
invariant-loop-change l =
    l.seen.items ++ flat_map (change_seen l.line) (map change_value (drop l.change-index l.changes))
    ≡ l.fn.seen.items ++ flat_map (change_seen l.line) (map change_value l.changes)
