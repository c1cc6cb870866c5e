use Rattle.std.proofs.Common.{◌≡◌, nat_le, length}
use Rattle.std.specs.List.{list_all}
use Rattle.std.specs.FinMap.{from_entries}
use Rattle.retro_tree.specs.Session.{value_limit}
use Rattle.retro_tree.specs.Limits.{values_fit}
use Rattle.retro_json.proofs.reading.sessions.values_fit.Given as goal

abbrev pub invariant-loop-value : goal.invariant-loop-value
invariant-loop-value l =
    values_fit (from_entries l.vars.entries) ≡ list_all (λ e. nat_le (length e.1) value_limit) l.value-iterator
