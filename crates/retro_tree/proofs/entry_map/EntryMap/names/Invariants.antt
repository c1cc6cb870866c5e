use Rattle.std.proofs.Common.{◌≡◌, ◌++◌, map, length}
use Rattle.std.specs.List.{filter_map}
use Rattle.std.specs.FinMap as finmap
use Rattle.retro_tree.specs.Path.{child_name}
use Rattle.retro_tree.specs.Ask.{names_in}
use Rattle.retro_tree.proofs.Together.{together}
use Rattle.retro_tree.proofs.Skips.{IsRest}
use Rattle.retro_tree.proofs.entry_map.EntryMap.names.Given as goal

abbrev pub invariant-loop-other : goal.invariant-loop-other
invariant-loop-other l = record {
  rest : IsRest (finmap.entries l.self) l.rest;
  names : l.names.items ++ filter_map (child_name l.path) (together l.path (map (λ e. e.0) l.rest))
      ≡ names_in l.path l.self;
}

abbrev pub decreases-loop-other : goal.decreases-loop-other
decreases-loop-other l = length l.rest
