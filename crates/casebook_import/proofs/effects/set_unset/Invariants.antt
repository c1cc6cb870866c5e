-- The variables that are left lead to what all lead to, and the session is the same.
use Rattle.std.proofs.Common.{◌≡◌}
use Rattle.std.specs.FinMap as finmap
use Rattle.std.specs.List.{filter_map}
use Rattle.retro_tree.specs.Session.{session_in}
use Rattle.casebook_import.specs.Effects.{with_cells}
use Rattle.casebook_import.specs.Variables.{unset_var}
use Rattle.casebook_import.proofs.effects.set_unset.Given as goal

abbrev pub invariant-loop-name : goal.invariant-loop-name
invariant-loop-name l = record {
  session : l.effect.sid ≡ l.fn.effect.sid;
  so_far : with_cells (filter_map (unset_var l.fn.effect.sid l.new) l.name-iterator) l.effect
      ≡ with_cells (filter_map (unset_var l.fn.effect.sid l.new)
      (finmap.entries (session_in l.fn.effect.sid l.state.sessions).vars)) l.fn.effect;
}
