-- The variables that are left lead to what all lead to, and the session is the same.
use Rattle.std.proofs.Common.{◌≡◌}
use Rattle.std.specs.FinMap as finmap
use Rattle.std.specs.List.{filter_map}
use Rattle.retro_tree.specs.Session.{session_in}
use Rattle.casebook_import.specs.Effects.{with_cells}
use Rattle.casebook_import.specs.Variables.{changed_var}
use Rattle.casebook_import.proofs.effects.set_changed.Given as goal

abbrev pub invariant-loop-name : goal.invariant-loop-name
invariant-loop-name l = record {
  session : l.effect.sid ≡ l.fn.effect.sid;
  so_far : with_cells (filter_map (changed_var l.fn.effect.sid
      (session_in l.fn.effect.sid l.state.sessions).vars) l.name-iterator) l.effect
      ≡ with_cells (filter_map (changed_var l.fn.effect.sid
      (session_in l.fn.effect.sid l.state.sessions).vars) (finmap.entries l.new)) l.fn.effect;
}
