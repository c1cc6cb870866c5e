use Rattle.std.proofs.Common.{◌≡◌, refl, subst, sym, true}
use Rattle.std.specs.FinMap as finmap
use Rattle.retro_difference.specs.Difference.{DifferenceValue, GoesOver, Stays}
use Rattle.retro_difference.specs.NextUses.{has_use}
use Rattle.retro_difference.proofs.Renewals.{after_any, goes_over, stays, stays_same}
use Rattle.retro_difference.proofs.difference.Difference.advance.Goals as goal

pub returns-in_err-cells-clause-err : goal.returns-in_err-cells-clause-err
returns-in_err-cells-clause-err c =
    after_any c.from_residual.result (stays_same c.args.history.now c.args.line.number c.args.self.now)

pub returns-in-Err-clause-err : goal.returns-in-Err-clause-err
returns-in-Err-clause-err c =
    subst (λ (d : DifferenceValue). Stays c.args.history.now c.args.line.number d (record {
      overlay = c.self.inside.overlay;
      uses = c.prune.new.self;
    })) c.self.view_is
    (stays c.args.history.now c.args.line.number (record {
      overlay = c.self.inside.overlay;
      uses = c.self.inside.uses;
    }) c.self.inside.overlay c.add_cells.new.self c.prune.new.self refl c.add_cells.ensures.adds c.prune.ensures)

pub returns-in-Err-advance-clause-err : goal.returns-in-Err-advance-clause-err
returns-in-Err-advance-clause-err c =
    subst (λ (d : DifferenceValue). Stays c.args.history.now c.args.line.number d (record {
      overlay = c.advance.new.overlay;
      uses = c.prune-in-Err-advance.new.self;
    })) c.self.view_is
    (stays c.args.history.now c.args.line.number (record {
      overlay = c.self.inside.overlay;
      uses = c.self.inside.uses;
    }) c.advance.new.overlay c.add_cells.new.self c.prune-in-Err-advance.new.self c.in-Err-advance.ensures.err
    c.add_cells.ensures.adds c.prune-in-Err-advance.ensures)

pub returns-clause-ok : goal.returns-clause-ok
returns-clause-ok c =
    subst (λ (d : DifferenceValue). GoesOver c.args.history.now c.args.line d (record {
      overlay = c.advance.new.overlay;
      uses = c.prune-2.new.self;
    })) c.self.view_is
    (goes_over c.args.history.now c.args.line (record {
      overlay = c.self.inside.overlay;
      uses = c.self.inside.uses;
    }) c.advance.new.overlay c.add_cells.new.self c.prune-2.new.self c.at.result (record {
      state = c.at.ensures;
      exact = c.in_default-advance.ensures.exact;
      adds = c.add_cells.ensures.adds;
      pruned = c.prune-2.ensures;
      used = λ d has key.
          c.in_default.ensures.next d (c.in_ok-cells.ensures.used d
          (subst (λ (v : DifferenceValue). has_use c.args.line.number d v.uses ≡ true) c.self.view_is has)
          (subst (λ (v : DifferenceValue). finmap.contains_key v.overlay d ≡ true) c.self.view_is key));
      written = λ d may. c.in_default.ensures.next d (c.in_ok-cells.ensures.changed d may);
    }))
