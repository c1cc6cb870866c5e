use Rattle.std.proofs.Common.{◌≡◌, true, ◌∷◌, sym, ap, subst, ◌∙◌}
use Rattle.std.specs.Option.{is_some}
use Rattle.std.specs.FinMap as map
use Rattle.retro_tree.specs.Commit.{committed}
use Rattle.casebook_stand_in.specs.Effect.{observed}
use Rattle.casebook_stand_in.specs.inner.Same.{AreSame}
use Rattle.casebook_stand_in.proofs.Alike.{alike_states, copied_some, observed_sessions, same_at_entry}
use Rattle.casebook_stand_in.proofs.comparing.first_unlike.Goals as goal

pub loop-cell-2-preserved : goal.loop-cell-2-preserved
loop-cell-2-preserved c =
    let has : is_some (map.get c.args.effect.now.cells c.in-Some-2.cell.now) ≡ true
    = ap (λ m. is_some (map.get m c.in-Some-2.cell.now)) (sym c.cells-seen.ensures.value)
    ∙ sym (ap is_some c.get.ensures) ∙ copied_some c.get.result ∙ c.if-is_none.ensures in
    let same = same_at_entry (committed c.args.cells.now c.args.state.now)
    (observed c.args.effect.now c.args.state.now) c.args.effect.now.cells c.in-Some-2.cell.now
    c.loop-cell-2.invariant.seen has in
    record {
      seen = c.loop-cell-2.invariant.seen;
      rest = λ h. c.loop-cell-2.invariant.rest
          (subst (AreSame (committed c.args.cells.now c.args.state.now)
          (observed c.args.effect.now c.args.state.now))
          {x = (c.in-Some-2.cell.now, c.in-Some-2.field-0-1.now) ∷ c.next-in-loop-cell-2.new.self}
          (sym c.in-Some-2.ensures.steps) (same, h));
    }

pub returns : goal.returns
returns c =
    alike_states c.args.cells.now c.args.effect.now.cells c.args.state.now c.requires.fits
    c.cells-seen.ensures.effect.fits c.requires.sessions
    (observed_sessions c.args.effect.now c.args.state.now c.cells-seen.ensures.effect c.requires.session)
    (c.loop-cell-2.invariant.rest
    (subst (AreSame (committed c.args.cells.now c.args.state.now) (observed c.args.effect.now c.args.state.now))
    (sym c.in-None-2.ensures.steps.0) tt))
    c.loop-cell-2.invariant.seen
