use Rattle.std.proofs.Common.{ap, ◌∙◌, sym, refl, subst}
use Rattle.std.specs.Prelude.{IsSome}
use Rattle.std.specs.Option.{option_copied_mut, is_some}
use Rattle.std.specs.FinMap as map
use Rattle.retro_tree.specs.CellOrder.{cell_total, cell_exact}
use Rattle.retro_tree.specs.Overlay.{Fits, AllValues, grown_at}
use Rattle.retro_tree.specs.contracts.overlay.Overlay.{the_view}
use Rattle.retro_tree.proofs.MapLemmas.{made_insert, made_same, get_made}
use Rattle.retro_tree.proofs.OverlayLemmas.{any_err}
use Rattle.retro_tree.proofs.Fitting.{fits_grown}
use Rattle.retro_tree.proofs.ValueEntries.{values_grown}
use Rattle.retro_tree.proofs.overlay.Overlay.grow.Goals as goal

pub returns-in-Some-clause-ok : goal.returns-in-Some-clause-ok
returns-in-Some-clause-ok c =
    let es = c.self.inside.cells.entries in
    let k = c.args.cell.now in
    let here = sym c.get_mut.ensures.value ∙ ap option_copied_mut c.in-Some.is in
    let wrote = c.get_mut.follows.holds c.grow.new.self in
    let found = ap (λ m. map.get m k) (sym c.self.view_is) ∙ get_made cell_total es k ∙ here in
    made_insert cell_total cell_exact es (c.get_mut.follows.lender c.grow.new.self).entries k c.grow.new.self
    (wrote.3 (subst IsSome (sym here) refl)).0
    ∙ ap (λ m. map.insert m k c.grow.new.self) c.self.view_is
    ∙ ap (map.insert c.args.self.now k) c.in_ok-grow.ensures.ok
    ∙ ap (λ x. grown_at k c.args.bytes.now x c.args.self.now) (sym found)

pub returns-in-Some-clause-fits : goal.returns-in-Some-clause-fits
returns-in-Some-clause-fits c fit =
    subst Fits (sym (returns-in-Some-clause-ok c)) (fits_grown c.args.self.now c.args.cell.now c.args.bytes.now fit)

pub returns-in-Some-clause-values : goal.returns-in-Some-clause-values
returns-in-Some-clause-values c all =
    subst AllValues (sym (returns-in-Some-clause-ok c))
    (values_grown c.args.self.now c.args.cell.now c.args.bytes.now all)

pub returns-in-Some-clause-done : goal.returns-in-Some-clause-done
returns-in-Some-clause-done c =
    let here = sym c.get_mut.ensures.value ∙ ap option_copied_mut c.in-Some.is in
    sym (ap is_some (ap (λ m. map.get m c.args.cell.now) (sym c.self.view_is)
    ∙ get_made cell_total c.self.inside.cells.entries c.args.cell.now ∙ here))

pub returns-in_err-grow-clause-err : goal.returns-in_err-grow-clause-err
returns-in_err-grow-clause-err c =
    let es = c.self.inside.cells.entries in
    let here = sym c.get_mut.ensures.value ∙ ap option_copied_mut c.in-Some.is in
    let wrote = c.get_mut.follows.holds c.grow.new.self in
    any_err c.from_residual.result _
    (made_same cell_total cell_exact es
    (c.get_mut.follows.lender c.grow.new.self).entries c.args.cell.now c.in-Some.entry.now c.grow.new.self here
    c.in_err-grow.ensures.err (wrote.3 (subst IsSome (sym here) refl)).0
    ∙ c.self.view_is)

pub returns-clause-done : goal.returns-clause-done
returns-clause-done c =
    let none = sym c.get_mut.ensures.value ∙ ap option_copied_mut c.in_default.is in
    sym (ap is_some (ap (λ m. map.get m c.args.cell.now) (sym c.self.view_is)
    ∙ get_made cell_total c.self.inside.cells.entries c.args.cell.now ∙ none))

pub returns-clause-ok : goal.returns-clause-ok
returns-clause-ok c =
    let none = sym c.get_mut.ensures.value ∙ ap option_copied_mut c.in_default.is in
    let absent = ap (λ m. map.get m c.args.cell.now) (sym c.self.view_is)
    ∙ get_made cell_total c.self.inside.cells.entries c.args.cell.now ∙ none in
    ap (λ n. the_view (record { cells = n })) c.get_mut.follows.holds-at-none ∙ c.self.view_is
    ∙ ap (λ x. grown_at c.args.cell.now c.args.bytes.now x c.args.self.now) (sym absent)
