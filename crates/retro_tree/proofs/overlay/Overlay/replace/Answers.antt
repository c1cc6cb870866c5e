use Rattle.std.proofs.Common.{ap, ◌∙◌, sym, refl, subst, Some}
use Rattle.std.specs.Prelude.{IsSome}
use Rattle.std.specs.Option.{option_copied_mut}
use Rattle.std.specs.FinMap as map
use Rattle.retro_tree.specs.CellOrder.{cell_total, cell_exact}
use Rattle.retro_tree.specs.Overlay.{Fits, AllValues, replaced_at}
use Rattle.retro_tree.specs.contracts.overlay.Overlay.{the_view}
use Rattle.retro_tree.proofs.MapLemmas.{made_insert, get_made}
use Rattle.retro_tree.proofs.Fitting.{fits_replaced}
use Rattle.retro_tree.proofs.ValueEntries.{values_replaced}
use Rattle.retro_tree.proofs.overlay.Overlay.replace.Goals as goal

pub returns-in-Some-clause-previous : goal.returns-in-Some-clause-previous
returns-in-Some-clause-previous c =
    let here = sym c.get_mut.ensures.value ∙ ap option_copied_mut c.in-Some.is in
    let found = ap (λ m. map.get m c.args.cell.now) (sym c.self.view_is)
    ∙ get_made cell_total c.self.inside.cells.entries c.args.cell.now ∙ here in
    ap Some c.replace.ensures.value ∙ sym found

pub returns-in-Some-clause-new : goal.returns-in-Some-clause-new
returns-in-Some-clause-new c =
    let es = c.self.inside.cells.entries in
    let k = c.args.cell.now in
    let here = sym c.get_mut.ensures.value ∙ ap option_copied_mut c.in-Some.is in
    let wrote = c.get_mut.follows.holds c.replace.new.dest in
    let found = ap (λ m. map.get m k) (sym c.self.view_is) ∙ get_made cell_total es k ∙ here in
    made_insert cell_total cell_exact es
    (c.get_mut.follows.lender c.replace.new.dest).entries k c.replace.new.dest
    (wrote.3 (subst IsSome (sym here) refl)).0
    ∙ ap (λ m. map.insert m k c.replace.new.dest) c.self.view_is
    ∙ ap (map.insert c.args.self.now k) c.replace.ensures.after
    ∙ ap (λ x. replaced_at k c.args.entry x c.args.self.now) (sym found)

pub returns-clause-previous : goal.returns-clause-previous
returns-clause-previous c =
    let none = sym c.get_mut.ensures.value ∙ ap option_copied_mut c.in_default.is in
    sym (ap (λ m. map.get m c.args.cell.now) (sym c.self.view_is)
    ∙ get_made cell_total c.self.inside.cells.entries c.args.cell.now ∙ none)

pub returns-clause-new : goal.returns-clause-new
returns-clause-new c =
    let none = sym c.get_mut.ensures.value ∙ ap option_copied_mut c.in_default.is in
    let absent = ap (λ m. map.get m c.args.cell.now) (sym c.self.view_is)
    ∙ get_made cell_total c.self.inside.cells.entries c.args.cell.now ∙ none in
    ap (λ n. the_view (record { cells = n })) c.get_mut.follows.holds-at-none ∙ c.self.view_is
    ∙ ap (λ x. replaced_at c.args.cell.now c.args.entry x c.args.self.now) (sym absent)

pub returns-in-Some-clause-fits : goal.returns-in-Some-clause-fits
returns-in-Some-clause-fits c of fit =
    subst Fits (sym (returns-in-Some-clause-new c)) (fits_replaced c.args.self.now c.args.cell.now c.args.entry of fit)

pub returns-in-Some-clause-values : goal.returns-in-Some-clause-values
returns-in-Some-clause-values c of all =
    subst AllValues (sym (returns-in-Some-clause-new c))
    (values_replaced c.args.self.now c.args.cell.now c.args.entry of all)

pub returns-clause-fits : goal.returns-clause-fits
returns-clause-fits c of fit =
    subst Fits (sym (returns-clause-new c)) (fits_replaced c.args.self.now c.args.cell.now c.args.entry of fit)

pub returns-clause-values : goal.returns-clause-values
returns-clause-values c of all =
    subst AllValues (sym (returns-clause-new c)) (values_replaced c.args.self.now c.args.cell.now c.args.entry of all)
