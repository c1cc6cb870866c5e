use Rattle.std.proofs.Common.{ap, ◌∙◌, sym, refl, subst}
use Rattle.std.specs.Prelude.{IsSome}
use Rattle.std.specs.Option.{option_copied_mut}
use Rattle.std.specs.FinMap as map
use Rattle.retro_tree.specs.Maps.{update}
use Rattle.retro_tree.specs.CellOrder.{cell_cmp, cell_total, cell_exact}
use Rattle.retro_tree.proofs.MapLemmas.{made_insert, made_written, made_new, get_made}
use Rattle.retro_tree.proofs.Results.{on_ok}
use Rattle.retro_history.specs.inner.LineUse.{no_use, use_changed}
use Rattle.retro_history.proofs.line_cells.LineCells.add_change.Goals as goal

pub returns-in-Some : goal.returns-in-Some
returns-in-Some c =
    let es = c.self.inside.uses.entries in
    let k = c.in_ok-cell.cell in
    let d = no_use c.args.number in
    let f = use_changed c.args.change.now in
    let here = sym c.get_mut.ensures.value ∙ ap option_copied_mut c.in-Some.is in
    let wrote = c.get_mut.follows.holds c.add_change.new.self in
    on_ok c.add_change.result _ _ (λ is.
    made_written cell_total cell_exact es
    (c.get_mut.follows.lender c.add_change.new.self).entries k d f c.in-Some.used.now c.add_change.new.self here is
    (wrote.3 (subst IsSome (sym here) refl)).0
    ∙ ap (λ m. update m k d f) c.self.view_is
    ∙ ap (λ x. update c.args.self.now x d f) (c.in_ok-cell.ensures ∙ c.cell.ensures)) c.add_change.ensures.ok

pub returns : goal.returns
returns c =
    let es = c.self.inside.uses.entries in
    let k = c.in_ok-cell.cell in
    let d = no_use c.args.number in
    let f = use_changed c.args.change.now in
    let none = sym c.get_mut.ensures.value ∙ ap option_copied_mut c.in_default.is in
    let same = ap (λ n. map.from_entries {R = cell_cmp} n.entries) c.get_mut.follows.holds-at-none
    ∙ c.self.view_is in
    let absent = ap (λ m. map.get m k) (sym c.self.view_is) ∙ get_made cell_total es k ∙ none in
    let made = c.in_ok-add_change.ensures.ok ∙ ap f c.new-used.ensures in
    made_insert cell_total cell_exact c.get_mut.follows.lender-at-none.entries c.insert.new.self.entries k
    c.add_change-2.new.self c.in_ok-insert.ensures.updates.0
    ∙ ap (λ m. map.insert m k c.add_change-2.new.self) same
    ∙ made_new cell_total cell_exact c.args.self.now k d f c.add_change-2.new.self absent made
    ∙ ap (λ x. update c.args.self.now x d f) (c.in_ok-cell.ensures ∙ c.cell.ensures)
