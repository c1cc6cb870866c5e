use Rattle.std.proofs.Common.{ap, ◌∙◌, sym, refl, subst}
use Rattle.std.specs.Prelude.{IsSome}
use Rattle.std.specs.Option.{option_copied_mut}
use Rattle.std.specs.FinMap as map
use Rattle.retro_tree.specs.Maps.{update}
use Rattle.retro_tree.specs.Cell.{value}
use Rattle.retro_tree.specs.CellOrder.{cell_cmp, cell_total, cell_exact}
use Rattle.retro_tree.proofs.MapLemmas.{made_insert, made_written, made_new, get_made}
use Rattle.retro_tree.proofs.Results.{on_ok}
use Rattle.retro_history.specs.inner.CellHistory.{history_used, new_history}
use Rattle.retro_history.proofs.cell_histories.CellHistories.add_use.Goals as goal

pub returns-in-Some : goal.returns-in-Some
returns-in-Some c =
    let es = c.self.inside.histories.entries in
    let k = c.args.cell.now in
    let d = new_history (value k c.args.first.now) in
    let f = history_used c.args.used.now in
    let here = sym c.get_mut.ensures.value ∙ ap option_copied_mut c.in-Some.is in
    let wrote = c.get_mut.follows.holds c.add.new.self in
    on_ok c.add.result _ _ (λ is.
    made_written cell_total cell_exact es
    (c.get_mut.follows.lender c.add.new.self).entries k d f c.in-Some.history.now c.add.new.self here is
    (wrote.3 (subst IsSome (sym here) refl)).0
    ∙ ap (λ m. update m k d f) c.self.view_is) c.add.ensures

pub returns : goal.returns
returns c =
    let es = c.self.inside.histories.entries in
    let k = c.args.cell.now in
    let first = c.args.first.now in
    let f = history_used c.args.used.now in
    let none = sym c.get_mut.ensures.value ∙ ap option_copied_mut c.in_default.is in
    let same = ap (λ n. map.from_entries {R = cell_cmp} n.entries) c.get_mut.follows.holds-at-none
    ∙ c.self.view_is in
    let absent = ap (λ m. map.get m k) (sym c.self.view_is) ∙ get_made cell_total es k ∙ none in
    let made = c.in_ok-boxed.ensures ∙ c.in_ok-add.ensures
    ∙ ap f (c.new-history.ensures ∙ ap new_history c.get.ensures) in
    made_insert cell_total cell_exact c.get_mut.follows.lender-at-none.entries c.insert.new.self.entries
    c.in_ok-copy.field-0 c.in_ok-boxed.boxed c.in_ok-insert.ensures.updates.0
    ∙ ap (λ x. map.insert (map.from_entries {R = cell_cmp} c.get_mut.follows.lender-at-none.entries) x
    c.in_ok-boxed.boxed) c.in_ok-copy.ensures
    ∙ ap (λ m. map.insert m k c.in_ok-boxed.boxed) same
    ∙ made_new cell_total cell_exact c.args.self.now k (new_history (value k first)) f c.in_ok-boxed.boxed
    absent made
