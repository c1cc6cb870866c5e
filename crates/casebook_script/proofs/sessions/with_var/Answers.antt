use Rattle.std.proofs.Common.{◌≡◌, ◌∙◌, Ok, ap, false, sym, true}
use Rattle.std.specs.Prelude.{is_some}
use Rattle.std.specs.FinMap.{contains_key}
use Rattle.retro_tree.specs.Order.{text_exact, text_total}
use Rattle.retro_tree.proofs.MapLemmas.{get_made, made_insert}
use Rattle.casebook_script.specs.inner.Views.{vars_view}
use Rattle.casebook_script.proofs.Adding.{var_added, var_twice}
use Rattle.casebook_script.proofs.sessions.with_var.Goals as goal

pub returns-then-contains_key : goal.returns-then-contains_key
returns-then-contains_key c =
    let vars = c.args.vars in
    let there : contains_key (vars_view vars) c.in_ok-name.name ≡ true =
    ap is_some (get_made text_total vars.entries c.in_ok-name.name) ∙ sym c.contains_key.ensures ∙ c.if-contains_key.true in
    var_twice (vars_view vars) c.args.cell.now c.in_ok-name.name c.in_ok-name.value c.in_ok-name.ensures there

pub returns : goal.returns
returns c =
    let vars = c.args.vars in
    let new : contains_key (vars_view vars) c.in_ok-name.name ≡ false =
    ap is_some (get_made text_total vars.entries c.in_ok-name.name) ∙ sym c.contains_key.ensures ∙ c.if-contains_key.false in
    let added =
    made_insert text_total text_exact vars.entries c.insert.new.self.entries c.in_ok-name.name c.in_ok-name.value
    c.in_ok-insert.ensures.updates.0 in
    var_added (vars_view vars) c.args.cell.now c.in_ok-name.name c.in_ok-name.value c.in_ok-name.ensures new
    ∙ ap Ok (sym added)
