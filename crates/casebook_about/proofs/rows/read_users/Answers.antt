use Rattle.std.proofs.Common.{◌∙◌, ap, sym, List, ℕ, Some}
use Rattle.serde_json.specs.View.{view}
use Rattle.casebook_about.specs.Rows.{user_row, user_view}
use Rattle.casebook_about.specs.declared.fault.Part.TheVariants as parts
use Rattle.casebook_about.proofs.RowLemmas.{loop_done, loop_ends, loop_goes_on}
use Rattle.casebook_about.proofs.rows.read_users.Goals as goal

pub returns-in-None : goal.returns-in-None
returns-in-None c =
    loop_ends parts.Sessions user_row view user_view c.loop-row.users.items c.args.rows.now c.loop-row.row-index _
    c.row-item.result c.len.result
    c.loop-row-test.true c.row-item.is (sym c.in-None.ensures) (c.len.ensures ∙ c.loop-row.users.ok.0) c.loop-row.invariant

pub loop-row-preserved : goal.loop-row-preserved
loop-row-preserved c =
    let says = sym c.in-Some.ensures ∙ ap (λ (name : List ℕ). Some (c.in-Some.session, name)) (sym c.in_ok-user-in-Some.ensures.ok) in
    loop_goes_on parts.Sessions user_row view user_view c.loop-row.users.items c.push.new.self.items c.args.rows.now
    c.loop-row.row-index _ c.row-item.result (record { session = c.in-Some.session; user = c.in_ok-user-in-Some.user })
    c.loop-row-test.true c.row-item.is c.in_ok-push-in-Some.ensures.items says c.loop-row.invariant

pub returns : goal.returns
returns c =
    loop_done parts.Sessions user_row view user_view c.loop-row.users.items c.args.rows.now c.loop-row.row-index
    c.loop-row-test.false c.loop-row.invariant
