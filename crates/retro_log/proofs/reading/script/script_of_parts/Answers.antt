use Rattle.std.proofs.Common.{◌==◌, ◌≡◌, ◌∙◌, true, refl, sym}
use Rattle.std.proofs.lemmas.Result.{err_from_is_err_and}
use Rattle.retro_log.specs.Document.{script_version}
use Rattle.retro_log.specs.inner.PartsView.{parts_view}
use Rattle.retro_log.proofs.OfParts.{script_first_refused, sessions_seen, tree_seen}
use Rattle.retro_log.proofs.reading.script.script_of_parts.Goals as goal

pub returns-in_err-first : goal.returns-in_err-first
returns-in_err-first c =
    let p = err_from_is_err_and c.from_residual-in_err-first.result c.from_residual-in_err-first.ensures.1 in
    let parts = c.args.parts in
    let others = c.part_at-others.result in
    let supported : (c.in_ok-number.number == script_version) ≡ true = rw c.if-number-ne-SCRIPT_VERSION.false refl in
    let unsaid = sym c.is_some.ensures ∙ c.if-is_some.false in
    rw (p.1, p.2)
    (script_first_refused (parts_view parts) c.in_ok-number.number c.in_ok-rows.rows.items _ c.in_err-first.field-0.0
    (tree_seen parts c.in_ok-rows.rows c.in_ok-rows.ensures)
    (sessions_seen parts others c.part_at-others.ensures) c.in_err-first.ensures.value unsaid c.in_ok-fit.ensures
    c.in_ok-number.ensures supported)
