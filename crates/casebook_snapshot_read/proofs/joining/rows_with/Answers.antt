use Rattle.std.proofs.Common.{◌≡◌, subst}
use Rattle.std.proofs.lemmas.Result.{err_from_is_err_and}
use Rattle.std.specs.BTreeMap.{get}
use Rattle.std.specs.FinMap.{entries}
use Rattle.retro_path.specs.Order.{path_cmp}
use Rattle.casebook_snapshot_read.specs.Joined.{each, row_with}
use Rattle.casebook_snapshot_read.proofs.Steps.{each_done, each_ends, each_goes_on, in_front}
use Rattle.casebook_snapshot_read.proofs.joining.rows_with.Goals as goal

pub returns-in_err-row_with : goal.returns-in_err-row_with
returns-in_err-row_with c =
    let f = row_with c.args.at.now (get path_cmp c.args.known.now) in
    let all = entries c.args.tree.now in
    let front = c.loop-path.rows.items in
    let so_far =
    subst (λ es. in_front front (each f es) ≡ each f all) c.in-Some.ensures.steps c.loop-path.invariant in
    let p = err_from_is_err_and c.from_residual.result c.from_residual.ensures.1 in
    rw (p.1, p.2)
    (each_ends f c.in_err-row_with.field-0.0 front (c.in-Some.path.now, c.in-Some.entry.now) c.next.new.self all
    c.in_err-row_with.ensures so_far)

pub loop-path-preserved : goal.loop-path-preserved
loop-path-preserved c =
    let f = row_with c.args.at.now (get path_cmp c.args.known.now) in
    let all = entries c.args.tree.now in
    let front = c.loop-path.rows.items in
    let so_far =
    subst (λ es. in_front front (each f es) ≡ each f all) c.in-Some.ensures.steps c.loop-path.invariant in
    each_goes_on f front c.push.new.self.items (c.in-Some.path.now, c.in-Some.entry.now) c.next.new.self all
    c.in_ok-row_with.field-0 c.in_ok-row_with.ensures c.in_ok-push.ensures.items so_far

pub returns : goal.returns
returns c =
    let f = row_with c.args.at.now (get path_cmp c.args.known.now) in
    let all = entries c.args.tree.now in
    let front = c.loop-path.rows.items in
    let so_far =
    subst (λ es. in_front front (each f es) ≡ each f all) c.in-None.ensures.steps.0 c.loop-path.invariant in
    each_done f front all so_far
