use Rattle.std.proofs.Common.{◌-◌, ◌+◌, ◌++◌, ◌≡◌, sym, arith, ap, ◌∙◌}
use Rattle.casebook_folder.specs.Rows.{removals}
use Rattle.std.proofs.Math.ListN.{drop}
use Rattle.casebook_folder.proofs.Parts.{step_stays}
use Rattle.casebook_folder.proofs.Prefixes.{on_err, removals_more, removals_prefix}
use Rattle.casebook_folder.proofs.applying.remove_all.Goals as goal

pub returns-in_err-put-clause-err : goal.returns-in_err-put-clause-err
returns-in_err-put-clause-err g c =
    let L = c.loop-left.left in
    let suc : L ≡ (L - 1) + 1 = omega (arith, c.loop-left-test.true) in
    on_err _ _ (removals_prefix c.args.rows.now (L - 1) c.index-rows-left.result
    (g.F.Folder.made c.args.folder.now) (g.F.Folder.made c.loop-left.folder) (g.F.Folder.made c.put.new.self)
    (omega (arith, c.loop-left-test.true, c.loop-left.invariant.within))
    (sym c.index-rows-left.is)
    (sym c.clears.ensures ∙ c.if-clears.true)
    (c.loop-left.invariant.made ∙ ap (λ n. g.F.Folder.made c.args.folder.now ++ removals (drop n c.args.rows.now)) suc)
    c.in_err-put.ensures.err)

pub returns-in_err-put-clause-other_parts : goal.returns-in_err-put-clause-other_parts
returns-in_err-put-clause-other_parts g c =
    let i = c.loop-left.invariant in
    step_stays (g.F.Folder.first c.args.folder.now) (g.F.Folder.first c.loop-left.folder) c.args.rows.now
    (c.loop-left.left - 1) c.index-rows-left.result (g.F.Folder.parts c.args.folder.now)
    (g.F.Folder.parts c.loop-left.folder) (g.F.Folder.parts c.put.new.self)
    (omega (arith, c.loop-left-test.true, i.within)) (sym c.index-rows-left.is) i.same i.parts
    c.put.ensures.other_parts

pub loop-left-preserved-in-Continue-1 : goal.loop-left-preserved-in-Continue-1
loop-left-preserved-in-Continue-1 g c =
    let L = c.loop-left.left in
    let suc : L ≡ (L - 1) + 1 = omega (arith, c.loop-left-test.true) in
    let i = c.loop-left.invariant in
    let made = g.F.Folder.made in
    record {
      within = omega (arith, i.within);
      same = c.put.ensures.same ∙ i.same;
      made = removals_more c.args.rows.now (L - 1) c.index-rows-left.result
          (made c.args.folder.now) (made c.loop-left.folder) (made c.put.new.self)
          (omega (arith, c.loop-left-test.true, i.within)) (sym c.index-rows-left.is)
          (sym c.clears.ensures ∙ c.if-clears.true)
          (i.made ∙ ap (λ n. made c.args.folder.now ++ removals (drop n c.args.rows.now)) suc)
          c.in_ok-put.ensures.ok;
      parts = step_stays (g.F.Folder.first c.args.folder.now) (g.F.Folder.first c.loop-left.folder)
          c.args.rows.now (L - 1) c.index-rows-left.result (g.F.Folder.parts c.args.folder.now)
          (g.F.Folder.parts c.loop-left.folder) (g.F.Folder.parts c.put.new.self)
          (omega (arith, c.loop-left-test.true, i.within)) (sym c.index-rows-left.is) i.same i.parts
          c.put.ensures.other_parts;
    }
