use Rattle.std.proofs.Common.{◌∙◌, sym}
use Rattle.casebook_folder.proofs.Parts.{step_clears, step_stays}
use Rattle.casebook_folder.proofs.applying.clear_all.Goals as goal

pub returns-in_err-clear-clause-other_parts : goal.returns-in_err-clear-clause-other_parts
returns-in_err-clear-clause-other_parts g c =
    step_stays (g.F.Folder.first c.args.folder.now) (g.F.Folder.first c.loop-row.folder) c.args.rows.now
    c.loop-row.row-index c.row-item.result (g.F.Folder.parts c.args.folder.now)
    (g.F.Folder.parts c.loop-row.folder) (g.F.Folder.parts c.clear.new.self) c.loop-row-test.true
    (sym c.row-item.is) c.loop-row.invariant.same c.loop-row.invariant.parts c.clear.ensures.other_parts

pub loop-row-preserved : goal.loop-row-preserved
loop-row-preserved g c =
    let i = c.loop-row.invariant in
    record {
      same = c.clear.ensures.same ∙ i.same;
      made = c.clear.ensures.made ∙ i.made;
      parts = step_stays (g.F.Folder.first c.args.folder.now) (g.F.Folder.first c.loop-row.folder)
          c.args.rows.now c.loop-row.row-index c.row-item.result (g.F.Folder.parts c.args.folder.now)
          (g.F.Folder.parts c.loop-row.folder) (g.F.Folder.parts c.clear.new.self) c.loop-row-test.true
          (sym c.row-item.is) i.same i.parts c.clear.ensures.other_parts;
      none = step_clears (g.F.Folder.first c.args.folder.now) (g.F.Folder.first c.loop-row.folder)
          c.args.rows.now c.loop-row.row-index c.row-item.result (g.F.Folder.parts c.loop-row.folder)
          (g.F.Folder.parts c.clear.new.self) c.loop-row-test.true (sym c.row-item.is) i.same i.none
          c.clear.ensures.other_parts c.in_ok-clear.ensures.no_part;
    }
