use Rattle.std.proofs.Common.{◌++◌, sym, ap, ◌∙◌, append-nil}
use Rattle.casebook_folder.proofs.Parts.{parts_stay, step_stays}
use Rattle.casebook_folder.proofs.Prefixes.{writings_prefix, prefix_grows, writing_is, writing_none}
use Rattle.casebook_folder.proofs.Prefixes.{on_err}
use Rattle.casebook_folder.proofs.applying.write_all.Goals as goal
use Rattle.casebook_folder.proofs.applying.write_all.Goals.{then-not-is_missing+in_ok-write}
use Rattle.casebook_folder.proofs.applying.write_all.Goals.{else-not-is_missing}

pub returns-in_err-write-clause-err : goal.returns-in_err-write-clause-err
returns-in_err-write-clause-err g c =
    let i = c.loop-row.invariant in
    on_err _ _ (writings_prefix c.args.rows.now c.loop-row.row-index c.row-item.result
    (g.F.Folder.made c.args.folder.now) (g.F.Folder.made c.loop-row.folder) (g.F.Folder.made c.write.new.folder) i.prefix.0
    c.loop-row-test.true (sym c.row-item.is)
    (sym c.is_missing.ensures ∙ c.if-not-is_missing.true)
    i.prefix.1 i.prefix.2 c.in_err-write.ensures.err)

pub loop-row-preserved : goal.loop-row-preserved
loop-row-preserved g c =
    let i = c.loop-row.invariant in
    let made = g.F.Folder.made in
    let parts = g.F.Folder.parts in
    let stays = parts_stay (g.F.Folder.first c.args.folder.now) c.args.rows.now parts (parts c.args.folder.now) in
    let grown = prefix_grows c.args.rows.now c.loop-row.row-index c.row-item.result
    (made c.args.folder.now) (made c.loop-row.folder) (made c.if-not-is_missing.folder) i.prefix.0
    c.loop-row-test.true (sym c.row-item.is) i.prefix.1 i.prefix.2 in
    elim c.if-not-is_missing.branch [
      | then-not-is_missing+in_ok-write w ↦ record {
        same = ap g.F.Folder.first w.folder-is ∙ w.write.ensures.same ∙ i.same;
        parts = stays c.if-not-is_missing.folder w.write.new.folder w.folder-is
            (step_stays (g.F.Folder.first c.args.folder.now) (g.F.Folder.first c.loop-row.folder)
            c.args.rows.now c.loop-row.row-index c.row-item.result (parts c.args.folder.now)
            (parts c.loop-row.folder) (parts w.write.new.folder) c.loop-row-test.true
            (sym c.row-item.is) i.same i.parts w.write.ensures.other_parts);
        prefix = grown (ap made w.folder-is ∙ w.in_ok-write.ensures.ok
            ∙ ap (λ x. made c.loop-row.folder ++ x) (sym (writing_is c.row-item.result (sym c.is_missing.ensures ∙ w.if-not-is_missing.true))));
      }
      | else-not-is_missing w ↦ record {
        same = ap g.F.Folder.first w.folder-is ∙ i.same;
        parts = stays c.if-not-is_missing.folder c.loop-row.folder w.folder-is i.parts;
        prefix = grown (ap made w.folder-is ∙ sym (append-nil (made c.loop-row.folder))
            ∙ ap (λ x. made c.loop-row.folder ++ x) (sym (writing_none c.row-item.result (sym c.is_missing.ensures ∙ w.if-not-is_missing.false))));
      }
    ]

pub returns-in_err-write-clause-other_parts : goal.returns-in_err-write-clause-other_parts
returns-in_err-write-clause-other_parts g c =
    step_stays (g.F.Folder.first c.args.folder.now) (g.F.Folder.first c.loop-row.folder) c.args.rows.now
    c.loop-row.row-index c.row-item.result (g.F.Folder.parts c.args.folder.now)
    (g.F.Folder.parts c.loop-row.folder) (g.F.Folder.parts c.write.new.folder) c.loop-row-test.true
    (sym c.row-item.is) c.loop-row.invariant.same c.loop-row.invariant.parts c.write.ensures.other_parts
