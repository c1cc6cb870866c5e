use Rattle.std.specs.BTreeMap.{values}
use Rattle.retro_tree.proofs.Results.{on_ok}
use Rattle.casebook_summary.proofs.GroupLemmas.{adds_first, adds_more}
use Rattle.casebook_summary.proofs.grouping.Gathered.add.Goals as goal

pub returns-then-branch-clause-one : goal.returns-then-branch-clause-one
returns-then-branch-clause-one c =
    let here = c.args.self.now in
    on_ok c.place.result _ _ (λ are notices before. adds_first notices c.args.notice.now here.lines c.add.new.self
    (values here.firsts) c.in_ok-add.ensures.each before c.in_ok-add.field-0 (values c.place.new.firsts)
    c.if-branch.true c.in_ok-add.ensures.first are) c.place.ensures.values

pub returns-clause-one : goal.returns-clause-one
returns-clause-one c =
    let here = c.args.self.now in
    λ notices before. adds_more notices c.args.notice.now here.lines c.add.new.self
    (values here.firsts) c.in_ok-add.ensures.each before c.in_ok-add.field-0 c.if-branch.false
    c.in_ok-add.ensures.first
