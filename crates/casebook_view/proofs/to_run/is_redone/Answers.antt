use Rattle.retro_redo.specs.Repair.{numbers_with}
use Rattle.retro_redo.specs.declared.verdict.Verdict.TheVariants.{Redone}
use Rattle.casebook_view.proofs.to_run.is_redone.Goals as goal

pub returns : goal.returns
returns c are = c.has.ensures (numbers_with Redone c.args.case.now.repair.lines.items) are
