use Rattle.retro_redo.proofs.NextLines.{found_is, is_found}
use Rattle.retro_redo.proofs.repairer.Repairer.line_at.Goals as goal

pub unwrap-requires : goal.unwrap-requires
unwrap-requires c = is_found c.args.self.now c.args.number c.next_line.result c.next_line.ensures c.requires

pub returns : goal.returns
returns c = found_is c.args.self.now c.next_line.result c.unwrap.result c.next_line.ensures c.unwrap.ensures
