use Rattle.std.proofs.Common.{rules, sym}
use Rattle.casebook_needs.proofs.Names.{odd_name}
use Rattle.casebook_needs.proofs.variables.variable_after.Goals as goal

pub returns-in-Err : goal.returns-in-Err
returns-in-Err c = sym (odd_name c.args.part.now (search rules))
