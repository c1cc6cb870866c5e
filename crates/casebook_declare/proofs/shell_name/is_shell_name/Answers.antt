use Rattle.std.proofs.Common.{rules}
use Rattle.casebook_declare.proofs.Names.{odd_name}
use Rattle.casebook_declare.proofs.shell_name.is_shell_name.Goals as goal

pub returns-in-Err : goal.returns-in-Err
returns-in-Err c = odd_name c.args.bytes.now (search rules)
