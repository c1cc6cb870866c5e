use Rattle.std.proofs.Common.{None, Some, ap, rules}
use Rattle.std.specs.Prelude.{if◌then◌else◌}
use Rattle.casebook_declare.specs.Rows.{shell_name_of}
use Rattle.casebook_declare.proofs.Names.{odd_name}
use Rattle.casebook_declare.proofs.shell_name.ShellName.of.Goals as goal

pub returns-in_default : goal.returns-in_default
unfolding shell_name_of
returns-in_default c =
    ap (λ b. if b then Some c.args.bytes.now else None) (odd_name c.args.bytes.now (search rules))
