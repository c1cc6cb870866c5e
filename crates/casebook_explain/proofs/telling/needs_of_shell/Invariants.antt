-- The needs so far, and those of the ones that are left.
use Rattle.std.proofs.Common.{◌≡◌, ◌++◌}
use Rattle.std.specs.Prelude.{filter}
use Rattle.casebook_explain.specs.Places.{shell_path}
use Rattle.casebook_explain.specs.Told.{asks_file}
use Rattle.casebook_explain.proofs.telling.needs_of_shell.Given as goal

abbrev pub invariant-loop-need : goal.invariant-loop-need
invariant-loop-need l =
    l.of_file.items
    ++ filter (λ need. asks_file (shell_path l.session) need.ask) l.need-iterator.rest.items
    ≡ filter (λ need. asks_file (shell_path l.session) need.ask) l.fn.needs.items
