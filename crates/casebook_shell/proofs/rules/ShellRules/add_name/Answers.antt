use Rattle.std.proofs.Common.{◌∙◌, ap}
use Rattle.std.specs.FinSet as set
use Rattle.retro_path.specs.Order.{text_cmp}
use Rattle.casebook_shell.specs.Rules.{with_name}
use Rattle.casebook_shell.proofs.Sets.{insert_key, names_of}
use Rattle.casebook_shell.proofs.rules.ShellRules.add_name.Goals as goal

pub returns-clause-ok : goal.returns-clause-ok
returns-clause-ok c =
    let before = c.self.inside.names in
    let more = insert_key before c.insert.new.self c.in_ok-key.key c.in_ok-insert.ensures.updates.0
    ∙ ap (set.insert (names_of before)) c.in_ok-key.ensures in
    ap (λ (s : set.FinSet text_cmp). record { names = s; is_usual = c.self.inside.is_usual }) more
    ∙ ap (with_name c.args.name.now) c.self.view_is
