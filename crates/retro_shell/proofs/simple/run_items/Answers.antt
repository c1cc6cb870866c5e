-- A command whose fields are over the limit.
use Rattle.std.proofs.Common.{rules, ◌≡◌, false, map}
use Rattle.std.specs.Prelude.{string_bytes}
use Rattle.retro_syntax.specs.View.{item_view}
use Rattle.retro_shell.specs.Fields.{fields_fit}
use Rattle.retro_shell.proofs.Refused.{over_limit}
use Rattle.retro_shell.proofs.simple.run_items.Goals as goal

pub returns-then-not-fields_fit-clause-means : goal.returns-then-not-fields_fit-clause-means
returns-then-not-fields_fit-clause-means g c =
    let over : fields_fit (map string_bytes c.in_ok-fields.fields.items) ≡ false = search rules in
    over_limit _ _ _ _ (map item_view c.args.items.now) c.args.input _ _ c.in_ok-fields.ensures.means over
    c.in_ok-refusal.ensures
