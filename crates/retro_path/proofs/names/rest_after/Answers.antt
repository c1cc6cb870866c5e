use Rattle.std.proofs.Common.{sym, ◌∙◌}
use Rattle.retro_path.proofs.StripPrefix.{is_prefix, no_prefix, cut_name, prefix_found}
use Rattle.retro_path.proofs.names.rest_after.Goals as goal

pub returns-then-is_at_slash : goal.returns-then-is_at_slash
returns-then-is_at_slash c = is_prefix _ _ _ c.requires.text c.requires.prefix
    (prefix_found _ _ _ c.in-Some.ensures.cases) (sym c.is_at_slash.ensures ∙ c.if-is_at_slash.true)

pub returns-else-is_at_slash : goal.returns-else-is_at_slash
returns-else-is_at_slash c = cut_name _ _ _ c.requires.text c.requires.prefix
    (prefix_found _ _ _ c.in-Some.ensures.cases) (sym c.is_at_slash.ensures ∙ c.if-is_at_slash.false)

pub returns-in-None : goal.returns-in-None
returns-in-None c = no_prefix _ _ c.requires.text c.requires.prefix c.in-None.ensures.cases
