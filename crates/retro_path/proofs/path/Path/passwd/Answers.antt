use Rattle.std.proofs.Common.{sym, subst, ap, ◌∙◌}
use Rattle.retro_path.specs.inner.PathText.{names_in, IsPathText}
use Rattle.retro_path.proofs.Known.{passwd_names, passwd_is}
use Rattle.retro_path.proofs.path.Path.passwd.Goals as goal

pub invariant_of-result : goal.invariant_of-result
invariant_of-result c = subst IsPathText (sym c.in_ok-from_str.ensures.ok) passwd_is

pub returns : goal.returns
returns c = ap names_in c.in_ok-from_str.ensures.ok ∙ passwd_names
