use Rattle.std.proofs.Common.{sym, ◌∙◌, subst}
use Rattle.retro_tree.specs.Lawful.{IsLawfulTree}
use Rattle.retro_tree.proofs.tree.Tree.mark_lawful.Goals as goal

pub invariant_of-self : goal.invariant_of-self
invariant_of-self c = λ known. subst IsLawfulTree (sym (c.mark.ensures.value ∙ c.self.view_is)) c.requires
