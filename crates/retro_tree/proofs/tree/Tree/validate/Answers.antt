use Rattle.std.proofs.Common.{sym, ◌∙◌, subst}
use Rattle.retro_tree.specs.Lawful.{IsLawfulTree}
use Rattle.retro_tree.proofs.WholeLaw.{tree_from_test, tree_exact}
use Rattle.retro_tree.proofs.tree.Tree.validate.Goals as goal

pub invariant_of-self : goal.invariant_of-self
invariant_of-self c =
    λ passes. subst IsLawfulTree (sym (c.mark.ensures.value ∙ c.self.view_is))
    (tree_from_test c.args.self.now (sym c.in_ok-lawful.ensures ∙ sym c.mark.ensures.known ∙ passes))

pub returns-clause-exact : goal.returns-clause-exact
returns-clause-exact c = tree_exact c.in_ok-lawful.lawful c.args.self.now c.in_ok-lawful.ensures
