use Rattle.std.proofs.Common.{sym, ◌∙◌, subst}
use Rattle.retro_tree.specs.Limits.{AreLawfulSessions}
use Rattle.retro_tree.proofs.WholeLaw.{sessions_from_test, sessions_exact}
use Rattle.retro_tree.proofs.sessions.Sessions.validate.Goals as goal

pub invariant_of-self : goal.invariant_of-self
invariant_of-self c =
    λ passes. subst AreLawfulSessions (sym (c.mark.ensures.value ∙ c.self.view_is))
    (sessions_from_test c.args.self.now (sym c.are_lawful-lawful.ensures ∙ sym c.mark.ensures.known ∙ passes))

pub returns-clause-exact : goal.returns-clause-exact
returns-clause-exact c = sessions_exact c.are_lawful-lawful.result c.args.self.now c.are_lawful-lawful.ensures
