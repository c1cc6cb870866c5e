use Rattle.std.proofs.Common.{ap, subst, Err, ◌∙◌, string_bytes}
use Rattle.retro_syntax.specs.Lines.{Meets}
use Rattle.retro_syntax.proofs.parsed.Parsed.refused.Goals as goal

pub returns-in-Err-clause-meets : goal.returns-in-Err-clause-meets
returns-in-Err-clause-meets c =
    let m = subst (Meets (string_bytes c.self.inside.text)) c.in-Err.is c.self.invariant.meets in
    (subst (λ t. Meets t (Err c.in-Err.why)) c.self.view_is m, λ e. c.self.invariant.answered (c.in-Err.is ∙ ap Err e))
