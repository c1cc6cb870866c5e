use Rattle.std.proofs.Common.{refl}
use Rattle.casebook_view.proofs.fate.fate_of_runs.Goals as goal

pub returns-then-has_another_result : goal.returns-then-has_another_result
returns-then-has_another_result c =
    (λ same. absurd (c.has_another_result.ensures.0 c.if-has_another_result.true same), λ other. refl)

pub returns-else-has_another_result : goal.returns-else-has_another_result
returns-else-has_another_result c =
    (λ same. refl, λ other. let is = c.has_another_result.ensures.1 other in cc)
