use Rattle.std.proofs.Common.{◌≡◌, [], ◌∷◌, ap, map, subst, sym, ◌∙◌}
use Rattle.std.specs.Option.{IfSome, option_copied}
use Rattle.casebook_stand_in.specs.Texts.{text_in}
use Rattle.casebook_stand_in.proofs.explaining.explain.Goals as goal

pub returns-in-Some-2-clause-typed : goal.returns-in-Some-2-clause-typed
returns-in-Some-2-clause-typed c =
    let texts : map text_in c.in-Some-2.model.runs.items ≡ c.in-Some.text.now ∷ []
    = subst (λ o. IfSome o (λ trial. map text_in trial.runs.items ≡ c.in-Some.text.now ∷ [])) c.in-Some-2.is
    c.in_ok-model.ensures.texts in
    λ _. subst (λ o. IfSome (option_copied o) (λ text. map text_in c.in_ok-accept.field-0.runs.items ≡ text ∷ []))
    (sym c.in-Some.is) (ap (map text_in) c.in_ok-accept.ensures.runs ∙ texts)
