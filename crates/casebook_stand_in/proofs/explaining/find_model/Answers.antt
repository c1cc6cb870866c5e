use Rattle.std.proofs.Common.{◌≡◌, [], ◌∷◌, length, map, refl, sym, ◌∙◌}
use Rattle.std.proofs.lemmas.Bool.{le-leb}
use Rattle.casebook_stand_in.specs.Texts.{text_in}
use Rattle.casebook_stand_in.proofs.Leading.{trial_texts}
use Rattle.casebook_stand_in.proofs.explaining.find_model.Goals as goal

pub returns-in-Ok-clause-exact : goal.returns-in-Ok-clause-exact
returns-in-Ok-clause-exact c =
    let texts : map text_in c.in-Ok.trial.runs.items ≡ c.args.text.now ∷ []
    = cc (c.in-Ok.ensures.texts, c.of-typed.ensures, c.in_ok-from_str.ensures.ok) in (
      λ _. record {
        short = le-leb (length c.args.text.now) 4096 c.if-text-gt-LONGEST_LINE.false;
        gives = sym (trial_texts c.args.effect.now.sid c.args.state.now c.in-Ok.trial.runs.items c.in-Ok.trial.cells
            (c.args.text.now ∷ []) c.in-Ok.ensures.trial texts) ∙ c.in-Ok.ensures.observed;
      },
      λ _. refl,
    )
