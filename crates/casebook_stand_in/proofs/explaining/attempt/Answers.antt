use Rattle.std.proofs.Common.{◌≡◌, ◌≢◌, subst}
use Rattle.std.specs.Option.{MatchOption}
use Rattle.retro_tree.specs.Cell.{value}
use Rattle.retro_tree.specs.Commit.{committed}
use Rattle.casebook_stand_in.specs.Effect.{observed}
use Rattle.casebook_stand_in.specs.Texts.{after_texts}
use Rattle.casebook_stand_in.proofs.Leading.{unlike_texts}
use Rattle.casebook_stand_in.proofs.explaining.attempt.Goals as goal

pub returns-in-Some-clause-unlike : goal.returns-in-Some-clause-unlike
returns-in-Some-clause-unlike c =
    let s = c.args.state.now in
    let t = observed c.args.effect.now s in
    let now = committed c.in_ok-trial.trial.cells s in
    let unlike : value c.in-Some.cell now ≢ value c.in-Some.cell t
    = subst (λ o. MatchOption o (now ≡ t) (λ k. value k now ≢ value k t)) c.in-Some.is c.in_ok-cell.ensures in
    subst (λ k. value c.in-Some.cell (after_texts k c.args.texts.now s) ≢ value c.in-Some.cell t) c.sid.ensures.value
    (unlike_texts c.sid.result s t c.in_ok-trial.trial.runs.items c.in_ok-trial.trial.cells c.args.texts.now
    c.in-Some.cell c.in_ok-trial.ensures.trial c.in_ok-trial.ensures.texts unlike)
