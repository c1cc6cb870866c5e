use Rattle.std.proofs.Common.{◌≡◌, Some, refl, rules, subst, sym}
use Rattle.std.proofs.Math.Seq.{map-set_same}
use Rattle.std.proofs.lemmas.Cmp.{ranked}
use Rattle.std.proofs.lemmas.List.Elements.{All-set}
use Rattle.std.proofs.lemmas.List.Sorted.{answers_always}
use Rattle.retro_keep.specs.Recording.{noted_at}
use Rattle.retro_redo.specs.Settling.{IsGuessOf}
use Rattle.retro_rounds.specs.inner.Attempts.{IsAttempt, number_of}
use Rattle.retro_rounds.proofs.attempt.give.Goals as goal

pub returns-in-Ok-clause-numbers : goal.returns-in-Ok-clause-numbers
returns-in-Ok-clause-numbers c =
    map-set_same number_of c.args.attempts.now c.in-Ok.place _ c.index-attempts-place.result refl

-- the attempt that is found has the guess's number
pub returns-in-Ok-clause-right : goal.returns-in-Ok-clause-right
returns-in-Ok-clause-right c = λ edit r guess before.
    let found = c.in-Ok.ensures.position number_of (answers_always _ _ _ (λ f a r g called. search rules)) in
    let same = ranked _ c.args.guess.number _ (sym (found c.index-attempts-place.result)) in
    All-set (IsAttempt edit r) c.args.attempts.now c.in-Ok.place _
    (λ noted at. subst (λ n. IsGuessOf edit (n, noted) (Some c.args.guess.run)) (sym same)
    (guess noted (subst (λ n. noted_at n r.lines ≡ Some noted) same at))) before
