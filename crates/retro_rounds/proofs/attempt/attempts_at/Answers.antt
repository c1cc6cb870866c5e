use Rattle.std.proofs.Common.{◌≡◌, ◌∙◌, ◌++◌, [], ◌∷◌, All, None, ap, arith, refl, subst, sym, take}
use Rattle.std.proofs.lemmas.List.{map-append, take_more}
use Rattle.std.proofs.lemmas.List.Elements.{All-push}
use Rattle.retro_rounds.specs.declared.attempt.Attempt.{Attempt}
use Rattle.retro_rounds.specs.inner.Attempts.{number_of, numbers_of}
use Rattle.retro_rounds.proofs.attempt.attempts_at.Goals as goal

pub loop-job-preserved : goal.loop-job-preserved
loop-job-preserved c =
    let i = c.loop-job.invariant in
    let before = c.loop-job.attempts.items in
    let jobs = c.args.jobs.now in
    let k = c.loop-job.job-index in
    let n = c.number.result in
    let one : Attempt = record { number = n; run = None } in
    let pushed = c.in_ok-push.ensures.items in (
      ap numbers_of pushed ∙ map-append number_of before (one ∷ [])
          ∙ ap (λ ns. ns ++ n ∷ []) i.0
          ∙ ap (λ m. take k jobs ++ m ∷ []) (c.number.ensures ∙ c.job-item.is)
          ∙ sym (take_more jobs k c.job-item.result (omega arith)),
      subst (All (λ (a : Attempt). a.run ≡ None)) (sym pushed)
          (All-push (λ (a : Attempt). a.run ≡ None) before one i.1 refl),
    )
