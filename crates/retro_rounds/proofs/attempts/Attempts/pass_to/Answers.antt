use Rattle.std.proofs.Common.{List, [], ◌∷◌, ◌++◌, ◌∙◌, ap, sym, append_assoc}
use Rattle.std.specs.List.{AllByRecursion}
use Rattle.retro_rounds.proofs.attempts.Attempts.pass_to.Goals as goal

all_more : {A : Type 0} (P : A → Type 0) (xs : List A) (x : A) → AllByRecursion P xs → P x
    → AllByRecursion P (xs ++ x ∷ [])
all_more P [] x h p = (p, tt)
all_more P (y ∷ xs) x h p = (h.0, all_more P xs x h.1 p)

pub loop-passed-preserved-in-Some : goal.loop-passed-preserved-in-Some
loop-passed-preserved-in-Some c =
    let before = c.loop-passed.invariant in (
      before.0 ++ c.in-Some._passed ∷ [],
      before.1 ∙ ap (λ xs. before.0 ++ xs) c.in-Some.ensures.0 ∙ sym (append_assoc before.0 _ _),
      all_more _ before.0 c.in-Some._passed before.2 c.in-Some.ensures.1,
    )

pub loop-passed-preserved : goal.loop-passed-preserved
loop-passed-preserved c =
    let before = c.loop-passed.invariant in (
      before.0 ++ c.in-Some._passed ∷ [],
      before.1 ∙ ap (λ xs. before.0 ++ xs) c.in-Some.ensures.0 ∙ sym (append_assoc before.0 _ _),
      all_more _ before.0 c.in-Some._passed before.2 c.in-Some.ensures.1,
    )
