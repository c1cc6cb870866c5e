use Rattle.std.proofs.Common.{◌≡◌, ◌+◌, ◌<◌, ◌∙◌, ℕ, [], ◌∷◌, ◌++◌, MatchBool, add-one}
use Rattle.std.proofs.Common.{append-nil}
use Rattle.std.proofs.Common.{append_assoc, ap, arith, drop, drop-cons, get_or, inl, inr, length}
use Rattle.std.proofs.Common.{refl, subst, sym}
use Rattle.std.proofs.Common.{vec_capacity, vec_len}
use Rattle.std.proofs.lemmas.List.{drop_all}
use Rattle.retro_redo.specs.Picks.{PicksBy}
use Rattle.retro_pool.specs.Jobs.{IsWanted}
use Rattle.retro_pool.proofs.jobs.make_jobs.Goals as goal
use Rattle.retro_pool.proofs.jobs.make_jobs.Goals.{then-wanted+in-Ok-push, else-wanted}

pub loop-number-preserved : goal.loop-number-preserved
loop-number-preserved c =
    let i = c.loop-number.invariant in
    let g = c.args.ground.now in
    let ns = c.args.numbers.now in
    let k = c.loop-number.number-index in
    let n : ℕ = get_or ns k 0 in
    let less : k < length ns = c.loop-number-test.true in
    let here : drop k ns ≡ n ∷ drop (k + 1) ns = rw (add-one, drop-cons ns k 0) refl in
    elim c.if-wanted.branch [
      | then-wanted+in-Ok-push w ↦ record {
        picked = λ later h.
            let wanted : IsWanted g n =
            subst (λ b. MatchBool b (IsWanted g n) (¬ (IsWanted g n))) w.if-wanted.true c.in-Ok.ensures in
            let more : PicksBy (λ m. m) (IsWanted g) ns (c.loop-number.jobs.items ++ n ∷ later) =
            i.picked (n ∷ later) (subst (λ ms. PicksBy (λ m. m) (IsWanted g) ms (n ∷ later)) (sym here)
            (inl (wanted, later, refl, h))) in
            let pushed : c.if-wanted.jobs.items ≡ c.loop-number.jobs.items ++ n ∷ [] =
            ap (λ v. v.items) w.jobs-is ∙ (w.in-Ok-push.ensures.items
            ∙ ap (λ m. c.loop-number.jobs.items ++ m ∷ []) w.new.ensures) in
            subst (PicksBy (λ m. m) (IsWanted g) ns)
            (sym (ap (λ js. js ++ later) pushed ∙ append_assoc c.loop-number.jobs.items (n ∷ []) later)) more;
        few = omega (arith, ap vec_len w.jobs-is, w.in-Ok-push.ensures.len, i.few);
        room = omega (arith, ap vec_capacity w.jobs-is, w.push.ensures.capacity, i.room);
      }
      | else-wanted w ↦ record {
        picked = λ later h.
            let other : ¬ (IsWanted g n) =
            subst (λ b. MatchBool b (IsWanted g n) (¬ (IsWanted g n))) w.if-wanted.false c.in-Ok.ensures in
            subst (λ v. PicksBy (λ m. m) (IsWanted g) ns (v.items ++ later)) (sym w.jobs-is)
            (i.picked later (subst (λ ms. PicksBy (λ m. m) (IsWanted g) ms later) (sym here) (inr (other, h))));
        few = omega (arith, ap vec_len w.jobs-is, i.few);
        room = omega (arith, ap vec_capacity w.jobs-is, i.room);
      }
    ]

pub returns : goal.returns
returns c =
    let ns = c.args.numbers.now in
    let jobs = c.loop-number.jobs.items in
    let none : drop c.loop-number.number-index ns ≡ [] =
    drop_all c.loop-number.number-index ns c.loop-number-test.false in
    subst (PicksBy (λ m. m) (IsWanted c.args.ground.now) ns) (append-nil jobs)
    (c.loop-number.invariant.picked [] (subst (λ ms. PicksBy (λ m. m) (IsWanted c.args.ground.now) ms [])
    (sym none) refl))
