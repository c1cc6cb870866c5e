use Rattle.std.proofs.Common.{ap, ◌∙◌, ◌+◌, ◌++◌, ◌∷◌, [], arith, inl, inr, drop, get_or, nat_le, refl, ℕ, List}
use Rattle.std.proofs.lemmas.List.{take_rest}
use Rattle.retro_history.specs.inner.Numbers.{union}
use Rattle.retro_history.proofs.Unions.{at_most_one, merge_ends, merge_goes_on}
use Rattle.retro_history.proofs.rising.merge.Goals as goal
use Rattle.retro_history.proofs.rising.merge.Goals.{then-loop-i-test+else-j-two, else-loop-i-test}

pub loop-i-preserved : goal.loop-i-preserved
loop-i-preserved c =
    let xs = c.args.one.now in
    let ys = c.args.two.now in
    let so_far = c.loop-i.merged.items in
    let x = get_or xs c.loop-i.i 0 in
    let y = get_or ys c.loop-i.j 0 in
    let by_one = at_most_one (nat_le x y) in
    let by_two = at_most_one (nat_le y x) in
    record {
      in_one = omega (arith, by_one, c.from-i.ensures, c.loop-i-test.true);
      in_two = omega (arith, by_two, c.from-j.ensures, c.if-j-two.true);
      merged = ap (λ (ns : List ℕ). ns ++ union (drop (c.loop-i.i + c.from-i.result) xs)
          (drop (c.loop-i.j + c.from-j.result) ys)) c.in_ok-push.ensures.items
          ∙ (λ e. (so_far ++ c.min.ensures e ∷ []) ++ union (drop (c.loop-i.i + c.from-i.ensures e) xs)
          (drop (c.loop-i.j + c.from-j.ensures e) ys))
          ∙ merge_goes_on xs ys so_far (union xs ys) c.loop-i.i c.loop-i.j x y c.requires.one c.requires.two
          c.loop-i-test.true c.if-j-two.true refl refl c.loop-i.invariant.merged;
    }

pub returns : goal.returns
returns c =
    let xs = c.args.one.now in
    let ys = c.args.two.now in
    let so_far = c.loop-i.merged.items in
    c.in_ok-extend_from_slice-2.ensures.items
    ∙ (λ e. c.in_ok-extend_from_slice.ensures.items e ++ take_rest ys c.loop-i.j e)
    ∙ ap (λ ns. (so_far ++ ns) ++ drop c.loop-i.j ys) (take_rest xs c.loop-i.i)
    ∙ merge_ends xs ys so_far (union xs ys) c.loop-i.i c.loop-i.j
    (elim c.loop-i-test.branch [
      | then-loop-i-test+else-j-two w ↦ inr w.if-j-two.false
      | else-loop-i-test w ↦ inl w.loop-i-test.false
    ]) c.loop-i.invariant.merged
