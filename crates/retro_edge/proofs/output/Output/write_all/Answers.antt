use Rattle.std.proofs.Common.{◌++◌, ◌≤◌, ◌∙◌, arith, length, take, drop, length-drop, subst}
use Rattle.std.proofs.Math.Seq.{take-add}
use Rattle.std.proofs.lemmas.List.{take_rest}
use Rattle.std.specs.Io.KnownBytes.{Appends}
use Rattle.std.proofs.KnownBytes.{Appends-trans}
use Rattle.retro_edge.proofs.output.Output.write_all.Goals as goal

pub loop-at-preserved : goal.loop-at-preserved
loop-at-preserved g c =
    let text = c.args.text.now in
    let at = c.loop-at.at in
    let n = c.in-Some.n in
    let bound : n ≤ length (drop at text) =
    subst (λ l. n ≤ length l) (take_rest text at) c.in-Some.ensures.bytes.bound in
    let both = Appends-trans _ _ _ _ _ c.loop-at.invariant.front c.in-Some.ensures.bytes.bytes in
    record {
      in_range = omega (arith, bound, length-drop at text, c.loop-at-test.true);
      front = rw (take-add at n text)
          (subst (λ l. Appends (g.W.Write.contents c.args.self.now.writer) (g.W.Write.contents c.write.new.self.writer)
          (take at text ++ take n l)) (take_rest text at) both);
      state = c.in-Some.ensures.ok ∙ c.loop-at.invariant.state;
    }
