use Rattle.std.proofs.Common.{◌∙◌, sym, ap, take, arith}
use Rattle.std.proofs.lemmas.Bool.{eq-eqb, ne_eqb}
use Rattle.std.proofs.lemmas.List.{take_more}
use Rattle.casebook_needs.specs.Named.{up_to_slash}
use Rattle.casebook_needs.proofs.Slashes.{other_more, slash_more}
use Rattle.casebook_needs.proofs.named.up_to_slash.Goals as goal
use Rattle.casebook_needs.proofs.named.up_to_slash.Goals.{else-byte-eq47, then-byte-eq47}

pub loop-index-preserved : goal.loop-index-preserved
loop-index-preserved c =
    let more = take_more c.args.text.now c.loop-index.index 0 (omega arith) in
    elim c.if-byte-eq47.branch [
      | then-byte-eq47 w ↦ record {
        within = omega arith;
        so_far = ap (λ n. take n c.args.text.now) w.end-is ∙ more
            ∙ sym (slash_more (take c.loop-index.index c.args.text.now) _
            (eq-eqb _ _ w.if-byte-eq47.true))
            ∙ ap up_to_slash (sym more);
      }
      | else-byte-eq47 w ↦ record {
        within = omega arith;
        so_far = ap (λ n. take n c.args.text.now) w.end-is ∙ c.loop-index.invariant.so_far
            ∙ sym (other_more (take c.loop-index.index c.args.text.now) _
            (ne_eqb _ _ w.if-byte-eq47.false))
            ∙ ap up_to_slash (sym more);
      }
    ]
