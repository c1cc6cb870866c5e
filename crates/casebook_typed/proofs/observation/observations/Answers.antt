use Rattle.std.proofs.Common.{arith, map}
use Rattle.std.proofs.lemmas.List.{map-append}
use Rattle.casebook_typed.specs.Seeing.{observed}
use Rattle.casebook_typed.proofs.Splitting.{a_note, a_record, no_more}
use Rattle.casebook_typed.proofs.observation.observations.Goals as goal
use Rattle.casebook_typed.proofs.observation.observations.Goals.{in-Record+in_ok-push, in_default}

pub loop-index-preserved : goal.loop-index-preserved
loop-index-preserved c =
    elim c.match-item.branch [
      | in-Record+in_ok-push w ↦ record {
        ordered = omega arith;
        split = rw (w.all-is, w.from-is, w.in_ok-push.ensures.items, map-append) (a_record (map observed c.loop-index.all.items) _
            c.args.items.now c.loop-index.from c.loop-index.index _ _ c.loop-index.invariant.ordered c.loop-index-test.true
            c.index-items-index.is w.in-Record.is c.loop-index.invariant.split);
      }
      | in_default w ↦ record {
        ordered = omega arith;
        split = rw (w.all-is, w.from-is) (a_note (map observed c.loop-index.all.items) _
            c.args.items.now c.loop-index.from c.loop-index.index _ _ c.loop-index.invariant.ordered c.loop-index-test.true
            c.index-items-index.is w.in_default.is c.loop-index.invariant.split);
      }
    ]

pub returns : goal.returns
returns c =
    no_more (map observed c.loop-index.all.items) _ c.args.items.now c.loop-index.from c.loop-index.index
    c.loop-index-test.false c.loop-index.invariant.split
