use Rattle.casebook_case.proofs.Made.{one_more}
use Rattle.casebook_case.proofs.importing.kept_of.Goals as goal

-- src/importing.rt:57:5
pub loop-digest-preserved-in-Continue-branch-3 : goal.loop-digest-preserved-in-Continue-branch-3
loop-digest-preserved-in-Continue-branch-3 g c =
    let kept = rw c.in-Some-2.is at c.in_ok-bytes.ensures in
    one_more (g.S.SpoolSource.holds c.args.source.now) c.loop-digest.all.items c.push.new.self.items
    c.in-Some-2.bytes c.in-Some.digest.now c.in_ok-push.ensures.items kept
    c.loop-digest.invariant
