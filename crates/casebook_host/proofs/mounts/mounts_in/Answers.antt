use Rattle.std.proofs.Common.{◌∙◌, sym}
use Rattle.casebook_host.specs.Mounts.{mount_of, mounts_in}
use Rattle.casebook_host.proofs.RowsSoFar.{all_said, row_says, row_says_nothing, text_at, words_say}
use Rattle.casebook_host.proofs.mounts.mounts_in.Goals as goal
use Rattle.casebook_host.proofs.mounts.mounts_in.Goals.{in-Some+in_ok-push, in_default}

pub loop-row-preserved : goal.loop-row-preserved
loop-row-preserved c =
    let l = c.loop-row in
    let rows = c.as_slice-row-items.result.now in
    let said = words_say mount_of c.as_slice.result.now c.in_ok-words.words.items
    (text_at rows l.row-index) c.as_slice.ensures.value c.in_ok-words.ensures
    ∙ sym c.in_ok-mount.ensures in
    elim c.match-branch-4.branch [
      | in-Some+in_ok-push w ↦
          rw (w.mounts-is, w.in_ok-push.ensures.items)
          (row_says mount_of rows l.row-index w.in-Some.mount l.mounts.items
          c.loop-row-test.true (said ∙ w.in-Some.is) l.invariant)
      | in_default w ↦
          rw w.mounts-is
          (row_says_nothing mount_of rows l.row-index l.mounts.items c.loop-row-test.true
          (said ∙ w.in_default.is) l.invariant)
    ]

pub returns : goal.returns
unfolding mounts_in
returns c =
    let rows = c.as_slice-row-items in
    c.loop-row.invariant
    ∙ all_said mount_of rows.result.now c.in_ok-rows.rows.items c.loop-row.row-index _
    c.loop-row-test.false rows.ensures.value c.in_ok-rows.ensures
