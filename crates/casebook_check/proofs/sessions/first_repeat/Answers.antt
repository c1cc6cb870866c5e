use Rattle.std.proofs.Common.{◌≡◌, ◌∙◌, Some, None, false, map, take, arith, sym}
use Rattle.std.proofs.lemmas.Grind.{common_steps}
use Rattle.retro_value.specs.Borrowed.{value_data}
use Rattle.casebook_check.specs.Items.{has_session, session_number}
use Rattle.casebook_check.proofs.First.{no_number, not_taken, repeat_on}
use Rattle.casebook_check.proofs.sessions.first_repeat.Goals as goal
use Rattle.casebook_check.proofs.sessions.first_repeat.Goals.{in-Some+else-contains+in_ok-insert, in_default}

pub loop-index-preserved : goal.loop-index-preserved
loop-index-preserved c =
    let before = map value_data (take c.loop-index.index c.args.rows.now) in
    let row = value_data c.index-rows-index.result in
    elim c.match-number_in.branch [
      | in-Some+else-contains+in_ok-insert w ↦
          let number : session_number row ≡ Some w.in-Some.sid = sym c.number_in.ensures ∙ w.in-Some.is in
          let none : has_session before w.in-Some.sid ≡ false =
          sym (c.loop-index.invariant.gathered w.in-Some.sid) ∙ sym w.contains.ensures ∙ w.if-contains.false in
          record {
            gathered = λ q. grind (arith, common_steps, c.loop-index.invariant.gathered q);
            sought = repeat_on value_data c.args.rows.now c.loop-index.index _ c.index-rows-index.result
                c.loop-index-test.true c.index-rows-index.is (not_taken before row w.in-Some.sid number none)
                c.loop-index.invariant.sought;
          }
      | in_default w ↦
          let number : session_number row ≡ None = sym c.number_in.ensures ∙ w.in_default.is in
          record {
            gathered = λ q. grind (arith, common_steps, c.loop-index.invariant.gathered q);
            sought = repeat_on value_data c.args.rows.now c.loop-index.index _ c.index-rows-index.result
                c.loop-index-test.true c.index-rows-index.is (no_number before row number) c.loop-index.invariant.sought;
          }
    ]
