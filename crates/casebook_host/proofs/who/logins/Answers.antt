use Rattle.std.proofs.Common.{◌∙◌, [], ◌∷◌, ap, map, sym}
use Rattle.std.specs.Prelude.{option_map}
use Rattle.std.proofs.lemmas.List.{map-append}
use Rattle.casebook_host.specs.Logins.{login_of, logins_in}
use Rattle.casebook_host.specs.LoginViews.{login_value}
use Rattle.casebook_host.proofs.RowsSoFar.{all_said, row_says, row_says_nothing, text_at, words_say}
use Rattle.casebook_host.proofs.who.logins.Goals as goal
use Rattle.casebook_host.proofs.who.logins.Goals.{in-Some+in_ok-push, in_default}

pub loop-row-preserved : goal.loop-row-preserved
loop-row-preserved c =
    let l = c.loop-row in
    let rows = c.as_slice-row-items.result.now in
    let said = words_say login_of c.as_slice.result.now c.in_ok-words.words.items
    (text_at rows l.row-index) c.as_slice.ensures.value c.in_ok-words.ensures
    ∙ sym c.of.ensures in
    elim c.match-of.branch [
      | in-Some+in_ok-push w ↦
          rw (w.logins-is, w.in_ok-push.ensures.items)
          (map-append login_value l.logins.items (w.in-Some.login ∷ [])
          ∙ row_says login_of rows l.row-index (login_value w.in-Some.login)
          (map login_value l.logins.items) c.loop-row-test.true
          (said ∙ ap (option_map login_value) w.in-Some.is) l.invariant)
      | in_default w ↦
          rw w.logins-is
          (row_says_nothing login_of rows l.row-index (map login_value l.logins.items)
          c.loop-row-test.true (said ∙ ap (option_map login_value) w.in_default.is) l.invariant)
    ]

pub returns : goal.returns
unfolding logins_in
returns c =
    let rows = c.as_slice-row-items in
    c.loop-row.invariant
    ∙ all_said login_of rows.result.now c.in_ok-rows.rows.items c.loop-row.row-index _
    c.loop-row-test.false rows.ensures.value c.in_ok-rows.ensures
