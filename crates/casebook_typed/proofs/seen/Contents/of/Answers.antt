use Rattle.std.proofs.Common.{◌∙◌, ap, sym}
use Rattle.std.specs.Prelude.{option_map}
use Rattle.casebook_typed.specs.inner.Few.{content_of, or_here}
use Rattle.casebook_typed.proofs.NotesSoFar.{next_holds, next_plain}
use Rattle.casebook_typed.proofs.seen.Contents.of.Goals as goal
use Rattle.casebook_typed.proofs.seen.Contents.of.Goals.{in-Some+in_ok-add, in_default}

pub loop-item-preserved : goal.loop-item-preserved
loop-item-preserved c =
    elim c.match-holds_of.branch [
      | in-Some+in_ok-add w ↦ λ p.
          ap (λ a. content_of a p) w.all-is ∙ w.in_ok-add.ensures p
          ∙ ap (λ o. or_here o p w.in-Some.holds.now.path w.in-Some.holds.now.content) (c.loop-item.invariant p)
          ∙ next_holds c.args.items.now c.loop-item.item-index c.item-item.result c.item-item.result w.in-Some.holds.now c.loop-item-test.true c.item-item.is
          (sym c.holds_of.ensures ∙ ap (option_map (λ h. h.now)) w.in-Some.is) p
      | in_default w ↦ λ p.
          ap (λ a. content_of a p) w.all-is ∙ c.loop-item.invariant p
          ∙ next_plain c.args.items.now c.loop-item.item-index c.item-item.result c.item-item.result c.loop-item-test.true c.item-item.is
          (sym c.holds_of.ensures ∙ ap (option_map (λ h. h.now)) w.in_default.is) p
    ]
