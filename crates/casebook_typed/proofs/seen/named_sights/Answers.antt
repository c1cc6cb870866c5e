use Rattle.std.specs.FinMap as finmap
use Rattle.std.proofs.Common.{◌∙◌, sym, ap}
use Rattle.std.specs.Option.{option_copied}
use Rattle.std.specs.Prelude.{option_map}
use Rattle.retro_path.specs.Order.{path_cmp}
use Rattle.casebook_typed.proofs.NotesSoFar.{next_missing, next_named, next_unnamed}
use Rattle.casebook_typed.proofs.seen.named_sights.Goals as goal
use Rattle.casebook_typed.proofs.seen.named_sights.Goals.{in-Some+in-Some-get+in_ok-copy+in_ok-insert, in-Some+in_default-get, in_default}

pub loop-item-init : goal.loop-item-init
loop-item-init c = λ p. ap (λ m. finmap.get m p) c.new-few.ensures ∙ finmap.get-empty path_cmp p

pub loop-item-preserved : goal.loop-item-preserved
loop-item-preserved c =
    elim c.match-change_of.branch [
      | in-Some+in-Some-get+in_ok-copy+in_ok-insert w ↦
          next_named c.loop-item.few c.match-change_of.few c.args.sights.now c.args.items.now c.loop-item.item-index
          c.item-item.result c.item-item.result w.in-Some.change.now w.in-Some-get.sight.now c.loop-item-test.true c.item-item.is
          (sym c.change_of.ensures ∙ ap (option_map (λ h. h.now)) w.in-Some.is)
          (sym w.get.ensures ∙ ap option_copied w.in-Some-get.is)
          (w.few-is ∙ w.in_ok-insert.ensures.ok ∙ ap (λ k. finmap.insert c.loop-item.few k w.in-Some-get.sight.now) w.in_ok-copy.ensures)
          c.loop-item.invariant
      | in-Some+in_default-get w ↦
          next_missing c.loop-item.few c.match-change_of.few c.args.sights.now c.args.items.now c.loop-item.item-index
          c.item-item.result c.item-item.result w.in-Some.change.now c.loop-item-test.true c.item-item.is
          (sym c.change_of.ensures ∙ ap (option_map (λ h. h.now)) w.in-Some.is)
          (sym w.get.ensures ∙ ap option_copied w.in_default-get.is) w.few-is c.loop-item.invariant
      | in_default w ↦
          next_unnamed c.loop-item.few c.match-change_of.few c.args.sights.now c.args.items.now c.loop-item.item-index
          c.item-item.result c.item-item.result c.loop-item-test.true c.item-item.is
          (sym c.change_of.ensures ∙ ap (option_map (λ h. h.now)) w.in_default.is) w.few-is c.loop-item.invariant
    ]
