use Rattle.std.proofs.Common.{◌∙◌, ◌++◌, ap, map}
use Rattle.casebook_typed.specs.Observations.{notes_in}
use Rattle.casebook_typed.specs.Values.{change_value}
use Rattle.casebook_typed.specs.inner.Few.{change_here}
use Rattle.casebook_typed.proofs.Few.{all_seen}
use Rattle.casebook_typed.proofs.seen.seen_by.Goals as goal

pub returns : goal.returns
returns c =
    all_seen c.in_ok-few.few c.in_ok-named_sights.field-0 c.in_ok-after.after c.args.before.now (notes_in c.args.notes.now) c.in_ok-contents.contents
    (map change_value c.push_changes-2.new.changes.items) c.in_ok-seen.seen.read.items c.in_ok-seen.seen.listed.items
    c.in_ok-few.ensures c.in_ok-named_sights.ensures c.in_ok-after.ensures c.in_ok-contents.ensures
    (c.in_ok-push_changes-2.ensures
    ∙ ap (λ xs. xs ++ map (change_here c.in_ok-after.after c.in_ok-contents.contents) c.in_ok-seen.seen.gone.items) (c.in_ok-push_changes.ensures
    ∙ ap (λ xs. map change_value xs ++ map (change_here c.in_ok-after.after c.in_ok-contents.contents) c.in_ok-seen.seen.changed.items) c.new-changes.ensures.items)
    ∙ (λ i. map (change_here c.in_ok-after.after c.in_ok-contents.contents) (c.in_ok-seen.ensures.changed i)
    ++ map (change_here c.in_ok-after.after c.in_ok-contents.contents) (c.in_ok-seen.ensures.gone i)))
    c.in_ok-seen.ensures.read c.in_ok-seen.ensures.listed
