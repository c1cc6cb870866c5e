use Rattle.std.proofs.Common.{◌≡◌, ◌∙◌, ◌⊎◌, ◌∷◌, ◌+◌, List, ap, drop, inl, inr, subst, true}
use Rattle.retro_tree.specs.Notes.{changes}
use Rattle.retro_tree.specs.declared.cell.Cell.{Cell}
use Rattle.retro_tree.specs.declared.change.Change.{Change}
use Rattle.retro_tree.specs.declared.note.Note.{Note}
use Rattle.retro_tree.specs.declared.note.Note.TheVariants.{Made}
use Rattle.retro_difference.specs.NextUses.{has_cell}
use Rattle.retro_difference.proofs.CellLoops.{change_done, no_change, note_at, pushed_old}
use Rattle.retro_difference.proofs.next_uses.with_changed.Goals as goal
use Rattle.retro_difference.proofs.next_uses.with_changed.Goals.{in-Made+in_ok-to_cell+in_ok-push, in_default}

kept : (d : Cell) (note : Note) (notes rest : List Note) (cells : List Cell) → notes ≡ note ∷ rest
    → ((change : Change) → note ≡ Made change → ⊥) → (has_cell d cells ≡ true) ⊎ (changes notes d ≡ true)
    → (has_cell d cells ≡ true) ⊎ (changes rest d ≡ true)
kept d note notes rest cells is other (inl h) = inl h
kept d note notes rest cells is other (inr h) = inr (no_change d note notes rest is other h)

pub loop-note-preserved : goal.loop-note-preserved
loop-note-preserved c =
    let notes = c.args.notes.now in
    let i = c.loop-note.note-index in
    let old = c.loop-note.all.items in
    let rest = drop (i + 1) notes in
    let here = subst (λ (ns : List Note). drop i ns ≡ c.note-item.result ∷ drop (i + 1) ns)
    c.as_slice-note-items.ensures
    (note_at c.as_slice-note-items.result.now i c.note-item.result c.loop-note-test.true c.note-item.is) in
    elim c.match-note.branch [
      | in-Made+in_ok-to_cell+in_ok-push w ↦ rw w.all-is (record {
        kept = λ d has.
            ap (has_cell d) w.in_ok-push.ensures.items
            ∙ pushed_old d old w.in_ok-to_cell.field-0 (c.loop-note.invariant.kept d has);
        changed = λ d has.
            change_done d w.in-Made.change (drop i notes) rest old w.push.new.self.items w.in_ok-to_cell.field-0
            (subst (λ (n : Note). drop i notes ≡ n ∷ rest) w.in-Made.is here) (w.in_ok-to_cell.ensures ∙ w.cell.ensures)
            w.in_ok-push.ensures.items (c.loop-note.invariant.changed d has);
      })
      | in_default w ↦ rw w.all-is (record {
        kept = λ d has. c.loop-note.invariant.kept d has;
        changed = λ d has.
            kept d c.note-item.result (drop i notes) rest old here w.in_default.not-Made
            (c.loop-note.invariant.changed d has);
      })
    ]
