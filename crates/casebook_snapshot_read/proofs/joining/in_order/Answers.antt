use Rattle.std.proofs.Common.{◌≡◌, ◌∙◌, List, [], ◌∷◌, ◌++◌, ap, arith, sym, subst, append_assoc, append-nil}
use Rattle.std.proofs.lemmas.List.{nil_from_length}
use Rattle.std.specs.Vec.Iter.{into_iter_items}
use Rattle.retro_path.specs.Path.{PathValue}
use Rattle.casebook_snapshot.specs.declared.item.Row.{Row}
use Rattle.casebook_snapshot_read.specs.Joined.{AreInOrder}
use Rattle.casebook_snapshot_read.proofs.Ordered.{insert_last}
use Rattle.casebook_snapshot_read.proofs.joining.in_order.Goals as goal

pub loop-path-preserved : goal.loop-path-preserved
loop-path-preserved c =
    let path = c.in-Some.path in
    let row = c.in-Some.row in
    let done = c.loop-path.map.entries in
    let rest = into_iter_items c.next.new.self in
    let whole : done ++ (path, row) ∷ rest ≡ c.args.rows.items =
    ap (λ (es : List (PathValue × Row)). done ++ es) (sym c.in-Some.ensures.steps.0) ∙ c.loop-path.invariant.2 in
    let last = insert_last done path row rest (subst AreInOrder (sym whole) c.requires) in (
      tt,
      tt,
      ap (λ (es : List (PathValue × Row)). es ++ rest) (c.in_ok-insert_row.ensures ∙ last)
          ∙ append_assoc done ((path, row) ∷ []) rest ∙ whole,
    )

pub returns : goal.returns
returns c =
    let none =
    nil_from_length (into_iter_items c.loop-path.path-iterator)
    (omega (arith, c.loop-path.path-iterator.rest.ok, c.in-None.ensures)) in
    sym (append-nil c.loop-path.map.entries)
    ∙ ap (λ (es : List (PathValue × Row)). c.loop-path.map.entries ++ es) (sym none) ∙ c.loop-path.invariant.2
