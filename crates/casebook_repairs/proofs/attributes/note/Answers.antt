use Rattle.std.proofs.Common.{◌∙◌, Some, ap, cond, sym}
use Rattle.std.specs.BTreeMap.{get_by}
use Rattle.std.specs.Ordering.{is_eq}
use Rattle.retro_path.specs.Order.{path_cmp, path_ties}
use Rattle.casebook_repairs.proofs.attributes.note.Goals as goal

pub returns : goal.returns
returns c = λ p.
    c.in_ok-insert.ensures.updates.0 p
    ∙ ap (λ k. cond (is_eq (path_cmp k p)) (Some c.args.seen.now.attributes) (get_by (path_cmp p) c.args.known.now))
    c.in_ok-copy.ensures
    ∙ ap (λ b. cond b (Some c.args.seen.now.attributes) (get_by (path_cmp p) c.args.known.now))
    (sym (path_ties c.args.seen.now.path p))
