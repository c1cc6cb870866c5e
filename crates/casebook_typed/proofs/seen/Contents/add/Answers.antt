use Rattle.std.proofs.Common.{◌≡◌, ◌∙◌, ap, cond, false, is_none, not, Some, sym, true}
use Rattle.std.specs.BTreeMap.{get_by}
use Rattle.std.specs.Ordering.{is_eq}
use Rattle.retro_path.specs.Order.{path_cmp}
use Rattle.casebook_typed.proofs.NotesSoFar.{content_added, content_kept, none_seen, not_some}
use Rattle.casebook_typed.proofs.seen.Contents.add.Goals as goal

pub returns-in_ok-insert : goal.returns-in_ok-insert
returns-in_ok-insert c =
    let none : is_none (get_by (path_cmp c.args.path.now) c.args.self.now.by_path) ≡ true =
    sym (none_seen _) ∙ ap is_none (sym c.get.ensures) ∙ none_seen c.get.result ∙ not_some c.get.result
    ∙ ap not c.is_none.ensures ∙ ap (λ b. not (not b)) c.if-is_none.true in
    content_added (λ p. get_by (path_cmp p) c.args.self.now.by_path) (λ p. get_by (path_cmp p) c.insert.new.self)
    c.args.path.now c.args.content none
    (λ p. c.in_ok-insert.ensures.updates.0 p
    ∙ ap (λ k. cond (is_eq (path_cmp k p)) (Some c.args.content) (get_by (path_cmp p) c.args.self.now.by_path)) c.in_ok-copy.ensures)

pub returns-else-is_none : goal.returns-else-is_none
returns-else-is_none c =
    let some : is_none (get_by (path_cmp c.args.path.now) c.args.self.now.by_path) ≡ false =
    sym (none_seen _) ∙ ap is_none (sym c.get.ensures) ∙ none_seen c.get.result ∙ not_some c.get.result
    ∙ ap not c.is_none.ensures ∙ ap (λ b. not (not b)) c.if-is_none.false in
    content_kept (λ p. get_by (path_cmp p) c.args.self.now.by_path) c.args.path.now c.args.content.now some
