use Rattle.std.proofs.Common.{◌∙◌, ◌∷◌, ◌++◌, [], Some, ap, cond, sym}
use Rattle.std.specs.BTreeMap.{get, is_at}
use Rattle.std.specs.Option.{option_copied_mut, option_map, unwrap_or}
use Rattle.std.specs.Ordering.{nat_cmp}
use Rattle.casebook_page.proofs.SessionLemmas.{grown}
use Rattle.casebook_page.proofs.session_lines.SessionLines.add.Goals as goal

pub returns : goal.returns
returns c =
    let placed = c.args.placed in
    let session = placed.line.session in
    let none = sym c.get_mut.ensures.value ∙ ap option_copied_mut c.in_default.is in
    λ n. grown (λ v. v.items) c.args.self.now.by_session c.insert.new.self placed n c.push-2.new.self
    (λ q. c.in_ok-insert.ensures.updates.0 q
    ∙ ap (λ m. cond (is_at (nat_cmp session) q) (Some c.push-2.new.self) (get nat_cmp m q)) c.get_mut.follows.holds-at-none)
    (c.in_ok-push-2.ensures.items ∙ ap (λ ls. ls ++ placed ∷ []) c.new-lines.ensures.items
    ∙ sym (ap (λ e. unwrap_or (option_map (λ v. v.items) e) [] ++ placed ∷ []) none))
