use Rattle.std.proofs.Common.{◌∙◌, ◌∷◌, ◌++◌, [], Some, ap, cond, refl, subst, sym}
use Rattle.std.specs.BTreeMap.{get, is_at}
use Rattle.std.specs.Option.{IsSome, option_copied_mut, option_map, unwrap_or}
use Rattle.casebook_summary.specs.declared.subject.Subject.{Subject}
use Rattle.casebook_summary.specs.inner.GroupLines.{Key, key_cmp}
use Rattle.casebook_summary.proofs.GroupLemmas.{updated}
use Rattle.casebook_summary.proofs.group_lines.GroupLines.add.Goals as goal

pub returns-in-Some-clause-each : goal.returns-in-Some-clause-each
returns-in-Some-clause-each c =
    let x = c.args.notice.now in
    let here = sym c.get_mut.ensures.value ∙ ap option_copied_mut c.in-Some.is in
    let wrote = c.get_mut.follows.holds c.push.new.self in
    λ n. updated (λ v. v.items) c.args.self.now.lines (c.get_mut.follows.lender c.push.new.self) x n
    (x.session, c.in_ok-copy.field-0) c.push.new.self (ap (λ (s : Subject). (x.session, s)) c.in_ok-copy.ensures)
    (wrote.3 (subst IsSome (sym here) refl)).0
    (c.in_ok-push.ensures.items
    ∙ ap (λ o. unwrap_or (option_map (λ v. v.items) o) [] ++ x.number ∷ []) (sym here))

pub returns-clause-each : goal.returns-clause-each
returns-clause-each c =
    let x = c.args.notice.now in
    let k : Key = (x.session, c.in_ok-copy.field-0) in
    let none = sym c.get_mut.ensures.value ∙ ap option_copied_mut c.in_default.is in
    λ n. updated (λ v. v.items) c.args.self.now.lines c.insert.new.self x n k c.push-2.new.self
    (ap (λ (s : Subject). (x.session, s)) c.in_ok-copy.ensures)
    (λ q. c.in_ok-insert.ensures.updates.0 q
    ∙ ap (λ m. cond (is_at (key_cmp k) q) (Some c.push-2.new.self) (get key_cmp m q)) c.get_mut.follows.holds-at-none)
    (c.in_ok-push-2.ensures.items ∙ ap (λ ns. ns ++ x.number ∷ []) c.new-lines.ensures.items
    ∙ sym (ap (λ o. unwrap_or (option_map (λ v. v.items) o) [] ++ x.number ∷ []) none))
