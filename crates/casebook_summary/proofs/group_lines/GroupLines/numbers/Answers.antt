use Rattle.std.proofs.Common.{◌≡◌, ◌∙◌, [], IfOk, List, ap, subst, sym, ℕ}
use Rattle.std.specs.BTreeMap.{get}
use Rattle.std.specs.Option.{option_copied, option_map, unwrap_or}
use Rattle.casebook_summary.specs.declared.subject.Subject.{Subject}
use Rattle.casebook_summary.specs.inner.GroupLines.{key_cmp}
use Rattle.casebook_summary.proofs.group_lines.GroupLines.numbers.Goals as goal

pub returns-in-Some : goal.returns-in-Some
returns-in-Some c =
    let m = c.args.self.now.lines in
    let found = ap (λ (s : Subject). get key_cmp m (c.args.notice.now.session, s)) (sym c.in_ok-copy.ensures)
    ∙ sym c.get.ensures.value ∙ ap option_copied c.in-Some.is in
    subst (λ (ns : List ℕ). IfOk c.from_slice.result (λ v. v.items ≡ ns))
    (c.as_slice.ensures.value ∙ sym (ap (λ o. unwrap_or (option_map (λ v. v.items) o) []) found))
    c.from_slice.ensures.items
