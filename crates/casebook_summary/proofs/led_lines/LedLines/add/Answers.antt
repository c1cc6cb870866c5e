use Rattle.std.proofs.Common.{◌∙◌, ◌∷◌, ◌++◌, [], Some, ap, cond, sym}
use Rattle.std.specs.BTreeMap.{get, is_at}
use Rattle.std.specs.Option.{option_copied_mut, option_map, unwrap_or}
use Rattle.std.specs.Ordering.{nat_cmp}
use Rattle.casebook_summary.proofs.LedLemmas.{grown}
use Rattle.casebook_summary.proofs.led_lines.LedLines.add.Goals as goal

pub returns : goal.returns
returns c =
    let o = c.args.origin in
    let line = c.args.line in
    let none = sym c.get_mut.ensures.value ∙ ap option_copied_mut c.in_default.is in
    λ n. grown (λ v. v.items) c.args.self.now.by_origin c.insert.new.self o n line c.push-2.new.self
    (λ q. c.in_ok-insert.ensures.updates.0 q
    ∙ ap (λ m. cond (is_at (nat_cmp o) q) (Some c.push-2.new.self) (get nat_cmp m q)) c.get_mut.follows.holds-at-none)
    (c.in_ok-push-2.ensures.items ∙ ap (λ ls. ls ++ line ∷ []) c.new-lines.ensures.items
    ∙ sym (ap (λ e. unwrap_or (option_map (λ v. v.items) e) [] ++ line ∷ []) none))
