use Rattle.std.proofs.Common.{Some, sym, ap, ◌∙◌}
use Rattle.std.specs.FinMap as map_of
use Rattle.std.specs.Cmp.{nat_cmp_total}
use Rattle.std.specs.Option.{option_copied}
use Rattle.retro_tree.proofs.MapLemmas.{get_made}
use Rattle.retro_keep.proofs.edits.Edits.get.Goals as goal

pub returns-in-Some : goal.returns-in-Some
returns-in-Some c =
    ap Some c.get-in-Some.ensures ∙ sym (ap option_copied c.in-Some.is) ∙ c.get.ensures.value
    ∙ sym (get_made nat_cmp_total c.self.inside.edits.entries c.args.number)
    ∙ ap (λ m. map_of.get m c.args.number) c.self.view_is

pub returns-in-None : goal.returns-in-None
returns-in-None c =
    sym (ap option_copied c.in-None.is) ∙ c.get.ensures.value
    ∙ sym (get_made nat_cmp_total c.self.inside.edits.entries c.args.number)
    ∙ ap (λ m. map_of.get m c.args.number) c.self.view_is
