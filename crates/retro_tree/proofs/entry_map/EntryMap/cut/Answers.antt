use Rattle.std.proofs.Common.{ap, ◌∙◌, sym, refl, subst}
use Rattle.std.specs.Prelude.{IsSome}
use Rattle.std.specs.Option.{option_copied_mut}
use Rattle.std.specs.FinMap as map
use Rattle.retro_tree.specs.Order.{path_total, path_exact}
use Rattle.retro_tree.specs.inner.CommitSteps.{cut_at}
use Rattle.retro_tree.specs.contracts.entry_map.EntryMap.{the_view}
use Rattle.retro_tree.proofs.MapLemmas.{made_insert, get_made}
use Rattle.retro_tree.proofs.entry_map.EntryMap.cut.Goals as goal
use Rattle.retro_tree.proofs.entry_map.EntryMap.cut.Goals.{in-Some, in_default}

pub returns : goal.returns
returns c =
    let es = c.self.inside.entries.entries in
    let p = c.args.path.now in
    let n = c.args.length in
    let old = c.args.self.now in
    elim c.match-get_mut.branch [
      | in-Some w ↦
          let here = sym c.get_mut.ensures.value ∙ ap option_copied_mut w.in-Some.is in
          let wrote = c.get_mut.follows.holds w.cut.new.self in
          let found = ap (λ m. map.get m p) (sym c.self.view_is) ∙ get_made path_total es p ∙ here in
          ap the_view w.self-inside-is
          ∙ made_insert path_total path_exact es
          (c.get_mut.follows.lender w.cut.new.self).entries p w.cut.new.self (wrote.3 (subst IsSome (sym here) refl)).0
          ∙ ap (λ m. map.insert m p w.cut.new.self) c.self.view_is
          ∙ ap (map.insert old p) w.cut.ensures
          ∙ ap (λ o. cut_at p n o old) (sym found)
      | in_default w ↦
          let none = sym c.get_mut.ensures.value ∙ ap option_copied_mut w.in_default.is in
          let absent = ap (λ m. map.get m p) (sym c.self.view_is) ∙ get_made path_total es p ∙ none in
          ap the_view w.self-inside-is
          ∙ ap (λ m. the_view (record { entries = m })) c.get_mut.follows.holds-at-none
          ∙ c.self.view_is ∙ ap (λ o. cut_at p n o old) (sym absent)
    ]
