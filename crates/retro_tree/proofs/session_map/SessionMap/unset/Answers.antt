use Rattle.std.proofs.Common.{ap, ◌∙◌, sym, refl, subst}
use Rattle.std.specs.Prelude.{IsSome}
use Rattle.std.specs.Option.{option_copied_mut}
use Rattle.std.specs.FinMap as map
use Rattle.std.specs.Cmp.{nat_cmp_total}
use Rattle.std.specs.FinMap.{nat_cmp-IsAntisymmetric}
use Rattle.retro_tree.specs.Session.{unset, without_var}
use Rattle.retro_tree.specs.contracts.session_map.SessionMap.{the_view}
use Rattle.retro_tree.proofs.MapLemmas.{made_insert, get_made}
use Rattle.retro_tree.proofs.session_map.SessionMap.unset.Goals as goal
use Rattle.retro_tree.proofs.session_map.SessionMap.unset.Goals.{in-Some, in_default}

pub returns : goal.returns
returns c =
    let es = c.self.inside.sessions.entries in
    let sid = c.args.sid in
    let name = c.args.name.now in
    let old = c.args.self.now in
    elim c.match-get_mut.branch [
      | in-Some w ↦
          let here = sym c.get_mut.ensures.value ∙ ap option_copied_mut w.in-Some.is in
          let new = without_var name w.in-Some.session.now in
          let wrote = c.get_mut.follows.holds (record w.in-Some.session.now { vars = w.remove.new.self }) in
          let found = ap (λ m. map.get m sid) (sym c.self.view_is) ∙ get_made nat_cmp_total es sid ∙ here in
          ap the_view w.self-inside-is
          ∙ made_insert nat_cmp_total nat_cmp-IsAntisymmetric es _ sid _ (wrote.3 (subst IsSome (sym here) refl)).0
          ∙ ap (λ m. map.insert m sid (record w.in-Some.session.now { vars = w.remove.new.self })) c.self.view_is
          ∙ ap (λ vs. map.insert old sid (record w.in-Some.session.now { vars = vs })) w.remove.ensures
          ∙ ap (λ o. unset o sid name old) (sym found)
      | in_default w ↦
          let none = sym c.get_mut.ensures.value ∙ ap option_copied_mut w.in_default.is in
          let absent = ap (λ m. map.get m sid) (sym c.self.view_is) ∙ get_made nat_cmp_total es sid ∙ none in
          ap the_view w.self-inside-is
          ∙ ap (λ m. the_view (record { sessions = m })) c.get_mut.follows.holds-at-none
          ∙ c.self.view_is ∙ ap (λ o. unset o sid name old) (sym absent)
    ]
