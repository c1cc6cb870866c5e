use Rattle.std.proofs.Common.{ap, ◌∙◌, sym, refl, subst}
use Rattle.std.proofs.lemmas.Bool.{false≢true}
use Rattle.std.specs.Prelude.{IsSome}
use Rattle.std.specs.Option.{option_copied_mut, is_some}
use Rattle.std.specs.FinMap as map
use Rattle.std.specs.Cmp.{nat_cmp_total}
use Rattle.std.specs.FinMap.{nat_cmp-IsAntisymmetric}
use Rattle.retro_tree.specs.Maps.{update}
use Rattle.retro_tree.specs.Session.{default_session}
use Rattle.retro_tree.specs.inner.Previous.{with_previous, has_place}
use Rattle.retro_tree.proofs.MapLemmas.{made_written, get_made}
use Rattle.retro_tree.proofs.PreviousSettings.{session_is}
use Rattle.retro_tree.proofs.session_map.SessionMap.restore.Goals as goal

pub restore-requires : goal.restore-requires
restore-requires c =
    let m = c.args.self.now in
    let es = c.self.inside.sessions.entries in
    let sid = c.args.sid in
    let here = sym c.get_mut.ensures.value ∙ ap option_copied_mut c.in-Some.is in
    let found = ap (λ m. map.get m sid) (sym c.self.view_is) ∙ get_made nat_cmp_total es sid ∙ here in
    ap (has_place c.args.previous) (sym (session_is m sid c.in-Some.session.now found)) ∙ c.requires.place

pub unreachable-requires : goal.unreachable-requires
unreachable-requires c =
    let es = c.self.inside.sessions.entries in
    let sid = c.args.sid in
    let none = sym c.get_mut.ensures.value ∙ ap option_copied_mut c.in-None.is in
    let absent = ap (λ m. map.get m sid) (sym c.self.view_is) ∙ get_made nat_cmp_total es sid ∙ none in
    false≢true (sym (ap is_some absent) ∙ c.requires.exists)

pub returns : goal.returns
returns c =
    let es = c.self.inside.sessions.entries in
    let here = sym c.get_mut.ensures.value ∙ ap option_copied_mut c.in-Some.is in
    let wrote = c.get_mut.follows.holds c.restore.new.self in
    made_written nat_cmp_total nat_cmp-IsAntisymmetric es
    (c.get_mut.follows.lender c.restore.new.self).entries c.args.sid default_session
    (with_previous c.args.previous) c.in-Some.session.now c.restore.new.self here c.restore.ensures
    (wrote.3 (subst IsSome (sym here) refl)).0
    ∙ ap (λ m. update m c.args.sid default_session (with_previous c.args.previous)) c.self.view_is
