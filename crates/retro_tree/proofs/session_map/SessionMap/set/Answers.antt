use Rattle.std.proofs.Common.{ap, ◌∙◌, sym, refl, subst, Some}
use Rattle.std.specs.Prelude.{IsSome}
use Rattle.std.specs.Option.{option_copied_mut, option_map}
use Rattle.std.specs.FinMap as map
use Rattle.std.specs.Cmp.{nat_cmp_total}
use Rattle.std.specs.FinMap.{nat_cmp-IsAntisymmetric}
use Rattle.retro_tree.specs.Maps.{update}
use Rattle.retro_tree.specs.Session.{default_session}
use Rattle.retro_tree.specs.Setting.{with_setting}
use Rattle.retro_tree.specs.inner.Previous.{previous_of}
use Rattle.retro_tree.specs.contracts.session_map.SessionMap.{the_view}
use Rattle.retro_tree.proofs.MapLemmas.{made_written, made_same, made_new, get_made}
use Rattle.retro_tree.proofs.OverlayLemmas.{any_err}
use Rattle.retro_tree.proofs.session_map.SessionMap.set.Goals as goal

pub returns-in_err-set-clause-err : goal.returns-in_err-set-clause-err
returns-in_err-set-clause-err c =
    let es = c.self.inside.sessions.entries in
    let here = sym c.get_mut.ensures.value ∙ ap option_copied_mut c.in-Some.is in
    let wrote = c.get_mut.follows.holds c.set.new.self in
    any_err c.from_residual.result _ (
    made_same nat_cmp_total nat_cmp-IsAntisymmetric es
    (c.get_mut.follows.lender c.set.new.self).entries c.args.sid c.in-Some.session.now c.set.new.self here
    c.in_err-set.ensures.err (wrote.3 (subst IsSome (sym here) refl)).0
    ∙ c.self.view_is)

pub returns-in-Some-clause-previous : goal.returns-in-Some-clause-previous
returns-in-Some-clause-previous c =
    let es = c.self.inside.sessions.entries in
    let here = sym c.get_mut.ensures.value ∙ ap option_copied_mut c.in-Some.is in
    let found = ap (λ m. map.get m c.args.sid) (sym c.self.view_is) ∙ get_made nat_cmp_total es c.args.sid ∙ here in
    ap Some c.in_ok-set.ensures.previous ∙ ap (option_map (previous_of c.args.setting)) (sym found)

pub returns-in-Some-clause-ok : goal.returns-in-Some-clause-ok
returns-in-Some-clause-ok c =
    let es = c.self.inside.sessions.entries in
    let here = sym c.get_mut.ensures.value ∙ ap option_copied_mut c.in-Some.is in
    let wrote = c.get_mut.follows.holds c.set.new.self in
    made_written nat_cmp_total nat_cmp-IsAntisymmetric es
    (c.get_mut.follows.lender c.set.new.self).entries c.args.sid default_session
    (with_setting c.args.setting) c.in-Some.session.now c.set.new.self here c.in_ok-set.ensures.ok
    (wrote.3 (subst IsSome (sym here) refl)).0
    ∙ ap (λ m. update m c.args.sid default_session (with_setting c.args.setting)) c.self.view_is

pub returns-clause-previous : goal.returns-clause-previous
returns-clause-previous c =
    let es = c.self.inside.sessions.entries in
    let none = sym c.get_mut.ensures.value ∙ ap option_copied_mut c.in_default.is in
    let absent = ap (λ m. map.get m c.args.sid) (sym c.self.view_is) ∙ get_made nat_cmp_total es c.args.sid ∙ none in
    ap (option_map (previous_of c.args.setting)) (sym absent)

pub returns-clause-ok : goal.returns-clause-ok
returns-clause-ok c =
    let es = c.self.inside.sessions.entries in
    let none = sym c.get_mut.ensures.value ∙ ap option_copied_mut c.in_default.is in
    let same = ap
    (λ n. the_view (record { sessions = n })) c.get_mut.follows.holds-at-none ∙ c.self.view_is in
    let absent = ap (λ m. map.get m c.args.sid) (sym c.self.view_is) ∙ get_made nat_cmp_total es c.args.sid ∙ none in
    let made = c.in_ok-set-2.ensures.ok ∙ ap (with_setting c.args.setting) c.new-session.ensures in
    c.in_ok-insert.ensures.ok ∙ ap (λ m. map.insert m c.args.sid c.set-2.new.self) same
    ∙ made_new nat_cmp_total nat_cmp-IsAntisymmetric c.args.self.now c.args.sid default_session
    (with_setting c.args.setting) c.set-2.new.self absent made
