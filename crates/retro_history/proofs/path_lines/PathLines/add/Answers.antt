use Rattle.std.proofs.Common.{ap, ◌∙◌, sym, refl, subst, []}
use Rattle.std.specs.Prelude.{IsSome}
use Rattle.std.specs.Option.{option_copied_mut}
use Rattle.std.specs.FinMap as map
use Rattle.retro_tree.specs.Maps.{update}
use Rattle.retro_tree.specs.Order.{path_total, path_exact}
use Rattle.retro_tree.proofs.MapLemmas.{made_insert, made_written, made_same, made_new, get_made}
use Rattle.retro_tree.proofs.Results.{on_ok, on_err}
use Rattle.retro_history.specs.inner.Numbers.{with_number}
use Rattle.retro_history.specs.contracts.path_lines.PathLines.{the_view}
use Rattle.retro_history.proofs.path_lines.PathLines.add.Goals as goal

pub returns-in-Some-clause-ok : goal.returns-in-Some-clause-ok
returns-in-Some-clause-ok c =
    let es = c.self.inside.lines.entries in
    let k = c.args.path in
    let f = with_number c.args.number in
    let here = sym c.get_mut.ensures.value ∙ ap option_copied_mut c.in-Some.is in
    let wrote = c.get_mut.follows.holds c.add.new.self in
    on_ok c.add.result _ _ (λ is.
    made_written path_total path_exact es
    (c.get_mut.follows.lender c.add.new.self).entries k [] f c.in-Some.numbers.now c.add.new.self here is
    (wrote.3 (subst IsSome (sym here) refl)).0
    ∙ ap (λ m. update m k [] f) c.self.view_is) c.add.ensures.ok

pub returns-in-Some-clause-err : goal.returns-in-Some-clause-err
returns-in-Some-clause-err c =
    let es = c.self.inside.lines.entries in
    let here = sym c.get_mut.ensures.value ∙ ap option_copied_mut c.in-Some.is in
    let wrote = c.get_mut.follows.holds c.add.new.self in
    on_err c.add.result _ _ (λ is.
    made_same path_total path_exact es
    (c.get_mut.follows.lender c.add.new.self).entries c.args.path c.in-Some.numbers.now c.add.new.self here is
    (wrote.3 (subst IsSome (sym here) refl)).0
    ∙ c.self.view_is) c.add.ensures.err

pub returns-clause-ok : goal.returns-clause-ok
returns-clause-ok c =
    let es = c.self.inside.lines.entries in
    let k = c.args.path in
    let none = sym c.get_mut.ensures.value ∙ ap option_copied_mut c.in_default.is in
    let same = ap (λ n. the_view (record { lines = n })) c.get_mut.follows.holds-at-none ∙ c.self.view_is in
    let absent = ap (λ m. map.get m k) (sym c.self.view_is) ∙ get_made path_total es k ∙ none in
    let made = c.in_ok-add.ensures.ok ∙ ap (with_number c.args.number) c.new-numbers.ensures in
    made_insert path_total path_exact c.get_mut.follows.lender-at-none.entries c.insert.new.self.entries k
    c.add-2.new.self c.in_ok-insert.ensures.updates.0
    ∙ ap (λ m. map.insert m k c.add-2.new.self) same
    ∙ made_new path_total path_exact c.args.self.now k [] (with_number c.args.number) c.add-2.new.self absent made
