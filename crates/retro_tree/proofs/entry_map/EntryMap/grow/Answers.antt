use Rattle.std.proofs.Common.{ap, ◌∙◌, sym, refl, subst}
use Rattle.std.specs.Prelude.{IsSome}
use Rattle.std.specs.Option.{option_copied_mut}
use Rattle.std.specs.FinMap as map
use Rattle.retro_tree.specs.Order.{path_total, path_exact}
use Rattle.retro_tree.specs.declared.entry.Entry.TheVariants.{File as FileEntry}
use Rattle.retro_tree.specs.contracts.entry_map.EntryMap.{the_view}
use Rattle.retro_tree.proofs.MapLemmas.{made_insert, made_same, get_made}
use Rattle.retro_tree.proofs.Lookups.{put_grown, put_new}
use Rattle.retro_tree.proofs.Results.{on_ok, on_err}
use Rattle.retro_tree.proofs.entry_map.EntryMap.grow.Goals as goal

pub returns-in-Some-clause-ok : goal.returns-in-Some-clause-ok
returns-in-Some-clause-ok c =
    let es = c.self.inside.entries.entries in
    let p = c.args.path.now in
    let here = sym c.get_mut.ensures.value ∙ ap option_copied_mut c.in-Some.is in
    let wrote = c.get_mut.follows.holds c.grow.new.self in
    let found = ap (λ m. map.get m p) (sym c.self.view_is) ∙ get_made path_total es p ∙ here in
    on_ok c.grow.result _ _ (λ is.
    made_insert path_total path_exact es (c.get_mut.follows.lender c.grow.new.self).entries p c.grow.new.self
    (wrote.3 (subst IsSome (sym here) refl)).0
    ∙ ap (λ m. map.insert m p c.grow.new.self) c.self.view_is
    ∙ ap (map.insert c.args.self.now p) is
    ∙ sym (put_grown p c.args.bytes.now c.in-Some.entry.now c.args.self.now found)) c.grow.ensures.ok

pub returns-in-Some-clause-err : goal.returns-in-Some-clause-err
returns-in-Some-clause-err c =
    let es = c.self.inside.entries.entries in
    let here = sym c.get_mut.ensures.value ∙ ap option_copied_mut c.in-Some.is in
    let wrote = c.get_mut.follows.holds c.grow.new.self in
    on_err c.grow.result _ _ (λ is.
    made_same path_total path_exact es
    (c.get_mut.follows.lender c.grow.new.self).entries c.args.path.now c.in-Some.entry.now c.grow.new.self here is
    (wrote.3 (subst IsSome (sym here) refl)).0
    ∙ c.self.view_is) c.grow.ensures.err

pub returns-clause-ok : goal.returns-clause-ok
returns-clause-ok c =
    let es = c.self.inside.entries.entries in
    let p = c.args.path.now in
    let none = sym c.get_mut.ensures.value ∙ ap option_copied_mut c.in_default.is in
    let same = ap (λ n. the_view (record { entries = n })) c.get_mut.follows.holds-at-none
    ∙ c.self.view_is in
    let absent = ap (λ m. map.get m p) (sym c.self.view_is) ∙ get_made path_total es p ∙ none in
    c.in_ok-insert.ensures.ok
    ∙ (λ i. map.insert (same i) (c.in_ok-path.ensures i) (FileEntry (c.in_ok-bytes.ensures i)))
    ∙ sym (put_new p c.args.bytes.now c.args.self.now absent)
