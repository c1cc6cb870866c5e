use Rattle.std.proofs.Common.{◌∙◌, ◌==◌, ◌&&◌, ◌||◌, ap, cond, refl, subst, sym, true, Some}
use Rattle.std.specs.BTreeMap.{get, is_at}
use Rattle.std.specs.BTreeSet as set
use Rattle.std.specs.FinMap as finmap
use Rattle.std.specs.Option.{IsSome, option_copied_mut}
use Rattle.std.specs.Ordering.{nat_cmp}
use Rattle.retro_tree.specs.Order.{text_cmp, text_eq}
use Rattle.retro_tree.specs.Session.{session_in}
use Rattle.casebook_profile.proofs.KnowledgeLemmas.{added, has, nothing_in, or_assoc}
use Rattle.casebook_profile.proofs.knowledge.Knowledge.add.Goals as goal

pub returns-in-Some : goal.returns-in-Some
returns-in-Some c =
    let here = sym c.get_mut.ensures.value ∙ ap option_copied_mut c.in-Some.is in
    let wrote = c.get_mut.follows.holds c.insert.new.self in
    let each = added c.args.self.now.added (c.get_mut.follows.lender c.insert.new.self) c.args.session c.args.name.now
    c.insert.new.self (wrote.3 (subst IsSome (sym here) refl)).0
    (λ m. c.in_ok-insert.ensures.updates.0 m
    ∙ ap (λ n. cond (is_at (text_cmp n) m) true (set.contains text_cmp c.in-Some.names.now m)) c.in_ok-name.ensures
    ∙ ap (λ o. cond (is_at (text_cmp c.args.name.now) m) true (has m o)) (sym here)) in
    λ q m. ap (λ b. finmap.contains_key (session_in q c.args.self.now.first.now.sessions).vars m || b) (each q m)
    ∙ or_assoc (finmap.contains_key (session_in q c.args.self.now.first.now.sessions).vars m)
    (has m (get nat_cmp c.args.self.now.added q)) ((c.args.session == q) && text_eq c.args.name.now m)

pub returns : goal.returns
returns c =
    let none = sym c.get_mut.ensures.value ∙ ap option_copied_mut c.in_default.is in
    let each = added c.args.self.now.added c.insert-3.new.self c.args.session c.args.name.now c.insert-2.new.self
    (λ q. c.in_ok-insert-3.ensures.updates.0 q
    ∙ ap (λ m. cond (is_at (nat_cmp c.args.session) q) (Some c.insert-2.new.self) (get nat_cmp m q))
    c.get_mut.follows.holds-at-none)
    (λ m. c.in_ok-insert-2.ensures.updates.0 m
    ∙ ap (λ n. cond (is_at (text_cmp n) m) true (set.contains text_cmp c.new-names.result m)) c.in_ok-name.ensures
    ∙ ap (λ b. cond (is_at (text_cmp c.args.name.now) m) true b) (nothing_in c.new-names.result c.new-names.ensures.empty m
    ∙ ap (has m) (sym none))) in
    λ q m. ap (λ b. finmap.contains_key (session_in q c.args.self.now.first.now.sessions).vars m || b) (each q m)
    ∙ or_assoc (finmap.contains_key (session_in q c.args.self.now.first.now.sessions).vars m)
    (has m (get nat_cmp c.args.self.now.added q)) ((c.args.session == q) && text_eq c.args.name.now m)
