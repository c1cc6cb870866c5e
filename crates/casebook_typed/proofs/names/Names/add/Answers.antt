use Rattle.std.proofs.Common.{◌≡◌, ◌∙◌, ap, sym, map}
use Rattle.std.proofs.lemmas.List.{length-map, map-append}
use Rattle.casebook_typed.specs.Sessions.{place_in}
use Rattle.casebook_typed.specs.inner.Places.{names_in, place_named}
use Rattle.casebook_typed.proofs.NameOrder.{added}
use Rattle.casebook_typed.proofs.names.Names.add.Goals as goal

pub returns-in_ok-insert-clause-places : goal.returns-in_ok-insert-clause-places
returns-in_ok-insert-clause-places c = λ q.
    let none : place_in (names_in c.args.self.now) c.args.name.now ≡ 0 = ap (place_in (names_in c.args.self.now)) (sym c.in_ok-key.ensures)
    ∙ sym (c.requires c.in_ok-key.key) ∙ sym c.at.ensures ∙ c.if-at-eq0.true in
    added (names_in c.args.self.now) (map (λ name. name.now) c.push.new.self.items) c.args.name.now c.in_ok-key.key q c.len.result
    (place_named c.args.self.now.places q) _
    (ap (map (λ name. name.now)) c.in_ok-push.ensures.items ∙ map-append (λ name. name.now) c.args.self.now.all.items _)
    c.in_ok-key.ensures none (c.len.ensures ∙ c.push.new.self.ok.0 ∙ sym (length-map c.push.new.self.items (λ name. name.now)))
    (c.requires q) (c.in_ok-insert.ensures q)
