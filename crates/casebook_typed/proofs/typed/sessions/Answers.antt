use Rattle.std.proofs.Common.{◌≡◌, ◌∙◌, ◌+◌, ◌∷◌, ◌++◌, [], List, ap, map, sym, take}
use Rattle.std.proofs.lemmas.List.{map-append, take_more}
use Rattle.casebook_typed.specs.Seeing.{said}
use Rattle.casebook_typed.specs.Sessions.{SessionValue, session_in}
use Rattle.casebook_typed.specs.Values.{session_value}
use Rattle.casebook_typed.specs.inner.Places.{names_in}
use Rattle.casebook_typed.proofs.typed.sessions.Goals as goal

pub loop-name-preserved : goal.loop-name-preserved
loop-name-preserved c =
    let session : List _ → SessionValue = session_in (names_in c.args.names.now) (map said c.args.observations.now) in
    let here = c.loop-name.name-index in
    let names = c.args.names.now.all.items in
    let more : take (here + 1) names ≡ take here names ++ c.name-item.result ∷ [] =
    ap (take (here + 1)) (sym c.deref-name-items.ensures.value)
    ∙ take_more c.deref-name-items.result.now here c.name-item.result c.loop-name-test.true
    ∙ ap (λ name. take here c.deref-name-items.result.now ++ name ∷ []) (sym c.name-item.is)
    ∙ ap (λ ns. take here ns ++ c.name-item.result ∷ []) c.deref-name-items.ensures.value in
    let said_of : session_value c.in_ok-session_of.field-0 ≡ session c.name-item.result.now =
    c.in_ok-session_of.ensures (map said c.args.observations.now) c.in_ok-firsts.ensures c.requires.missing in
    ap (map session_value) c.in_ok-push.ensures.items
    ∙ map-append session_value c.loop-name.sessions.items (c.in_ok-session_of.field-0 ∷ [])
    ∙ (λ i. c.loop-name.invariant i ++ said_of i ∷ [])
    ∙ sym (map-append session (map (λ name. name.now) (take here names)) (c.name-item.result.now ∷ []))
    ∙ ap (map session) (sym (map-append (λ name. name.now) (take here names) (c.name-item.result ∷ [])))
    ∙ ap (λ ns. map session (map (λ name. name.now) ns)) (sym more)
