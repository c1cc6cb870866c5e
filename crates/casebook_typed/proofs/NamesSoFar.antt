-- The names of the sessions of observations, with one more.
use Rattle.std.proofs.Common.{◌≡◌, ◌∙◌, ℕ, ◌+◌, ◌<◌, List, [], ◌∷◌, ◌++◌, get_or, length, map, take, sym, ap}
use Rattle.std.proofs.lemmas.List.{map-append, take_more}
use Rattle.casebook_record.specs.declared.record.Record.{Record}
use Rattle.casebook_typed.specs.Seeing.{said}
use Rattle.casebook_typed.specs.Sessions.{first_names, session_names}
use Rattle.casebook_typed.specs.inner.Places.{with_name}
use Rattle.casebook_typed.specs.declared.observation.Observation.{Observation}
use Rattle.casebook_typed.proofs.NameOrder.{one_more_name}

pub next_names : (os : List Observation) (i : ℕ) (o : Observation) → i < length os → o ≡ get_or os i o
    → session_names (map said (take (i + 1) os)) ≡ with_name (session_names (map said (take i os))) (said o).session
next_names os i o h is =
    ap (λ xs. session_names (map said xs)) (take_more os i o h ∙ ap (λ x. take i os ++ x ∷ []) (sym is))
    ∙ ap session_names (map-append said (take i os) (o ∷ []))
    ∙ ap first_names (map-append (λ (r : Record). r.session) (map said (take i os)) (said o ∷ []))
    ∙ one_more_name (map (λ r. r.session) (map said (take i os))) (said o).session
