-- What is imported of a case, by the lines and sessions that it says.
use Rattle.std.proofs.Common.{◌≡◌, ◌∙◌, ◌<◌, ◌≤◌, ◌⊎◌, ◌^◌, List, length, map, inl, inr, ⊎_elim, sym, ap, subst}
use Rattle.std.specs.Prelude.{Any}
use Rattle.std.proofs.Math.ListN.{get_or-map}
use Rattle.std.proofs.lemmas.List.{length-map}
use Rattle.casebook_typed.specs.Lines.{LineValue}
use Rattle.casebook_typed.specs.Sessions.{SessionValue}
use Rattle.casebook_typed.specs.Values.{line_value, session_value}
use Rattle.casebook_typed.specs.declared.line.Owner.{Owner}
use Rattle.casebook_typed.specs.declared.line.TypedLine.{TypedLine}
use Rattle.casebook_typed.specs.declared.typed.Session.{Session}
use Rattle.casebook_import.specs.Effects.{session_number}

abbrev IsFar : Owner → Type 0
IsFar owner = 2 ^ 32 ≤ session_number owner

any_mapped : (lines : List TypedLine) → Any (λ line. IsFar line.owner) lines
    → Any (λ line. IsFar line.owner) (map line_value lines)
any_mapped lines (k, line, lt, is, far) = (
  k,
  line_value line,
  subst (λ n. k < n) (sym (length-map lines line_value)) lt,
  get_or-map line_value lines k line ∙ ap line_value is,
  far,
)

-- there are too many sessions, by what sessions and lines stand for
pub many : (sessions : List Session) (lines : List TypedLine) (said : List SessionValue)
    (told : List LineValue) → map session_value sessions ≡ said → map line_value lines ≡ told
    → (2 ^ 32 ≤ length sessions) ⊎ Any (λ line. IsFar line.owner) lines
    → (2 ^ 32 ≤ length said) ⊎ Any (λ line. IsFar line.owner) told
many sessions lines said told a b far =
    ⊎_elim
    (λ h. inl (subst (λ n. 2 ^ 32 ≤ n) (sym (length-map sessions session_value) ∙ ap length a) h))
    (λ h. inr (subst (Any (λ line. IsFar line.owner)) b (any_mapped lines h)))
    far
