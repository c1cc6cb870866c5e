-- A document that is refused, and where.
use Rattle.std.proofs.Common.{◌≡◌, ◌∷◌, [], ℕ, true, List, Result, Ok, Err, IfOk}
use Rattle.retro_json.specs.declared.fault.Refusal.{Refusal}
use Rattle.casebook_check.specs.declared.place.Place.{Place}
use Rattle.casebook_text.specs.SafeLine.{text_of_lines}
use Rattle.casebook_cli.specs.Checks.{SaysWhere, refused_line}
use Rattle.casebook_cli.specs.declared.answer.Answer.{Answer}

pub says_where : {E : Type 0} (IsPlace : Place → Type 0) (name words : List ℕ) (refusal : Refusal) (place : Place)
    (result : Result Answer E) → IsPlace place
    → IfOk result (λ answer. answer.text.items
    ≡ text_of_lines (refused_line name words refusal place ∷ []))
    → IfOk result (λ answer. answer.is_no ≡ true)
    → IfOk result (λ answer. SaysWhere IsPlace name words refusal answer.is_no answer.text.items)
says_where IsPlace name words refusal place (Ok answer) is text refused =
    record { place = place; is_place = is; says_no = refused; shown = text }
says_where IsPlace name words refusal place (Err e) is text refused = tt
