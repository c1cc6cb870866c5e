-- The parts of a case are read back from its document.
use Rattle.std.proofs.Common.{◌≡◌, ◌∙◌, ℕ, ◌+◌, List, [], ◌∷◌, map, true, Some, Ok, refl, ap}
use Rattle.std.specs.List.{list_all}
use Rattle.std.specs.Prelude.{IsUtf8}
use Rattle.std.proofs.lemmas.Bool.{and_parts}
use Rattle.std.proofs.lemmas.Str.{is_utf8-from_IsUtf8}
use Rattle.serde_json.specs.Read.{read}
use Rattle.retro_json.specs.Typed.{are_bytes}
use Rattle.retro_json.specs.Values.{hex_data}
use Rattle.retro_json.proofs.Json.{item_list-items_of}
use Rattle.retro_json.proofs.TreeTrip.{hex_again}
use Rattle.casebook_case.specs.Documents.{case_data, contents_data}
use Rattle.casebook_case.specs.Cases.{case_of}
use Rattle.casebook_case.specs.Reading.{case_at, case_in, contents_from, parts_of}

contents_again : (place : ℕ) (contents : List (List ℕ)) → list_all are_bytes contents ≡ true
    → contents_from place (map hex_data contents) ≡ Ok contents
unfolding contents_from
contents_again place [] typed = refl
contents_again place (bytes ∷ contents) typed =
    let both = and_parts (are_bytes bytes) (list_all are_bytes contents) typed in
    rw (hex_again bytes both.0, contents_again (place + 1) contents both.1) refl

parts_again : (contents : List (List ℕ)) (first lines unseen : List ℕ) → list_all are_bytes contents ≡ true
    → parts_of (case_data contents first lines unseen)
    ≡ Ok (record { contents = contents; first = first; lines = lines; unseen = unseen })
unfolding parts_of case_data contents_data
parts_again contents first lines unseen typed =
    rw (item_list-items_of (map hex_data contents), contents_again 1 contents typed) refl

value_again : (contents : List (List ℕ)) (first lines unseen : List ℕ) → list_all are_bytes contents ≡ true
    → case_at (case_data contents first lines unseen) ≡ case_of contents first lines unseen
unfolding case_at
value_again contents first lines unseen typed = rw (parts_again contents first lines unseen typed) refl

-- a text that is read as the value of a case is what its parts say
pub text_again : (text : List ℕ) (contents : List (List ℕ)) (first lines unseen : List ℕ) → IsUtf8 text
    → read text ≡ Some (case_data contents first lines unseen) → list_all are_bytes contents ≡ true
    → case_in text ≡ case_of contents first lines unseen
unfolding case_in
text_again text contents first lines unseen utf8 is typed =
    rw (is_utf8-from_IsUtf8 text utf8, is) (value_again contents first lines unseen typed)
