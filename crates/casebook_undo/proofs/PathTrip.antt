-- The text of a path is read as that path.
use Rattle.std.proofs.Common.{◌≡◌, ◌∙◌, ◌==◌, List, [], ◌∷◌, ◌++◌, length, nat_le, true, false, not}
use Rattle.std.proofs.Common.{Some, refl, ap}
use Rattle.std.proofs.lemmas.Bool.{and_parts, or_parts, not-true}
use Rattle.std.specs.List.{list_all, list_any, slice_split}
use Rattle.serde_json.specs.Data.{string}
use Rattle.retro_path.specs.Name.{is_name}
use Rattle.retro_path.specs.Path.{PathValue}
use Rattle.retro_path.specs.Ascii.{slash}
use Rattle.retro_json.specs.Shape.{Text}
use Rattle.retro_json.specs.PathText.{names_of_parts, names_in}
use Rattle.retro_json.specs.Typed.{are_names}
use Rattle.retro_json.specs.Values.{names_text, path_text}
use Rattle.retro_json.proofs.Names.{not_empty}
use Rattle.casebook_undo.specs.Cells.{path_in}

has_bytes : (name : Text) → is_name name ≡ true → (length name == 0) ≡ false
unfolding is_name
has_bytes name h = not_empty (length name) (and_parts (nat_le 1 (length name)) _ h).0

without_slash : (name : Text) → is_name name ≡ true → list_any (λ b. b == slash) name ≡ false
unfolding is_name
without_slash name h =
    let rest = (and_parts (nat_le 1 (length name)) _ h).1 in
    let apart = (and_parts (nat_le (length name) 255) _ rest).1 in
    not-true (list_any (λ b. b == slash) name) (and_parts (not (list_any (λ b. b == slash) name)) _ apart).0

-- a text without slash is the front of the first part
cut_after : (name rest : Text) (parts : List Text) → list_any (λ b. b == slash) name ≡ false
    → slice_split (λ b. b == slash) rest ≡ [] ∷ parts → slice_split (λ b. b == slash) (name ++ rest) ≡ name ∷ parts
cut_after [] rest parts n h = h
cut_after (b ∷ name) rest parts n h =
    let apart = or_parts (b == slash) (list_any (λ c. c == slash) name) n in
    rw (apart.0, cut_after name rest parts apart.1 h) refl

cut_names : (names : List Text) → are_names names ≡ true
    → slice_split (λ b. b == slash) (names_text names) ≡ [] ∷ names
cut_names [] h = refl
cut_names (name ∷ names) h =
    let a = and_parts (is_name name) (list_all is_name names) h in
    ap (λ (parts : List Text). [] ∷ parts)
    (cut_after name (names_text names) names (without_slash name a.0) (cut_names names a.1))

names_again : (p : PathValue) → are_names p ≡ true → names_in (path_text p) ≡ Some p
unfolding names_in
names_again [] h = refl
names_again (name ∷ names) h =
    let some = has_bytes name (and_parts (is_name name) (list_all is_name names) h).0 in
    let taken : names_of_parts ([] ∷ name ∷ names) ≡ Some (name ∷ names) =
    rw some refl in
    ap names_of_parts (cut_names (name ∷ names) h) ∙ taken

pub path_again : (p : PathValue) → are_names p ≡ true → path_in (string (path_text p)) ≡ Some p
path_again p h = rw (names_again p h, h) refl
