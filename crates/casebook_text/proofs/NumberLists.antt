-- Numbers with commas between them, one after another.
use Rattle.std.proofs.Common.{◌≡◌, ℕ, ◌+◌, ◌<◌, ◌≤◌, sym, ap, ◌∙◌, arith, length, map, take, take_all}
use Rattle.std.proofs.Common.{List, [], ◌∷◌, ◌++◌, get_or}
use Rattle.std.specs.Prelude.{◌==◌, if◌then◌else◌}
use Rattle.std.specs.Fmt.{decimal}
use Rattle.std.specs.List.{join_with_byte}
use Rattle.std.proofs.lemmas.List.{length-map, length-take-le, map-append, take_more}
use Rattle.casebook_text.specs.Lists.{comma}
use Rattle.casebook_text.proofs.ShownLines.{with_piece}

pub next_number : (text new : List ℕ) (numbers : List ℕ) (i d : ℕ) → i < length numbers
    → text ≡ join_with_byte comma (map decimal (take i numbers))
    → new ≡ text ++ (if i == 0 then decimal (get_or numbers i d) else comma ∷ decimal (get_or numbers i d))
    → new ≡ join_with_byte comma (map decimal (take (i + 1) numbers))
next_number text new numbers i d lt so_far after =
    with_piece comma [] text new (map decimal (take i numbers)) i (decimal (get_or numbers i d))
    (length-map (take i numbers) decimal ∙ length-take-le i numbers (omega arith)) so_far after
    ∙ ap (join_with_byte comma)
    (sym (map-append decimal (take i numbers) (get_or numbers i d ∷ [])) ∙ ap (map decimal) (sym (take_more numbers i d lt)))

pub all_numbers : (text : List ℕ) (numbers : List ℕ) (i : ℕ) → length numbers ≤ i
    → text ≡ join_with_byte comma (map decimal (take i numbers)) → text ≡ join_with_byte comma (map decimal numbers)
all_numbers text numbers i le so_far = so_far ∙ ap (λ t. join_with_byte comma (map decimal t)) (take_all i numbers le)
