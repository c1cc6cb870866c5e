-- Texts that are safe to show.
use Rattle.std.proofs.Common.{◌≡◌, ℕ, Bool, true, false, ◌&&◌, ◌||◌, refl, List, [], ◌∷◌}
use Rattle.std.specs.List.{list_all}
use Rattle.std.specs.Str.{chars}
use Rattle.std.proofs.lemmas.Bool.{and_from, and_parts, or_left}
use Rattle.casebook_text.specs.SafeText.{is_safe, is_safe_byte}
use Rattle.casebook_text.specs.SafeLine.{IsSafeLine}
use Rattle.casebook_text.specs.declared.safe_text.Breaks.TheVariants.{Keep, Show}
use Rattle.casebook_html.specs.Safe.{is_safe_text}

all_imply : (p q : ℕ → Bool) → ((x : ℕ) → p x ≡ true → q x ≡ true) → (xs : List ℕ) → list_all p xs ≡ true → list_all q xs ≡ true
all_imply p q each [] all = refl
all_imply p q each (x ∷ xs) all =
    let both = and_parts (p x) (list_all p xs) all in
    and_from _ _ (each x both.0) (all_imply p q each xs both.1)

first_holds : (x y : Bool) → (x || (y && false)) ≡ true → x ≡ true
first_holds true y e = refl
first_holds false true e = e
first_holds false false e = e

safe_in_lines : (c : ℕ) → is_safe Show c ≡ true → is_safe Keep c ≡ true
safe_in_lines c safe = or_left _ _ (first_holds _ _ safe)

byte_in_lines : (b : ℕ) → is_safe_byte Show b ≡ true → is_safe_byte Keep b ≡ true
byte_in_lines b safe = or_left _ _ (first_holds _ _ safe)

-- a line is safe among others
pub line_safe : (text : List ℕ) → IsSafeLine text → list_all (is_safe_byte Show) text ≡ true → is_safe_text text ≡ true
line_safe text line bytes =
    and_from _ _ (all_imply (is_safe_byte Show) (is_safe_byte Keep) byte_in_lines text bytes)
    (all_imply (is_safe Show) (is_safe Keep) safe_in_lines (chars text) line.characters)

pub text_safe : (text : List ℕ) → list_all (is_safe_byte Keep) text ≡ true → list_all (is_safe Keep) (chars text) ≡ true
    → is_safe_text text ≡ true
text_safe text bytes characters = and_from _ _ bytes characters
