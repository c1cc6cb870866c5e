-- Which characters are harmless, by the table of categories.
use Rattle.std.proofs.Common.{◌≡◌, ℕ, ◌<◌, ◌≤◌, ◌==◌, ◌||◌, true, not, refl, ◌∙◌, arith}
use Rattle.std.specs.Bool.{beq}
use Rattle.std.proofs.lemmas.Bool.{and_from, le-leb, lt-ltb}
use Rattle.ucd_table.proofs.Facts.{Stepped-below, same_from_beq}
use Rattle.ucd_category.specs.GeneralCategory.{general_category}
use Rattle.ucd_category.proofs.GeneralCategoryLemmas.{general_category_stepped}
use Rattle.ucd_category.proofs.Computing.{ucd_category}
use Rattle.ucd_category.specs.GeneralCategoryGroup.{in_group}
use Rattle.ucd_category.specs.declared.GeneralCategoryGroup.TheVariants.{Mark}
use Rattle.ucd_derived.proofs.Computing.{ucd_derived}
use Rattle.casebook_text.specs.SafeText.{is_harmless, is_hidden, is_invisible, is_printable, space}
use Rattle.casebook_text.specs.SafeText.{blurs_words, left_bracket, right_bracket}

-- of ASCII the printable characters are harmless
pub ascii_harmless : (c : ℕ) → c < 128 → is_harmless c ≡ is_printable c
unfolding is_harmless ucd_category ucd_derived
ascii_harmless c lt =
    same_from_beq _ _
    (Stepped-below general_category general_category_stepped
    (λ b g. beq (b == space || not (is_invisible b || is_hidden g)) (is_printable b)) 128 refl c lt)

-- of ASCII only the space blurs words
pub ascii_clear : (c : ℕ) → c < 128 → blurs_words c ≡ (c == space)
unfolding blurs_words ucd_category
ascii_clear c lt =
    same_from_beq _ _
    (Stepped-below general_category general_category_stepped
    (λ b g. beq (b == space || in_group Mark g) (b == space)) 128 refl c lt)

pub printable_harmless : (c : ℕ) → 32 ≤ c → c < 127 → is_harmless c ≡ true
printable_harmless c low high =
    ascii_harmless c (omega arith) ∙ and_from _ _ (le-leb 32 c low) (lt-ltb c 127 high)

pub left_harmless : is_harmless left_bracket ≡ true
unfolding is_harmless ucd_category ucd_derived
left_harmless = refl

pub right_harmless : is_harmless right_bracket ≡ true
unfolding is_harmless ucd_category ucd_derived
right_harmless = refl
