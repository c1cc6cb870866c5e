-- What an escaped text is.
use Rattle.std.specs.Prelude.{◌≡◌, ℕ, ◌==◌, Bool, true, not, ◌&&◌, ◌||◌, IsTrue, List, [], ◌∷◌, is_some}
use Rattle.std.specs.List.{list_all}
use Rattle.casebook_text.specs.Html.{ampersand, escape_at, escapes, is_markup, unescaped}
use Rattle.casebook_text.specs.SafeText.{is_safe_byte}
use Rattle.casebook_text.specs.declared.safe_text.Breaks.TheVariants.{Keep}

-- each '&' begins an escape
unfoldable pub begins_escapes : List ℕ → Bool
begins_escapes [] = true
begins_escapes (b ∷ bs) = (not (b == ampersand) || is_some (escape_at escapes (b ∷ bs))) && begins_escapes bs

-- A text in HTML that stands for another one and does no harm.
pub record IsHarmlessHtml (text html : List ℕ) : Type 0 where
  -- no '<', no '>' and no quote
  pub no_markup : IsTrue (list_all (λ b. not (is_markup b)) html)
  -- no '&' but of an escape
  pub ampersands : IsTrue (begins_escapes html)
  -- no control code of ASCII but newline and tab
  pub no_control : IsTrue (list_all (is_safe_byte Keep) html)
  -- it reads as the text
  pub unescapes : unescaped html ≡ text
