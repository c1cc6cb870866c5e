-- What is written of each byte, and how it reads back.
use Rattle.std.proofs.Common.{◌≡◌, ◌≢◌, ℕ, ◌≤◌, true, false, not, refl, sym, ap, ◌∙◌, arith}
use Rattle.std.proofs.Common.{List, [], ◌∷◌, ◌++◌, ⊎_elim, nat_eq, subst, length}
use Rattle.std.specs.Prelude.{codes}
use Rattle.std.specs.List.{list_all}
use Rattle.std.specs.Char.{encode_utf8}
use Rattle.std.proofs.lemmas.Bool.{and_from, ne_eqb, cases_eq, cases_lt, or_from, not_from_false}
use Rattle.std.proofs.lemmas.List.{append-nil, nil_from_length}
use Rattle.std.proofs.lemmas.Str.{encode_ascii}
use Rattle.casebook_text.specs.Html.{written, escaped, unescaped, unescaped_after, is_markup}
use Rattle.casebook_text.proofs.HighBytes.{high_bytes, high_kept}
use Rattle.casebook_text.proofs.Lists.{flat_map_all}

-- a byte that has no escape
pub record IsPlain (b : ℕ) : Type 0 where
  pub ampersand : b ≢ 38
  pub less_than : b ≢ 60
  pub greater_than : b ≢ 62
  pub double_quote : b ≢ 34
  pub single_quote : b ≢ 39

-- a proof for each byte, by its escape
by_escape : (P : ℕ → Type 0) → P 38 → P 60 → P 62 → P 34 → P 39 → ((b : ℕ) → IsPlain b → P b) → (b : ℕ) → P b
by_escape P p38 p60 p62 p34 p39 plain b =
    ⊎_elim (λ e. subst P (sym e) p38) (λ n38.
    ⊎_elim (λ e. subst P (sym e) p60) (λ n60.
    ⊎_elim (λ e. subst P (sym e) p62) (λ n62.
    ⊎_elim (λ e. subst P (sym e) p34) (λ n34.
    ⊎_elim (λ e. subst P (sym e) p39) (λ n39.
    plain b (record { ampersand = n38; less_than = n60; greater_than = n62; double_quote = n34; single_quote = n39 }))
    (cases_eq b 39))
    (cases_eq b 34))
    (cases_eq b 62))
    (cases_eq b 60))
    (cases_eq b 38)

plain_written : (b : ℕ) → IsPlain b → written b ≡ b ∷ []
unfolding written
plain_written b h =
    rw (
      ne_eqb b 38 h.ampersand,
      ne_eqb b 60 h.less_than,
      ne_eqb b 62 h.greater_than,
      ne_eqb b 34 h.double_quote,
      ne_eqb b 39 h.single_quote,
    ) refl

-- ---- characters, as the code writes them

pub ampersand_written : (c : ℕ) → c ≡ 38 → codes "&amp;" ≡ escaped (encode_utf8 c)
unfolding written encode_utf8
ampersand_written c e = rw e refl

pub less_than_written : (c : ℕ) → c ≡ 60 → codes "&lt;" ≡ escaped (encode_utf8 c)
unfolding written encode_utf8
less_than_written c e = rw e refl

pub greater_than_written : (c : ℕ) → c ≡ 62 → codes "&gt;" ≡ escaped (encode_utf8 c)
unfolding written encode_utf8
greater_than_written c e = rw e refl

pub double_quote_written : (c : ℕ) → c ≡ 34 → codes "&quot;" ≡ escaped (encode_utf8 c)
unfolding written encode_utf8
double_quote_written c e = rw e refl

pub single_quote_written : (c : ℕ) → c ≡ 39 → codes "&#39;" ≡ escaped (encode_utf8 c)
unfolding written encode_utf8
single_quote_written c e = rw e refl

high_plain : (b : ℕ) → 128 ≤ b → IsPlain b
high_plain b h = record {
  ampersand = λ e. absurd (omega arith);
  less_than = λ e. absurd (omega arith);
  greater_than = λ e. absurd (omega arith);
  double_quote = λ e. absurd (omega arith);
  single_quote = λ e. absurd (omega arith);
}

pub plain_kept : (c : ℕ) → IsPlain c → encode_utf8 c ≡ escaped (encode_utf8 c)
plain_kept c h =
    ⊎_elim
    (λ low. let one = encode_ascii c low in rw one (sym (ap (λ t. t ++ []) (plain_written c h))))
    (λ high. sym (high_kept written (λ b past. plain_written b (high_plain b past)) (encode_utf8 c) (high_bytes c high)))
    (cases_lt c 128)

-- ---- nothing written begins or ends a tag or a value

plain_no_markup : (b : ℕ) → IsPlain b → list_all (λ x. not (is_markup x)) (written b) ≡ true
plain_no_markup b h =
    ap (list_all (λ x. not (is_markup x))) (plain_written b h)
    ∙ and_from _ _
    (not_from_false _ (or_from _ _ (or_from _ _ (ne_eqb b 60 h.less_than) (ne_eqb b 62 h.greater_than))
    (or_from _ _ (ne_eqb b 34 h.double_quote) (ne_eqb b 39 h.single_quote)))) refl

written_no_markup : (b : ℕ) → list_all (λ x. not (is_markup x)) (written b) ≡ true
unfolding written
written_no_markup b =
    by_escape (λ x. list_all (λ y. not (is_markup y)) (written x) ≡ true) refl refl refl refl refl plain_no_markup b

all_true : (xs : List ℕ) → list_all (λ x. true) xs ≡ true
all_true [] = refl
all_true (x ∷ xs) = all_true xs

pub no_markup : (text html : List ℕ) → html ≡ escaped text → list_all (λ b. not (is_markup b)) html ≡ true
no_markup text html e =
    ap (list_all (λ b. not (is_markup b))) e
    ∙ flat_map_all (λ b. not (is_markup b)) (λ x. true) written (λ b _. written_no_markup b) text (all_true text)

-- ---- what is written reads back

plain_back : (b : ℕ) (rest : List ℕ) → IsPlain b → unescaped_after 0 (b ∷ rest) ≡ b ∷ unescaped_after 0 rest
unfolding unescaped_after
plain_back b rest h = let other : nat_eq 38 b ≡ false = ne_eqb 38 b (λ e. h.ampersand (sym e)) in rw other refl

written_back : (rest : List ℕ) (b : ℕ) → unescaped_after 0 (written b ++ rest) ≡ b ∷ unescaped_after 0 rest
unfolding written unescaped_after
written_back rest b =
    by_escape (λ x. unescaped_after 0 (written x ++ rest) ≡ x ∷ unescaped_after 0 rest) refl refl refl refl refl
    (λ x h. ap (λ t. unescaped_after 0 (t ++ rest)) (plain_written x h) ∙ plain_back x rest h) b

back : (text : List ℕ) → unescaped (escaped text) ≡ text
unfolding unescaped_after
back [] = refl
back (b ∷ text) = written_back (escaped text) b ∙ ap (λ t. b ∷ t) (back text)

pub unescapes : (text html : List ℕ) → html ≡ escaped text → unescaped html ≡ text
unescapes text html e = ap unescaped e ∙ back text

-- ---- the loop

pub all_escaped : (text html rest : List ℕ) → length rest ≡ 0 → html ++ escaped rest ≡ escaped text → html ≡ escaped text
all_escaped text html rest none so_far =
    sym (append-nil html) ∙ sym (ap (λ t. html ++ escaped t) (nil_from_length rest none)) ∙ so_far
