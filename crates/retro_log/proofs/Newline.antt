-- A newline after the text of a value doesn't change what is read.
use Rattle.std.proofs.Common.{◌≡◌, ◌∙◌, ℕ, Bool, true, false, cond, ◌&&◌, List, [], ◌∷◌, ◌++◌, refl, sym, ap}
use Rattle.std.proofs.Common.{ap₂, subst, append_assoc, append-nil}
use Rattle.std.specs.Prelude.{option_and_then, IsUtf8}
use lib.Utf8.{encode}
use Rattle.json.specs.Token.{Token, begin_object, end_object, begin_array, end_array, key, string, number, boolean}
use Rattle.json.specs.Token.{null, bad}
use Rattle.json.specs.Word.{ends_word, word}
use Rattle.json.specs.Lex.{token, comma, colon, string_token, lex, between, fresh, punctuate, tokens}
use Rattle.json.specs.Print.{escape, quoted, token_text, begins, ends, separator, print_from, print, IsPrintable}
use Rattle.json.specs.Print.{IsPrintableOrBad, ArePrintableOrBad}
use Rattle.json.specs.Json as json
use Rattle.json.specs.Tree.{json_tokens, items_tokens, members_tokens}
use Rattle.json.proofs.Numbered.{ArePrintableOrBad-tokens}
use Rattle.json.proofs.Printed.Strings.{content-escape, lex-escape}
use Rattle.json.proofs.Printed.Numbers.{lex-number, in_word-ended}
use Rattle.serde_json.specs.Read.{read, of_json, max_depth}

-- ---- a text is cut into tokens alike before two rests that are cut alike

lex_quoted : (s rest : List ℕ) → lex between (quoted s ++ rest) ≡ token (string s) ∷ lex between rest
unfolding lex
lex_quoted s rest =
    ap (λ l. lex between (34 ∷ l)) (append_assoc (escape s) (34 ∷ []) rest)
    ∙ ap₂ (λ o l. token (string_token o) ∷ l) (content-escape s rest) (lex-escape s rest)

lex_key : (s rest : List ℕ) → lex between ((quoted s ++ 58 ∷ []) ++ rest) ≡ token (string s) ∷ lex between (58 ∷ rest)
lex_key s rest = ap (lex between) (append_assoc (quoted s) (58 ∷ []) rest) ∙ lex_quoted s (58 ∷ rest)

lex_true : (rest : List ℕ) → ends_word rest ≡ true
    → lex between (token_text (boolean true) ++ rest) ≡ token (boolean true) ∷ lex between rest
unfolding lex word
lex_true rest w = ap₂ (λ b l. token (cond b (boolean true) bad) ∷ l) w (in_word-ended rest w)

lex_false : (rest : List ℕ) → ends_word rest ≡ true
    → lex between (token_text (boolean false) ++ rest) ≡ token (boolean false) ∷ lex between rest
unfolding lex word
lex_false rest w = ap₂ (λ b l. token (cond b (boolean false) bad) ∷ l) w (in_word-ended rest w)

lex_null : (rest : List ℕ) → ends_word rest ≡ true
    → lex between (token_text null ++ rest) ≡ token null ∷ lex between rest
unfolding lex word
lex_null rest w = ap₂ (λ b l. token (cond b null bad) ∷ l) w (in_word-ended rest w)

-- if the token ends only at the end of a word, both rests end one
same_text : (t : Token) (q r : List ℕ) → IsPrintable t
    → (ends t ≡ true → (ends_word q ≡ true) × (ends_word r ≡ true)) → lex between q ≡ lex between r
    → lex between (token_text t ++ q) ≡ lex between (token_text t ++ r)
unfolding lex word
same_text begin_object q r h ended e = ap (λ l. token begin_object ∷ l) e
same_text end_object q r h ended e = ap (λ l. token end_object ∷ l) e
same_text begin_array q r h ended e = ap (λ l. token begin_array ∷ l) e
same_text end_array q r h ended e = ap (λ l. token end_array ∷ l) e
same_text (key s) q r h ended e = lex_key s q ∙ ap (λ l. token (string s) ∷ colon ∷ l) e ∙ sym (lex_key s r)
same_text (string s) q r h ended e = lex_quoted s q ∙ ap (λ l. token (string s) ∷ l) e ∙ sym (lex_quoted s r)
same_text (number s) q r h ended e =
    lex-number s q h (ended refl).0 ∙ ap (λ l. token (number s) ∷ l) e ∙ sym (lex-number s r h (ended refl).1)
same_text (boolean true) q r h ended e =
    lex_true q (ended refl).0 ∙ ap (λ l. token (boolean true) ∷ l) e ∙ sym (lex_true r (ended refl).1)
same_text (boolean false) q r h ended e =
    lex_false q (ended refl).0 ∙ ap (λ l. token (boolean false) ∷ l) e ∙ sym (lex_false r (ended refl).1)
same_text null q r h ended e =
    lex_null q (ended refl).0 ∙ ap (λ l. token null ∷ l) e ∙ sym (lex_null r (ended refl).1)
same_text bad q r h ended e = absurd h

same_separator : (b : Bool) (q r : List ℕ) → lex between q ≡ lex between r
    → lex between (cond b (44 ∷ []) [] ++ q) ≡ lex between (cond b (44 ∷ []) [] ++ r)
unfolding lex
same_separator true q r e = ap (λ l. comma ∷ l) e
same_separator false q r e = e

-- the tokens after a value, followed by a text that ends a word, end a word
ends_so : (ts : List Token) (end : List ℕ) → ends_word end ≡ true → ends_word (print_from true ts ++ end) ≡ true
unfolding print_from
ends_so [] end h = h
ends_so (begin_object ∷ ts) end h = refl
ends_so (end_object ∷ ts) end h = refl
ends_so (begin_array ∷ ts) end h = refl
ends_so (end_array ∷ ts) end h = refl
ends_so (key s ∷ ts) end h = refl
ends_so (string s ∷ ts) end h = refl
ends_so (number s ∷ ts) end h = refl
ends_so (boolean b ∷ ts) end h = refl
ends_so (null ∷ ts) end h = refl
ends_so (bad ∷ ts) end h = refl

abbrev AreGood : List Token → Type 0
AreGood [] = Unit {0}
AreGood (t ∷ ts) = IsPrintable t × AreGood ts

newline_lexed : (c : Bool) (ts : List Token) → AreGood ts
    → lex between (print_from c ts ++ 10 ∷ []) ≡ lex between (print_from c ts ++ [])
unfolding lex print_from
newline_lexed c [] h = refl
newline_lexed c (t ∷ ts) h =
    let sep = separator c t in
    let rest = print_from (ends t) ts in
    let regroup : (end : List ℕ) → (sep ++ (token_text t ++ rest)) ++ end ≡ sep ++ (token_text t ++ (rest ++ end)) =
    λ end. simp append_assoc in
    let ended : ends t ≡ true → (ends_word (rest ++ 10 ∷ []) ≡ true) × (ends_word (rest ++ []) ≡ true) =
    λ e. (
      ap (λ b. ends_word (print_from b ts ++ 10 ∷ [])) e ∙ ends_so ts (10 ∷ []) refl,
      ap (λ b. ends_word (print_from b ts ++ [])) e ∙ ends_so ts [] refl,
    ) in
    ap (lex between) (regroup (10 ∷ []))
    ∙ same_separator (c && begins t) _ _
    (same_text t (rest ++ 10 ∷ []) (rest ++ []) h.0 ended (newline_lexed (ends t) ts h.1))
    ∙ sym (ap (lex between) (regroup []))

-- ---- the tokens of a value are never `bad`

good : (t : Token) → IsPrintableOrBad t → (t ≡ bad → ⊥) → IsPrintable t
good begin_object h other = tt
good end_object h other = tt
good begin_array h other = tt
good end_array h other = tt
good (key s) h other = tt
good (string s) h other = tt
good (number s) h other = h
good (boolean b) h other = tt
good null h other = tt
good bad h other = absurd (other refl)

abbrev NotBad : Token → Type 0
NotBad bad = ⊥
NotBad _ = Unit {0}

abbrev NoneBad : List Token → Type 0
NoneBad [] = Unit {0}
NoneBad (t ∷ ts) = NotBad t × NoneBad ts

none_bad_append : (ts us : List Token) → NoneBad ts → NoneBad us → NoneBad (ts ++ us)
none_bad_append [] us h k = k
none_bad_append (t ∷ ts) us h k = (h.0, none_bad_append ts us h.1 k)

mutual
  none_bad : (j : json.Json) → NoneBad (json_tokens j)
  none_bad json.null = (tt, tt)
  none_bad (json.boolean b) = (tt, tt)
  none_bad (json.number s) = (tt, tt)
  none_bad (json.string s) = (tt, tt)
  none_bad (json.array js) = (tt, none_bad_items js)
  none_bad (json.object ms) = (tt, none_bad_members ms)

  none_bad_items : (js : json.Items) → NoneBad (items_tokens js)
  none_bad_items json.no_items = (tt, tt)
  none_bad_items (json.item j js) =
      none_bad_append (json_tokens j) (items_tokens js) (none_bad j) (none_bad_items js)

  none_bad_members : (ms : json.Members) → NoneBad (members_tokens ms)
  none_bad_members json.no_members = (tt, tt)
  none_bad_members (json.member k j ms) =
      (tt, none_bad_append (json_tokens j) (members_tokens ms) (none_bad j) (none_bad_members ms))

all_good : (ts : List Token) → ArePrintableOrBad ts → NoneBad ts → AreGood ts
all_good [] h k = tt
all_good (t ∷ ts) h k = (good t h.0 (λ e. subst NotBad e k.0), all_good ts h.1 k.1)

pub newline_reads : (text : List ℕ) (j : json.Json) → text ≡ print (tokens text) → tokens text ≡ json_tokens j
    → read (text ++ 10 ∷ []) ≡ read text
newline_reads text j printed same_tokens =
    let goods : AreGood (tokens text) =
    all_good (tokens text) (ArePrintableOrBad-tokens text) (subst NoneBad (sym same_tokens) (none_bad j)) in
    let same : lex between (text ++ 10 ∷ []) ≡ lex between text =
    ap (λ s. lex between (s ++ 10 ∷ [])) printed ∙ newline_lexed false (tokens text) goods
    ∙ ap (lex between) (append-nil _) ∙ sym (ap (lex between) printed) in
    ap (λ ls. option_and_then of_json (option_and_then (λ p. json.if_last p.0 p.1)
    (json.value max_depth (punctuate fresh ls)))) same

pub newline_utf8 : IsUtf8 (10 ∷ [])
unfolding encode
newline_utf8 = (10 ∷ [], (refl, refl))
