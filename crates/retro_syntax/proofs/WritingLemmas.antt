-- A writing of tokens is read as them.
use Rattle.std.proofs.Common.{◌≡◌, ℕ, Bool, true, false, not, ◌&&◌, ◌||◌, ◌==◌, ◌<◌, List, [], ◌∷◌, ◌++◌, map, Some}
use Rattle.std.proofs.Common.{cond, arith, refl, sym, ap, subst, ◌∙◌, append_assoc, append-nil, codes}
use Rattle.std.specs.Char.{encode_utf8, is_ascii_digit, is_ascii_alphanumeric}
use Rattle.std.proofs.lemmas.Bool.{eqb-true, ne_eqb}
use Rattle.std.proofs.lemmas.Bool.Decides.{leb_tells, eqb_tells}
use Rattle.std.proofs.lemmas.Str.{encode_ascii}
use Rattle.retro_syntax.specs.Ascii.{is_among}
use Rattle.retro_syntax.specs.Tree as T
use Rattle.std.specs.List.{list_all}
use Rattle.retro_path.specs.VarName.{starts_name, continues_name, is_shell_name, is_var_name}
use Rattle.retro_syntax.specs.Quoting.{unquoted as Unquoted, double as Double, Lexing, Reading, with_pending, between}
use Rattle.retro_syntax.specs.Quoting.{reading, in_word, dollar, dollar_brace, add_plain, add_quoted, parameter_piece}
use Rattle.retro_syntax.specs.Quoting.{quote_of, is_other_parameter, is_special_inside, lex_step, lex_run, lex_end}
use Rattle.retro_syntax.specs.Quoting.{tokens_of}
use Rattle.retro_syntax.specs.declared.tree.Direction.TheVariants.{From, Onto, Append}
use Rattle.retro_syntax.specs.declared.tree.Connector.TheVariants.{AndIf, OrIf}
use Rattle.retro_syntax.specs.Writing.{Part, unquoted, quoted, parameter, Written, semicolon, bar, connector}
use Rattle.retro_syntax.specs.Writing.{redirection, word, bytes_of, pieces_of, word_of, token_of, parameter_text}
use Rattle.retro_syntax.specs.Writing.{parameters_then, escaped_then, part_then, parts_then, token_then, written}
use Rattle.retro_syntax.specs.Writing.{breaking_characters, fits, begins_parameter, is_literal_dollar, are_unquoted}
use Rattle.retro_syntax.specs.Writing.{are_quoted, is_parameter, are_parameters, is_part, is_unquoted_parameter}
use Rattle.retro_syntax.specs.Writing.{are_apart, are_parts, begins_no_comment, is_writable, are_writable}
use Rattle.retro_syntax.proofs.WordLemmas.{shell_name}
use Rattle.retro_syntax.proofs.QuotingLemmas.{add_plain_push, add_quoted_push}

-- ---- tests

pub and_left : (a b : Bool) → (a && b) ≡ true → a ≡ true
and_left true b e = refl
and_left false b e = e

pub and_right : (a b : Bool) → (a && b) ≡ true → b ≡ true
and_right true b e = e
and_right false b e = cc

pub or_left : (a b : Bool) → (a || b) ≡ false → a ≡ false
or_left true b e = e
or_left false b e = refl

pub or_right : (a b : Bool) → (a || b) ≡ false → b ≡ false
or_right true b e = cc
or_right false b e = e

pub not_true : (a : Bool) → not a ≡ true → a ≡ false
not_true true e = cc
not_true false e = refl

-- none of them
abbrev pub Outside : List ℕ → ℕ → Type 0
Outside [] c = Unit {0}
Outside (d ∷ ds) c = ((c == d) ≡ false) × Outside ds c

pub outside : (ds : List ℕ) (c : ℕ) → is_among ds c ≡ false → Outside ds c
outside [] c e = tt
outside (d ∷ ds) c e = (or_left (c == d) (is_among ds c) e, outside ds c (or_right (c == d) (is_among ds c) e))

outside_of : (c : ℕ) → fits c ≡ true → Outside breaking_characters c
outside_of c e = outside breaking_characters c (not_true (is_among breaking_characters c) e)

-- ---- states

abbrev pub at : List T.Token → Reading → Lexing
at ts r = with_pending ts (reading r)

abbrev inside_word : List T.Token → List T.Piece → Bool → Lexing
inside_word ts ps digits = at ts (in_word ps digits Unquoted)

abbrev pub inside_quotes : List T.Token → List T.Piece → Lexing
inside_quotes ts ps = at ts (in_word ps false Double)

-- one step, and then the rest
pub next : (l m : Lexing) (c : ℕ) (r : List ℕ) → lex_step l c ≡ Some m → lex_run (Some l) (c ∷ r) ≡ lex_run (Some m) r
next l m c r e = ap (λ x. lex_run x r) e

-- from here the characters lead into the word of these pieces
abbrev Reaches : List T.Token → Lexing → List ℕ → List T.Piece → List ℕ → Type 0
Reaches ts l cs ps r = (digits : Bool) × (lex_run (Some l) cs ≡ lex_run (Some (inside_word ts ps digits)) r)

-- ---- unquoted characters

step_plain : (ts : List T.Token) (ps : List T.Piece) (digits : Bool) (c : ℕ) → Outside breaking_characters c
    → lex_step (inside_word ts ps digits) c ≡ Some (inside_word ts (add_plain ps c) (digits && is_ascii_digit c))
unfolding lex_step
step_plain ts ps digits c o =
    rw (
      o.0,
      o.1.0,
      o.1.1.0,
      o.1.1.1.0,
      o.1.1.1.1.0,
      o.1.1.1.1.1.0,
      o.1.1.1.1.1.1.0,
      o.1.1.1.1.1.1.1.0,
      o.1.1.1.1.1.1.1.1.0,
      o.1.1.1.1.1.1.1.1.1.0,
      o.1.1.1.1.1.1.1.1.1.1.0,
      o.1.1.1.1.1.1.1.1.1.1.1.0,
      o.1.1.1.1.1.1.1.1.1.1.1.1.0,
      o.1.1.1.1.1.1.1.1.1.1.1.1.1.0,
      o.1.1.1.1.1.1.1.1.1.1.1.1.1.1.0,
      o.1.1.1.1.1.1.1.1.1.1.1.1.1.1.1.0,
    ) refl

start_plain : (ts : List T.Token) (c : ℕ) → Outside breaking_characters c → (c == 35) ≡ false
    → lex_step (with_pending ts between) c ≡ Some (inside_word ts (add_plain [] c) (is_ascii_digit c))
unfolding lex_step
start_plain ts c o h =
    rw (
      o.0,
      o.1.0,
      o.1.1.0,
      o.1.1.1.0,
      o.1.1.1.1.0,
      o.1.1.1.1.1.0,
      o.1.1.1.1.1.1.0,
      o.1.1.1.1.1.1.1.0,
      h,
      o.1.1.1.1.1.1.1.1.0,
      o.1.1.1.1.1.1.1.1.1.0,
      o.1.1.1.1.1.1.1.1.1.1.0,
      o.1.1.1.1.1.1.1.1.1.1.1.0,
      o.1.1.1.1.1.1.1.1.1.1.1.1.0,
      o.1.1.1.1.1.1.1.1.1.1.1.1.1.0,
      o.1.1.1.1.1.1.1.1.1.1.1.1.1.1.0,
      o.1.1.1.1.1.1.1.1.1.1.1.1.1.1.1.0,
    ) refl

step_dollar : (ts : List T.Token) (ps : List T.Piece) (digits : Bool)
    → lex_step (inside_word ts ps digits) 36 ≡ Some (at ts (dollar ps false))
unfolding lex_step
step_dollar ts ps digits = refl

-- what follows a `$` that begins no parameter
abbrev IsNoName : ℕ → Type 0
IsNoName c = ((c == 92) ≡ false) × (starts_name c ≡ false) × ((c == 123) ≡ false) × ((c == 63) ≡ false) ×
    (is_other_parameter c ≡ false)

abbrev NoParameterNext : List ℕ → Type 0
NoParameterNext [] = ⊥
NoParameterNext (c ∷ cs) = IsNoName c

step_after_dollar : (ts : List T.Token) (ps : List T.Piece) (c : ℕ) → IsNoName c
    → lex_step (at ts (dollar ps false)) c ≡ lex_step (inside_word ts (add_plain ps 36) false) c
unfolding lex_step
step_after_dollar ts ps c h = rw (h.0, h.1, h.2, h.3, h.4) refl

dollar_on : (ts : List T.Token) (ps : List T.Piece) (cs : List ℕ) → NoParameterNext cs
    → lex_run (Some (at ts (dollar ps false))) cs ≡ lex_run (Some (inside_word ts (add_plain ps 36) false)) cs
dollar_on ts ps [] h = absurd h
dollar_on ts ps (c ∷ cs) h = ap (λ x. lex_run x cs) (step_after_dollar ts ps c h)

no_name : (c : ℕ) → (c == 92) ≡ false → begins_parameter c ≡ false → IsNoName c
no_name c b e =
    let one = or_right (starts_name c) ((c == 123) || ((c == 63) || is_other_parameter c)) e in
    let two = or_right (c == 123) ((c == 63) || is_other_parameter c) one in (
      b,
      or_left (starts_name c) ((c == 123) || ((c == 63) || is_other_parameter c)) e,
      or_left (c == 123)
          ((c == 63) || is_other_parameter c) one,
      or_left (c == 63) (is_other_parameter c) two,
      or_right (c == 63)
          (is_other_parameter c) two,
    )

-- what may follow an unquoted part
abbrev Follows : Bool → List ℕ → Type 0
Follows followed r = followed ≡ false → NoParameterNext r

-- an unquoted character fits, or is a `$` that begins no parameter
no_backslash : (followed : Bool) (c : ℕ) (cs : List ℕ) (t : Bool) → fits c ≡ t
    → (t || ((c == 36) && is_literal_dollar followed cs)) ≡ true → (c == 92) ≡ false
no_backslash followed c cs true f e = (outside_of c f).0
no_backslash followed c cs false f e = let same : c ≡ 36 =
    eqb-true c 36 (and_left (c == 36) (is_literal_dollar followed cs) e) in rw same refl

alone_before : (followed : Bool) (cs r : List ℕ) → is_literal_dollar followed cs ≡ true
    → are_unquoted followed cs ≡ true → Follows followed r → NoParameterNext (cs ++ r)
alone_before followed [] r a u b = b (not_true followed a)
alone_before followed (c ∷ cs) r a u b =
    no_name c
    (no_backslash followed c cs (fits c) refl
    (and_left (fits c || ((c == 36) && is_literal_dollar followed cs)) (are_unquoted followed cs) u))
    (not_true (begins_parameter c) a)

abbrev pub add_all : List T.Piece → List ℕ → List T.Piece
add_all ps [] = ps
add_all ps (c ∷ cs) = add_all (add_plain ps c) cs

unquoted_by : (ts : List T.Token) (ps : List T.Piece) (digits followed : Bool) (c : ℕ) (cs r : List ℕ) (t : Bool)
    → fits c ≡ t
    → (t || ((c == 36) && is_literal_dollar followed cs)) ≡ true → are_unquoted followed cs ≡ true → Follows followed r
    → ((qs : List T.Piece) (d : Bool) → Reaches ts (inside_word ts qs d) (cs ++ r) (add_all qs cs) r)
    → Reaches ts (inside_word ts ps digits) (c ∷ (cs ++ r)) (add_all (add_plain ps c) cs) r
unquoted_by ts ps digits followed c cs r true f e u b rest =
    let x = rest (add_plain ps c) (digits && is_ascii_digit c) in
    (x.0, next _ _ c (cs ++ r) (step_plain ts ps digits c (outside_of c f)) ∙ x.1)
unquoted_by ts ps digits followed c cs r false f e u b rest =
    let same : c ≡ 36 = eqb-true c 36 (and_left (c == 36) (is_literal_dollar followed cs) e) in
    let x = rest (add_plain ps 36) false in
    let alone = alone_before followed cs r (and_right (c == 36) (is_literal_dollar followed cs) e) u b in
    subst (λ d. Reaches ts (inside_word ts ps digits) (d ∷ (cs ++ r)) (add_all (add_plain ps d) cs) r) (sym same)
    (x.0, next _ _ 36 (cs ++ r) (step_dollar ts ps digits) ∙ dollar_on ts ps (cs ++ r) alone ∙ x.1)

unquoted_on : (ts : List T.Token) (ps : List T.Piece) (digits followed : Bool) (cs r : List ℕ)
    → are_unquoted followed cs ≡ true → Follows followed r
    → Reaches ts (inside_word ts ps digits) (cs ++ r) (add_all ps cs) r
unquoted_on ts ps digits followed [] r u b = (digits, refl)
unquoted_on ts ps digits followed (c ∷ cs) r u b =
    let one = and_left (fits c || ((c == 36) && is_literal_dollar followed cs)) (are_unquoted followed cs) u in
    let rest = and_right (fits c || ((c == 36) && is_literal_dollar followed cs)) (are_unquoted followed cs) u in
    unquoted_by ts ps digits followed c cs r (fits c) refl one rest b (λ qs d. unquoted_on ts qs d followed cs r rest b)

-- ---- a parameter

pub differs : (f : ℕ → Bool) (c k : ℕ) → f c ≡ true → f k ≡ false → (c == k) ≡ false
differs f c k h e = ne_eqb c k (λ s. let both : false ≡ true = sym e ∙ subst (λ x. f x ≡ true) s h in cc)

pub name_is_ascii : (c : ℕ) → (is_ascii_alphanumeric c || (c == 95)) ≡ true → encode_utf8 c ≡ c ∷ []
unfolding encode_utf8
name_is_ascii c e = let low : c < 128 = grind (arith, leb_tells, eqb_tells) in encode_ascii c low

pub name_begins : (c : ℕ) → starts_name c ≡ true → (is_ascii_alphanumeric c || (c == 95)) ≡ true
name_begins c e = grind (arith, leb_tells, eqb_tells)

pub step_name : (ts : List T.Token) (ps : List T.Piece) (inside : Bool) (b : ℕ) (n : List ℕ) (c : ℕ)
    → (is_ascii_alphanumeric c || (c == 95)) ≡ true
    → lex_step (at ts (dollar_brace ps inside (b ∷ n))) c ≡ Some (at ts (dollar_brace ps inside (b ∷ (n ++ c ∷ []))))
unfolding lex_step
step_name ts ps inside b n c h =
    rw (
      differs (λ x. is_ascii_alphanumeric x || (x == 95)) c 92 h refl,
      differs
          (λ x. is_ascii_alphanumeric x || (x == 95)) c 125 h refl,
      h,
      name_is_ascii c h,
    ) refl

step_brace : (ts : List T.Token) (ps : List T.Piece) (inside : Bool) (b : ℕ) (n : List ℕ) → is_var_name (b ∷ n) ≡ true
    → lex_step (at ts (dollar_brace ps inside (b ∷ n))) 125 ≡ Some
    (at ts (in_word (ps ++ parameter_piece inside (T.variable (b ∷ n)) ∷ []) false (quote_of inside)))
unfolding lex_step
step_brace ts ps inside b n h = rw h refl

pub step_first : (ts : List T.Token) (ps : List T.Piece) (inside : Bool) (c : ℕ) → starts_name c ≡ true
    → lex_step (at ts (dollar_brace ps inside [])) c ≡ Some (at ts (dollar_brace ps inside (c ∷ [])))
unfolding lex_step
step_first ts ps inside c h =
    rw (differs starts_name c 92 h refl, differs starts_name c 63 h refl, h, name_is_ascii c (name_begins c h)) refl

-- after a variable
abbrev after : List T.Token → List T.Piece → Bool → List ℕ → Lexing
after ts ps inside n = at ts (in_word (ps ++ parameter_piece inside (T.variable n) ∷ []) false (quote_of inside))

name_on : (ts : List T.Token) (ps : List T.Piece) (inside : Bool) (b : ℕ) (n cs r : List ℕ)
    → list_all continues_name cs ≡ true → is_var_name (b ∷ (n ++ cs)) ≡ true
    → lex_run (Some (at ts (dollar_brace ps inside (b ∷ n)))) (cs ++ 125 ∷ r) ≡ lex_run
    (Some (after ts ps inside (b ∷ (n ++ cs)))) r
name_on ts ps inside b n [] r g u =
    let plain : is_var_name (b ∷ n) ≡ true = subst (λ m. is_var_name (b ∷ m) ≡ true) (append-nil n) u in
    next _ _ 125 r (step_brace ts ps inside b n plain)
    ∙ ap (λ m. lex_run (Some (after ts ps inside (b ∷ m))) r) (sym (append-nil n))
name_on ts ps inside b n (c ∷ cs) r g u =
    let one = and_left (continues_name c) (list_all continues_name cs) g in
    let rest = and_right (continues_name c) (list_all continues_name cs) g in
    let same : (n ++ c ∷ []) ++ cs ≡ n ++ c ∷ cs = append_assoc n (c ∷ []) cs in
    let v : is_var_name (b ∷ ((n ++ c ∷ []) ++ cs)) ≡ true = subst (λ m. is_var_name (b ∷ m) ≡ true) (sym same) u in
    next _ _ c (cs ++ 125 ∷ r) (step_name ts ps inside b n c one) ∙ name_on ts ps inside b (n ++ c ∷ []) cs r rest v
    ∙ ap (λ m. lex_run (Some (after ts ps inside (b ∷ m))) r) same

-- the parameter in braces, and `}`
abbrev Named : List T.Token → List T.Piece → Bool → T.Parameter → List ℕ → Type 0
Named ts ps inside p r =
    lex_run (Some (at ts (dollar_brace ps inside []))) (parameter_text p ++ 125 ∷ r) ≡ lex_run
    (Some (at ts (in_word (ps ++ parameter_piece inside p ∷ []) false (quote_of inside)))) r

variable_by : (ts : List T.Token) (ps : List T.Piece) (inside : Bool) (n r : List ℕ) → is_shell_name n ≡ true
    → is_var_name n ≡ true → Named ts ps inside (T.variable n) r
unfolding is_shell_name
variable_by ts ps inside [] r name h = cc
variable_by ts ps inside (c ∷ cs) r name h =
    next _ _ c (cs ++ 125 ∷ r) (step_first ts ps inside c (and_left (starts_name c) (list_all continues_name cs) name))
    ∙ name_on ts ps inside c [] cs r (and_right (starts_name c) (list_all continues_name cs) name) h

named_on : (ts : List T.Token) (ps : List T.Piece) (inside : Bool) (p : T.Parameter) (r : List ℕ)
    → is_parameter p ≡ true → Named ts ps inside p r
unfolding lex_step
named_on ts ps inside T.status r h = refl
named_on ts ps inside (T.variable n) r h = variable_by ts ps inside n r (shell_name n h) h

step_outside : (ts : List T.Token) (ps : List T.Piece) (digits : Bool) (r : List ℕ)
    → lex_run (Some (inside_word ts ps digits)) (36 ∷ 123 ∷ r) ≡ lex_run (Some (at ts (dollar_brace ps false []))) r
unfolding lex_step
step_outside ts ps digits r = refl

step_inside : (ts : List T.Token) (ps : List T.Piece) (r : List ℕ)
    → lex_run (Some (inside_quotes ts ps)) (36 ∷ 123 ∷ r) ≡ lex_run (Some (at ts (dollar_brace ps true []))) r
unfolding lex_step
step_inside ts ps r = refl

parameters_on : (ts : List T.Token) (ps : List T.Piece) (ns : List T.Parameter) (r : List ℕ) → are_parameters ns ≡ true
    → lex_run (Some (inside_quotes ts ps)) (parameters_then ns r) ≡ lex_run
    (Some (inside_quotes ts (ps ++ map T.quoted_parameter ns))) r
parameters_on ts ps [] r h = ap (λ qs. lex_run (Some (inside_quotes ts qs)) r) (sym (append-nil ps))
parameters_on ts ps (n ∷ ns) r h =
    step_inside ts ps (parameter_text n ++ 125 ∷ parameters_then ns r)
    ∙ named_on ts ps true n (parameters_then ns r) (and_left (is_parameter n) (are_parameters ns) h)
    ∙ parameters_on ts (ps ++ T.quoted_parameter n ∷ []) ns r (and_right (is_parameter n) (are_parameters ns) h)
    ∙ ap (λ qs. lex_run (Some (inside_quotes ts qs)) r)
    (append_assoc ps (T.quoted_parameter n ∷ []) (map T.quoted_parameter ns))

-- ---- quoted characters

abbrev quote_all : List T.Piece → List ℕ → List T.Piece
quote_all ps [] = ps
quote_all ps (c ∷ cs) = quote_all (add_quoted ps (encode_utf8 c)) cs

-- after a backslash in double quotes
abbrev slashed : List T.Token → List T.Piece → Lexing
slashed ts ps = record { tokens = ts; pending = reading (in_word ps false Double); backslash = true }

step_backslash : (ts : List T.Token) (ps : List T.Piece) → lex_step (inside_quotes ts ps) 92 ≡ Some (slashed ts ps)
unfolding lex_step
step_backslash ts ps = refl

step_escaped : (ts : List T.Token) (ps : List T.Piece) (c : ℕ) → is_special_inside c ≡ true
    → lex_step (slashed ts ps) c ≡ Some (inside_quotes ts (add_quoted ps (encode_utf8 c)))
unfolding lex_step
step_escaped ts ps c h = rw (differs is_special_inside c 10 h refl, differs is_special_inside c 0 h refl, h) refl

step_quoted : (ts : List T.Token) (ps : List T.Piece) (c : ℕ) → is_special_inside c ≡ false → (c == 0) ≡ false
    → lex_step (inside_quotes ts ps) c ≡ Some (inside_quotes ts (add_quoted ps (encode_utf8 c)))
unfolding lex_step
step_quoted ts ps c h z = let o = outside (codes "$`\"\\") c h in rw (o.1.1.1.0, o.1.1.0, o.0, z, o.1.0) refl

pub escaped_by : (ts : List T.Token) (ps : List T.Piece) (c : ℕ) (r : List ℕ) (t : Bool) → is_special_inside c ≡ t
    → (c == 0) ≡ false
    → lex_run (Some (inside_quotes ts ps)) (cond t (92 ∷ c ∷ r) (c ∷ r)) ≡ lex_run
    (Some (inside_quotes ts (add_quoted ps (encode_utf8 c)))) r
escaped_by ts ps c r true e z =
    next (inside_quotes ts ps) (slashed ts ps) 92 (c ∷ r) (step_backslash ts ps)
    ∙ next (slashed ts ps) (inside_quotes ts (add_quoted ps (encode_utf8 c))) c r (step_escaped ts ps c e)
escaped_by ts ps c r false e z = next (inside_quotes ts ps) (inside_quotes ts (add_quoted ps (encode_utf8 c))) c r
    (step_quoted ts ps c e z)

escaped_on : (ts : List T.Token) (ps : List T.Piece) (cs r : List ℕ) → are_quoted cs ≡ true
    → lex_run (Some (inside_quotes ts ps)) (escaped_then cs r) ≡ lex_run (Some (inside_quotes ts (quote_all ps cs))) r
escaped_on ts ps [] r h = refl
escaped_on ts ps (c ∷ cs) r h =
    escaped_by ts ps c (escaped_then cs r) (is_special_inside c) refl
    (not_true (c == 0) (and_left (not (c == 0)) (are_quoted cs) h))
    ∙ escaped_on ts (add_quoted ps (encode_utf8 c)) cs r (and_right (not (c == 0)) (are_quoted cs) h)

-- ---- the pieces that grow

pub add_all_plain : (ps : List T.Piece) (t cs : List ℕ)
    → add_all (ps ++ T.plain t ∷ []) cs ≡ ps ++ T.plain (t ++ bytes_of cs) ∷ []
add_all_plain ps t [] = ap (λ u. ps ++ T.plain u ∷ []) (sym (append-nil t))
add_all_plain ps t (c ∷ cs) =
    ap (λ qs. add_all qs cs) (add_plain_push ps (T.plain t) c) ∙ add_all_plain ps (t ++ encode_utf8 c) cs
    ∙ ap (λ u. ps ++ T.plain u ∷ []) (append_assoc t (encode_utf8 c) (bytes_of cs))

quote_all_quoted : (ps : List T.Piece) (t cs : List ℕ)
    → quote_all (ps ++ T.quoted t ∷ []) cs ≡ ps ++ T.quoted (t ++ bytes_of cs) ∷ []
quote_all_quoted ps t [] = ap (λ u. ps ++ T.quoted u ∷ []) (sym (append-nil t))
quote_all_quoted ps t (c ∷ cs) =
    ap (λ qs. quote_all qs cs) (add_quoted_push ps (T.quoted t) (encode_utf8 c))
    ∙ quote_all_quoted ps (t ++ encode_utf8 c) cs
    ∙ ap (λ u. ps ++ T.quoted u ∷ []) (append_assoc t (encode_utf8 c) (bytes_of cs))

-- ---- a part

-- the pieces before the part don't grow by it
abbrev pub Ready : Part → List T.Piece → Type 0
Ready (unquoted cs) ps = (c : ℕ) → add_plain ps c ≡ ps ++ T.plain (encode_utf8 c) ∷ []
Ready (quoted cs ns) ps = (s : List ℕ) → add_quoted ps s ≡ ps ++ T.quoted s ∷ []
Ready (parameter n) ps = Unit {0}

abbrev FollowsPart : Part → Bool → List ℕ → Type 0
FollowsPart (unquoted cs) followed r = Follows followed r
FollowsPart (quoted cs ns) followed r = Unit {0}
FollowsPart (parameter n) followed r = Unit {0}

open_quotes : (ts : List T.Token) (ps : List T.Piece) (digits : Bool) (r : List ℕ)
    → lex_run (Some (inside_word ts ps digits)) (34 ∷ r) ≡ lex_run (Some (inside_quotes ts (add_quoted ps []))) r
unfolding lex_step
open_quotes ts ps digits r = refl

close_quotes : (ts : List T.Token) (ps : List T.Piece) (r : List ℕ)
    → lex_run (Some (inside_quotes ts ps)) (34 ∷ r) ≡ lex_run (Some (inside_word ts ps false)) r
unfolding lex_step
close_quotes ts ps r = refl

part_on : (ts : List T.Token) (ps : List T.Piece) (digits followed : Bool) (p : Part) (r : List ℕ)
    → is_part followed p ≡ true → Ready p ps → FollowsPart p followed r
    → Reaches ts (inside_word ts ps digits) (part_then p r) (ps ++ pieces_of p) r
part_on ts ps digits followed (unquoted []) r h k b = cc
part_on ts ps digits followed (unquoted (c ∷ cs)) r h k b =
    let x = unquoted_on ts ps digits followed (c ∷ cs) r h b in
    let grown : add_all ps (c ∷ cs) ≡ ps ++ T.plain (bytes_of (c ∷ cs)) ∷ [] = ap (λ qs. add_all qs cs) (k c)
    ∙ add_all_plain ps (encode_utf8 c) cs in
    (x.0, x.1 ∙ ap (λ qs. lex_run (Some (inside_word ts qs x.0)) r) grown)
part_on ts ps digits followed (quoted cs ns) r h k b =
    let inner : List ℕ = parameters_then ns (34 ∷ r) in
    let grown : quote_all (add_quoted ps []) cs ++ map T.quoted_parameter ns ≡ ps ++ T.quoted (bytes_of cs) ∷ map
    T.quoted_parameter ns =
    ap (λ qs. quote_all qs cs ++ map T.quoted_parameter ns) (k [])
    ∙ ap (λ qs. qs ++ map T.quoted_parameter ns) (quote_all_quoted ps [] cs)
    ∙ append_assoc ps (T.quoted (bytes_of cs) ∷ []) (map T.quoted_parameter ns) in (
      false,
      open_quotes ts ps digits (escaped_then cs inner)
          ∙ escaped_on ts (add_quoted ps []) cs inner (and_left (are_quoted cs) (are_parameters ns) h)
          ∙ parameters_on ts (quote_all (add_quoted ps []) cs) ns (34 ∷ r)
          (and_right (are_quoted cs) (are_parameters ns) h)
          ∙ close_quotes ts (quote_all (add_quoted ps []) cs ++ map T.quoted_parameter ns) r
          ∙ ap (λ qs. lex_run (Some (inside_word ts qs false)) r) grown,
    )
part_on ts ps digits followed (parameter n) r h k b =
    (false, step_outside ts ps digits (parameter_text n ++ 125 ∷ r) ∙ named_on ts ps false n r h)

-- after a parameter in quotes
plain_after : (ps : List T.Piece) (n : T.Parameter) (ns : List T.Parameter) (c : ℕ)
    → add_plain (ps ++ map T.quoted_parameter (n ∷ ns)) c ≡ (ps ++ map T.quoted_parameter (n ∷ ns)) ++ T.plain
    (encode_utf8 c) ∷ []
plain_after ps n [] c = add_plain_push ps (T.quoted_parameter n) c
    ∙ sym (append_assoc ps (T.quoted_parameter n ∷ []) (T.plain (encode_utf8 c) ∷ []))
plain_after ps n (m ∷ ns) c =
    let same = append_assoc ps (T.quoted_parameter n ∷ []) (map T.quoted_parameter (m ∷ ns)) in
    subst (λ qs. add_plain qs c ≡ qs ++ T.plain (encode_utf8 c) ∷ []) same
    (plain_after (ps ++ T.quoted_parameter n ∷ []) m ns c)

quoted_after : (ps : List T.Piece) (n : T.Parameter) (ns : List T.Parameter) (s : List ℕ)
    → add_quoted (ps ++ map T.quoted_parameter (n ∷ ns)) s ≡ (ps ++ map T.quoted_parameter (n ∷ ns)) ++ T.quoted s ∷ []
quoted_after ps n [] s = add_quoted_push ps (T.quoted_parameter n) s
    ∙ sym (append_assoc ps (T.quoted_parameter n ∷ []) (T.quoted s ∷ []))
quoted_after ps n (m ∷ ns) s =
    let same = append_assoc ps (T.quoted_parameter n ∷ []) (map T.quoted_parameter (m ∷ ns)) in
    subst (λ qs. add_quoted qs s ≡ qs ++ T.quoted s ∷ []) same (quoted_after (ps ++ T.quoted_parameter n ∷ []) m ns s)

pub ready_after : (p q : Part) (ps : List T.Piece) → are_apart p q ≡ true → Ready q (ps ++ pieces_of p)
ready_after (unquoted cs) (unquoted ds) ps h = cc
ready_after (unquoted cs) (quoted ds ms) ps h = λ s. add_quoted_push ps (T.plain (bytes_of cs)) s
    ∙ sym (append_assoc ps (T.plain (bytes_of cs) ∷ []) (T.quoted s ∷ []))
ready_after (unquoted cs) (parameter m) ps h = tt
ready_after (quoted cs []) (unquoted ds) ps h = λ c. add_plain_push ps (T.quoted (bytes_of cs)) c
    ∙ sym (append_assoc ps (T.quoted (bytes_of cs) ∷ []) (T.plain (encode_utf8 c) ∷ []))
ready_after (quoted cs (n ∷ ns)) (unquoted ds) ps h = λ c.
    subst (λ qs. add_plain qs c ≡ qs ++ T.plain (encode_utf8 c) ∷ [])
    (append_assoc ps (T.quoted (bytes_of cs) ∷ []) (map T.quoted_parameter (n ∷ ns)))
    (plain_after (ps ++ T.quoted (bytes_of cs) ∷ []) n ns c)
ready_after (quoted cs []) (quoted ds ms) ps h = cc
ready_after (quoted cs (n ∷ ns)) (quoted ds ms) ps h = λ s.
    subst (λ qs. add_quoted qs s ≡ qs ++ T.quoted s ∷ [])
    (append_assoc ps (T.quoted (bytes_of cs) ∷ []) (map T.quoted_parameter (n ∷ ns)))
    (quoted_after (ps ++ T.quoted (bytes_of cs) ∷ []) n ns s)
ready_after (quoted cs ns) (parameter m) ps h = tt
ready_after (parameter n) (unquoted ds) ps h = λ c. add_plain_push ps (T.parameter n) c
    ∙ sym (append_assoc ps (T.parameter n ∷ []) (T.plain (encode_utf8 c) ∷ []))
ready_after (parameter n) (quoted ds ms) ps h = λ s. add_quoted_push ps (T.parameter n) s
    ∙ sym (append_assoc ps (T.parameter n ∷ []) (T.quoted s ∷ []))
ready_after (parameter n) (parameter m) ps h = tt

follows_part : (p q : Part) (qs : List Part) (r : List ℕ) → are_apart p q ≡ true
    → FollowsPart p (is_unquoted_parameter q) (parts_then (q ∷ qs) r)
follows_part (unquoted cs) (unquoted ds) qs r h = cc
follows_part (unquoted cs) (quoted ds ms) qs r h = λ e. (refl, refl, refl, refl, refl)
follows_part (unquoted cs) (parameter m) qs r h = λ e. absurd (let both : true ≡ false = e in cc)
follows_part (quoted cs ns) q qs r h = tt
follows_part (parameter n) q qs r h = tt

before_end : (p : Part) (r : List ℕ) → FollowsPart p false (32 ∷ r)
before_end (unquoted cs) r = λ e. (refl, refl, refl, refl, refl)
before_end (quoted cs ns) r = tt
before_end (parameter n) r = tt

-- ---- a word

parts_on : (ts : List T.Token) (ps : List T.Piece) (digits : Bool) (p : Part) (qs : List Part) (r : List ℕ)
    → are_parts (p ∷ qs) ≡ true → Ready p ps
    → Reaches ts (inside_word ts ps digits) (parts_then (p ∷ qs) (32 ∷ r)) (ps ++ word_of (p ∷ qs)) (32 ∷ r)
parts_on ts ps digits p [] r h k =
    let x = part_on ts ps digits false p (32 ∷ r) h k (before_end p r) in
    (x.0, x.1 ∙ ap (λ ys. lex_run (Some (inside_word ts (ps ++ ys) x.0)) (32 ∷ r)) (sym (append-nil (pieces_of p))))
parts_on ts ps digits p (q ∷ qs) r h k =
    let rest = and_right (is_part (is_unquoted_parameter q) p) (are_apart p q && are_parts (q ∷ qs)) h in
    let apart = and_left (are_apart p q) (are_parts (q ∷ qs)) rest in
    let x = part_on ts ps digits (is_unquoted_parameter q) p (parts_then (q ∷ qs) (32 ∷ r))
    (and_left (is_part (is_unquoted_parameter q) p) (are_apart p q && are_parts (q ∷ qs)) h) k
    (follows_part p q qs (32 ∷ r) apart) in
    let y = parts_on ts (ps ++ pieces_of p) x.0 q qs r (and_right (are_apart p q) (are_parts (q ∷ qs)) rest)
    (ready_after p q ps apart) in (
      y.0,
      x.1 ∙ y.1 ∙ ap (λ ys. lex_run (Some (inside_word ts ys y.0)) (32 ∷ r))
          (append_assoc ps (pieces_of p) (word_of (q ∷ qs))),
    )

-- a word's first character is read as if the word had begun
start_by : (ts : List T.Token) (followed : Bool) (c : ℕ) (cs r : List ℕ) (t : Bool) → fits c ≡ t
    → (t || ((c == 36) && is_literal_dollar followed cs)) ≡ true → (c == 35) ≡ false
    → lex_run (Some (with_pending ts between)) (c ∷ r) ≡ lex_run (Some (inside_word ts [] true)) (c ∷ r)
unfolding lex_step
start_by ts followed c cs r true f e h =
    ap (λ x. lex_run x r) (start_plain ts c (outside_of c f) h ∙ sym (step_plain ts [] true c (outside_of c f)))
start_by ts followed c cs r false f e h = let same : c ≡ 36 =
    eqb-true c 36 (and_left (c == 36) (is_literal_dollar followed cs) e) in rw same refl

first_part : (p : Part) (qs : List Part) → are_parts (p ∷ qs) ≡ true → (followed : Bool) × (is_part followed p ≡ true)
first_part p [] h = (false, h)
first_part p (q ∷ qs) h =
    (is_unquoted_parameter q, and_left (is_part (is_unquoted_parameter q) p) (are_apart p q && are_parts (q ∷ qs)) h)

word_starts : (ts : List T.Token) (p : Part) (qs : List Part) (r : List ℕ) → begins_no_comment (p ∷ qs) ≡ true
    → are_parts (p ∷ qs) ≡ true
    → lex_run (Some (with_pending ts between)) (parts_then (p ∷ qs) r) ≡ lex_run (Some (inside_word ts [] true))
    (parts_then (p ∷ qs) r)
unfolding lex_step
word_starts ts (unquoted []) qs r h k = cc
word_starts ts (unquoted (c ∷ cs)) qs r h k =
    let x = first_part (unquoted (c ∷ cs)) qs k in
    start_by ts x.0 c cs (cs ++ parts_then qs r) (fits c) refl
    (and_left (fits c || ((c == 36) && is_literal_dollar x.0 cs)) (are_unquoted x.0 cs) x.1) (not_true (c == 35) h)
word_starts ts (quoted cs ns) qs r h k = refl
word_starts ts (parameter n) qs r h k = refl

word_ends : (ts : List T.Token) (ps : List T.Piece) (digits : Bool)
    → lex_step (inside_word ts ps digits) 32 ≡ Some (with_pending (ts ++ T.word ps ∷ []) between)
unfolding lex_step
word_ends ts ps true = refl
word_ends ts ps false = refl

ready_first : (p : Part) → Ready p []
ready_first (unquoted cs) = λ c. refl
ready_first (quoted cs ns) = λ s. refl
ready_first (parameter n) = tt

-- ---- tokens

token_on : (ts : List T.Token) (w : Written) (r : List ℕ) → is_writable w ≡ true
    → lex_run (Some (with_pending ts between)) (token_then w (32 ∷ r)) ≡ lex_run
    (Some (with_pending (ts ++ token_of w ∷ []) between)) r
unfolding lex_step
token_on ts semicolon r h = refl
token_on ts bar r h = refl
token_on ts (connector AndIf) r h = refl
token_on ts (connector OrIf) r h = refl
token_on ts (redirection From) r h = refl
token_on ts (redirection Onto) r h = refl
token_on ts (redirection Append) r h = refl
token_on ts (word []) r h = cc
token_on ts (word (p ∷ qs)) r h =
    let parts = and_right (begins_no_comment (p ∷ qs)) (are_parts (p ∷ qs)) h in
    let x = parts_on ts [] true p qs r parts (ready_first p) in
    word_starts ts p qs (32 ∷ r) (and_left (begins_no_comment (p ∷ qs)) (are_parts (p ∷ qs)) h) parts ∙ x.1
    ∙ next (inside_word ts (word_of (p ∷ qs)) x.0) (with_pending (ts ++ T.word (word_of (p ∷ qs)) ∷ []) between) 32
    r (word_ends ts (word_of (p ∷ qs)) x.0)

tokens_on : (ts : List T.Token) (ws : List Written) → are_writable ws ≡ true
    → lex_run (Some (with_pending ts between)) (written ws) ≡ Some (with_pending (ts ++ map token_of ws) between)
tokens_on ts [] h = ap (λ us. Some (with_pending us between)) (sym (append-nil ts))
tokens_on ts (w ∷ ws) h =
    token_on ts w (written ws) (and_left (is_writable w) (are_writable ws) h)
    ∙ tokens_on (ts ++ token_of w ∷ []) ws (and_right (is_writable w) (are_writable ws) h)
    ∙ ap (λ us. Some (with_pending us between)) (append_assoc ts (token_of w ∷ []) (map token_of ws))

pub writing_is_read : (ws : List Written) → are_writable ws ≡ true → tokens_of (written ws) ≡ Some (map token_of ws)
unfolding tokens_of
writing_is_read ws h = ap lex_end (tokens_on [] ws h)
