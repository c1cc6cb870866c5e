-- What is read from a text has a writing.
use Rattle.std.proofs.Common.{◌≡◌, ℕ, Bool, true, false, ◌&&◌, ◌||◌, ◌==◌, List, [], ◌∷◌, ◌++◌, Option, Some, None}
use Rattle.std.proofs.Common.{cond, refl, sym, subst, append-nil, codes}
use Rattle.std.specs.Char.{encode_utf8}
use Rattle.std.proofs.lemmas.Bool.{eqb-true}
use Rattle.retro_syntax.specs.Ascii.{is_among}
use Rattle.retro_syntax.specs.Tree as T
use Rattle.retro_path.specs.VarName.{starts_name, continues_name, is_var_name}
use Rattle.retro_syntax.specs.Quoting.{Quote, unquoted as Unquoted, single as Single, double as Double, Operator}
use Rattle.retro_syntax.specs.Quoting.{one_semicolon, one_ampersand, one_bar, one_less, one_greater, Lexing, Reading}
use Rattle.retro_syntax.specs.Quoting.{Pending, with_pending, between, comment, operator, reading, in_word, dollar}
use Rattle.retro_syntax.specs.Quoting.{dollar_name, dollar_brace, dollar_question, add_plain, add_quoted}
use Rattle.retro_syntax.specs.Quoting.{is_other_parameter, is_special_inside, is_blank, is_operator, is_refused}
use Rattle.retro_syntax.specs.Quoting.{with_parameter, with_variable, unquoted_at, begin_token, end_operator, word_at}
use Rattle.retro_syntax.specs.Quoting.{after_variable, reading_at, operator_at, plain_at, escaped_in, escaped_reading}
use Rattle.retro_syntax.specs.Quoting.{escaped_operator, escaped_at, takes_backslash, lex_step, lex_run, reading_end}
use Rattle.retro_syntax.specs.Quoting.{lex_end_at, lex_end, tokens_of}
use Rattle.retro_syntax.specs.declared.tree.Direction.TheVariants.{From, Onto, Append}
use Rattle.retro_syntax.specs.declared.tree.Connector.TheVariants.{AndIf, OrIf}
use Rattle.retro_syntax.specs.Writing.{semicolon, bar, connector, redirection, fits, begins_parameter, is_parameter}
use Rattle.retro_syntax.specs.Writing.{HasWriting}
use Rattle.retro_syntax.proofs.WritingLemmas.{or_left, or_right, outside}
use Rattle.retro_syntax.proofs.PartLemmas.{by_bool, and_taken, Word, QuotedWord, Begun, empty, going, start_unquoted}
use Rattle.retro_syntax.proofs.PartLemmas.{grow_unquoted, grow_quoted, push_parameter, push_quoted_parameter}
use Rattle.retro_syntax.proofs.PartLemmas.{push_token, push_word}

-- ---- states

-- the pieces before a parameter that is being read
abbrev Before : Bool → List T.Piece → Type 0
Before true ps = QuotedWord ps
Before false ps = Begun true ps

abbrev InWord : Quote → List T.Piece → Type 0
InWord Unquoted ps = Word true ps
InWord Single ps = Word true ps
InWord Double ps = QuotedWord ps

abbrev IsReading : Reading → Type 0
IsReading (in_word ps digits q) = InWord q ps
IsReading (dollar ps inside) = Before inside ps
IsReading (dollar_name ps inside n) = Before inside ps
IsReading (dollar_brace ps inside n) = Before inside ps
IsReading (dollar_question ps inside) = Before inside ps

abbrev IsPending : Pending → Type 0
IsPending between = Unit {0}
IsPending comment = Unit {0}
IsPending (operator op) = Unit {0}
IsPending (reading r) = IsReading r

abbrev Kept : Option Lexing → Type 0
Kept None = Unit {0}
Kept (Some l) = HasWriting l.tokens × IsPending l.pending

abbrev KeptTokens : Option (List T.Token) → Type 0
KeptTokens None = Unit {0}
KeptTokens (Some ts) = HasWriting ts

-- ---- where a token may begin

fits_of : (c : ℕ) → (c == 92) ≡ false → is_blank c ≡ false → is_operator c ≡ false → (c == 39) ≡ false
    → (c == 34) ≡ false → (c == 36) ≡ false → is_refused c ≡ false → fits c ≡ true
fits_of c a bl op q d s r =
    let os = outside (codes ";&|<>") c op in
    let both = or_left ((c == 0) || (c == 10)) (is_among (codes "()`") c) r in
    let rs = outside (codes "()`") c (or_right ((c == 0) || (c == 10)) (is_among (codes "()`") c) r) in
    let z : (c == 0) ≡ false = or_left (c == 0) (c == 10) both in
    let n : (c == 10) ≡ false = or_right (c == 0) (c == 10) both in
    let sp : (c == 32) ≡ false = or_left (c == 32) (c == 9) bl in
    let tb : (c == 9) ≡ false = or_right (c == 32) (c == 9) bl in
    rw (a, sp, tb, os.0, os.1.0, os.1.1.0, os.1.1.1.0, os.1.1.1.1.0, q, d, s, z, n, rs.0, rs.1.0, rs.1.1.0) refl

unquoted_kept : (ts : List T.Token) (g : Bool) (ps : List T.Piece) (digits : Bool) (c : ℕ) → HasWriting ts → Begun g ps
    → ((c == 36) ≡ true → Begun true ps) → (fits c ≡ true → Word true (add_plain ps c))
    → (c == 92) ≡ false → is_blank c ≡ false → is_operator c ≡ false → Kept (unquoted_at ts ps digits c)
unquoted_kept ts g ps digits c x b d p a bl op =
    let w = grow_quoted g ps [] [] b refl refl in
    by_bool (c == 39) (λ e. rw e (x, w.given)) (λ q. rw q
    (by_bool (c == 34) (λ e. rw e (x, w)) (λ r. rw r
    (by_bool (c == 36) (λ e. rw e (x, d e)) (λ s. rw s
    (by_bool (is_refused c) (λ e. rw e tt) (λ f. rw f (x, p (fits_of c a bl op q r s f)))))))))

first_plain : (c : ℕ) → fits c ≡ true → (c == 35) ≡ false → Word true (add_plain [] c)
first_plain c f h = start_unquoted true c [] (rw f refl) h

begin_token_kept : (ts : List T.Token) (c : ℕ) → HasWriting ts → (c == 92) ≡ false → Kept (begin_token ts c)
begin_token_kept ts c x a =
    by_bool (is_blank c) (λ e. rw e (x, tt)) (λ bl. rw bl
    (by_bool (c == 59) (λ e. rw e (x, tt)) (λ o1. rw o1
    (by_bool (c == 38) (λ e. rw e (x, tt)) (λ o2. rw o2
    (by_bool (c == 124) (λ e. rw e (x, tt)) (λ o3. rw o3
    (by_bool (c == 60) (λ e. rw e (x, tt)) (λ o4. rw o4
    (by_bool (c == 62) (λ e. rw e (x, tt)) (λ o5. rw o5
    (by_bool (c == 35) (λ e. rw e (x, tt)) (λ h. rw h
    (unquoted_kept ts true [] true c x (empty refl) (λ e. empty refl) (λ f. first_plain c f h) a bl
    (rw (o1, o2, o3, o4, o5) refl)))))))))))))))

-- ---- in a word

word_kept : (ts : List T.Token) (g : Bool) (ps : List T.Piece) (digits : Bool) (c : ℕ) → HasWriting ts → Word g ps
    → ((c == 36) ≡ true → Begun true ps) → (fits c ≡ true → Word true (add_plain ps c))
    → (c == 92) ≡ false → Kept (word_at ts ps digits Unquoted c)
word_kept ts g ps digits c x w d p a =
    by_bool (is_blank c || is_operator c)
    (λ e. rw e
    (by_bool (digits && ((c == 60) || (c == 62))) (λ f. rw f tt)
    (λ f. rw f (begin_token_kept (ts ++ T.word ps ∷ []) c (push_word ts g ps x w) a))))
    (λ e. rw e
    (unquoted_kept ts g ps digits c x (going w) d p a (or_left (is_blank c) (is_operator c) e)
    (or_right (is_blank c) (is_operator c) e)))

grow_one : (ps : List T.Piece) (c : ℕ) → Word true ps → fits c ≡ true → Word true (add_plain ps c)
grow_one ps c w f = grow_unquoted true ps c [] w (rw f refl)

whole_kept : (ts : List T.Token) (ps : List T.Piece) (digits : Bool) (c : ℕ) → HasWriting ts → Word true ps
    → (c == 92) ≡ false → Kept (word_at ts ps digits Unquoted c)
whole_kept ts ps digits c x w a = word_kept ts true ps digits c x w (λ e. going w) (λ f. grow_one ps c w f) a

-- a quoted character
quote_one : (g : Bool) (ps : List T.Piece) (c : ℕ) → Begun g ps → (c == 0) ≡ false
    → QuotedWord (add_quoted ps (encode_utf8 c))
quote_one g ps c b z = grow_quoted g ps (encode_utf8 c) (c ∷ []) b (sym (append-nil (encode_utf8 c))) (rw z refl)

single_kept : (ts : List T.Token) (ps : List T.Piece) (digits : Bool) (c : ℕ) → HasWriting ts → Word true ps
    → Kept (word_at ts ps digits Single c)
single_kept ts ps digits c x w =
    by_bool (c == 39) (λ e. rw e (x, w)) (λ q. rw q
    (by_bool (c == 0) (λ e. rw e tt) (λ z. rw z (x, (quote_one true ps c (going w) z).given))))

double_kept : (ts : List T.Token) (ps : List T.Piece) (digits : Bool) (c : ℕ) → HasWriting ts → QuotedWord ps
    → Kept (word_at ts ps digits Double c)
double_kept ts ps digits c x w =
    by_bool (c == 34) (λ e. rw e (x, w.given)) (λ q. rw q
    (by_bool (c == 36) (λ e. rw e (x, w)) (λ s. rw s
    (by_bool ((c == 0) || (c == 96)) (λ e. rw e tt)
    (λ z. rw z (x, quote_one true ps c (going w.given) (or_left (c == 0) (c == 96) z)))))))

-- ---- parameters

with_parameter_kept : (ts : List T.Token) (ps : List T.Piece) (inside : Bool) (p : T.Parameter) → HasWriting ts
    → Before inside ps → is_parameter p ≡ true → Kept (with_parameter ts ps inside p)
with_parameter_kept ts ps true p x b h = (x, push_quoted_parameter ps p b h)
with_parameter_kept ts ps false p x b h = (x, push_parameter ps p b h)

with_variable_kept : (ts : List T.Token) (ps : List T.Piece) (inside : Bool) (n : List ℕ) → HasWriting ts
    → Before inside ps → Kept (with_variable ts ps inside n)
with_variable_kept ts ps inside n x b =
    by_bool (is_var_name n) (λ e. rw e (with_parameter_kept ts ps inside (T.variable n) x b e)) (λ e. rw e tt)

after_variable_kept : (ts : List T.Token) (ps : List T.Piece) (inside : Bool) (n : List ℕ) (c : ℕ) → HasWriting ts
    → Before inside ps → (c == 92) ≡ false → Kept (after_variable ts ps inside n c)
after_variable_kept ts ps true n c x b a =
    by_bool (is_var_name n)
    (λ e. rw e
    (double_kept ts (ps ++ T.quoted_parameter (T.variable n) ∷ []) false c x
    (push_quoted_parameter ps (T.variable n) b e))) (λ e. rw e tt)
after_variable_kept ts ps false n c x b a =
    by_bool (is_var_name n)
    (λ e. rw e
    (whole_kept ts (ps ++ T.parameter (T.variable n) ∷ []) false c x (push_parameter ps (T.variable n) b e) a))
    (λ e. rw e tt)

-- a `$` that begins no parameter
lone_dollar : (ps : List T.Piece) → Begun true ps → Word false (add_plain ps 36)
lone_dollar ps (empty e) = subst (λ qs. Word false (add_plain qs 36)) (sym e) (start_unquoted false 36 [] refl refl)
lone_dollar ps (going w) = grow_unquoted false ps 36 [] w refl

dollar_and : (ps : List T.Piece) (c : ℕ) → Begun true ps → begins_parameter c ≡ false → fits c ≡ true
    → Word true (add_plain (add_plain ps 36) c)
dollar_and ps c (empty e) n f = subst (λ qs. Word true (add_plain (add_plain qs 36) c)) (sym e)
    (start_unquoted true 36 (c ∷ []) (rw (n, f) refl) refl)
dollar_and ps c (going w) n f = grow_unquoted true ps 36 (c ∷ []) w (rw (n, f) refl)

dollar_outside : (ts : List T.Token) (ps : List T.Piece) (c : ℕ) → HasWriting ts → Begun true ps → (c == 92) ≡ false
    → Kept (reading_at ts (dollar ps false) c)
dollar_outside ts ps c x b a =
    by_bool (starts_name c) (λ e. rw e (x, b)) (λ n. rw n
    (by_bool (c == 123) (λ e. rw e (x, b)) (λ l. rw l
    (by_bool (c == 63) (λ e. rw e (with_parameter_kept ts ps false T.status x b refl)) (λ q. rw q
    (by_bool (is_other_parameter c) (λ e. rw e tt) (λ p. rw p
    (word_kept ts false (add_plain ps 36) false c x (lone_dollar ps b)
    (λ e. absurd (let same = eqb-true c 36 e in let f : true ≡ false = subst (λ d. is_other_parameter d ≡ false) same p
    in cc))
    (λ f. dollar_and ps c b (rw (n, l, q, p) refl) f) a))))))))

dollar_inside : (ts : List T.Token) (ps : List T.Piece) (c : ℕ) → HasWriting ts → QuotedWord ps
    → Kept (reading_at ts (dollar ps true) c)
dollar_inside ts ps c x w =
    by_bool (starts_name c) (λ e. rw e (x, w)) (λ n. rw n
    (by_bool (c == 123) (λ e. rw e (x, w)) (λ l. rw l
    (by_bool (c == 63) (λ e. rw e (with_parameter_kept ts ps true T.status x w refl)) (λ q. rw q
    (by_bool (is_other_parameter c) (λ e. rw e tt) (λ p. rw p
    (double_kept ts (add_quoted ps (encode_utf8 36)) false c x (quote_one true ps 36 (going w.given) refl)))))))))

dollar_name_kept : (ts : List T.Token) (ps : List T.Piece) (inside : Bool) (n : List ℕ) (c : ℕ) → HasWriting ts
    → Before inside ps → (c == 92) ≡ false → Kept (reading_at ts (dollar_name ps inside n) c)
dollar_name_kept ts ps inside n c x b a =
    by_bool (continues_name c) (λ e. rw e (x, b)) (λ e. rw e (after_variable_kept ts ps inside n c x b a))

dollar_brace_kept : (ts : List T.Token) (ps : List T.Piece) (inside : Bool) (n : List ℕ) (c : ℕ) → HasWriting ts
    → Before inside ps → Kept (reading_at ts (dollar_brace ps inside n) c)
dollar_brace_kept ts ps inside [] c x b =
    by_bool (c == 63) (λ e. rw e (x, b)) (λ q. rw q (by_bool (starts_name c) (λ e. rw e (x, b)) (λ e. rw e tt)))
dollar_brace_kept ts ps inside (d ∷ n) c x b =
    by_bool (c == 125) (λ e. rw e (with_variable_kept ts ps inside (d ∷ n) x b)) (λ q. rw q
    (by_bool (continues_name c) (λ e. rw e (x, b)) (λ e. rw e tt)))

dollar_question_kept : (ts : List T.Token) (ps : List T.Piece) (inside : Bool) (c : ℕ) → HasWriting ts
    → Before inside ps → Kept (reading_at ts (dollar_question ps inside) c)
dollar_question_kept ts ps inside c x b =
    by_bool (c == 125) (λ e. rw e (with_parameter_kept ts ps inside T.status x b refl)) (λ e. rw e tt)

-- whether a backslash quotes there, told by the state
reading_kept : (ts : List T.Token) (r : Reading) (c : ℕ) → HasWriting ts → IsReading r
    → ((c == 92) && takes_backslash (reading r)) ≡ false → Kept (reading_at ts r c)
reading_kept ts (in_word ps digits Unquoted) c x h a = whole_kept ts ps digits c x h (and_taken (c == 92) a)
reading_kept ts (in_word ps digits Single) c x h a = single_kept ts ps digits c x h
reading_kept ts (in_word ps digits Double) c x h a = double_kept ts ps digits c x h
reading_kept ts (dollar ps true) c x h a = dollar_inside ts ps c x h
reading_kept ts (dollar ps false) c x h a = dollar_outside ts ps c x h (and_taken (c == 92) a)
reading_kept ts (dollar_name ps inside n) c x h a = dollar_name_kept ts ps inside n c x h (and_taken (c == 92) a)
reading_kept ts (dollar_brace ps inside n) c x h a = dollar_brace_kept ts ps inside n c x h
reading_kept ts (dollar_question ps inside) c x h a = dollar_question_kept ts ps inside c x h

-- ---- operators

kept_cond : (b : Bool) (l m : Option Lexing) → (b ≡ true → Kept l) → (b ≡ false → Kept m) → Kept (cond b l m)
kept_cond true l m f g = f refl
kept_cond false l m f g = g refl

operator_kept : (ts : List T.Token) (op : Operator) (c : ℕ) → HasWriting ts → (c == 92) ≡ false
    → Kept (operator_at ts op c)
operator_kept ts one_semicolon c x a = kept_cond (c == 59) None (begin_token (ts ++ T.semicolon ∷ []) c) (λ e. tt)
    (λ e. begin_token_kept (ts ++ T.semicolon ∷ []) c (push_token ts semicolon x refl) a)
operator_kept ts one_ampersand c x a = by_bool (c == 38) (λ e. rw e (push_token ts (connector AndIf) x refl, tt))
    (λ e. rw e tt)
operator_kept ts one_bar c x a =
    kept_cond (c == 124) (Some (with_pending (ts ++ T.connector OrIf ∷ []) between)) (begin_token (ts ++ T.bar ∷ []) c)
    (λ e. (push_token ts (connector OrIf) x refl, tt))
    (λ e. begin_token_kept (ts ++ T.bar ∷ []) c (push_token ts bar x refl) a)
operator_kept ts one_less c x a =
    kept_cond (((c == 60) || (c == 38)) || (c == 62)) None (begin_token (ts ++ T.redirection From ∷ []) c) (λ e. tt)
    (λ e. begin_token_kept (ts ++ T.redirection From ∷ []) c (push_token ts (redirection From) x refl) a)
operator_kept ts one_greater c x a =
    let onto = begin_token (ts ++ T.redirection Onto ∷ []) c in
    kept_cond (c == 62) (Some (with_pending (ts ++ T.redirection Append ∷ []) between))
    (cond ((c == 38) || (c == 124)) None onto) (λ e. (push_token ts (redirection Append) x refl, tt))
    (λ g. kept_cond ((c == 38) || (c == 124)) None onto (λ e. tt)
    (λ e. begin_token_kept (ts ++ T.redirection Onto ∷ []) c (push_token ts (redirection Onto) x refl) a))

end_operator_kept : (ts : List T.Token) (op : Operator) → HasWriting ts → KeptTokens (end_operator ts op)
end_operator_kept ts one_semicolon x = push_token ts semicolon x refl
end_operator_kept ts one_ampersand x = tt
end_operator_kept ts one_bar x = push_token ts bar x refl
end_operator_kept ts one_less x = push_token ts (redirection From) x refl
end_operator_kept ts one_greater x = push_token ts (redirection Onto) x refl

plain_kept : (ts : List T.Token) (p : Pending) (c : ℕ) → HasWriting ts → IsPending p
    → ((c == 92) && takes_backslash p) ≡ false → Kept (plain_at ts p c)
plain_kept ts between c x h a = begin_token_kept ts c x (and_taken (c == 92) a)
plain_kept ts comment c x h a = by_bool ((c == 0) || (c == 10)) (λ e. rw e tt) (λ e. rw e (x, tt))
plain_kept ts (operator op) c x h a = operator_kept ts op c x (and_taken (c == 92) a)
plain_kept ts (reading r) c x h a = reading_kept ts r c x h a

-- ---- after a backslash

escaped_in_kept : (ts : List T.Token) (g : Bool) (ps : List T.Piece) (q : Quote) (c : ℕ) → HasWriting ts → Begun g ps
    → (c == 0) ≡ false → Kept (escaped_in ts ps q c)
unfolding encode_utf8
escaped_in_kept ts g ps Single c x b z = tt
escaped_in_kept ts g ps Unquoted c x b z = (x, (quote_one g ps c b z).given)
escaped_in_kept ts g ps Double c x b z =
    by_bool (is_special_inside c) (λ e. rw e (x, quote_one g ps c b z))
    (λ e. rw e (x, quote_one true (add_quoted ps (encode_utf8 92)) c (going (quote_one g ps 92 b refl).given) z))

escaped_reading_kept : (ts : List T.Token) (r : Reading) (c : ℕ) → HasWriting ts → IsReading r → (c == 0) ≡ false
    → Kept (escaped_reading ts r c)
escaped_reading_kept ts (in_word ps digits Unquoted) c x h z = escaped_in_kept ts true ps Unquoted c x (going h) z
escaped_reading_kept ts (in_word ps digits Single) c x h z = tt
escaped_reading_kept ts (in_word ps digits Double) c x h z = escaped_in_kept ts true ps Double c x (going h.given) z
escaped_reading_kept ts (dollar ps true) c x h z = escaped_in_kept ts true (add_quoted ps (encode_utf8 36)) Double c x
    (going (quote_one true ps 36 (going h.given) refl).given) z
escaped_reading_kept ts (dollar ps false) c x h z = escaped_in_kept ts false (add_plain ps 36) Unquoted c x
    (going (lone_dollar ps h)) z
escaped_reading_kept ts (dollar_name ps true n) c x h z =
    by_bool (is_var_name n)
    (λ e. rw e
    (escaped_in_kept ts true (ps ++ T.quoted_parameter (T.variable n) ∷ []) Double c x
    (going (push_quoted_parameter ps (T.variable n) h e).given) z))
    (λ e. rw e tt)
escaped_reading_kept ts (dollar_name ps false n) c x h z =
    by_bool (is_var_name n)
    (λ e. rw e
    (escaped_in_kept ts true (ps ++ T.parameter (T.variable n) ∷ []) Unquoted c x
    (going (push_parameter ps (T.variable n) h e)) z))
    (λ e. rw e tt)
escaped_reading_kept ts (dollar_brace ps inside n) c x h z = tt
escaped_reading_kept ts (dollar_question ps inside) c x h z = tt

escaped_operator_kept : (m : Option (List T.Token)) (c : ℕ) → KeptTokens m → (c == 0) ≡ false
    → Kept (escaped_operator m c)
escaped_operator_kept None c x z = tt
escaped_operator_kept (Some ts) c x z = escaped_in_kept ts true [] Unquoted c x (empty refl) z

escaped_kept : (ts : List T.Token) (p : Pending) (c : ℕ) → HasWriting ts → IsPending p → (c == 0) ≡ false
    → Kept (escaped_at ts p c)
escaped_kept ts between c x h z = escaped_in_kept ts true [] Unquoted c x (empty refl) z
escaped_kept ts comment c x h z = tt
escaped_kept ts (operator op) c x h z = escaped_operator_kept (end_operator ts op) c (end_operator_kept ts op x) z
escaped_kept ts (reading r) c x h z = escaped_reading_kept ts r c x h z

-- ---- a whole text

step_kept : (ts : List T.Token) (p : Pending) (b : Bool) (c : ℕ) → HasWriting ts → IsPending p
    → Kept (lex_step (record { tokens = ts; pending = p; backslash = b }) c)
unfolding lex_step
step_kept ts p true c x h =
    by_bool (c == 10) (λ e. rw e (x, h))
    (λ n. rw n (by_bool (c == 0) (λ e. rw e tt) (λ z. rw z (escaped_kept ts p c x h z))))
step_kept ts p false c x h = by_bool ((c == 92) && takes_backslash p) (λ e. rw e (x, h))
    (λ e. rw e (plain_kept ts p c x h e))

run_kept : (cs : List ℕ) (m : Option Lexing) → Kept m → Kept (lex_run m cs)
run_kept cs None h = tt
run_kept [] (Some l) h = h
run_kept (c ∷ cs) (Some l) h = run_kept cs (lex_step l c) (step_kept l.tokens l.pending l.backslash c h.0 h.1)

reading_end_kept : (ts : List T.Token) (r : Reading) → HasWriting ts → IsReading r → KeptTokens (reading_end ts r)
reading_end_kept ts (in_word ps digits Unquoted) x h = push_word ts true ps x h
reading_end_kept ts (in_word ps digits Single) x h = tt
reading_end_kept ts (in_word ps digits Double) x h = tt
reading_end_kept ts (dollar ps true) x h = tt
reading_end_kept ts (dollar ps false) x h = push_word ts false (add_plain ps 36) x (lone_dollar ps h)
reading_end_kept ts (dollar_name ps true n) x h = tt
reading_end_kept ts (dollar_name ps false n) x h =
    by_bool (is_var_name n)
    (λ e. rw e (push_word ts true (ps ++ T.parameter (T.variable n) ∷ []) x (push_parameter ps (T.variable n) h e)))
    (λ e. rw e tt)
reading_end_kept ts (dollar_brace ps inside n) x h = tt
reading_end_kept ts (dollar_question ps inside) x h = tt

end_kept : (ts : List T.Token) (p : Pending) (b : Bool) → HasWriting ts → IsPending p → KeptTokens (lex_end_at ts p b)
end_kept ts p true x h = tt
end_kept ts between false x h = x
end_kept ts comment false x h = x
end_kept ts (operator op) false x h = end_operator_kept ts op x
end_kept ts (reading r) false x h = reading_end_kept ts r x h

lex_end_kept : (m : Option Lexing) → Kept m → KeptTokens (lex_end m)
lex_end_kept None h = tt
lex_end_kept (Some l) h = end_kept l.tokens l.pending l.backslash h.0 h.1

-- What is read from a text has a writing.
pub reading_has_writing : (cs : List ℕ) (ts : List T.Token) → tokens_of cs ≡ Some ts → HasWriting ts
unfolding tokens_of
reading_has_writing cs ts e =
    subst KeptTokens e
    (lex_end_kept (lex_run (Some (with_pending [] between)) cs)
    (run_kept cs (Some (with_pending [] between)) (record { tokens = []; writable = refl; same = refl }, tt)))
