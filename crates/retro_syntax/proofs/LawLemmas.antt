-- The laws of the lexer.
use Rattle.std.proofs.Common.{◌≡◌, ℕ, Bool, true, false, not, ◌||◌, ◌==◌, List, [], ◌∷◌, ◌++◌, Option, Some, None}
use Rattle.std.proofs.Common.{option_map, option_and_then, cond, refl, sym, ap, subst, ◌∙◌, append_assoc, append-nil}
use Rattle.std.specs.Char.{encode_utf8}
use Rattle.std.specs.List.{list_all}
use Rattle.std.proofs.lemmas.Bool.{eqb-true}
use Rattle.retro_path.specs.VarName.{starts_name, continues_name, is_shell_name, is_var_name}
use Rattle.retro_syntax.specs.Tree as T
use Rattle.retro_syntax.specs.Quoting.{Quote, unquoted, single, double, Operator, one_semicolon, one_ampersand, one_bar}
use Rattle.retro_syntax.specs.Quoting.{one_less, one_greater, Reading, in_word, dollar, dollar_name, dollar_brace}
use Rattle.retro_syntax.specs.Quoting.{dollar_question, Pending, between, comment, operator, reading, Lexing}
use Rattle.retro_syntax.specs.Quoting.{with_pending, add_plain, add_quoted, parameter_piece, quote_of, begin_token}
use Rattle.retro_syntax.specs.Quoting.{end_operator, operator_at, escaped_at, word_at, after_variable, with_variable}
use Rattle.retro_syntax.specs.Quoting.{is_blank, is_operator, is_special_inside, takes_backslash, lex_step, lex_run}
use Rattle.retro_syntax.specs.Quoting.{lex_end}
use Rattle.retro_syntax.specs.declared.tree.Direction.TheVariants.{From, Onto}
use Rattle.retro_syntax.specs.Writing.{escaped_then}
use Rattle.retro_syntax.specs.LexerLaws.{ReadAlike, EndAlike, is_outside, has_no_single_quote, double_quoted, ends_name}
use Rattle.retro_syntax.specs.LexerLaws.{ends_before, continues, is_token_start, has_no_nul_or_newline}
use Rattle.retro_syntax.proofs.WritingLemmas.{and_left, and_right, or_left, or_right, not_true, differs, name_is_ascii}
use Rattle.retro_syntax.proofs.WritingLemmas.{name_begins, next, escaped_by, step_name, step_first}
use Rattle.retro_syntax.proofs.QuotingLemmas.{add_quoted_twice}
use Rattle.retro_syntax.proofs.PartLemmas.{by_bool}

abbrev at : List T.Token → Reading → Lexing
at ts r = with_pending ts (reading r)

-- ---- a removed backslash-newline

pub removed_newline : (ts : List T.Token) (p : Pending) (r : List ℕ) → takes_backslash p ≡ true
    → ReadAlike ts p (92 ∷ 10 ∷ r) r
unfolding lex_step
removed_newline ts p r h = rw h refl

-- ---- quotes

-- the tokens and the pieces before a quoted text that begins here
abbrev before_quote : List T.Token → Pending → Option (List T.Token × List T.Piece)
before_quote ts between = Some (ts, [])
before_quote ts comment = None
before_quote ts (operator op) = option_map (λ us. (us, [])) (end_operator ts op)
before_quote ts (reading (in_word ps digits q)) = Some (ts, ps)
before_quote ts (reading (dollar ps inside)) = Some (ts, add_plain ps 36)
before_quote ts (reading (dollar_name ps inside n)) =
    cond (is_var_name n) (Some (ts, ps ++ T.parameter (T.variable n) ∷ []))
    None
before_quote ts (reading (dollar_brace ps inside n)) = None
before_quote ts (reading (dollar_question ps inside)) = None

abbrev quoting : Quote → List T.Token × List T.Piece → Lexing
quoting q x = at x.0 (in_word (add_quoted x.1 []) false q)

opens_double : (ts : List T.Token) (p : Pending) → is_outside p ≡ true
    → lex_step (with_pending ts p) 34 ≡ option_map (quoting double) (before_quote ts p)
unfolding lex_step
opens_double ts between h = refl
opens_double ts comment h = cc
opens_double ts (operator one_semicolon) h = refl
opens_double ts (operator one_ampersand) h = refl
opens_double ts (operator one_bar) h = refl
opens_double ts (operator one_less) h = refl
opens_double ts (operator one_greater) h = refl
opens_double ts (reading (in_word ps digits unquoted)) h = refl
opens_double ts (reading (in_word ps digits single)) h = cc
opens_double ts (reading (in_word ps digits double)) h = cc
opens_double ts (reading (dollar ps true)) h = cc
opens_double ts (reading (dollar ps false)) h = refl
opens_double ts (reading (dollar_name ps true n)) h = cc
opens_double ts (reading (dollar_name ps false n)) h = by_bool (is_var_name n) (λ e. rw e refl) (λ e. rw e refl)
opens_double ts (reading (dollar_brace ps inside n)) h = cc
opens_double ts (reading (dollar_question ps inside)) h = cc

opens_single : (ts : List T.Token) (p : Pending) → is_outside p ≡ true
    → lex_step (with_pending ts p) 39 ≡ option_map (quoting single) (before_quote ts p)
unfolding lex_step
opens_single ts between h = refl
opens_single ts comment h = cc
opens_single ts (operator one_semicolon) h = refl
opens_single ts (operator one_ampersand) h = refl
opens_single ts (operator one_bar) h = refl
opens_single ts (operator one_less) h = refl
opens_single ts (operator one_greater) h = refl
opens_single ts (reading (in_word ps digits unquoted)) h = refl
opens_single ts (reading (in_word ps digits single)) h = cc
opens_single ts (reading (in_word ps digits double)) h = cc
opens_single ts (reading (dollar ps true)) h = cc
opens_single ts (reading (dollar ps false)) h = refl
opens_single ts (reading (dollar_name ps true n)) h = cc
opens_single ts (reading (dollar_name ps false n)) h = by_bool (is_var_name n) (λ e. rw e refl) (λ e. rw e refl)
opens_single ts (reading (dollar_brace ps inside n)) h = cc
opens_single ts (reading (dollar_question ps inside)) h = cc

-- after the quoted character
abbrev after_escape : ℕ → List T.Token × List T.Piece → Lexing
after_escape c x = at x.0 (in_word (add_quoted x.1 (encode_utf8 c)) false unquoted)

escapes : (ts : List T.Token) (p : Pending) (c : ℕ) → is_outside p ≡ true
    → escaped_at ts p c ≡ option_map (after_escape c) (before_quote ts p)
escapes ts between c h = refl
escapes ts comment c h = cc
escapes ts (operator one_semicolon) c h = refl
escapes ts (operator one_ampersand) c h = refl
escapes ts (operator one_bar) c h = refl
escapes ts (operator one_less) c h = refl
escapes ts (operator one_greater) c h = refl
escapes ts (reading (in_word ps digits unquoted)) c h = refl
escapes ts (reading (in_word ps digits single)) c h = cc
escapes ts (reading (in_word ps digits double)) c h = cc
escapes ts (reading (dollar ps true)) c h = cc
escapes ts (reading (dollar ps false)) c h = refl
escapes ts (reading (dollar_name ps true n)) c h = cc
escapes ts (reading (dollar_name ps false n)) c h = by_bool (is_var_name n) (λ e. rw e refl) (λ e. rw e refl)
escapes ts (reading (dollar_brace ps inside n)) c h = cc
escapes ts (reading (dollar_question ps inside)) c h = cc

outside_takes_backslash : (p : Pending) → is_outside p ≡ true → takes_backslash p ≡ true
outside_takes_backslash between h = refl
outside_takes_backslash comment h = cc
outside_takes_backslash (operator op) h = refl
outside_takes_backslash (reading (in_word ps digits unquoted)) h = refl
outside_takes_backslash (reading (in_word ps digits single)) h = cc
outside_takes_backslash (reading (in_word ps digits double)) h = refl
outside_takes_backslash (reading (dollar ps inside)) h = refl
outside_takes_backslash (reading (dollar_name ps inside n)) h = refl
outside_takes_backslash (reading (dollar_brace ps inside n)) h = refl
outside_takes_backslash (reading (dollar_question ps inside)) h = refl

abbrev inside_single : List T.Token → List T.Piece → Lexing
inside_single ts ps = at ts (in_word ps false single)

abbrev inside_double : List T.Token → List T.Piece → Lexing
inside_double ts ps = at ts (in_word ps false double)

close_double : (ts : List T.Token) (ps : List T.Piece) (r : List ℕ)
    → lex_run (Some (inside_double ts ps)) (34 ∷ r) ≡ lex_run (Some (at ts (in_word ps false unquoted))) r
unfolding lex_step
close_double ts ps r = refl

both_close : (ts : List T.Token) (ps : List T.Piece) (r : List ℕ)
    → lex_run (Some (inside_single ts ps)) (39 ∷ r) ≡ lex_run (Some (inside_double ts ps)) (34 ∷ r)
unfolding lex_step
both_close ts ps r = refl

both_refuse_nul : (ts : List T.Token) (ps : List T.Piece) (c : ℕ) (r s : List ℕ) → (c == 0) ≡ true
    → lex_run (Some (inside_single ts ps)) (c ∷ r) ≡ lex_run (Some (inside_double ts ps)) (escaped_then (c ∷ []) s)
unfolding lex_step
both_refuse_nul ts ps c r s z = let same : c ≡ 0 = eqb-true c 0 z in rw same refl

step_single : (ts : List T.Token) (ps : List T.Piece) (c : ℕ) → (c == 39) ≡ false → (c == 0) ≡ false
    → lex_step (inside_single ts ps) c ≡ Some (inside_single ts (add_quoted ps (encode_utf8 c)))
unfolding lex_step
step_single ts ps c q z = by_bool (c == 92) (λ e. rw (e, q, z) refl) (λ e. rw (e, q, z) refl)

single_on : (ts : List T.Token) (ps : List T.Piece) (cs r : List ℕ) → has_no_single_quote cs ≡ true
    → lex_run (Some (inside_single ts ps)) (cs ++ 39 ∷ r) ≡ lex_run (Some (inside_double ts ps))
    (escaped_then cs (34 ∷ r))
single_on ts ps [] r h = both_close ts ps r
single_on ts ps (c ∷ cs) r h =
    let q : (c == 39) ≡ false = not_true (c == 39) (and_left (not (c == 39)) (has_no_single_quote cs) h) in
    let rest = and_right (not (c == 39)) (has_no_single_quote cs) h in
    by_bool (c == 0) (λ z. both_refuse_nul ts ps c (cs ++ 39 ∷ r) (escaped_then cs (34 ∷ r)) z)
    (λ z.
    next _ _ c (cs ++ 39 ∷ r) (step_single ts ps c q z)
    ∙ single_on ts (add_quoted ps (encode_utf8 c)) cs r rest
    ∙ sym (escaped_by ts ps c (escaped_then cs (34 ∷ r)) (is_special_inside c) refl z))

quotes_by : (m : Option (List T.Token × List T.Piece)) (cs r : List ℕ) → has_no_single_quote cs ≡ true
    → lex_run (option_map (quoting single) m) (cs ++ 39 ∷ r) ≡ lex_run (option_map (quoting double) m)
    (escaped_then cs (34 ∷ r))
quotes_by None cs r h = refl
quotes_by (Some x) cs r h = single_on x.0 (add_quoted x.1 []) cs r h

pub single_quotes : (ts : List T.Token) (p : Pending) (cs r : List ℕ) → is_outside p ≡ true
    → has_no_single_quote cs ≡ true
    → ReadAlike ts p (39 ∷ cs ++ 39 ∷ r) (double_quoted cs r)
single_quotes ts p cs r h k =
    ap (λ m. lex_run m (cs ++ 39 ∷ r)) (opens_single ts p h) ∙ quotes_by (before_quote ts p) cs r k
    ∙ sym (ap (λ m. lex_run m (escaped_then cs (34 ∷ r))) (opens_double ts p h))

-- ---- a backslash

slashed_on : (ts : List T.Token) (p : Pending) (c : ℕ) (r : List ℕ) → takes_backslash p ≡ true → (c == 10) ≡ false
    → (c == 0) ≡ false
    → lex_run (Some (with_pending ts p)) (92 ∷ c ∷ r) ≡ lex_run (escaped_at ts p c) r
unfolding lex_step
slashed_on ts p c r h n z = rw (h, n, z) refl

slashed_nul : (ts : List T.Token) (p : Pending) (c : ℕ) (r : List ℕ) → takes_backslash p ≡ true → (c == 0) ≡ true
    → lex_run (Some (with_pending ts p)) (92 ∷ c ∷ r) ≡ None
unfolding lex_step
slashed_nul ts p c r h z = let same : c ≡ 0 = eqb-true c 0 z in rw (h, same) refl

quoted_nul : (m : Option (List T.Token × List T.Piece)) (c : ℕ) (r : List ℕ) → (c == 0) ≡ true
    → lex_run (option_map (quoting double) m) (escaped_then (c ∷ []) r) ≡ None
unfolding lex_step
quoted_nul None c r z = refl
quoted_nul (Some x) c r z = let same : c ≡ 0 = eqb-true c 0 z in rw same refl

quoted_one : (m : Option (List T.Token × List T.Piece)) (c : ℕ) (r : List ℕ) → (c == 0) ≡ false
    → lex_run (option_map (quoting double) m) (escaped_then (c ∷ []) (34 ∷ r))
    ≡ lex_run (option_map (after_escape c) m) r
quoted_one None c r z = refl
quoted_one (Some x) c r z =
    escaped_by x.0 (add_quoted x.1 []) c (34 ∷ r) (is_special_inside c) refl z
    ∙ close_double x.0 (add_quoted (add_quoted x.1 []) (encode_utf8 c)) r
    ∙ ap (λ qs. lex_run (Some (at x.0 (in_word qs false unquoted))) r) (add_quoted_twice x.1 [] (encode_utf8 c))

pub backslash_quotes : (ts : List T.Token) (p : Pending) (c : ℕ) (r : List ℕ) → is_outside p ≡ true → (c == 10) ≡ false
    → ReadAlike ts p (92 ∷ c ∷ r) (double_quoted (c ∷ []) r)
backslash_quotes ts p c r h n =
    let t = outside_takes_backslash p h in
    let opens = ap (λ m. lex_run m (escaped_then (c ∷ []) (34 ∷ r))) (opens_double ts p h) in
    by_bool (c == 0) (λ z. slashed_nul ts p c r t z ∙ sym (opens ∙ quoted_nul (before_quote ts p) c (34 ∷ r) z))
    (λ z. slashed_on ts p c r t n z ∙ ap (λ m. lex_run m r) (escapes ts p c h)
    ∙ sym (opens ∙ quoted_one (before_quote ts p) c r z))

-- ---- blanks

blank_cases : (P : ℕ → Type 0) → P 32 → P 9 → (b : ℕ) → is_blank b ≡ true → P b
blank_cases P s t b h =
    by_bool (b == 32) (λ e. subst P (sym (eqb-true b 32 e)) s)
    (λ e. by_bool (b == 9) (λ f. subst P (sym (eqb-true b 9 f)) t)
    (λ f. absurd (let g : false ≡ true = rw (e, f) at h in cc)))

operator_cases : (P : ℕ → Type 0) → P 59 → P 38 → P 124 → P 60 → P 62 → (o : ℕ) → is_operator o ≡ true → P o
operator_cases P p1 p2 p3 p4 p5 o h =
    by_bool (o == 59) (λ e. subst P (sym (eqb-true o 59 e)) p1) (λ e1.
    by_bool (o == 38) (λ e. subst P (sym (eqb-true o 38 e)) p2) (λ e2.
    by_bool (o == 124) (λ e. subst P (sym (eqb-true o 124 e)) p3) (λ e3.
    by_bool (o == 60) (λ e. subst P (sym (eqb-true o 60 e)) p4) (λ e4.
    by_bool (o == 62) (λ e. subst P (sym (eqb-true o 62 e)) p5) (λ e5.
    absurd (let g : false ≡ true = rw (e1, e2, e3, e4, e5) at h in cc))))))

pub blank_between : (ts : List T.Token) (b : ℕ) (r : List ℕ) → is_blank b ≡ true → ReadAlike ts between (b ∷ r) r
unfolding lex_step
blank_between ts b r h = blank_cases (λ x. ReadAlike ts between (x ∷ r) r) refl refl b h

step_operator : (ts : List T.Token) (op : Operator) (c : ℕ) → (c == 92) ≡ false
    → lex_step (with_pending ts (operator op)) c ≡ operator_at ts op c
unfolding lex_step
step_operator ts op c a = rw a refl

step_between : (ts : List T.Token) (c : ℕ) → (c == 92) ≡ false → lex_step (with_pending ts between) c ≡ begin_token ts c
unfolding lex_step
step_between ts c a = rw a refl

-- after an operator that is complete, the character begins a token
begins_after : (ts : List T.Token) (op : Operator) (c : ℕ) → continues op c ≡ false
    → operator_at ts op c ≡ option_and_then (λ us. begin_token us c) (end_operator ts op)
begins_after ts one_semicolon c k = rw k refl
begins_after ts one_ampersand c k = rw k refl
begins_after ts one_bar c k = rw k refl
begins_after ts one_less c k = rw k refl
begins_after ts one_greater c k =
    rw (or_left (c == 62) ((c == 38) || (c == 124)) k, or_right (c == 62) ((c == 38) || (c == 124)) k) refl

between_on : (m : Option (List T.Token)) (c : ℕ) (r : List ℕ) → (c == 92) ≡ false
    → lex_run (option_and_then (λ us. Some (with_pending us between)) m) (c ∷ r) ≡ lex_run
    (option_and_then (λ us. begin_token us c) m) r
between_on None c r a = refl
between_on (Some us) c r a = ap (λ m. lex_run m r) (step_between us c a)

blank_ends : (ts : List T.Token) (op : Operator) (b : ℕ) → is_blank b ≡ true
    → lex_step (with_pending ts (operator op)) b ≡ option_and_then (λ us. Some (with_pending us between))
    (end_operator ts op)
unfolding lex_step
blank_ends ts one_semicolon b h =
    blank_cases
    (λ x. lex_step (with_pending ts (operator one_semicolon)) x ≡ Some (with_pending (ts ++ T.semicolon ∷ []) between))
    refl refl b h
blank_ends ts one_ampersand b h = blank_cases (λ x. lex_step (with_pending ts (operator one_ampersand)) x ≡ None) refl
    refl b h
blank_ends ts one_bar b h =
    blank_cases (λ x. lex_step (with_pending ts (operator one_bar)) x ≡ Some (with_pending (ts ++ T.bar ∷ []) between))
    refl refl b h
blank_ends ts one_less b h =
    blank_cases
    (λ x. lex_step (with_pending ts (operator one_less)) x ≡ Some
    (with_pending (ts ++ T.redirection From ∷ []) between)) refl refl b h
blank_ends ts one_greater b h =
    blank_cases
    (λ x. lex_step (with_pending ts (operator one_greater)) x ≡ Some
    (with_pending (ts ++ T.redirection Onto ∷ []) between)) refl refl b h

pub blank_after : (ts : List T.Token) (op : Operator) (b c : ℕ) (r : List ℕ) → is_blank b ≡ true → (c == 92) ≡ false
    → continues op c ≡ false
    → ReadAlike ts (operator op) (b ∷ c ∷ r) (c ∷ r)
blank_after ts op b c r h a k =
    ap (λ m. lex_run m (c ∷ r)) (blank_ends ts op b h) ∙ between_on (end_operator ts op) c r a
    ∙ sym (ap (λ m. lex_run m r) (step_operator ts op c a ∙ begins_after ts op c k))

-- where an operator ends a word or nothing: a blank gives these tokens, and then the operator
-- begins
abbrev before_operator : List T.Token → Pending → Option (List T.Token)
before_operator ts between = Some ts
before_operator ts comment = None
before_operator ts (operator op) = None
before_operator ts (reading (in_word ps digits q)) = Some (ts ++ T.word ps ∷ [])
before_operator ts (reading (dollar ps inside)) = Some (ts ++ T.word (add_plain ps 36) ∷ [])
before_operator ts (reading (dollar_name ps inside n)) =
    cond (is_var_name n) (Some (ts ++ T.word (ps ++ T.parameter (T.variable n) ∷ []) ∷ [])) None
before_operator ts (reading (dollar_brace ps inside n)) = None
before_operator ts (reading (dollar_question ps inside)) = None

blank_ends_word : (ts : List T.Token) (p : Pending) (b o : ℕ) → ends_before o p ≡ true → is_blank b ≡ true
    → lex_step (with_pending ts p) b ≡ option_and_then (λ us. Some (with_pending us between)) (before_operator ts p)
unfolding lex_step
blank_ends_word ts between b o h k =
    blank_cases (λ x. lex_step (with_pending ts between) x ≡ Some (with_pending ts between)) refl refl b k
blank_ends_word ts comment b o h k = cc
blank_ends_word ts (operator op) b o h k = cc
blank_ends_word ts (reading (in_word ps true unquoted)) b o h k =
    blank_cases
    (λ x. lex_step (at ts (in_word ps true unquoted)) x ≡ Some (with_pending (ts ++ T.word ps ∷ []) between)) refl refl
    b k
blank_ends_word ts (reading (in_word ps false unquoted)) b o h k =
    blank_cases
    (λ x. lex_step (at ts (in_word ps false unquoted)) x ≡ Some (with_pending (ts ++ T.word ps ∷ []) between)) refl refl
    b k
blank_ends_word ts (reading (in_word ps digits single)) b o h k = cc
blank_ends_word ts (reading (in_word ps digits double)) b o h k = cc
blank_ends_word ts (reading (dollar ps true)) b o h k = cc
blank_ends_word ts (reading (dollar ps false)) b o h k =
    blank_cases
    (λ x. lex_step (at ts (dollar ps false)) x ≡ Some (with_pending (ts ++ T.word (add_plain ps 36) ∷ []) between)) refl
    refl b k
blank_ends_word ts (reading (dollar_name ps true n)) b o h k = cc
blank_ends_word ts (reading (dollar_name ps false n)) b o h k =
    blank_cases
    (λ x. lex_step (at ts (dollar_name ps false n)) x ≡ option_and_then (λ us. Some (with_pending us between))
    (before_operator ts (reading (dollar_name ps false n))))
    (by_bool (is_var_name n) (λ e. rw e refl) (λ e. rw e refl))
    (by_bool (is_var_name n) (λ e. rw e refl) (λ e. rw e refl)) b k
blank_ends_word ts (reading (dollar_brace ps inside n)) b o h k = cc
blank_ends_word ts (reading (dollar_question ps inside)) b o h k = cc

-- what an operator does here
abbrev OperatorEnds : List T.Token → Pending → ℕ → Type 0
OperatorEnds ts p o = ends_before o p ≡ true → lex_step (with_pending ts p) o ≡ option_and_then (λ us. begin_token us o)
    (before_operator ts p)

operator_ends_word : (ts : List T.Token) (p : Pending) (o : ℕ) → is_operator o ≡ true → OperatorEnds ts p o
unfolding lex_step
operator_ends_word ts between o k = operator_cases (OperatorEnds ts between) (λ h. refl) (λ h. refl) (λ h. refl)
    (λ h. refl) (λ h. refl) o k
operator_ends_word ts comment o k = λ h. absurd (let g : false ≡ true = h in cc)
operator_ends_word ts (operator op) o k = λ h. absurd (let g : false ≡ true = h in cc)
operator_ends_word ts (reading (in_word ps true unquoted)) o k =
    operator_cases (OperatorEnds ts (reading (in_word ps true unquoted))) (λ h. refl) (λ h. refl) (λ h. refl)
    (λ h. absurd (let g : false ≡ true = h in cc)) (λ h. absurd (let g : false ≡ true = h in cc)) o k
operator_ends_word ts (reading (in_word ps false unquoted)) o k =
    operator_cases (OperatorEnds ts (reading (in_word ps false unquoted))) (λ h. refl) (λ h. refl) (λ h. refl)
    (λ h. refl) (λ h. refl) o k
operator_ends_word ts (reading (in_word ps digits single)) o k = λ h. absurd (let g : false ≡ true = h in cc)
operator_ends_word ts (reading (in_word ps digits double)) o k = λ h. absurd (let g : false ≡ true = h in cc)
operator_ends_word ts (reading (dollar ps true)) o k = λ h. absurd (let g : false ≡ true = h in cc)
operator_ends_word ts (reading (dollar ps false)) o k = operator_cases (OperatorEnds ts (reading (dollar ps false)))
    (λ h. refl) (λ h. refl) (λ h. refl) (λ h. refl) (λ h. refl) o k
operator_ends_word ts (reading (dollar_name ps true n)) o k = λ h. absurd (let g : false ≡ true = h in cc)
operator_ends_word ts (reading (dollar_name ps false n)) o k =
    by_bool (is_var_name n)
    (λ e. operator_cases (OperatorEnds ts (reading (dollar_name ps false n))) (λ h. rw e refl) (λ h. rw e refl)
    (λ h. rw e refl) (λ h. rw e refl) (λ h. rw e refl) o k)
    (λ e. operator_cases (OperatorEnds ts (reading (dollar_name ps false n))) (λ h. rw e refl) (λ h. rw e refl)
    (λ h. rw e refl) (λ h. rw e refl) (λ h. rw e refl) o k)
operator_ends_word ts (reading (dollar_brace ps inside n)) o k = λ h. absurd (let g : false ≡ true = h in cc)
operator_ends_word ts (reading (dollar_question ps inside)) o k = λ h. absurd (let g : false ≡ true = h in cc)

operator_no_backslash : (o : ℕ) → is_operator o ≡ true → (o == 92) ≡ false
operator_no_backslash o k = operator_cases (λ x. (x == 92) ≡ false) refl refl refl refl refl o k

pub blank_before : (ts : List T.Token) (p : Pending) (b o : ℕ) (r : List ℕ) → is_blank b ≡ true → is_operator o ≡ true
    → ends_before o p ≡ true → ReadAlike ts p (b ∷ o ∷ r) (o ∷ r)
blank_before ts p b o r h k e =
    ap (λ m. lex_run m (o ∷ r)) (blank_ends_word ts p b o e h)
    ∙ between_on (before_operator ts p) o r (operator_no_backslash o k)
    ∙ sym (ap (λ m. lex_run m r) (operator_ends_word ts p o k e))

-- ---- comments

step_comment : (ts : List T.Token) (c : ℕ) → ((c == 0) || (c == 10)) ≡ false
    → lex_step (with_pending ts comment) c ≡ Some (with_pending ts comment)
unfolding lex_step
step_comment ts c n = by_bool (c == 92) (λ e. rw (e, n) refl) (λ e. rw (e, n) refl)

comment_on : (ts : List T.Token) (cs : List ℕ) → has_no_nul_or_newline cs ≡ true
    → lex_run (Some (with_pending ts comment)) cs ≡ Some (with_pending ts comment)
comment_on ts [] h = refl
comment_on ts (c ∷ cs) h =
    let n = not_true ((c == 0) || (c == 10)) (and_left (not ((c == 0) || (c == 10))) (has_no_nul_or_newline cs) h) in
    let rest = and_right (not ((c == 0) || (c == 10))) (has_no_nul_or_newline cs) h in
    next _ _ c cs (step_comment ts c n) ∙ comment_on ts cs rest

pub comment_is_nothing : (ts : List T.Token) (p : Pending) (cs : List ℕ) → is_token_start p ≡ true
    → has_no_nul_or_newline cs ≡ true → EndAlike ts p (35 ∷ cs) []
unfolding lex_step
comment_is_nothing ts between cs h k = ap lex_end (comment_on ts cs k)
comment_is_nothing ts comment cs h k = cc
comment_is_nothing ts (operator one_semicolon) cs h k = ap lex_end (comment_on (ts ++ T.semicolon ∷ []) cs k)
comment_is_nothing ts (operator one_ampersand) cs h k = refl
comment_is_nothing ts (operator one_bar) cs h k = ap lex_end (comment_on (ts ++ T.bar ∷ []) cs k)
comment_is_nothing ts (operator one_less) cs h k = ap lex_end (comment_on (ts ++ T.redirection From ∷ []) cs k)
comment_is_nothing ts (operator one_greater) cs h k = ap lex_end (comment_on (ts ++ T.redirection Onto ∷ []) cs k)
comment_is_nothing ts (reading r) cs h k = cc

-- ---- a name without braces

-- what a `$` does where a backslash may quote
data DollarStep : Option Lexing → Type 0 where
  is_refused : DollarStep None
  begins_parameter : (ts : List T.Token) (ps : List T.Piece) (inside : Bool)
      → DollarStep (Some (at ts (dollar ps inside)))

dollar_step : (ts : List T.Token) (p : Pending) → takes_backslash p ≡ true
    → DollarStep (lex_step (with_pending ts p) 36)
unfolding lex_step
dollar_step ts between h = begins_parameter ts [] false
dollar_step ts comment h = cc
dollar_step ts (operator one_semicolon) h = begins_parameter (ts ++ T.semicolon ∷ []) [] false
dollar_step ts (operator one_ampersand) h = is_refused
dollar_step ts (operator one_bar) h = begins_parameter (ts ++ T.bar ∷ []) [] false
dollar_step ts (operator one_less) h = begins_parameter (ts ++ T.redirection From ∷ []) [] false
dollar_step ts (operator one_greater) h = begins_parameter (ts ++ T.redirection Onto ∷ []) [] false
dollar_step ts (reading (in_word ps digits unquoted)) h = begins_parameter ts ps false
dollar_step ts (reading (in_word ps digits single)) h = cc
dollar_step ts (reading (in_word ps digits double)) h = begins_parameter ts ps true
dollar_step ts (reading (dollar ps inside)) h = is_refused
dollar_step ts (reading (dollar_name ps true n)) h =
    by_bool (is_var_name n) (λ e. rw e (begins_parameter ts (ps ++ T.quoted_parameter (T.variable n) ∷ []) true))
    (λ e. rw e is_refused)
dollar_step ts (reading (dollar_name ps false n)) h =
    by_bool (is_var_name n) (λ e. rw e (begins_parameter ts (ps ++ T.parameter (T.variable n) ∷ []) false))
    (λ e. rw e is_refused)
dollar_step ts (reading (dollar_brace ps inside [])) h = is_refused
dollar_step ts (reading (dollar_brace ps inside (b ∷ n))) h = is_refused
dollar_step ts (reading (dollar_question ps inside)) h = is_refused

bare_first : (ts : List T.Token) (ps : List T.Piece) (inside : Bool) (c : ℕ) → starts_name c ≡ true
    → lex_step (at ts (dollar ps inside)) c ≡ Some (at ts (dollar_name ps inside (c ∷ [])))
unfolding lex_step
bare_first ts ps inside c h = rw (differs starts_name c 92 h refl, h, name_is_ascii c (name_begins c h)) refl

bare_next : (ts : List T.Token) (ps : List T.Piece) (inside : Bool) (n : List ℕ) (c : ℕ) → continues_name c ≡ true
    → lex_step (at ts (dollar_name ps inside n)) c ≡ Some (at ts (dollar_name ps inside (n ++ c ∷ [])))
unfolding lex_step
bare_next ts ps inside n c h = rw (differs continues_name c 92 h refl, h, name_is_ascii c h) refl

bare_on : (ts : List T.Token) (ps : List T.Piece) (inside : Bool) (n cs r : List ℕ) → list_all continues_name cs ≡ true
    → lex_run (Some (at ts (dollar_name ps inside n))) (cs ++ r) ≡ lex_run
    (Some (at ts (dollar_name ps inside (n ++ cs)))) r
bare_on ts ps inside n [] r g = ap (λ m. lex_run (Some (at ts (dollar_name ps inside m))) r) (sym (append-nil n))
bare_on ts ps inside n (c ∷ cs) r g =
    next _ _ c (cs ++ r) (bare_next ts ps inside n c (and_left (continues_name c) (list_all continues_name cs) g))
    ∙ bare_on ts ps inside (n ++ c ∷ []) cs r (and_right (continues_name c) (list_all continues_name cs) g)
    ∙ ap (λ m. lex_run (Some (at ts (dollar_name ps inside m))) r) (append_assoc n (c ∷ []) cs)

brace_end : (ts : List T.Token) (ps : List T.Piece) (inside : Bool) (b : ℕ) (n : List ℕ)
    → lex_step (at ts (dollar_brace ps inside (b ∷ n))) 125 ≡ with_variable ts ps inside (b ∷ n)
unfolding lex_step
brace_end ts ps inside b n = refl

brace_on : (ts : List T.Token) (ps : List T.Piece) (inside : Bool) (b : ℕ) (n cs r : List ℕ)
    → list_all continues_name cs ≡ true
    → lex_run (Some (at ts (dollar_brace ps inside (b ∷ n)))) (cs ++ 125 ∷ r) ≡ lex_run
    (with_variable ts ps inside (b ∷ (n ++ cs))) r
brace_on ts ps inside b n [] r g = ap (λ m. lex_run m r) (brace_end ts ps inside b n)
    ∙ ap (λ m. lex_run (with_variable ts ps inside (b ∷ m)) r) (sym (append-nil n))
brace_on ts ps inside b n (c ∷ cs) r g =
    next _ _ c (cs ++ 125 ∷ r)
    (step_name ts ps inside b n c (and_left (continues_name c) (list_all continues_name cs) g))
    ∙ brace_on ts ps inside b (n ++ c ∷ []) cs r (and_right (continues_name c) (list_all continues_name cs) g)
    ∙ ap (λ m. lex_run (with_variable ts ps inside (b ∷ m)) r) (append_assoc n (c ∷ []) cs)

braces_open : (ts : List T.Token) (ps : List T.Piece) (inside : Bool)
    → lex_step (at ts (dollar ps inside)) 123 ≡ Some (at ts (dollar_brace ps inside []))
unfolding lex_step
braces_open ts ps inside = refl

after_bare : (ts : List T.Token) (ps : List T.Piece) (inside : Bool) (n : List ℕ) (c : ℕ) → (c == 92) ≡ false
    → continues_name c ≡ false → lex_step (at ts (dollar_name ps inside n)) c ≡ after_variable ts ps inside n c
unfolding lex_step
after_bare ts ps inside n c a k = rw (a, k) refl

after_word : (ts : List T.Token) (ps : List T.Piece) (q : Quote) (c : ℕ) → (c == 92) ≡ false
    → lex_step (at ts (in_word ps false q)) c ≡ word_at ts ps false q c
unfolding lex_step
after_word ts ps q c a = rw a refl

after_braces : (ts : List T.Token) (ps : List T.Piece) (inside : Bool) (n : List ℕ) (c : ℕ) (r : List ℕ)
    → (c == 92) ≡ false → lex_run (with_variable ts ps inside n) (c ∷ r) ≡ lex_run (after_variable ts ps inside n c) r
after_braces ts ps inside n c r a =
    by_bool (is_var_name n)
    (λ e. rw e
    (ap (λ m. lex_run m r)
    (after_word ts (ps ++ parameter_piece inside (T.variable n) ∷ []) (quote_of inside) c a))) (λ e. rw e refl)

ends_alike : (ts : List T.Token) (ps : List T.Piece) (inside : Bool) (n r : List ℕ) → ends_name r ≡ true
    → lex_end (lex_run (Some (at ts (dollar_name ps inside n))) r) ≡ lex_end (lex_run (with_variable ts ps inside n) r)
ends_alike ts ps true n [] h = by_bool (is_var_name n) (λ e. rw e refl) (λ e. rw e refl)
ends_alike ts ps false n [] h = by_bool (is_var_name n) (λ e. rw e refl) (λ e. rw e refl)
ends_alike ts ps inside n (c ∷ r) h =
    let a : (c == 92) ≡ false = not_true (c == 92) (and_left (not (c == 92)) (not (continues_name c)) h) in
    let k : continues_name c ≡ false =
    not_true (continues_name c) (and_right (not (c == 92)) (not (continues_name c)) h) in
    ap lex_end (ap (λ m. lex_run m r) (after_bare ts ps inside n c a k) ∙ sym (after_braces ts ps inside n c r a))

name_by : (m : Option Lexing) (n r : List ℕ) → DollarStep m → is_shell_name n ≡ true → ends_name r ≡ true
    → lex_end (lex_run m (n ++ r)) ≡ lex_end (lex_run m (123 ∷ n ++ 125 ∷ r))
unfolding is_shell_name
name_by None n r is_refused g h = refl
name_by (Some l) [] r (begins_parameter ts ps inside) g h = cc
name_by (Some l) (c ∷ cs) r (begins_parameter ts ps inside) g h =
    let s = and_left (starts_name c) (list_all continues_name cs) g in
    let rest = and_right (starts_name c) (list_all continues_name cs) g in
    ap lex_end (next _ _ c (cs ++ r) (bare_first ts ps inside c s) ∙ bare_on ts ps inside (c ∷ []) cs r rest)
    ∙ ends_alike ts ps inside (c ∷ cs) r h
    ∙ sym
    (ap lex_end (next _ _ 123 (c ∷ (cs ++ 125 ∷ r)) (braces_open ts ps inside)
    ∙ next _ _ c (cs ++ 125 ∷ r) (step_first ts ps inside c s) ∙ brace_on ts ps inside c [] cs r rest))

pub name_in_braces : (ts : List T.Token) (p : Pending) (n r : List ℕ) → takes_backslash p ≡ true
    → is_shell_name n ≡ true → ends_name r ≡ true
    → EndAlike ts p (36 ∷ n ++ r) (36 ∷ 123 ∷ n ++ 125 ∷ r)
name_in_braces ts p n r h g k = name_by (lex_step (with_pending ts p) 36) n r (dollar_step ts p h) g k
