-- The fields of words that are read alike, by what is known of the words.
use Rattle.std.proofs.Common.{◌≡◌, ℕ, ◌==◌, Bool, true, false, not, ◌&&◌, ◌||◌, List, [], ◌∷◌, ◌++◌, Option, Some, None, map, codes}
use Rattle.std.proofs.Common.{refl, ap, sym, ◌∙◌, if◌then◌else◌, append_assoc, append-nil, eqb-true}
use Rattle.std.proofs.lemmas.Bool.{false≢true, and_parts}
use Rattle.std.proofs.lemmas.List.Folds.{list_any-append}
use Rattle.std.specs.List.{list_all, list_any}
use Rattle.retro_text.specs.Utility.{utility_named}
use Rattle.retro_text.specs.declared.utility.Utility.{Utility}
use Rattle.retro_tree.specs.declared.state.State.{State}
use Rattle.retro_syntax.specs.Tree.{Parameter, status, variable, Piece, plain, quoted, parameter, quoted_parameter, Word}
use Rattle.retro_shell.specs.Expansion.{add_word, add_words, fields, parameter_value}
use Rattle.casebook_usage.specs.Shape.{ShapeValue, literal, operand, phrase, loose, AllBecome, Becomes, is_in_echo_options}
use Rattle.casebook_usage.specs.Shape as shapes
use Rattle.casebook_profile.specs.Characters.{begins_with, has_other}
use Rattle.casebook_profile.specs.Commands.{utility_of}
use Rattle.casebook_profile.specs.Proper.{Context, HomesAreAbsolute}
use Rattle.casebook_profile.specs.Scope.{Scope, is_plain}
use Rattle.casebook_profile.specs.Words.{begins_operand, begins_well, has_other_piece, is_clear, is_clear_piece}
use Rattle.casebook_profile.specs.Words.{is_plain_literal, is_plain_text, is_plain_word, literal_text, shape_by, shape_of}
use Rattle.casebook_profile.specs.Words.{unknown_shape}
use Rattle.casebook_profile.proofs.LoopValues.{LoopsHold}
use Rattle.casebook_profile.proofs.WordFields.{IsWhole, AllWhole, Expanded, same, at_home, closed, decimal_whole, expanded}
use Rattle.casebook_profile.proofs.WordFields.{expanded_whole, expanded_word, literal_field, nameless, no_field, no_tilde}
use Rattle.casebook_profile.proofs.WordFields.{one_field, opens_here, plain_is_whole, texts}

-- ---- texts that begin with another character than a dash

begins_on : (v rest : List ℕ) → begins_well v ≡ true → shapes.is_plain (v ++ rest) ≡ true
begins_on [] rest begins = absurd (false≢true begins)
begins_on (c ∷ v) rest begins = begins

slash_begins : (v rest : List ℕ) → begins_with 47 v ≡ true → shapes.is_plain (v ++ rest) ≡ true
slash_begins [] rest begins = absurd (false≢true begins)
slash_begins (c ∷ v) rest begins = ap (λ d. not (d == 45)) (eqb-true c 47 begins)

-- ---- texts with a character that no option of `echo` has

abbrev is_other : ℕ → Bool
is_other b = not (is_in_echo_options b)

other_first : (v rest : List ℕ) → list_any is_other v ≡ true → list_any is_other (v ++ rest) ≡ true
other_first v rest has = list_any-append is_other v rest ∙ ap (λ b. b || list_any is_other rest) has

or_true : (b : Bool) → (b || true) ≡ true
or_true true = refl
or_true false = refl

other_last : (v rest : List ℕ) → list_any is_other rest ≡ true → list_any is_other (v ++ rest) ≡ true
other_last v rest has =
    list_any-append is_other v rest ∙ ap (λ b. list_any is_other v || b) has ∙ or_true (list_any is_other v)

slash_is_other : (v rest : List ℕ) → begins_with 47 v ≡ true → list_any is_other (v ++ rest) ≡ true
slash_is_other [] rest begins = absurd (false≢true begins)
slash_is_other (c ∷ v) rest begins = ap (λ d. is_other d || list_any is_other (v ++ rest)) (eqb-true c 47 begins)

module _ (scope : Scope) (context : Context) (s : State) (holds : LoopsHold scope.loops context.place.sid s) where
  plain_value : (p : Parameter) → is_plain scope p ≡ true → IsWhole (parameter_value context s p)
  unfolding parameter_value
  plain_value status is = decimal_whole _
  plain_value (variable name) is = plain_is_whole _ (holds.hold name is)

  pieces_whole : (w : Word) → list_all (is_clear_piece scope) w ≡ true → AllWhole context s w
  pieces_whole [] clear = tt
  pieces_whole (plain text ∷ ps) clear = (tt, pieces_whole ps (and_parts _ _ clear).1)
  pieces_whole (quoted text ∷ ps) clear = (tt, pieces_whole ps clear)
  pieces_whole (parameter p ∷ ps) clear =
      let a = and_parts (is_plain scope p) _ clear in (plain_value p a.0, pieces_whole ps a.1)
  pieces_whole (quoted_parameter p ∷ ps) clear = (tt, pieces_whole ps (and_parts _ _ clear).1)

  word_whole : (w : Word) → is_clear scope w ≡ true → AllWhole context s w
  unfolding is_clear
  word_whole w clear = pieces_whole w (and_parts (list_all (is_clear_piece scope) w) _ clear).0

  -- ---- words of which something is known

  abbrev OneSuch : (List ℕ → Bool) → Word → Type 0
  OneSuch test v = (list_any opens_here v ≡ true) × (test (texts context s v) ≡ true)

  -- an operand
  operand_text : {w v : Word} → Expanded context s w v → begins_operand scope w ≡ true → OneSuch shapes.is_plain v
  operand_text (same {w = []}) begins = absurd (false≢true begins)
  operand_text (same {w = plain [] ∷ ps}) begins = absurd (false≢true begins)
  operand_text (same {w = plain (c ∷ text) ∷ ps}) begins = (refl, begins)
  operand_text (same {w = quoted text ∷ ps}) begins = (refl, begins_on text (texts context s ps) begins)
  operand_text (same {w = parameter p ∷ ps}) begins =
      (refl, begins_on (parameter_value context s p) (texts context s ps) (plain_value p begins).begins)
  operand_text (same {w = quoted_parameter p ∷ ps}) begins =
      (refl, begins_on (parameter_value context s p) (texts context s ps) (plain_value p begins).begins)
  operand_text (at_home {text = text} {h = h} {rest = rest} {ps = ps} absolute) begins =
      (refl, slash_begins h (texts context s (plain rest ∷ ps)) absolute)

  -- a phrase
  other_piece : (text : List ℕ) (v : Word) → has_other (codes "-neE") text ≡ true
      → (list_any is_other (texts context s (quoted text ∷ v)) ≡ true)
  unfolding has_other
  other_piece text v has = other_first text (texts context s v) has

  opened_by : (text : List ℕ) (ps : Word) → has_other (codes "-neE") text ≡ true
      → list_any opens_here (plain text ∷ ps) ≡ true
  unfolding has_other
  opened_by [] ps has = absurd (false≢true has)
  opened_by (c ∷ text) ps has = refl

  opened_after : (p : Piece) (ps : Word) → list_any opens_here ps ≡ true → list_any opens_here (p ∷ ps) ≡ true
  opened_after p ps opened = ap (λ b. opens_here p || b) opened ∙ or_true (opens_here p)

  by_plain : (b : Bool) (text : List ℕ) (ps : Word) → has_other (codes "-neE") text ≡ b
      → (list_any has_other_piece ps ≡ true → OneSuch (list_any is_other) ps)
      → (b || list_any has_other_piece ps) ≡ true → OneSuch (list_any is_other) (plain text ∷ ps)
  by_plain true text ps is more has = (opened_by text ps is, other_piece text ps is)
  by_plain false text ps is more has =
      let rest = more has in (opened_after (plain text) ps rest.0, other_last text (texts context s ps) rest.1)

  by_quoted : (b : Bool) (text : List ℕ) (ps : Word) → has_other (codes "-neE") text ≡ b
      → (list_any has_other_piece ps ≡ true → OneSuch (list_any is_other) ps)
      → (b || list_any has_other_piece ps) ≡ true → OneSuch (list_any is_other) (quoted text ∷ ps)
  by_quoted true text ps is more has = (refl, other_piece text ps is)
  by_quoted false text ps is more has = (refl, other_last text (texts context s ps) (more has).1)

  phrase_pieces : (w : Word) → list_any has_other_piece w ≡ true → OneSuch (list_any is_other) w
  phrase_pieces [] has = absurd (false≢true has)
  phrase_pieces (plain text ∷ ps) has =
      by_plain (has_other (codes "-neE") text) text ps refl (phrase_pieces ps) has
  phrase_pieces (quoted text ∷ ps) has =
      by_quoted (has_other (codes "-neE") text) text ps refl (phrase_pieces ps) has
  phrase_pieces (parameter p ∷ ps) has =
      (refl, other_last (parameter_value context s p) (texts context s ps) (phrase_pieces ps has).1)
  phrase_pieces (quoted_parameter p ∷ ps) has =
      (refl, other_last (parameter_value context s p) (texts context s ps) (phrase_pieces ps has).1)

  phrase_text : {w v : Word} → Expanded context s w v → list_any has_other_piece w ≡ true
      → OneSuch (list_any is_other) v
  phrase_text (same {w = w}) has = phrase_pieces w has
  phrase_text (at_home {text = text} {h = h} {rest = rest} {ps = ps} absolute) has =
      (refl, slash_is_other h (texts context s (plain rest ∷ ps)) absolute)

  -- ---- the fields of a word

  -- after some fields, a word becomes fields of a shape
  abbrev Made : Word → List (List ℕ) → ShapeValue → Type 0
  Made w e shape =
      (first : List (List ℕ)) × ((add_word context s w (closed e) ≡ closed (e ++ first)) × Becomes shape first)

  operand_made : (w : Word) (e : List (List ℕ)) → AllWhole context s w → HomesAreAbsolute context.place.sid s
      → begins_operand scope w ≡ true → Made w e operand
  operand_made w e whole homes begins =
      let v : Word = expanded_word context s w in
      let made : Expanded context s w v = expanded context s w homes in
      let such = operand_text made begins in (
        texts context s v ∷ [],
        (
          one_field context s w e (expanded_whole context s made whole) such.0,
          (texts context s v, (refl, such.1)),
        ),
      )

  phrase_made : (w : Word) (e : List (List ℕ)) → AllWhole context s w → HomesAreAbsolute context.place.sid s
      → list_any has_other_piece w ≡ true → Made w e phrase
  phrase_made w e whole homes has =
      let v : Word = expanded_word context s w in
      let made : Expanded context s w v = expanded context s w homes in
      let such = phrase_text made has in (
        texts context s v ∷ [],
        (
          one_field context s w e (expanded_whole context s made whole) such.0,
          ap (λ b. b || false) such.1,
        ),
      )

  loose_made : (w : Word) (e : List (List ℕ)) → AllWhole context s w → HomesAreAbsolute context.place.sid s
      → Made w e loose
  loose_made w e whole homes = by_test (list_any opens_here (expanded_word context s w)) refl
    where
      by_test : (b : Bool) → list_any opens_here (expanded_word context s w) ≡ b → Made w e loose
      by_test true is = (
        texts context s (expanded_word context s w) ∷ [],
        (one_field context s w e (expanded_whole context s (expanded context s w homes) whole) is, tt),
      )
      by_test false is = ([], (no_field context s w e is, tt))

  unknown_made : (w : Word) (e : List (List ℕ)) → AllWhole context s w → HomesAreAbsolute context.place.sid s
      → Made w e (unknown_shape scope w)
  unknown_made w e whole homes = by_tests (begins_operand scope w) (list_any has_other_piece w) refl refl
    where
      by_tests : (b o : Bool) → begins_operand scope w ≡ b → list_any has_other_piece w ≡ o
          → Made w e (if b then operand else if o then phrase else loose)
      by_tests true o begins has = operand_made w e whole homes begins
      by_tests false true begins has = phrase_made w e whole homes has
      by_tests false false begins has = loose_made w e whole homes

  shape_made : (w : Word) (e : List (List ℕ)) → AllWhole context s w → HomesAreAbsolute context.place.sid s
      → Made w e (shape_of scope w)
  unfolding shape_of
  shape_made w e whole homes = by_text (literal_text w) refl
    where
      by_text : (o : Option (List ℕ)) → literal_text w ≡ o → Made w e (shape_by o scope w)
      by_text None is = unknown_made w e whole homes
      by_text (Some text) is = (text ∷ [], (literal_field context s w e text whole is, refl))

  -- ---- the fields of words

  words_made : (ws : List Word) (e : List (List ℕ)) → list_all (is_clear scope) ws ≡ true
      → HomesAreAbsolute context.place.sid s
      → (rest : List (List ℕ)) × (((add_words context s ws (closed e)).ended ≡ e ++ rest)
      × AllBecome (map (shape_of scope) ws) rest)
  words_made [] e clear homes = ([], (sym (append-nil e), refl))
  words_made (w ∷ ws) e clear homes =
      let a = and_parts (is_clear scope w) _ clear in
      let (first, (is, becomes)) = shape_made w e (word_whole w a.0) homes in
      let (rest, (are, become)) = words_made ws (e ++ first) a.1 homes in (
        first ++ rest,
        (
          ap (λ f. (add_words context s ws f).ended) is ∙ are ∙ append_assoc e first rest,
          (first, (rest, (refl, (becomes, become)))),
        ),
      )

  -- ---- the fields of a command

  name_text : (w : Word) (u : Utility) → utility_of w ≡ Some u
      → (text : List ℕ) × ((w ≡ plain text ∷ []) × (utility_named text ≡ Some u))
  name_text [] u is = cc
  name_text (plain text ∷ []) u is = (text, (refl, is))
  name_text (plain text ∷ p ∷ ps) u is = cc
  name_text (quoted text ∷ ps) u is = cc
  name_text (parameter p ∷ ps) u is = cc
  name_text (quoted_parameter p ∷ ps) u is = cc

  name_literal : (text : List ℕ) (u : Utility) → utility_named text ≡ Some u → literal_text (plain text ∷ []) ≡ Some text
  unfolding literal_text
  name_literal [] u is = absurd (nameless u is)
  name_literal (c ∷ cs) u is = simp (no_tilde c cs u is) (ap (λ t. Some t) (append-nil (c ∷ cs)))

  name_field : (text : List ℕ) (u : Utility) (e : List (List ℕ)) → utility_named text ≡ Some u
      → add_word context s (plain text ∷ []) (closed e) ≡ closed (e ++ text ∷ [])
  name_field text u e is = literal_field context s (plain text ∷ []) e text (tt, tt) (name_literal text u is)

  pub call_fields : (name : Word) (operands : List Word) (u : Utility) → utility_of name ≡ Some u
      → list_all (is_clear scope) operands ≡ true → HomesAreAbsolute context.place.sid s
      → (text : List ℕ) × ((rest : List (List ℕ)) × ((fields context s (name ∷ operands) ≡ text ∷ rest)
      × ((utility_named text ≡ Some u) × AllBecome (map (shape_of scope) operands) rest)))
  unfolding fields
  call_fields name operands u is clear homes =
      let (text, (word, named)) = name_text name u is in
      let (rest, (are, become)) = words_made operands (text ∷ []) clear homes in (
        text,
        (
          rest,
          (
            ap (λ w. (add_words context s operands (add_word context s w (closed []))).ended) word
                ∙ ap (λ f. (add_words context s operands f).ended) (name_field text u [] named) ∙ are,
            (named, become),
          ),
        ),
      )

  -- ---- the words of a `for`

  plain_literal : (w : Word) (o : Option (List ℕ)) → literal_text w ≡ o → is_plain_literal o ≡ true
      → (text : List ℕ) × ((literal_text w ≡ Some text) × (is_plain_text text ≡ true))
  plain_literal w None is known = absurd (false≢true known)
  plain_literal w (Some text) is known = (text, (is, known))

  plain_made : (ws : List Word) (e : List (List ℕ)) → list_all is_plain_word ws ≡ true
      → list_all (is_clear scope) ws ≡ true
      → (rest : List (List ℕ)) × (((add_words context s ws (closed e)).ended ≡ e ++ rest)
      × (list_all is_plain_text rest ≡ true))
  plain_made [] e known clear = ([], (sym (append-nil e), refl))
  plain_made (w ∷ ws) e known clear =
      let a = and_parts (is_clear scope w) _ clear in
      let b = and_parts (is_plain_word w) _ known in
      let (text, (is, first)) = plain_literal w (literal_text w) refl b.0 in
      let (rest, (are, more)) = plain_made ws (e ++ text ∷ []) b.1 a.1 in (
        text ∷ rest,
        (
          ap (λ f. (add_words context s ws f).ended) (literal_field context s w e text (word_whole w a.0) is) ∙ are
              ∙ append_assoc e (text ∷ []) rest,
          ap (λ t. t && list_all is_plain_text rest) first ∙ more,
        ),
      )

  pub plain_fields : (ws : List Word) → list_all is_plain_word ws ≡ true → list_all (is_clear scope) ws ≡ true
      → list_all is_plain_text (fields context s ws) ≡ true
  unfolding fields
  plain_fields ws known clear =
      let (rest, (are, more)) = plain_made ws [] known clear in ap (list_all is_plain_text) are ∙ more
