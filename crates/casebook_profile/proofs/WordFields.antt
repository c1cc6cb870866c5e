-- The fields that the words of an understood command become.
use Rattle.std.proofs.Common.{◌≡◌, ℕ, zero, suc, ◌/◌, ◌%◌, ◌==◌, Bool, true, false, not, ◌||◌, List, [], ◌∷◌, ◌++◌}
use Rattle.std.proofs.Common.{Option, Some, None, codes, refl, ap, sym, ◌∙◌, subst, if◌then◌else◌, append_assoc, append-nil}
use Rattle.std.proofs.Common.{arith, decimal, eqb-true, IfSome}
use Rattle.std.proofs.lemmas.Bool.{true≢false, false≢true, and_parts, or_parts, not-true}
use Rattle.std.specs.Fmt.{digits, digits_onto, digit_glyph}
use Rattle.std.specs.List.{list_any}
use Rattle.std.specs.Option.{is_some, option_map}
use Rattle.retro_text.specs.Utility.{utility_named}
use Rattle.retro_text.specs.declared.utility.Utility.{Utility}
use Rattle.retro_tree.specs.declared.state.State.{State}
use Rattle.retro_syntax.specs.Tree.{Piece, plain, quoted, parameter, quoted_parameter, Word}
use Rattle.retro_syntax.specs.Tildes.{TildePrefix, is_empty, prefix_of, tilde_prefix}
use Rattle.retro_shell.specs.Expansion.{add_piece, add_pieces, add_word, home, parameter_value, piece_text}
use Rattle.retro_shell.specs.Expansion.{tilde_expanded, with_home, with_prefix}
use Rattle.retro_shell.specs.Fields.{Fields, add, add_split, close, is_blank}
use Rattle.casebook_profile.specs.Characters.{among, begins_with, has_any}
use Rattle.casebook_profile.specs.Proper.{Context, HomesAreAbsolute}
use Rattle.casebook_profile.specs.Words.{begins_well, is_dash}
use Rattle.casebook_profile.specs.Words.{is_plain_text, literal_text, opens, pieces_text}
use Rattle.casebook_profile.proofs.LoopValues.{some_none}

some_same : {x y : List ℕ} → Some x ≡ Some y → x ≡ y
some_same e = cc

-- ---- plain texts

-- a text that isn't split: not empty, no dash before it and no blank
pub record IsWhole (text : List ℕ) : Type 0 where
  pub begins : begins_well text ≡ true
  pub unsplit : list_any is_blank text ≡ false

same_test : (a b : ℕ) → (a == b) ≡ (b == a)
same_test a b = grind arith

no_blank_character : (c : ℕ) → among (codes " \t\n*?[{") c ≡ false → is_blank c ≡ false
no_blank_character c none =
    let a = or_parts (32 == c) _ none in
    let b = or_parts (9 == c) _ a.1 in
    let d = or_parts (10 == c) _ b.1 in
    ap (λ x. x || ((c == 9) || (c == 10))) (same_test c 32 ∙ a.0)
    ∙ ap (λ x. x || (c == 10)) (same_test c 9 ∙ b.0) ∙ same_test c 10 ∙ d.0

no_blanks : (text : List ℕ) → list_any (among (codes " \t\n*?[{")) text ≡ false → list_any is_blank text ≡ false
no_blanks [] none = refl
no_blanks (c ∷ text) none =
    let a = or_parts (among (codes " \t\n*?[{") c) _ none in
    ap (λ x. x || list_any is_blank text) (no_blank_character c a.0) ∙ no_blanks text a.1

pub plain_is_whole : (text : List ℕ) → is_plain_text text ≡ true → IsWhole text
unfolding has_any
plain_is_whole text is =
    let a = and_parts (begins_well text) _ is in
    record { begins = a.0; unsplit = no_blanks text (not-true _ a.1) }

-- ---- decimal numbers

digit : (n : ℕ) → (is_dash (digit_glyph false (n % 10)) ≡ false) × (is_blank (digit_glyph false (n % 10)) ≡ false)
digit n = (grind arith, grind arith)

either_whole : (b : Bool) (xs ys : List ℕ) → IsWhole xs → IsWhole ys → IsWhole (if b then xs else ys)
either_whole true xs ys x y = x
either_whole false xs ys x y = y

more_whole : (n : ℕ) (acc : List ℕ) → list_any is_blank acc ≡ false → IsWhole (digit_glyph false (n % 10) ∷ acc)
more_whole n acc unsplit = record {
  begins = ap not (digit n).0;
  unsplit = ap (λ b. b || list_any is_blank acc) (digit n).1 ∙ unsplit;
}

onto_whole : (k n : ℕ) (acc : List ℕ) → IsWhole acc → IsWhole (digits_onto k 10 false n acc)
onto_whole zero n acc whole = whole
onto_whole (suc k) n acc whole =
    let more : IsWhole (digit_glyph false (n % 10) ∷ acc) = more_whole n acc whole.unsplit in
    either_whole (n / 10 == 0) _ _ more (onto_whole k (n / 10) _ more)

pub decimal_whole : (n : ℕ) → IsWhole (decimal n)
unfolding digits
decimal_whole n =
    let one : IsWhole (digit_glyph false (n % 10) ∷ []) = more_whole n [] refl in
    either_whole (n / 10 == 0) _ _ one (onto_whole 63 (n / 10) _ one)

-- ---- the name of a command

pub nameless : (u : Utility) → utility_named [] ≡ Some u → ⊥
unfolding utility_named
nameless u e = cc

tilde_names_none : (cs : List ℕ) (u : Utility) → utility_named (126 ∷ cs) ≡ Some u → ⊥
unfolding utility_named
tilde_names_none cs u e = cc

pub no_tilde : (c : ℕ) (cs : List ℕ) (u : Utility) → utility_named (c ∷ cs) ≡ Some u → (c == 126) ≡ false
no_tilde c cs u e = by_test (c == 126) refl
  where
    by_test : (b : Bool) → (c == 126) ≡ b → b ≡ false
    by_test true is =
        absurd (tilde_names_none cs u (sym (ap (λ d. utility_named (d ∷ cs)) (eqb-true c 126 is)) ∙ e))
    by_test false is = refl

-- ---- pieces

abbrev pub closed : List (List ℕ) → Fields
closed e = record { ended = e; current = None }

abbrev open_with : List (List ℕ) → List ℕ → Fields
open_with e t = record { ended = e; current = Some t }

-- whether a piece whose value isn't split makes its word a field
abbrev pub opens_here : Piece → Bool
opens_here (plain []) = false
opens_here (plain (c ∷ text)) = true
opens_here (quoted text) = true
opens_here (parameter p) = true
opens_here (quoted_parameter p) = true

split_open : (v : List ℕ) (e : List (List ℕ)) (t : List ℕ) → list_any is_blank v ≡ false
    → add_split v (open_with e t) ≡ open_with e (t ++ v)
split_open [] e t unsplit = ap (open_with e) (sym (append-nil t))
split_open (b ∷ bs) e t unsplit =
    let a = or_parts (is_blank b) _ unsplit in
    ap (λ x. add_split bs (if x then close (open_with e t) else open_with e (t ++ b ∷ []))) a.0
    ∙ split_open bs e (t ++ b ∷ []) a.1 ∙ ap (open_with e) (append_assoc t (b ∷ []) bs)

split_new : (v : List ℕ) (e : List (List ℕ)) → IsWhole v → add_split v (closed e) ≡ open_with e v
split_new [] e whole = absurd (false≢true whole.begins)
split_new (b ∷ bs) e whole =
    let a = or_parts (is_blank b) _ whole.unsplit in
    ap (λ x. add_split bs (if x then close (closed e) else open_with e (b ∷ []))) a.0 ∙ split_open bs e (b ∷ []) a.1

add_open : (v : List ℕ) (e : List (List ℕ)) (t : List ℕ) → add v (open_with e t) ≡ open_with e (t ++ v)
add_open [] e t = ap (open_with e) (sym (append-nil t))
add_open (b ∷ bs) e t = refl

module _ (context : Context) (s : State) where
  abbrev pub WholePiece : Piece → Type 0
  WholePiece (plain text) = Unit {0}
  WholePiece (quoted text) = Unit {0}
  WholePiece (parameter p) = IsWhole (parameter_value context s p)
  WholePiece (quoted_parameter p) = Unit {0}

  -- no value of an unquoted parameter is split
  abbrev pub AllWhole : List Piece → Type 0
  AllWhole [] = Unit {0}
  AllWhole (p ∷ ps) = WholePiece p × AllWhole ps

  abbrev pub texts : List Piece → List ℕ
  texts [] = []
  texts (p ∷ ps) = piece_text context s p ++ texts ps

  piece_open : (p : Piece) (e : List (List ℕ)) (t : List ℕ) → WholePiece p
      → add_piece context s p (open_with e t) ≡ open_with e (t ++ piece_text context s p)
  piece_open (plain text) e t whole = add_open text e t
  piece_open (quoted text) e t whole = add_open text e t
  piece_open (parameter p) e t whole = split_open (parameter_value context s p) e t whole.unsplit
  piece_open (quoted_parameter p) e t whole = add_open (parameter_value context s p) e t

  pieces_open : (ps : List Piece) (e : List (List ℕ)) (t : List ℕ) → AllWhole ps
      → add_pieces context s ps (open_with e t) ≡ open_with e (t ++ texts ps)
  pieces_open [] e t whole = ap (open_with e) (sym (append-nil t))
  pieces_open (p ∷ ps) e t whole =
      ap (add_pieces context s ps) (piece_open p e t whole.0)
      ∙ pieces_open ps e (t ++ piece_text context s p) whole.1
      ∙ ap (open_with e) (append_assoc t (piece_text context s p) (texts ps))

  piece_new : (p : Piece) (e : List (List ℕ)) → WholePiece p → opens_here p ≡ true
      → add_piece context s p (closed e) ≡ open_with e (piece_text context s p)
  piece_new (plain []) e whole opened = absurd (false≢true opened)
  piece_new (plain (c ∷ text)) e whole opened = refl
  piece_new (quoted text) e whole opened = add_open text e []
  piece_new (parameter p) e whole opened = split_new (parameter_value context s p) e whole
  piece_new (quoted_parameter p) e whole opened = add_open (parameter_value context s p) e []

  begun : (p : Piece) (ps : List Piece) (e : List (List ℕ)) → AllWhole (p ∷ ps) → opens_here p ≡ true
      → add_pieces context s (p ∷ ps) (closed e) ≡ open_with e (texts (p ∷ ps))
  begun p ps e whole opened =
      ap (add_pieces context s ps) (piece_new p e whole.0 opened)
      ∙ pieces_open ps e (piece_text context s p) whole.1

  pieces_new : (ps : List Piece) (e : List (List ℕ)) → AllWhole ps → list_any opens_here ps ≡ true
      → add_pieces context s ps (closed e) ≡ open_with e (texts ps)
  pieces_new [] e whole opened = absurd (false≢true opened)
  pieces_new (plain [] ∷ ps) e whole opened = pieces_new ps e whole.1 opened
  pieces_new (plain (c ∷ text) ∷ ps) e whole opened = begun (plain (c ∷ text)) ps e whole refl
  pieces_new (quoted text ∷ ps) e whole opened = begun (quoted text) ps e whole refl
  pieces_new (parameter p ∷ ps) e whole opened = begun (parameter p) ps e whole refl
  pieces_new (quoted_parameter p ∷ ps) e whole opened = begun (quoted_parameter p) ps e whole refl

  pieces_none : (ps : List Piece) (e : List (List ℕ)) → list_any opens_here ps ≡ false
      → add_pieces context s ps (closed e) ≡ closed e
  pieces_none [] e unopened = refl
  pieces_none (plain [] ∷ ps) e unopened = pieces_none ps e unopened
  pieces_none (plain (c ∷ text) ∷ ps) e unopened = absurd (true≢false unopened)
  pieces_none (quoted text ∷ ps) e unopened = absurd (true≢false unopened)
  pieces_none (parameter p ∷ ps) e unopened = absurd (true≢false unopened)
  pieces_none (quoted_parameter p ∷ ps) e unopened = absurd (true≢false unopened)

  -- ---- words

  abbrev pub expanded_word : Word → Word
  expanded_word w = tilde_expanded context.place.sid false w s

  pub one_field : (w : Word) (e : List (List ℕ)) → AllWhole (expanded_word w) → list_any opens_here (expanded_word w) ≡ true
      → add_word context s w (closed e) ≡ closed (e ++ texts (expanded_word w) ∷ [])
  unfolding add_word
  one_field w e whole opened = ap close (pieces_new (expanded_word w) e whole opened)

  pub no_field : (w : Word) (e : List (List ℕ)) → list_any opens_here (expanded_word w) ≡ false
      → add_word context s w (closed e) ≡ closed (e ++ [])
  unfolding add_word
  no_field w e unopened = ap close (pieces_none (expanded_word w) e unopened) ∙ ap closed (sym (append-nil e))

  -- ---- tilde prefixes

  -- a word, and the word with its tilde prefix replaced
  pub data Expanded : Word → Word → Type 0 where
    same : {w : Word} → Expanded w w
    at_home : {text h rest : List ℕ} {ps : Word} → begins_with 47 h ≡ true
        → Expanded (plain text ∷ ps) (quoted h ∷ plain rest ∷ ps)

  by_home : (o : Option (List ℕ)) (text rest : List ℕ) (ps : Word) → IfSome o (λ h. begins_with 47 h ≡ true)
      → Expanded (plain text ∷ ps) (with_home o rest (plain text ∷ ps))
  by_home None text rest ps homes = same
  by_home (Some h) text rest ps homes = at_home homes

  by_prefix : (o : Option TildePrefix) (text : List ℕ) (ps : Word) → HomesAreAbsolute context.place.sid s
      → Expanded (plain text ∷ ps) (with_prefix context.place.sid o (plain text ∷ ps) s)
  by_prefix None text ps homes = same
  by_prefix (Some prefix) text ps homes =
      by_home (home context.place.sid prefix.login s) text prefix.rest ps (homes prefix.login)

  pub expanded : (w : Word) → HomesAreAbsolute context.place.sid s → Expanded w (expanded_word w)
  expanded [] homes = same
  expanded (plain text ∷ ps) homes = by_prefix (prefix_of false (is_empty ps) text) text ps homes
  expanded (quoted text ∷ ps) homes = same
  expanded (parameter p ∷ ps) homes = same
  expanded (quoted_parameter p ∷ ps) homes = same

  pub expanded_whole : {w v : Word} → Expanded w v → AllWhole w → AllWhole v
  expanded_whole same whole = whole
  expanded_whole (at_home h) whole = (tt, (tt, whole.1))

  prefix_none : (o : Option TildePrefix) (w : Word) → is_some o ≡ false → with_prefix context.place.sid o w s ≡ w
  prefix_none None w none = refl
  prefix_none (Some prefix) w none = absurd (true≢false none)

  -- ---- words of a known text

  any_opens : (w : Word) → list_any opens w ≡ true → list_any opens_here w ≡ true
  any_opens [] opened = opened
  any_opens (plain [] ∷ ps) opened = any_opens ps opened
  any_opens (plain (c ∷ text) ∷ ps) opened = refl
  any_opens (quoted text ∷ ps) opened = refl
  any_opens (parameter p ∷ ps) opened = refl
  any_opens (quoted_parameter p ∷ ps) opened = refl

  known_after : (t : List ℕ) (o : Option (List ℕ)) (rest text : List ℕ)
      → ((more : List ℕ) → o ≡ Some more → rest ≡ more) → option_map (λ more. t ++ more) o ≡ Some text
      → t ++ rest ≡ text
  known_after t None rest text known is = absurd (some_none text (sym is))
  known_after t (Some more) rest text known is = ap (λ r. t ++ r) (known more refl) ∙ some_same is

  known_texts : (w : Word) (text : List ℕ) → pieces_text w ≡ Some text → texts w ≡ text
  known_texts [] text is = some_same is
  known_texts (plain t ∷ ps) text is = known_after t (pieces_text ps) (texts ps) text (known_texts ps) is
  known_texts (quoted t ∷ ps) text is = known_after t (pieces_text ps) (texts ps) text (known_texts ps) is
  known_texts (parameter p ∷ ps) text is = absurd (some_none text (sym is))
  known_texts (quoted_parameter p ∷ ps) text is = absurd (some_none text (sym is))

  known_field : (w : Word) (e : List (List ℕ)) (text : List ℕ) → AllWhole w → is_some (tilde_prefix false w) ≡ false
      → list_any opens w ≡ true → pieces_text w ≡ Some text
      → add_word context s w (closed e) ≡ closed (e ++ text ∷ [])
  known_field w e text whole bare opened is =
      let unchanged : expanded_word w ≡ w = prefix_none (tilde_prefix false w) w bare in
      one_field w e (subst AllWhole (sym unchanged) whole)
      (ap (list_any opens_here) unchanged ∙ any_opens w opened)
      ∙ ap (λ t. closed (e ++ t ∷ [])) (ap texts unchanged ∙ known_texts w text is)

  pub literal_field : (w : Word) (e : List (List ℕ)) (text : List ℕ) → AllWhole w → literal_text w ≡ Some text
      → add_word context s w (closed e) ≡ closed (e ++ text ∷ [])
  unfolding literal_text
  literal_field w e text whole is =
      by_tests (is_some (tilde_prefix false w)) (list_any opens w) refl refl is
    where
      by_tests : (t o : Bool) → is_some (tilde_prefix false w) ≡ t → list_any opens w ≡ o
          → (if t then None else if o then pieces_text w else None) ≡ Some text
          → add_word context s w (closed e) ≡ closed (e ++ text ∷ [])
      by_tests true o bare opened is = absurd (some_none text (sym is))
      by_tests false true bare opened is = known_field w e text whole bare opened is
      by_tests false false bare opened is = absurd (some_none text (sym is))
