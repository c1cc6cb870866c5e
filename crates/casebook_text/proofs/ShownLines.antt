-- Safe lines with a newline after each, one after another.
use Rattle.std.proofs.Common.{◌≡◌, ℕ, ◌+◌, ◌<◌, ◌≤◌, true, false, refl, sym, ap, ap₂, ◌∙◌, arith, length, take}
use Rattle.std.proofs.Common.{List, [], ◌∷◌, ◌++◌, get_or, append_assoc, flat_map, subst}
use Rattle.std.specs.Prelude.{◌==◌, ◌&&◌, ◌||◌, Bool, not, if◌then◌else◌}
use Rattle.std.specs.Char.{encode_utf8}
use Rattle.std.specs.List.{join_with_byte, list_all, slice_split, onto_first}
use Rattle.std.specs.Str.{chars, IsUtf8}
use Rattle.std.proofs.lemmas.Bool.{and_from, and_parts, eq-eqb, ne_eqb, false≢true, not_from_false, or_left, or_right}
use Rattle.std.proofs.lemmas.List.{append-nil, length-take-le, take_all, take_more}
use Rattle.std.proofs.lemmas.List.Splits.{slice_split-cons_no}
use Rattle.std.proofs.lemmas.Grind.{flat_map-append}
use Rattle.std.proofs.lemmas.Str.{chars-append, chars-nil, IsUtf8-append}
use Rattle.casebook_text.specs.SafeText.{is_harmless, is_safe, is_safe_byte}
use Rattle.casebook_text.specs.SafeLine.{IsSafeLine, line_end, row_of_fields, tab_stop, text_of_lines}
use Rattle.casebook_text.specs.inner.Row.{AllSafe, IsRow}
use Rattle.casebook_text.specs.declared.safe_text.Breaks.TheVariants.{Keep, Show}
use Rattle.casebook_text.proofs.Lists.{append_all}
use Rattle.casebook_text.proofs.SafeLines.{bytes_of_line}

abbrev pub AllRows : List (List ℕ) → Type 0
AllRows [] = Unit {0}
AllRows (row ∷ rows) = IsRow row × AllRows rows

one_more_row : (rows : List (List ℕ)) (row : List ℕ) → AllRows rows → IsRow row → AllRows (rows ++ row ∷ [])
one_more_row [] row all is = (is, tt)
one_more_row (first ∷ rows) row all is = (all.0, one_more_row rows row all.1 is)

-- a text of rows, with a newline after each
pub record IsTextOf (text : List ℕ) (rows : List (List ℕ)) : Type 0 where
  pub is : text ≡ text_of_lines rows
  pub all : AllRows rows

pub no_line : (text : List ℕ) → text ≡ [] → IsTextOf text []
no_line text e = record { is = e; all = tt }

pub next_row : (text mid new row : List ℕ) (rows : List (List ℕ)) → IsTextOf text rows → IsRow row
    → mid ≡ text ++ row → new ≡ mid ++ line_end ∷ [] → IsTextOf new (rows ++ row ∷ [])
next_row text mid new row rows so_far is front whole = record {
  is =
      whole ∙ ap (λ t. t ++ line_end ∷ []) (front ∙ ap (λ t. t ++ row) so_far.is)
      ∙ append_assoc (text_of_lines rows) row (line_end ∷ [])
      ∙ ap (λ t. text_of_lines rows ++ t) (sym (append-nil (row ++ line_end ∷ [])))
      ∙ sym (flat_map-append (λ l. l ++ line_end ∷ []) rows (row ∷ []));
  all = one_more_row rows row so_far.all is;
}

-- ---- what holds of the whole text

first_holds : (x y : Bool) → (x || (y && false)) ≡ true → x ≡ true
first_holds true y e = refl
first_holds false true e = e
first_holds false false e = e

all_imply : (p q : ℕ → Bool) → ((x : ℕ) → p x ≡ true → q x ≡ true) → (xs : List ℕ) → list_all p xs ≡ true → list_all q xs ≡ true
all_imply p q each [] all = refl
all_imply p q each (x ∷ xs) all =
    let both = and_parts (p x) (list_all p xs) all in
    and_from _ _ (each x both.0) (all_imply p q each xs both.1)

-- what is safe in one line is safe in several
safe_in_lines : (c : ℕ) → is_safe Show c ≡ true → is_safe Keep c ≡ true
safe_in_lines c safe = or_left _ _ (first_holds _ _ safe)

byte_in_lines : (b : ℕ) → is_safe_byte Show b ≡ true → is_safe_byte Keep b ≡ true
byte_in_lines b safe = or_left _ _ (first_holds _ _ safe)

-- a text that is safe to show
record IsSafeText (text : List ℕ) : Type 0 where
  utf8 : IsUtf8 text
  characters : list_all (is_safe Keep) (chars text) ≡ true
  bytes : list_all (is_safe_byte Keep) text ≡ true

both_safe : (one two : List ℕ) → IsSafeText one → IsSafeText two → IsSafeText (one ++ two)
both_safe one two a b = record {
  utf8 = IsUtf8-append one two a.utf8 b.utf8;
  characters =
      ap (list_all (is_safe Keep)) (chars-append one two a.utf8)
      ∙ append_all (is_safe Keep) (chars one) (chars two) a.characters b.characters;
  bytes = append_all (is_safe_byte Keep) one two a.bytes b.bytes;
}

line_is_safe : (line : List ℕ) → IsSafeLine line → IsSafeText line
line_is_safe line safe = record {
  utf8 = safe.utf8;
  characters = all_imply (is_safe Show) (is_safe Keep) safe_in_lines (chars line) safe.characters;
  bytes = all_imply (is_safe_byte Show) (is_safe_byte Keep) byte_in_lines line (bytes_of_line line safe);
}

end_is_safe : IsSafeText (line_end ∷ [])
unfolding chars encode_utf8
end_is_safe = record {
  utf8 = (line_end ∷ [], (refl, refl));
  characters = and_from _ _ (or_right (is_harmless line_end) _ refl) refl;
  bytes = refl;
}

nothing_is_safe : IsSafeText []
nothing_is_safe = record { utf8 = ([], (refl, refl)); characters = ap (list_all (is_safe Keep)) chars-nil; bytes = refl }

row_is_safe : (row : List ℕ) → IsRow row → IsSafeText row
row_is_safe row is = record { utf8 = is.utf8; characters = is.characters; bytes = is.bytes }

all_is_safe : (rows : List (List ℕ)) → AllRows rows → IsSafeText (text_of_lines rows)
all_is_safe [] all = nothing_is_safe
all_is_safe (row ∷ rows) all =
    both_safe (row ++ line_end ∷ []) (text_of_lines rows) (both_safe row (line_end ∷ []) (row_is_safe row all.0) end_is_safe)
    (all_is_safe rows all.1)

-- ---- where its newlines are

-- a byte of a safe line is no control code
no_control : (c : ℕ) → is_safe_byte Show c ≡ false → (b : ℕ) → is_safe_byte Show b ≡ true → not (b == c) ≡ true
no_control c control b safe =
    not_from_false _ (ne_eqb b c (λ e. false≢true (sym control ∙ ap (is_safe_byte Show) (sym e) ∙ safe)))

-- a safe line is a row
pub line_is_row : (line : List ℕ) → IsSafeLine line → IsRow line
line_is_row line safe = let text = line_is_safe line safe in record {
  utf8 = text.utf8;
  characters = text.characters;
  bytes = text.bytes;
  no_end = all_imply (is_safe_byte Show) (λ b. not (b == line_end)) (no_control line_end refl) line (bytes_of_line line safe);
}

-- what comes before a byte that isn't in it is the first part
split_first : (c : ℕ) (front rest : List ℕ) → list_all (λ b. not (b == c)) front ≡ true
    → slice_split (λ b. b == c) (front ++ (c ∷ rest)) ≡ front ∷ slice_split (λ b. b == c) rest
split_first c [] rest all = ap (λ t. if t then [] ∷ slice_split (λ b. b == c) rest else onto_first c (slice_split (λ b. b == c) rest)) (eq-eqb c c refl)
split_first c (b ∷ front) rest all =
    let both = and_parts (not (b == c)) (list_all (λ x. not (x == c)) front) all in
    slice_split-cons_no (λ x. x == c) b (front ++ (c ∷ rest)) (not_true (b == c) both.0)
    ∙ ap (onto_first b) (split_first c front rest both.1)
  where
    not_true : (x : Bool) → not x ≡ true → x ≡ false
    not_true true e = absurd (false≢true e)
    not_true false e = refl

split_all : (rows : List (List ℕ)) → AllRows rows
    → slice_split (λ b. b == line_end) (text_of_lines rows) ≡ rows ++ [] ∷ []
split_all [] all = refl
split_all (row ∷ rows) all =
    ap (slice_split (λ b. b == line_end)) (append_assoc row (line_end ∷ []) (text_of_lines rows))
    ∙ split_first line_end row (text_of_lines rows) all.0.no_end
    ∙ ap (λ t. row ∷ t) (split_all rows all.1)

-- ---- rows of fields

join_more : (c : ℕ) (xs : List (List ℕ)) (x y : List ℕ) → join_with_byte c ((x ∷ xs) ++ y ∷ []) ≡ join_with_byte c (x ∷ xs) ++ (c ∷ y)
join_more c [] x y = refl
join_more c (z ∷ xs) x y = ap (λ t. x ++ (c ∷ t)) (join_more c xs z y) ∙ sym (append_assoc x (c ∷ join_with_byte c (z ∷ xs)) (c ∷ y))

one_more_safe : (lines : List (List ℕ)) (line : List ℕ) → AllSafe lines → IsSafeLine line → AllSafe (lines ++ line ∷ [])
one_more_safe [] line all safe = (safe, tt)
one_more_safe (first ∷ lines) line all safe = (all.0, one_more_safe lines line all.1 safe)

-- the fields before an index are written
pub record AreWrittenTo (old text : List ℕ) (fields : List (List ℕ)) : Type 0 where
  pub is : text ≡ old ++ row_of_fields fields
  pub safe : AllSafe fields

pub no_field : (old : List ℕ) → AreWrittenTo old old []
no_field old = record { is = sym (append-nil old); safe = tt }

-- a piece more of a list of pieces with a byte between each two
pub with_piece : (c : ℕ) (old text new : List ℕ) (front : List (List ℕ)) (i : ℕ) (piece : List ℕ) → length front ≡ i
    → text ≡ old ++ join_with_byte c front → new ≡ text ++ (if i == 0 then piece else c ∷ piece)
    → new ≡ old ++ join_with_byte c (front ++ piece ∷ [])
with_piece c old text new [] i piece len so_far after =
    after ∙ ap₂ (λ t n. t ++ (if n == 0 then piece else c ∷ piece)) (so_far ∙ append-nil old) (sym len)
with_piece c old text new (x ∷ front) i piece len so_far after =
    let no_first : (i == 0) ≡ false = ne_eqb i 0 (λ e. absurd (omega (arith, len, e))) in
    after ∙ ap₂ (λ t b. t ++ (if b then piece else c ∷ piece)) so_far no_first
    ∙ append_assoc old (join_with_byte c (x ∷ front)) (c ∷ piece)
    ∙ ap (λ t. old ++ t) (sym (join_more c front x piece))

pub next_field : (old text new : List ℕ) (fields : List (List ℕ)) (i : ℕ) (field : List ℕ) → i < length fields
    → AreWrittenTo old text (take i fields) → field ≡ get_or fields i field → IsSafeLine field
    → new ≡ text ++ (if i == 0 then field else tab_stop ∷ field) → AreWrittenTo old new (take (i + 1) fields)
next_field old text new fields i field lt so_far at safe after =
    let more : take (i + 1) fields ≡ take i fields ++ field ∷ [] = take_more fields i field lt ∙ ap (λ t. take i fields ++ t ∷ []) (sym at) in
    rw more (record {
      is = with_piece tab_stop old text new (take i fields) i field (length-take-le i fields (omega arith)) so_far.is after;
      safe = one_more_safe (take i fields) field so_far.safe safe;
    })

pub all_written : (old text : List ℕ) (fields : List (List ℕ)) (i : ℕ) → length fields ≤ i
    → AreWrittenTo old text (take i fields) → AreWrittenTo old text fields
all_written old text fields i le so_far = subst (AreWrittenTo old text) (take_all i fields le) so_far

tab_is_row : IsRow (tab_stop ∷ [])
unfolding chars encode_utf8
tab_is_row = record {
  utf8 = (tab_stop ∷ [], (refl, refl));
  characters = and_from _ _ (or_right (is_harmless tab_stop) _ refl) refl;
  bytes = refl;
  no_end = refl;
}

both_rows : (one two : List ℕ) → IsRow one → IsRow two → IsRow (one ++ two)
both_rows one two a b = let text = both_safe one two (row_is_safe one a) (row_is_safe two b) in record {
  utf8 = text.utf8;
  characters = text.characters;
  bytes = text.bytes;
  no_end = append_all (λ b. not (b == line_end)) one two a.no_end b.no_end;
}

pub fields_are_row : (fields : List (List ℕ)) → AllSafe fields → IsRow (row_of_fields fields)
fields_are_row [] all =
    record { utf8 = ([], (refl, refl)); characters = ap (list_all (is_safe Keep)) chars-nil; bytes = refl; no_end = refl }
fields_are_row (x ∷ []) all = line_is_row x all.0
fields_are_row (x ∷ y ∷ fields) all =
    both_rows x (tab_stop ∷ row_of_fields (y ∷ fields)) (line_is_row x all.0)
    (both_rows (tab_stop ∷ []) (row_of_fields (y ∷ fields)) tab_is_row (fields_are_row (y ∷ fields) all.1))

no_tab : (line : List ℕ) → IsSafeLine line → list_all (λ b. not (b == tab_stop)) line ≡ true
no_tab line safe = all_imply (is_safe_byte Show) (λ b. not (b == tab_stop)) (no_control tab_stop refl) line (bytes_of_line line safe)

split_none : (c : ℕ) (xs : List ℕ) → list_all (λ b. not (b == c)) xs ≡ true → slice_split (λ b. b == c) xs ≡ xs ∷ []
split_none c [] all = refl
split_none c (b ∷ xs) all =
    let both = and_parts (not (b == c)) (list_all (λ x. not (x == c)) xs) all in
    slice_split-cons_no (λ x. x == c) b xs (not_true (b == c) both.0) ∙ ap (onto_first b) (split_none c xs both.1)
  where
    not_true : (x : Bool) → not x ≡ true → x ≡ false
    not_true true e = absurd (false≢true e)
    not_true false e = refl

pub fields_split : (fields : List (List ℕ)) → AllSafe fields → 0 < length fields
    → slice_split (λ b. b == tab_stop) (row_of_fields fields) ≡ fields
fields_split [] all some = absurd (omega arith)
fields_split (x ∷ []) all some = split_none tab_stop x (no_tab x all.0)
fields_split (x ∷ y ∷ fields) all some =
    split_first tab_stop x (row_of_fields (y ∷ fields)) (no_tab x all.0)
    ∙ ap (λ t. x ∷ t) (fields_split (y ∷ fields) all.1 (omega arith))

-- ---- the text of all lines

pub text_is : (text : List ℕ) (lines : List (List ℕ)) (i : ℕ) → length lines ≤ i → IsTextOf text (take i lines) → IsTextOf text lines
text_is text lines i le whole = subst (IsTextOf text) (take_all i lines le) whole

pub text_characters : (text : List ℕ) (lines : List (List ℕ)) → IsTextOf text lines → list_all (is_safe Keep) (chars text) ≡ true
text_characters text lines whole = rw whole.is (all_is_safe lines whole.all).characters

pub text_bytes : (text : List ℕ) (lines : List (List ℕ)) → IsTextOf text lines → list_all (is_safe_byte Keep) text ≡ true
text_bytes text lines whole = rw whole.is (all_is_safe lines whole.all).bytes

pub text_lines : (text : List ℕ) (lines : List (List ℕ)) → IsTextOf text lines
    → slice_split (λ b. b == line_end) text ≡ lines ++ [] ∷ []
text_lines text lines whole = rw whole.is (split_all lines whole.all)
