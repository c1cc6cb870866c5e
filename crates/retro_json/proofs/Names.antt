-- Names as documents write them, and names of files.
use Rattle.std.proofs.Common.{◌≡◌, ◌∙◌, ℕ, ◌==◌, List, [], ◌∷◌, ◌++◌, Bool, true, false, cond, not, ◌&&◌}
use Rattle.std.proofs.Common.{◌||◌, length, nat_le}
use Rattle.std.proofs.Common.{Ok, Err, refl, sym, ap, arith, ap₂}
use Rattle.std.proofs.lemmas.Bool.{and_parts, and_from, false≢true, true≢false, le-leb, leb-true, ne_eqb}
use Rattle.std.specs.List.{list_all, list_any}
use Rattle.retro_tree.specs.Name.{is_name}
use Rattle.retro_tree.specs.Path.{is_root, slashed}
use Rattle.retro_json.specs.declared.fault.Part.{Part}
use Rattle.retro_json.specs.declared.fault.Refusal.TheVariants.{OverLimit, WrongShape}
use Rattle.retro_json.specs.Shape.{Text}
use Rattle.retro_json.specs.PathText.{is_written_name, is_short_name, path_of}
use Rattle.retro_json.specs.NoNul.{has_no_nul, have_no_nul}
use Rattle.retro_json.specs.Typed.{are_names}
use Rattle.retro_json.specs.Values.{path_text}
use Rattle.retro_json.specs.declared.reading.path.TheConstants.{NUL}

table : (some none dots slash nul fits : Bool) → some ≡ true → not none && not dots && not slash && not nul ≡ true
    → (some && (fits && (not slash && not dots))) ≡ fits
table some true dots slash nul fits one h = absurd (false≢true h)
table some false true slash nul fits one h = absurd (false≢true h)
table some false false true nul fits one h = absurd (false≢true h)
table some false false false nul true one h = rw one refl
table some false false false nul false one h = rw one refl

-- a written name is a file's name exactly if it is short
pub name_fits : (name : Text) → is_written_name name ≡ true → is_name name ≡ nat_le (length name) 255
unfolding is_written_name is_name
name_fits [] h = absurd (false≢true h)
name_fits (b ∷ bs) h = table (nat_le 1 (length (b ∷ bs))) _ _ _ _ _ (le-leb 1 (length (b ∷ bs)) (omega arith)) h

pub names_fit : (names : List Text) → list_all is_written_name names ≡ true
    → list_all is_name names ≡ list_all is_short_name names
names_fit [] h = refl
names_fit (name ∷ names) h =
    let both = and_parts (is_written_name name) (list_all is_written_name names) h in
    ap₂ (λ a b. a && b) (name_fits name both.0) (names_fit names both.1)

-- ---- names of files are written names

written_by : (none dots slash nul some fits : Bool) → none ≡ false
    → some && (fits && (not slash && not dots)) ≡ true → not nul ≡ true
    → not none && not dots && not slash && not nul ≡ true
written_by none dots slash nul some fits e h n =
    let a = and_parts some _ h in
    let b = and_parts fits _ a.1 in
    let c = and_parts (not slash) (not dots) b.1 in
    rw (e, c.1, c.0, n) refl

pub not_empty : (n : ℕ) → nat_le 1 n ≡ true → (n == 0) ≡ false
not_empty n h = let some = leb-true 1 n h in ne_eqb n 0 (λ e. omega arith)

pub written : (name : Text) → is_name name ≡ true → has_no_nul name ≡ true → is_written_name name ≡ true
unfolding is_name is_written_name
written name h n =
    let some = not_empty (length name) (and_parts (nat_le 1 (length name)) _ h).0 in
    written_by _ _ _ _ _ _ some h n

pub short : (name : Text) → is_name name ≡ true → is_short_name name ≡ true
unfolding is_name
short name h =
    (and_parts (nat_le (length name) 255) _ (and_parts (nat_le 1 (length name)) _ h).1).0

all_written : (names : List Text) → are_names names ≡ true → have_no_nul names ≡ true
    → list_all is_written_name names ≡ true
all_written [] h n = refl
all_written (name ∷ names) h n =
    let a = and_parts (is_name name) (list_all is_name names) h in
    let b = and_parts (has_no_nul name) (list_all has_no_nul names) n in
    and_from (is_written_name name) _ (written name a.0 b.0) (all_written names a.1 b.1)

all_short : (names : List Text) → are_names names ≡ true → list_all is_short_name names ≡ true
all_short [] h = refl
all_short (name ∷ names) h =
    let a = and_parts (is_name name) (list_all is_name names) h in
    and_from (is_short_name name) _ (short name a.0) (all_short names a.1)

-- ---- the path of names

last_off : (none dots slash nul : Bool) → not none && not dots && not slash && not nul ≡ true → not nul ≡ true
last_off none dots slash false h = refl
last_off true dots slash true h = absurd (false≢true h)
last_off false true slash true h = absurd (false≢true h)
last_off false false true true h = absurd (false≢true h)
last_off false false false true h = absurd (false≢true h)

plain : (name : Text) → is_written_name name ≡ true → has_no_nul name ≡ true
unfolding is_written_name
plain name h = last_off _ _ _ _ h

all_plain : (names : List Text) → list_all is_written_name names ≡ true → have_no_nul names ≡ true
all_plain [] h = refl
all_plain (name ∷ names) h =
    let both = and_parts (is_written_name name) (list_all is_written_name names) h in
    and_from (has_no_nul name) _ (plain name both.0) (all_plain names both.1)

pub path_named : (part : Part) (names : List Text) → list_all is_name names ≡ true → have_no_nul names ≡ true
    → path_of part names ≡ Ok names
unfolding path_of
path_named part names named free = rw (all_written names named free, all_short names named) refl

pub path_with_nul : (part : Part) (names : List Text) → have_no_nul names ≡ false
    → path_of part names ≡ Err (WrongShape part)
unfolding path_of
path_with_nul part names h = at_test (list_all is_written_name names) refl
  where
    at_test : (b : Bool) → list_all is_written_name names ≡ b → path_of part names ≡ Err (WrongShape part)
    at_test true e = absurd (false≢true (sym h ∙ all_plain names e))
    at_test false e = rw e refl

-- names of which one isn't a file's
pub path_unnamed : (part : Part) (names : List Text) → list_all is_name names ≡ false
    → path_of part names ≡ Err (cond (list_all is_written_name names) OverLimit (WrongShape part))
unfolding path_of
path_unnamed part names h = at_test (list_all is_written_name names) refl
  where
    at_test : (b : Bool) → list_all is_written_name names ≡ b
        → path_of part names ≡ Err (cond (list_all is_written_name names) OverLimit (WrongShape part))
    at_test true e = rw (e, sym (names_fit names e) ∙ h) refl
    at_test false e = rw e refl

-- ---- the text of a path
any_append : (test : ℕ → Bool) (xs ys : List ℕ) → list_any test (xs ++ ys) ≡ (list_any test xs || list_any test ys)
any_append test [] ys = refl
any_append test (x ∷ xs) ys = ap (λ b. test x || b) (any_append test xs ys) ∙ regroup (test x) _ _
  where
    regroup : (a b c : Bool) → (a || (b || c)) ≡ ((a || b) || c)
    regroup true b c = refl
    regroup false b c = refl

-- a NUL in the text of a path is one in a name
pub nul_in : (p : List Text) → not (list_any (λ b. b == NUL) (slashed p)) ≡ have_no_nul p
nul_in [] = refl
nul_in (n ∷ p) = ap not (any_append (λ b. b == NUL) n (slashed p))
    ∙ turned (list_any (λ b. b == NUL) n) (list_any (λ b. b == NUL) (slashed p))
    ∙ ap (λ b. has_no_nul n && b) (nul_in p)
  where
    turned : (a b : Bool) → not (a || b) ≡ (not a && not b)
    turned true b = refl
    turned false b = refl

-- the text of a path that isn't the root
pub as_written : (p : List Text) → is_root p ≡ false → slashed p ≡ path_text p
as_written [] e = absurd (true≢false e)
as_written (n ∷ p) e = refl

pub ruleset written_text = (as_written)
