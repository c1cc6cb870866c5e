-- Lines, by the first newline.
use Rattle.std.proofs.Common.{◌≡◌, ℕ, zero, suc, ◌+◌, ◌-◌, ◌<◌, ◌≤◌, Bool, true, false, not, cond}
use Rattle.std.proofs.Common.{nat_eq}
use Rattle.std.proofs.Common.{List, [], ◌∷◌, ◌++◌, length, take, drop, get_or, Some, None, refl}
use Rattle.std.proofs.Common.{sym, ap, ◌∙◌, arith}
use Rattle.std.specs.List.{position, position_or_len}
use Rattle.std.proofs.lemmas.Bool.{ltb-false}
use Rattle.std.proofs.lemmas.List.{take_rest}
use Rattle.std.proofs.lemmas.List.Quantifiers.{position-Some}
use Rattle.std.proofs.Common.{append_assoc, subst}
use Rattle.std.proofs.Math.Seq.{drop-append_seam}
use Rattle.std.proofs.lemmas.List.{append-nil, map-append}
use Rattle.std.proofs.lemmas.List.Elements.{All-drop, All-head, All-nil, All-push}
use Rattle.std.specs.Prelude.{IsUtf8}
use Rattle.std.specs.List.{All, list_any}
use Rattle.std.specs.Borrow.{Bor}
use Rattle.casebook_patch.specs.Lines.{IsText, grown, lines_of}
use Rattle.casebook_patch.specs.inner.Reading.{AreRead, texts_of}

-- ---- a first line with a newline

ended_at : (text : List ℕ) (k : ℕ) → k < length text → nat_eq (get_or text k 0) 10 ≡ true
    → ((j : ℕ) → j < k → nat_eq (get_or text j 0) 10 ≡ false)
    → lines_of text ≡ take (k + 1) text ∷ lines_of (drop (k + 1) text)
ended_at [] k lt here before = absurd (omega (arith, lt))
ended_at (b ∷ text) zero lt here before = let newline : nat_eq b 10 ≡ true = here in rw newline refl
ended_at (b ∷ text) (suc k) lt here before =
    let other : nat_eq b 10 ≡ false = before 0 (omega arith) in
    let place : suc k + 1 ≡ suc (k + 1) = omega arith in
    rw (other, place)
    (ap (grown b) (ended_at text k (omega (arith, lt)) here (λ j less. before (suc j) (omega (arith, less)))))

-- as the code slices the text
pub first_ended : (text : List ℕ) (k : ℕ) → Some k ≡ position (λ b. nat_eq b 10) text
    → lines_of text ≡ take (k + 1) text ∷ lines_of (take (length text - (k + 1)) (drop (k + 1) text))
first_ended text k found =
    let at = position-Some (λ b. nat_eq b 10) text k 0 (sym found) in
    ended_at text k at.0 at.1 at.2
    ∙ ap (λ rest. take (k + 1) text ∷ lines_of rest) (sym (take_rest text (k + 1)))

-- ---- a text without a newline

not_first : (t : Bool) (n m : ℕ) → suc n ≤ cond (not t) (1 + m) 0 → (t ≡ false) × (n ≤ m)
not_first true n m long = absurd (omega (arith, long))
not_first false n m long = (refl, omega (arith, long))

all_kept : (b : ℕ) (text : List ℕ) → length (b ∷ text) ≤ position_or_len (λ x. nat_eq x 10) (b ∷ text)
    → lines_of (b ∷ text) ≡ (b ∷ text) ∷ []
all_kept b [] long =
    let both = not_first (nat_eq b 10) 0 0 long in
    rw both.0 refl
all_kept b (c ∷ text) long =
    let both = not_first (nat_eq b 10) (length (c ∷ text)) (position_or_len (λ x. nat_eq x 10) (c ∷ text)) long in
    rw both.0 (ap (grown b) (all_kept c text both.1))

no_place : (t : Bool) (n : ℕ) → None ≡ cond t (Some n) None → t ≡ false
no_place true n e = absurd (cc)
no_place false n e = refl

pub first_open : (text : List ℕ) → 0 < length text → None ≡ position (λ b. nat_eq b 10) text
    → lines_of text ≡ text ∷ []
first_open [] some none = absurd (omega (arith, some))
first_open (b ∷ text) some none =
    let test = no_place _ _ none in
    all_kept b text (ltb-false (position_or_len (λ x. nat_eq x 10) (b ∷ text)) (length (b ∷ text)) test)

-- ---- lines that are read one by one

pub not_text : (bytes rest line more : List ℕ) (lines : List (List ℕ)) → AreRead bytes rest lines
    → lines_of rest ≡ line ∷ lines_of more → ¬ (IsUtf8 line) → ¬ (IsText bytes)
not_text bytes rest line more lines read first other text =
    let whole : lines ++ (line ∷ lines_of more) ≡ lines_of bytes = ap (λ ls. lines ++ ls) (sym first) ∙ read.read in
    let from_here : All IsUtf8 (drop (length lines) (lines ++ (line ∷ lines_of more))) =
    All-drop IsUtf8 (length lines) (lines ++ (line ∷ lines_of more)) (subst (All IsUtf8) (sym whole) text.utf8) in
    other (All-head IsUtf8 line (lines_of more) (subst (All IsUtf8) (drop-append_seam lines (line ∷ lines_of more)) from_here))

pub one_more_read : (bytes rest more : List ℕ) (old new : List (Bor (List ℕ))) (text : Bor (List ℕ))
    → AreRead bytes rest (texts_of old) → lines_of rest ≡ text.now ∷ lines_of more → new ≡ old ++ text ∷ [] → IsUtf8 text.now
    → AreRead bytes more (texts_of new)
one_more_read bytes rest more old new text read first push utf8 =
    let texts : texts_of new ≡ texts_of old ++ text.now ∷ [] = ap texts_of push ∙ map-append (λ (x : Bor (List ℕ)). x.now) old (text ∷ []) in
    record {
      no_nul = read.no_nul;
      read = ap (λ ls. ls ++ lines_of more) texts ∙ append_assoc (texts_of old) (text.now ∷ []) (lines_of more)
          ∙ (ap (λ ls. texts_of old ++ ls) (sym first) ∙ read.read);
      utf8 = subst (All IsUtf8) (sym texts) (All-push IsUtf8 (texts_of old) text.now read.utf8 utf8);
    }

pub all_read : (bytes rest : List ℕ) (lines : List (List ℕ)) → length rest ≡ 0 → AreRead bytes rest lines
    → IsText bytes × (lines ≡ lines_of bytes)
all_read bytes [] lines none read =
    let same : lines ≡ lines_of bytes = sym (append-nil lines) ∙ read.read in
    (record { no_nul = read.no_nul; utf8 = subst (All IsUtf8) same read.utf8 }, same)
all_read bytes (b ∷ rest) lines none read = absurd (omega (arith, none))

pub nothing_read : (bytes : List ℕ) → list_any (λ b. nat_eq b 0) bytes ≡ false → AreRead bytes bytes []
nothing_read bytes none = record { no_nul = none; read = refl; utf8 = All-nil IsUtf8 }
