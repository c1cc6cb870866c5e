-- Bytes of values, printed and read.
use Rattle.std.proofs.Common.{◌≡◌, ◌≢◌, ◌⊎◌, inl, inr, ℕ, ◌+◌, ◌-◌, ◌*◌, ◌/◌, ◌%◌, ◌<◌}
use Rattle.std.proofs.Common.{arith, Bool, true, false, not, refl, List, ◌∷◌, ◌++◌}
use Rattle.std.proofs.Common.{Some, None, option_map, ⊎_elim}
use Rattle.std.specs.Prelude.{◌==◌, ◌||◌, ◌&&◌, nat_le, nat_lt}
use Rattle.std.proofs.lemmas.Bool.{cases_Bool, eqb-true, eqb-false, lt-ltb, or_parts}
use Rattle.std.proofs.lemmas.Bool.Decides.{nat_tests}
use Rattle.casebook_declare.specs.Quoted.{Said, said_from}
use Rattle.casebook_declare.specs.Units.{byte_of_letter, has_letter, has_octal, is_plain}
use Rattle.casebook_declare.specs.Units.{is_special, octal, unit_of}
use Rattle.casebook_declare.specs.Printed.{ansi_text, code_text, double_text, is_printed}
use Rattle.casebook_declare.specs.declared.quoting.Quoting.TheVariants.{Ansi, Double}
use Rattle.casebook_declare.proofs.Passed.{differs}

-- what is said with one byte more at its front
abbrev pub with_byte : ℕ → Bool → Said → Said
with_byte b code said = record {
  value = b ∷ said.value;
  has_code = code || said.has_code;
  rest = said.rest;
}

plain_from_printed : (shown : Bool) (b : ℕ) → is_printed shown b ≡ true → is_plain b ≡ true
plain_from_printed shown b h = grind (arith, nat_tests)

special_again : (b : ℕ) (text : List ℕ) → is_special b ≡ true
    → said_from Double 0 (92 ∷ b ∷ text) ≡ option_map (with_byte b false) (said_from Double 0 text)
unfolding said_from unit_of
special_again b text special = rw special refl

usual_again : (b : ℕ) (text : List ℕ) → is_special b ≡ false → is_plain b ≡ true
    → said_from Double 0 (b ∷ text) ≡ option_map (with_byte b false) (said_from Double 0 text)
unfolding said_from unit_of
usual_again b text usual plain =
    let last = or_parts (b == 34 || b == 36 || b == 92) (b == 96) usual in
    let slash = or_parts (b == 34 || b == 36) (b == 92) last.0 in
    let first = or_parts (b == 34) (b == 36) slash.0 in
    rw (first.0, slash.1, first.1, last.1, plain) refl

pub double_again : (shown : Bool) (b : ℕ) (text : List ℕ) → is_printed shown b ≡ true
    → said_from Double 0 (double_text b ++ text)
    ≡ option_map (with_byte b false) (said_from Double 0 text)
double_again shown b text printed =
    ⊎_elim
    (λ special. rw special (special_again b text special))
    (λ usual. rw usual (usual_again b text usual (plain_from_printed shown b printed)))
    (cases_Bool (is_special b))

-- ---- between `$'` and `'`

-- whether two numbers are the same
abbrev pub Apart : ℕ → ℕ → Type 0
Apart a b = (a ≡ b) ⊎ ((a == b) ≡ false)

apart : (a b : ℕ) → Apart a b
apart a b = ⊎_elim (λ same. inl (eqb-true a b same)) (λ other. inr other) (cases_Bool (a == b))

shown_again : (shown : Bool) (b : ℕ) (text : List ℕ) → (b == 92) ≡ false → (b == 39) ≡ false
    → is_printed shown b ≡ true
    → said_from Ansi 0 (b ∷ text) ≡ option_map (with_byte b false) (said_from Ansi 0 text)
unfolding said_from unit_of
shown_again shown b text slash quote printed =
    rw (quote, slash, plain_from_printed shown b printed) refl

no_letter : (c : ℕ) → c < 56 → byte_of_letter c ≡ None
unfolding byte_of_letter
no_letter c small =
    rw (
      differs c 97 (omega arith),
      differs c 98 (omega arith),
      differs c 116 (omega arith),
      differs c 110 (omega arith),
      differs c 118 (omega arith),
      differs c 102 (omega arith),
      differs c 114 (omega arith),
      differs c 69 (omega arith),
    ) refl

abbrev digits : ℕ → List ℕ → List ℕ
digits b text = (48 + b / 64) ∷ (48 + b % 64 / 8) ∷ (48 + b % 8) ∷ text

is_digit : (d : ℕ) → d < 8 → (nat_le 48 (48 + d) && nat_lt (48 + d) 56) ≡ true
is_digit d small = grind (arith, nat_tests)

octal_value : (b : ℕ) → 64 * (48 + b / 64 - 48) + 8 * (48 + b % 64 / 8 - 48) + (48 + b % 8 - 48) ≡ b
octal_value b = omega arith

octal_again : (b : ℕ) (text : List ℕ) → b < 256 → has_octal b ≡ true
    → octal (digits b text) ≡ Some b
unfolding octal
octal_again b text small coded =
    rw (
      is_digit (b / 64) (omega arith),
      is_digit (b % 64 / 8) (omega arith),
      is_digit (b % 8) (omega arith),
      octal_value b,
      lt-ltb b 256 small,
      coded,
    ) refl

digits_again : (b : ℕ) (text : List ℕ) → b < 256 → has_octal b ≡ true
    → said_from Ansi 0 (92 ∷ digits b text) ≡ option_map (with_byte b true) (said_from Ansi 0 text)
unfolding said_from unit_of
digits_again b text small coded =
    rw (
      differs (48 + b / 64) 92 (omega arith),
      differs (48 + b / 64) 39 (omega arith),
      no_letter (48 + b / 64) (omega arith),
      octal_again b text small coded,
    ) refl

coded_byte : (shown : Bool) (b : ℕ) → 0 < b → b ≢ 7 → b ≢ 8 → b ≢ 9 → b ≢ 10 → b ≢ 11 → b ≢ 12
    → b ≢ 13 → b ≢ 27
    → is_printed shown b ≡ false → has_octal b ≡ true
unfolding has_octal has_letter
coded_byte shown b some n7 n8 n9 n10 n11 n12 n13 n27 hidden = grind (arith, nat_tests)

-- a byte that has an escape, by its letter
abbrev IsAgain : Bool → ℕ → List ℕ → Type 0
IsAgain shown b text =
    said_from Ansi 0 (code_text b ++ text) ≡ option_map (with_byte b true) (said_from Ansi 0 text)

code_again : (shown : Bool) (b : ℕ) (text : List ℕ) → 0 < b → b < 256 → is_printed shown b ≡ false
    → IsAgain shown b text
unfolding said_from unit_of byte_of_letter
code_again shown b text some small hidden =
    ⊎_elim (λ e. rw e refl) (λ n7.
    ⊎_elim (λ e. rw e refl) (λ n8.
    ⊎_elim (λ e. rw e refl) (λ n9.
    ⊎_elim (λ e. rw e refl) (λ n10.
    ⊎_elim (λ e. rw e refl) (λ n11.
    ⊎_elim (λ e. rw e refl) (λ n12.
    ⊎_elim (λ e. rw e refl) (λ n13.
    ⊎_elim (λ e. rw e refl) (λ n27.
    let octal : has_octal b ≡ true = coded_byte shown b some (eqb-false b 7 n7) (eqb-false b 8 n8)
    (eqb-false b 9 n9)
    (eqb-false b 10 n10) (eqb-false b 11 n11) (eqb-false b 12 n12) (eqb-false b 13 n13)
    (eqb-false b 27 n27) hidden in
    rw (n7, n8, n9, n10, n11, n12, n13, n27) (digits_again b text small octal))
    (apart b 27)) (apart b 13)) (apart b 12)) (apart b 11)) (apart b 10)) (apart b 9))
    (apart b 8)) (apart b 7)

pub ansi_again : (shown : Bool) (b : ℕ) (text : List ℕ) → 0 < b → b < 256
    → said_from Ansi 0 (ansi_text shown b ++ text)
    ≡ option_map (with_byte b (not (is_printed shown b))) (said_from Ansi 0 text)
unfolding said_from unit_of
ansi_again shown b text some small =
    ⊎_elim (λ (e : b ≡ 92). rw e refl) (λ (slash : (b == 92) ≡ false).
    ⊎_elim (λ (e : b ≡ 39). rw e refl) (λ (quote : (b == 39) ≡ false).
    ⊎_elim (λ (printed : is_printed shown b ≡ true). rw (slash, quote, printed)
    (shown_again shown b text slash quote printed))
    (λ (hidden : is_printed shown b ≡ false). rw (slash, quote, hidden)
    (code_again shown b text some small hidden))
    (cases_Bool (is_printed shown b))) (apart b 39)) (apart b 92)
