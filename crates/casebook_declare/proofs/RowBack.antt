-- Rows, printed and read.
use Rattle.std.proofs.Common.{◌≡◌, ◌∙◌, ℕ, suc, ◌+◌, ◌<◌, Bool, true, false, not, refl, sym}
use Rattle.std.proofs.Common.{ap, List, [], ◌∷◌, ◌++◌, length, drop}
use Rattle.std.proofs.Common.{Some, eq-eqb, lt-ltb, arith, length-append, add-one}
use Rattle.std.proofs.Common.{⊎_elim}
use Rattle.std.specs.Prelude.{◌==◌, codes}
use Rattle.std.specs.List.{list_all, position_or_len}
use Rattle.std.proofs.Math.Seq.{take-append_seam}
use Rattle.std.proofs.lemmas.Bool.{and_parts, cases_Bool, eqb-true, not-true, false≢true}
use Rattle.retro_path.specs.VarName.{continues_name, is_shell_name, starts_name}
use Rattle.casebook_declare.specs.Printed.{IsShellVariable, ShellVariable, flags_text, row_text}
use Rattle.casebook_declare.specs.Printed.{said_of, value_text}
use Rattle.casebook_declare.specs.Parts.{after, cut_at}
use Rattle.casebook_declare.specs.Rows.{flagged_row, row_of}
use Rattle.casebook_declare.specs.declared.row.Row.TheVariants.{Says}
use Rattle.casebook_declare.proofs.FlagsBack.{attributes_again, flags_without}
use Rattle.casebook_declare.proofs.Values.{value_again}

-- a byte that isn't this one
abbrev pub is_other : ℕ → ℕ → Bool
is_other byte b = not (b == byte)

first_place : (byte : ℕ) (front rest : List ℕ) → list_all (is_other byte) front ≡ true
    → position_or_len (λ b. b == byte) (front ++ byte ∷ rest) ≡ length front
first_place byte [] rest h = rw (eq-eqb byte byte refl) refl
first_place byte (b ∷ front) rest h =
    let k = and_parts (is_other byte b) (list_all (is_other byte) front) h in
    rw (not-true (b == byte) k.0) (ap (λ n. 1 + n) (first_place byte front rest k.1) ∙ omega arith)

drop_front : (byte : ℕ) (front rest : List ℕ)
    → drop (suc (length front)) (front ++ byte ∷ rest) ≡ rest
drop_front byte [] rest = refl
drop_front byte (b ∷ front) rest = drop_front byte front rest

pub cut_again : (byte : ℕ) (front rest : List ℕ) → list_all (is_other byte) front ≡ true
    → cut_at byte (front ++ byte ∷ rest) ≡ Some (front, rest)
unfolding cut_at
cut_again byte front rest h =
    let within : length front < length (front ++ byte ∷ rest) = omega
    (arith, length-append front (byte ∷ rest)) in
    rw (
      first_place byte front rest h,
      lt-ltb (length front) (length (front ++ byte ∷ rest)) within,
      take-append_seam front (byte ∷ rest),
      add-one (length front),
      drop_front byte front rest,
    ) refl

-- ---- names

-- a byte that passes a test isn't one that fails it
other_byte : (test : ℕ → Bool) (byte b : ℕ) → test byte ≡ false → test b ≡ true
    → is_other byte b ≡ true
other_byte test byte b fails passes =
    ⊎_elim
    (λ (same : (b == byte) ≡ true).
    absurd (false≢true (sym fails ∙ ap test (sym (eqb-true b byte same)) ∙ passes)))
    (λ (other : (b == byte) ≡ false). rw other refl)
    (cases_Bool (b == byte))

continues_without : (byte : ℕ) (bs : List ℕ) → continues_name byte ≡ false
    → list_all continues_name bs ≡ true
    → list_all (is_other byte) bs ≡ true
continues_without byte [] odd h = refl
continues_without byte (b ∷ bs) odd h =
    let k = and_parts (continues_name b) (list_all continues_name bs) h in
    rw (other_byte continues_name byte b odd k.0) (continues_without byte bs odd k.1)

pub name_without : (byte : ℕ) (name : List ℕ) → starts_name byte ≡ false
    → continues_name byte ≡ false
    → is_shell_name name ≡ true → list_all (is_other byte) name ≡ true
unfolding is_shell_name
name_without byte [] odd_first odd h = refl
name_without byte (b ∷ bs) odd_first odd h =
    let k = and_parts (starts_name b) (list_all continues_name bs) h in
    rw (other_byte starts_name byte b odd_first k.0) (continues_without byte bs odd k.1)

-- ---- rows

after_flags : (v : ShellVariable) → IsShellVariable v
    → flagged_row (flags_text v.is_set, v.name ++ 61 ∷ value_text v.is_shown v.value)
    ≡ Some (Says (said_of v))
unfolding flagged_row
after_flags v h =
    rw (
      attributes_again v.is_set,
      cut_again 61 v.name (value_text v.is_shown v.value) (name_without 61 v.name refl refl h.name),
      h.name,
      value_again v.is_shown v.value h.value,
    ) refl

after_start : (v : ShellVariable)
    → after (codes "declare -") (row_text v)
    ≡ Some (flags_text v.is_set ++ 32 ∷ (v.name ++ 61 ∷ value_text v.is_shown v.value))
unfolding after row_text
after_start v = refl

pub row_again : (v : ShellVariable) → IsShellVariable v
    → row_of (row_text v) ≡ Some (Says (said_of v))
unfolding row_of
row_again v h =
    rw (
      after_start v,
      cut_again 32 (flags_text v.is_set) (v.name ++ 61 ∷ value_text v.is_shown v.value)
          (flags_without (is_other 32) v.is_set refl refl),
      after_flags v h,
    ) refl
