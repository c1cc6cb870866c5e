-- The lines of a table have numbers from 1 on, and sessions that exist.
use Rattle.std.proofs.Common.{◌≡◌, ◌∙◌, ℕ, ◌+◌, ◌^◌, Bool, true, List, [], ◌∷◌, ◌++◌, length, map}
use Rattle.std.proofs.Common.{Ok, nat_lt, refl, sym, ap, ap₂, arith, subst, length-append}
use Rattle.std.specs.Prelude.{IfOk, suc, zero}
use Rattle.std.specs.List.{list_all}
use Rattle.std.specs.FinMap.{contains_key}
use Rattle.std.proofs.lemmas.Bool.{and_from, and_parts, lt-ltb}
use Rattle.std.proofs.lemmas.List.{map_push}
use Rattle.retro_keep.specs.Script.{number_of as number_in, rises_from, sid_of}
use Rattle.retro_keep.specs.declared.script.ScriptLine.{ScriptLine}
use Rattle.casebook_script.specs.Cells.{cells_of, number_of}
use Rattle.casebook_script.specs.Lines.{line_of, line_of_cells, line_step, lines_in}
use Rattle.casebook_script.specs.Rows.{at_row, rows_in}
use Rattle.casebook_script.specs.Sessions.{SessionsValue}
use Rattle.casebook_script.specs.Steps.{◌>>=◌, guard, in_turn}
use Rattle.casebook_script.specs.declared.fault.RowFault.TheVariants.{Number, TooManyLines, UnknownSession}
use Rattle.casebook_script.specs.declared.fault.Table.TheVariants as tables
use Rattle.casebook_script.proofs.Kept.{guard_holds, row_holds, some_holds, then_holds, turns_hold}

-- so many numbers, from one on
abbrev count_from : ℕ → ℕ → List ℕ
count_from n zero = []
count_from n (suc k) = n ∷ count_from (n + 1) k

count_rises : (n k : ℕ) → rises_from n (count_from (n + 1) k) ≡ true
count_rises n zero = refl
count_rises n (suc k) = and_from (nat_lt n (n + 1)) _ (lt-ltb n (n + 1) (omega arith)) (count_rises (n + 1) k)

count_more : (n k : ℕ) → count_from n (k + 1) ≡ count_from n k ++ (n + k) ∷ []
count_more n zero = let same : n ≡ n + 0 = omega arith in ap (λ m. m ∷ []) same
count_more n (suc k) =
    let more : suc k + 1 ≡ suc (k + 1) = omega arith in
    let last : n + 1 + k ≡ n + suc k = omega arith in
    ap (count_from n) more
    ∙ ap (λ ns. n ∷ ns) (count_more (n + 1) k)
    ∙ ap (λ m. n ∷ (count_from (n + 1) k ++ m ∷ [])) last

all_append : {X : Type 0} (p : X → Bool) (xs : List X) (y : X) → list_all p xs ≡ true → p y ≡ true
    → list_all p (xs ++ y ∷ []) ≡ true
all_append p [] y h one = and_from (p y) _ one refl
all_append p (x ∷ xs) y h one =
    let parts = and_parts (p x) (list_all p xs) h in
    and_from (p x) _ parts.0 (all_append p xs y parts.1 one)

module _ (sessions : SessionsValue) where
  abbrev IsLine : ℕ → ScriptLine → Type 0
  IsLine number line = (line.number ≡ number) × (contains_key sessions line.sid ≡ true)

  pub record AreNumbered (lines : List ScriptLine) : Type 0 where
    pub numbers : map number_in lines ≡ count_from 1 (length lines)
    pub known : list_all (contains_key sessions) (map sid_of lines) ≡ true

  pub numbered_rise : (lines : List ScriptLine) → AreNumbered lines → rises_from 0 (map number_in lines) ≡ true
  numbered_rise lines h = ap (rises_from 0) h.numbers ∙ count_rises 0 (length lines)

  cells_line : (number : ℕ) (cells : List (List ℕ)) → IfOk (line_of_cells sessions number cells) (IsLine number)
  cells_line number [] = tt
  cells_line number (a ∷ []) = tt
  cells_line number (a ∷ b ∷ c ∷ rest) = tt
  cells_line number (session ∷ text ∷ []) =
      some_holds (IsLine number) (number_of session) Number
      (λ sid. guard (contains_key sessions sid) UnknownSession >>= λ u. guard (nat_lt number (2 ^ 32)) TooManyLines
      >>= λ u. Ok (record { number = number; sid = sid; text = text }))
      (λ sid is. guard_holds (IsLine number) (contains_key sessions sid) UnknownSession
      (guard (nat_lt number (2 ^ 32)) TooManyLines >>= λ u. Ok (record { number = number; sid = sid; text = text }))
      (λ known. guard_holds (IsLine number) (nat_lt number (2 ^ 32)) TooManyLines
      (Ok (record { number = number; sid = sid; text = text })) (λ counted. (refl, known))))

  row_line : (number : ℕ) (row : List ℕ) → IfOk (line_of sessions number row) (IsLine number)
  unfolding line_of
  row_line number row =
      then_holds (IsLine number) (cells_of row) (line_of_cells sessions number) (λ cells is. cells_line number cells)

  one_more : (lines : List ScriptLine) (line : ScriptLine) → AreNumbered lines → IsLine (length lines + 1) line
      → AreNumbered (lines ++ line ∷ [])
  one_more lines line all one = record {
    numbers =
        map_push number_in lines line
        ∙ ap₂ (λ ns n. ns ++ n ∷ []) all.numbers (one.0 ∙ omega arith)
        ∙ sym (count_more 1 (length lines))
        ∙ ap (count_from 1) (sym (length-append lines (line ∷ [])));
    known =
        ap (list_all (contains_key sessions)) (map_push sid_of lines line)
        ∙ all_append (contains_key sessions) (map sid_of lines) line.sid all.known one.1;
  }

  more_numbered : (lines : List ScriptLine) (row : ℕ × List ℕ) → AreNumbered lines
      → IfOk (line_step sessions lines row) AreNumbered
  more_numbered lines row all =
      let number = length lines + 1 in
      then_holds AreNumbered (at_row tables.Lines row.0 (line_of sessions number row.1)) (λ line. Ok (lines ++ line ∷ []))
      (λ line is. one_more lines line all
      (subst (λ r. IfOk r (IsLine number)) is
      (row_holds (IsLine number) tables.Lines row.0 (line_of sessions number row.1) (row_line number row.1))))

  pub table_numbered : (bytes : List ℕ) → IfOk (lines_in sessions bytes) AreNumbered
  unfolding lines_in
  table_numbered bytes =
      then_holds AreNumbered (rows_in tables.Lines bytes) (λ rows. in_turn (line_step sessions) [] rows)
      (λ rows is. turns_hold AreNumbered (line_step sessions) more_numbered [] rows
      (record { numbers = refl; known = refl }))
