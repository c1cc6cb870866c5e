-- The sessions of a table are within the limits, and their directories pass the test that each path
-- of a text passes.
use Rattle.std.proofs.Common.{◌≡◌, ◌∙◌, ℕ, Bool, true, false, cond, not, List, [], ◌∷◌, Some, Ok}
use Rattle.std.proofs.Common.{length, nat_le, refl, sym, subst}
use Rattle.std.specs.Prelude.{IfOk, ok_or}
use Rattle.std.specs.List.{list_all}
use Rattle.std.specs.Cmp.{IsTotalOrder, nat_cmp_total}
use Rattle.std.specs.Ordering.{eq_by_cmp}
use Rattle.std.specs.declared.cmp.Ordering.{Ordering}
use Rattle.std.specs.FinMap.{FinMap, IsAntisymmetric, contains_key, empty, entries, get, get-empty, get-insert, insert}
use Rattle.std.specs.FinMap.{nat_cmp-IsAntisymmetric}
use Rattle.retro_tree.specs.Limits.{session_fits, values_fit}
use Rattle.retro_tree.specs.Order.{text_exact, text_total}
use Rattle.retro_tree.specs.Session.{value_limit}
use Rattle.retro_tree.specs.VarName.{is_var_name}
use Rattle.retro_tree.specs.declared.session.Session.{Session}
use Rattle.retro_tree.proofs.Entries.{all_tested, tested}
use Rattle.retro_tree.proofs.Small.{none_some, some_same, tied}
use Rattle.casebook_script.specs.Ascii.{equals}
use Rattle.casebook_script.specs.Cells.{cells_of, cut_at, number_of}
use Rattle.casebook_script.specs.Paths.{path_of_text}
use Rattle.casebook_script.specs.Rows.{rows_in}
use Rattle.casebook_script.specs.Sessions.{SessionsValue, Vars, session_of, session_of_cells, session_step, session_with}
use Rattle.casebook_script.specs.Sessions.{sessions_in, var_of, with_session, with_var}
use Rattle.casebook_script.specs.Steps.{◌>>=◌, guard, in_turn}
use Rattle.casebook_script.specs.declared.fault.RowFault.TheVariants.{Directory, Number, SessionTwice, TooLong}
use Rattle.casebook_script.specs.declared.fault.RowFault.TheVariants.{Variable, VariableTwice}
use Rattle.casebook_script.specs.declared.fault.Table.TheVariants as tables
use Rattle.casebook_script.proofs.Kept.{guard_holds, row_holds, some_holds, then_holds, turns_hold}

-- ---- tests of the entries of maps

module _ {K X : Type 0} {R : K → K → Ordering} (total : IsTotalOrder R) (exact : IsAntisymmetric R) where
  none_fails : (test : K × X → Bool) → list_all test (entries (empty {R = R})) ≡ true
  none_fails test = all_tested total exact test empty (λ k x is. absurd (none_some x (sym (get-empty R k) ∙ is)))

  one_more_passes : (test : K × X → Bool) (m : FinMap R X) (k : K) (x : X) → list_all test (entries m) ≡ true
      → test (k, x) ≡ true → list_all test (entries (insert m k x)) ≡ true
  one_more_passes test m k x all one =
      all_tested total exact test (insert m k x) (λ q y is. at_key q y (eq_by_cmp R q k) refl (sym (get-insert total m k x q) ∙ is))
    where
      at_key : (q : K) (y : X) (b : Bool) → eq_by_cmp R q k ≡ b → cond b (Some x) (get m q) ≡ Some y → test (q, y) ≡ true
      at_key q y true t is = (λ i. test (exact q k (tied _ t) i, sym (some_same x y is) i)) ∙ one
      at_key q y false t is = tested total exact test m all q y is

-- ---- variables

abbrev var_fits : List ℕ × List ℕ → Bool
var_fits e = nat_le (length e.1) value_limit

abbrev Fit : Vars → Type 0
Fit vars = list_all var_fits (entries vars) ≡ true

var_read_fits : (cell : List ℕ) → IfOk (var_of cell) (λ v. var_fits v ≡ true)
unfolding var_of
var_read_fits cell =
    some_holds (λ v. var_fits v ≡ true) (cut_at equals cell) Variable
    (λ cut. guard (is_var_name cut.0) Variable >>= λ u. guard (nat_le (length cut.1) value_limit) TooLong
    >>= λ u. Ok (cut.0, cut.1))
    (λ cut is. guard_holds (λ v. var_fits v ≡ true) (is_var_name cut.0) Variable
    (guard (nat_le (length cut.1) value_limit) TooLong >>= λ u. Ok (cut.0, cut.1))
    (λ named. guard_holds (λ v. var_fits v ≡ true) (nat_le (length cut.1) value_limit) TooLong (Ok (cut.0, cut.1)) (λ fits. fits)))

more_vars_fit : (vars : Vars) (cell : List ℕ) → Fit vars → IfOk (with_var vars cell) Fit
more_vars_fit vars cell fit =
    then_holds Fit (var_of cell)
    (λ v. guard (not (contains_key vars v.0)) VariableTwice >>= λ u. Ok (insert vars v.0 v.1))
    (λ v is. guard_holds Fit (not (contains_key vars v.0)) VariableTwice (Ok (insert vars v.0 v.1))
    (λ new. one_more_passes text_total text_exact var_fits vars v.0 v.1 fit
    (subst (λ r. IfOk r (λ w. var_fits w ≡ true)) is (var_read_fits cell))))

-- ---- sessions

module _ (test : List (List ℕ) → Bool) (each_path : (text : List ℕ) (cwd : List (List ℕ)) → path_of_text text ≡ Some cwd
    → test cwd ≡ true) where
  abbrev Sound : ℕ × Session → Type 0
  Sound e = (session_fits e ≡ true) × (test e.1.cwd ≡ true)

  abbrev pub AreSound : SessionsValue → Type 0
  AreSound sessions =
      (list_all session_fits (entries sessions) ≡ true) × (list_all (λ e. test e.1.cwd) (entries sessions) ≡ true)

  cells_sound : (cells : List (List ℕ)) → IfOk (session_of_cells cells) Sound
  unfolding values_fit
  cells_sound [] = tt
  cells_sound (number ∷ []) = tt
  cells_sound (number ∷ directory ∷ cells) =
      some_holds Sound (number_of number) Number
      (λ sid. ok_or (path_of_text directory) Directory >>= λ cwd. in_turn with_var empty cells
      >>= λ vars. Ok (sid, session_with cwd vars))
      (λ sid counted. some_holds Sound (path_of_text directory) Directory
      (λ cwd. in_turn with_var empty cells >>= λ vars. Ok (sid, session_with cwd vars))
      (λ cwd named. then_holds Sound (in_turn with_var empty cells) (λ vars. Ok (sid, session_with cwd vars))
      (λ vars is. (
        subst (λ r. IfOk r Fit) is (turns_hold Fit with_var more_vars_fit empty cells (none_fails text_total text_exact var_fits)),
        each_path directory cwd named,
      ))))

  row_sound : (row : List ℕ) → IfOk (session_of row) Sound
  unfolding session_of
  row_sound row = then_holds Sound (cells_of row) session_of_cells (λ cells is. cells_sound cells)

  more_sound : (sessions : SessionsValue) (row : List ℕ) → AreSound sessions → IfOk (with_session sessions row) AreSound
  unfolding with_session
  more_sound sessions row sound =
      then_holds AreSound (session_of row)
      (λ s. guard (not (contains_key sessions s.0)) SessionTwice >>= λ u. Ok (insert sessions s.0 s.1))
      (λ s is. guard_holds AreSound (not (contains_key sessions s.0)) SessionTwice (Ok (insert sessions s.0 s.1))
      (λ new. let one = subst (λ r. IfOk r Sound) is (row_sound row) in (
        one_more_passes nat_cmp_total nat_cmp-IsAntisymmetric session_fits sessions s.0 s.1 sound.0 one.0,
        one_more_passes nat_cmp_total nat_cmp-IsAntisymmetric (λ e. test e.1.cwd) sessions s.0 s.1 sound.1 one.1,
      )))

  pub table_sound : (bytes : List ℕ) → IfOk (sessions_in bytes) AreSound
  unfolding sessions_in
  table_sound bytes =
      then_holds AreSound (rows_in tables.Sessions bytes) (λ rows. in_turn session_step empty rows)
      (λ rows is. turns_hold AreSound session_step
      (λ sessions row sound. row_holds AreSound tables.Sessions row.0 (with_session sessions row.1) (more_sound sessions row.1 sound))
      empty rows (
        none_fails nat_cmp_total nat_cmp-IsAntisymmetric session_fits,
        none_fails nat_cmp_total nat_cmp-IsAntisymmetric (λ e. test e.1.cwd),
      ))
