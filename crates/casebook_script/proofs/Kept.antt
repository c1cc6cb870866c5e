-- What is kept while items are read one after another.
use Rattle.std.proofs.Common.{◌≡◌, ℕ, Bool, true, false, List, [], ◌∷◌, Option, Some, None, Result, Ok, Err, refl, subst}
use Rattle.std.specs.Prelude.{IfOk, ok_or}
use Rattle.casebook_script.specs.Rows.{at_row}
use Rattle.casebook_script.specs.Steps.{◌>>=◌, guard, in_turn}
use Rattle.casebook_script.specs.declared.fault.RowFault.{RowFault}
use Rattle.casebook_script.specs.declared.fault.Table.{Table}

pub then_holds : {A B E : Type 0} (P : B → Type 0) (read : Result A E) (next : A → Result B E)
    → ((x : A) → read ≡ Ok x → IfOk (next x) P) → IfOk (read >>= next) P
then_holds P (Ok x) next h = h x refl
then_holds P (Err e) next h = tt

pub guard_holds : {B E : Type 0} (P : B → Type 0) (b : Bool) (e : E) (read : Result B E) → (b ≡ true → IfOk read P)
    → IfOk (guard b e >>= λ u. read) P
guard_holds P true e read h = h refl
guard_holds P false e read h = tt

pub some_holds : {A B E : Type 0} (P : B → Type 0) (o : Option A) (e : E) (next : A → Result B E)
    → ((x : A) → o ≡ Some x → IfOk (next x) P) → IfOk (ok_or o e >>= next) P
some_holds P (Some x) e next h = h x refl
some_holds P None e next h = tt

pub turns_hold : {A B E : Type 0} (P : A → Type 0) (f : A → B → Result A E) → ((a : A) (x : B) → P a → IfOk (f a x) P)
    → (first : A) (xs : List B) → P first → IfOk (in_turn f first xs) P
unfolding in_turn
turns_hold P f one first [] h = h
turns_hold {B = B} P f one first (x ∷ xs) h =
    then_holds P (f first x) (λ next. in_turn f next xs)
    (λ next is. turns_hold P f one next xs (subst (λ r. IfOk r P) is (one first x h)))

pub row_holds : {A : Type 0} (P : A → Type 0) (table : Table) (place : ℕ) (read : Result A RowFault) → IfOk read P
    → IfOk (at_row table place read) P
row_holds P table place (Ok x) h = h
row_holds P table place (Err why) h = tt

-- what holds of what was read
pub holds_of : {A E : Type 0} (P : A → Type 0) (read : Result A E) (x : A) → IfOk read P → read ≡ Ok x → P x
holds_of P read x h is = subst (λ r. IfOk r P) is h
