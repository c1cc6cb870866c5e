-- Variables and sessions, added one by one.
use Rattle.std.proofs.Common.{◌≡◌, ℕ, List, true, false, Ok, Err, refl}
use Rattle.std.specs.FinMap.{contains_key, insert}
use Rattle.casebook_script.specs.Sessions.{Vars, var_of, with_var}
use Rattle.casebook_script.specs.declared.fault.RowFault.TheVariants.{VariableTwice}

pub var_twice : (vars : Vars) (cell name value : List ℕ) → var_of cell ≡ Ok (name, value)
    → contains_key vars name ≡ true → with_var vars cell ≡ Err VariableTwice
var_twice vars cell name value is there = rw (is, there) refl

pub var_added : (vars : Vars) (cell name value : List ℕ) → var_of cell ≡ Ok (name, value)
    → contains_key vars name ≡ false → with_var vars cell ≡ Ok (insert vars name value)
var_added vars cell name value is new = rw (is, new) refl
