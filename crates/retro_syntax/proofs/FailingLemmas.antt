-- Faults that are passed on.
use Rattle.std.proofs.Common.{◌≡◌, Option, None, Result, Ok, Err, sym, subst}
use Rattle.std.specs.Result.{IsErrAnd}
use Rattle.retro_path.specs.OutOfMemory.{IsMeant}
use Rattle.retro_syntax.specs.inner.Failing.{Gives, fault}
use Rattle.retro_syntax.specs.declared.syntax_error.SyntaxError.{SyntaxError}
use Rattle.retro_syntax.specs.declared.syntax_error.SyntaxError.TheVariants.{Unsupported, NoMem}

-- A call that passes a fault on gives nothing where the inner call gives nothing.
pub fault_passed_on : {A B : Type 0} (e : SyntaxError) (m : Option A) (n : Option B) → IsMeant (fault e) m
    → (m ≡ None → n ≡ None) → IsMeant (fault e) n
fault_passed_on Unsupported m n h k = k h
fault_passed_on NoMem m n h k = tt

-- the same, of the result of `?`
pub gives_fault : {X M A : Type 0} (value : X → M) (r : Result X SyntaxError) (e : SyntaxError) (m : Option A)
    (n : Option M) → IsErrAnd r (λ x. x ≡ e) → IsMeant (fault e) m → (m ≡ None → n ≡ None)
    → Gives value r n
gives_fault value (Ok x) e m n h k l = absurd h
gives_fault value (Err d) e m n h k l = subst (λ x. IsMeant (fault x) n) (sym h) (fault_passed_on e m n k l)
