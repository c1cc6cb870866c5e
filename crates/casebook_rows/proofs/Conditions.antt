-- What holds just under a condition, as a test of it.
use Rattle.std.proofs.Common.{◌≡◌, Bool, true, false, Decides, Some, None, Ok, Err, Option}
use Rattle.std.proofs.Common.{Result, SomeIff, OkIff}
use Rattle.std.proofs.Common.{if◌then◌else◌, refl}
use Rattle.std.specs.Result.{result_ok}

pub ok_if : {X E : Type 0} (r : Result X E) (P : Type 0) (v : X) (t : Bool) → OkIff r P v
    → Decides t P → result_ok r ≡ (if t then Some v else None)
ok_if (Ok x) P v t h d = rw (d.1 h.0, h.1) refl
ok_if (Err e) P v true h d = absurd (h (d.0 refl))
ok_if (Err e) P v false h d = refl

pub some_if : {X : Type 0} (o : Option X) (P : Type 0) (v : X) (t : Bool) → SomeIff o P v
    → Decides t P → o ≡ (if t then Some v else None)
some_if (Some x) P v t h d = rw (d.1 h.0, h.1) refl
some_if None P v true h d = absurd (h (d.0 refl))
some_if None P v false h d = refl
