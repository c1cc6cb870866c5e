-- What holds of documents and folders if it is known what they are.
use Rattle.std.proofs.Common.{Option, Some, None, IfSome, Result, Ok, Err, IfOk}

-- from one fact to another
pub one : {A : Type 0} (o : Option A) (P Q : A → Type 0) → IfSome o P → ((x : A) → P x → Q x) → IfSome o Q
one None P Q h f = tt
one (Some x) P Q h f = f x h

-- a fact of each value
pub known : {A : Type 0} (o : Option A) (Q : A → Type 0) → ((x : A) → Q x) → IfSome o Q
known None Q f = tt
known (Some x) Q f = f x

-- from two facts to another
pub two : {A : Type 0} (o : Option A) (P Q R : A → Type 0) → IfSome o P → IfSome o Q
    → ((x : A) → P x → Q x → R x) → IfSome o R
two None P Q R h k f = tt
two (Some x) P Q R h k f = f x h k

-- a fact of the first of two values, which may both be known
pub of_first : {A B : Type 0} (o : Option A) (p : Option B) (P : A → Type 0) → IfSome o P
    → IfSome o (λ x. IfSome p (λ y. P x))
of_first None p P h = tt
of_first (Some x) None P h = tt
of_first (Some x) (Some y) P h = h

-- a fact of the second
pub of_second : {A B : Type 0} (o : Option A) (p : Option B) (Q : B → Type 0) → IfSome p Q
    → IfSome o (λ x. IfSome p Q)
of_second None p Q h = tt
of_second (Some x) p Q h = h

-- from a fact of the first to a fact of both
pub from_first : {A B : Type 0} (o : Option A) (p : Option B) (P : A → Type 0) (R : A → B → Type 0)
    → IfSome o P → ((x : A) (y : B) → P x → R x y) → IfSome o (λ x. IfSome p (R x))
from_first None p P R h f = tt
from_first (Some x) None P R h f = tt
from_first (Some x) (Some y) P R h f = f x y h

-- from a fact of the second to a fact of both
pub from_second : {A B : Type 0} (o : Option A) (p : Option B) (Q : B → Type 0) (R : A → B → Type 0)
    → IfSome p Q → ((x : A) (y : B) → Q y → R x y) → IfSome o (λ x. IfSome p (R x))
from_second None p Q R h f = tt
from_second (Some x) None Q R h f = tt
from_second (Some x) (Some y) Q R h f = f x y h

-- from a fact of each to a fact of both
pub both : {A B : Type 0} (o : Option A) (p : Option B) (P : A → Type 0) (Q : B → Type 0) (R : A → B → Type 0)
    → IfSome o P → IfSome p Q → ((x : A) (y : B) → P x → Q y → R x y) → IfSome o (λ x. IfSome p (R x))
both None p P Q R h k f = tt
both (Some x) None P Q R h k f = tt
both (Some x) (Some y) P Q R h k f = f x y h k

-- from one fact of both to another
pub both_known : {A B : Type 0} (o : Option A) (p : Option B) (P R : A → B → Type 0)
    → IfSome o (λ x. IfSome p (P x)) → ((x : A) (y : B) → P x y → R x y) → IfSome o (λ x. IfSome p (R x))
both_known None p P R h f = tt
both_known (Some x) None P R h f = tt
both_known (Some x) (Some y) P R h f = f x y h

-- from two facts of a result to another
pub of_ok : {A E : Type 0} (r : Result A E) (P Q R : A → Type 0) → IfOk r P → IfOk r Q
    → ((x : A) → P x → Q x → R x) → IfOk r R
of_ok (Ok x) P Q R h k f = f x h k
of_ok (Err e) P Q R h k f = tt
