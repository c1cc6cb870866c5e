-- The diagnostics of `grep` after a fault on an operand aren't those of a usage fault: they are
-- longer.
use Rattle.std.proofs.Common.{◌≡◌, ◌≢◌, ℕ, ◌<◌, Bool, true, false, ◌&&◌, List, [], ◌∷◌, ◌++◌, length, refl, ap}
use Rattle.std.proofs.Common.{arith, length-append, codes}
use Rattle.std.specs.Prelude.{Result, Ok, Err, if◌then◌else◌}
use Rattle.std.proofs.lemmas.Bool.{false≢true}
use Rattle.retro_text.specs.Search.{SearchValue, search_status}
use Rattle.retro_tree.specs.declared.state.State.{State}
use Rattle.retro_utils.specs.Operands.{is_several}
use Rattle.retro_utils.specs.Outcomes.{usage}
use Rattle.retro_utils.specs.Reading.{or_dash, sources}
use Rattle.retro_utils.specs.Reasons.{fault_text, reason_text}
use Rattle.retro_utils.specs.Searching.{grep, search_done, search_sources}
use Rattle.retro_utils.specs.declared.done.Done.{Done}
use Rattle.retro_utils.specs.declared.input.Input.{Input}
use Rattle.retro_utils.specs.declared.reason.Reason.{Reason}
use Rattle.retro_utils.specs.declared.reason.Reason.TheVariants as reasons

reason_length : (reason : Reason) → 8 < length (reason_text reason)
reason_length reasons.NoSuchFile = omega arith
reason_length reasons.NotDirectory = omega arith
reason_length reasons.IsDirectory = omega arith
reason_length reasons.TooLarge = omega arith
reason_length reasons.NameTooLong = omega arith
reason_length reasons.FileExists = omega arith
reason_length reasons.NotPermitted = omega arith
reason_length reasons.SameFile = omega arith
reason_length reasons.InvalidArgument = omega arith
reason_length reasons.NotEmpty = omega arith

-- the diagnostic of a fault is longer than `grep: usage`
fault_length : (operand : List ℕ) (reason : Reason) → 12 < length (fault_text (codes "grep") operand reason)
unfolding fault_text
fault_length operand reason =
    let long : 8 < length (reason_text reason) = reason_length reason in
    simp (length-append, length-append) (omega arith)

-- with status 2 the diagnostics are longer than `grep: usage`
record IsTold (done : Done) : Type 0 where
  told : done.status ≡ 2 → 12 < length done.err

if_told : {X : Type 0} (f : X → Done) (b : Bool) (x y : X) → IsTold (f x) → IsTold (f y)
    → IsTold (f (if b then x else y))
if_told f true x y one two = one
if_told f false x y one two = two

fault_of_status : (quiet selected fault : Bool) → search_status quiet selected fault ≡ 2 → fault ≡ true
fault_of_status quiet selected true e = refl
fault_of_status quiet true false e = absurd (omega arith)
fault_of_status quiet false false e = absurd (omega arith)

more_told : (err operand : List ℕ) (reason : Reason) → 12 < length (err ++ fault_text (codes "grep") operand reason)
more_told err operand reason =
    let long : 12 < length (fault_text (codes "grep") operand reason) = fault_length operand reason in
    simp (length-append) (omega arith)

search_told : (w : SearchValue) (several : Bool) (all : List (List ℕ × Result (List ℕ) Reason)) (out err : List ℕ)
    (selected fault : Bool) → (fault ≡ true → 12 < length err)
    → IsTold (search_done w
    (search_sources w several all (record { out = out; err = err; selected = selected; fault = fault })))
search_told w several [] out err selected fault told =
    record { told = λ e. told (fault_of_status w.quiet selected fault e) }
search_told w several ((operand, Ok bytes) ∷ more) out err selected fault told =
    if_told (search_done w) (w.quiet && selected) _ _
    (record { told = λ e. told (fault_of_status w.quiet selected fault e) })
    (search_told w several more _ err _ fault told)
search_told w several ((operand, Err reason) ∷ more) out err selected fault told =
    if_told (search_done w) (w.quiet && selected) _ _
    (record { told = λ e. told (fault_of_status w.quiet selected fault e) })
    (search_told w several more out (err ++ fault_text (codes "grep") operand reason) selected true
    (λ e. more_told err operand reason))

told_is_no_usage : (done : Done) → IsTold done → done ≢ usage (codes "grep")
told_is_no_usage done told e =
    let is : done.status ≡ 2 = ap (λ (d : Done). d.status) e in
    let short : length done.err ≡ 12 = ap (λ (d : Done). length d.err) e in
    let long : 12 < length done.err = told.told is in
    absurd (omega arith)

pub grep_is_no_usage : (sid : ℕ) (w : SearchValue) (files : List (List ℕ)) (input : Input) (s : State)
    → (grep sid w files input s).1 ≢ usage (codes "grep")
unfolding grep
grep_is_no_usage sid w files input s =
    told_is_no_usage _
    (search_told w (is_several files) (sources sid (or_dash files) input s) [] [] false false
    (λ e. absurd (false≢true e)))
