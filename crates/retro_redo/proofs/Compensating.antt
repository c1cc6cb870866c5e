-- The outputs of a repair by choices differ where those of its recording do.
use Rattle.std.proofs.Common.{◌≡◌, ◌∙◌, ◌==◌, ◌<◌, ◌≤◌, ℕ, Bool, true, false, IsTrue, List, [], ◌∷◌, ◌++◌, None}
use Rattle.std.proofs.Common.{Some, ap, ap₂, append_assoc, arith, length, map, nat_lt, refl, sym}
use Rattle.std.specs.Bool.{if◌then◌else◌}
use Rattle.std.specs.List.{flat_map}
use Rattle.std.proofs.lemmas.Bool.{eq-eqb, eqb-true, false≢true, ltb-true}
use Rattle.retro_tree.proofs.Small.{both_true, first_true}
use Rattle.retro_keep.specs.Recording.{noted_at, noted_of, number_in}
use Rattle.retro_keep.specs.Script.{rises_from}
use Rattle.retro_keep.specs.declared.noted.Noted.{Noted}
use Rattle.retro_redo.specs.Moments.{compensation}
use Rattle.retro_redo.specs.Progress.{compensations_chosen, line_chosen, lines_chosen, output_chosen}
use Rattle.retro_redo.specs.Repair.{compensation_in, output_at, output_by}
use Rattle.retro_redo.specs.declared.step.Step.{Step}
use Rattle.retro_redo.specs.declared.step.Step.TheVariants.{Cancel, Keep, Take}
use Rattle.retro_redo.proofs.Positions.{Line}

abbrev Rise : ℕ → List Line → Type 0
Rise low lines = IsTrue (rises_from low (map number_in lines))

above : (low : ℕ) (l : Line) (lines : List Line) → Rise low (l ∷ lines) → low < l.0
above low l lines rise = ltb-true low l.0 (first_true (nat_lt low l.0) (rises_from l.0 (map number_in lines)) rise)

later : (low : ℕ) (l : Line) (lines : List Line) → Rise low (l ∷ lines) → Rise l.0 lines
later low l lines rise = both_true (nat_lt low l.0) (rises_from l.0 (map number_in lines)) rise

-- the numbers of lines are at most n
abbrev UpTo : ℕ → List Line → Type 0
UpTo n [] = Unit {0}
UpTo n (x ∷ xs) = (x.0 ≤ n) × UpTo n xs

up_more : (m n : ℕ) (xs ys : List Line) → m ≤ n → UpTo m xs → UpTo n ys → UpTo n (xs ++ ys)
up_more m n [] ys le up rest = rest
up_more m n (x ∷ xs) ys le up rest = let first = up.0 in (omega (arith, first, le), up_more m n xs ys le up.1 rest)

-- ---- the line with a number among others

not_at : (n : ℕ) (x : Line) (xs : List Line) → (x.0 ≡ n → ⊥) → noted_at n (x ∷ xs) ≡ noted_at n xs
not_at n x xs other = by_test (x.0 == n) refl
  where
    by_test : (b : Bool) → (x.0 == n) ≡ b → (if b then Some x.1 else noted_at n xs) ≡ noted_at n xs
    by_test true e = absurd (other (eqb-true x.0 n e))
    by_test false e = refl

passed : (n : ℕ) (xs ys : List Line) (m : ℕ) → UpTo m xs → m < n → noted_at n (xs ++ ys) ≡ noted_at n ys
passed n [] ys m up less = refl
passed n (x ∷ xs) ys m up less =
    let first = up.0 in
    not_at n x (xs ++ ys) (λ e. omega (arith, e, first, less)) ∙ passed n xs ys m up.1 less

none_later : (n : ℕ) (lines : List Line) (steps : List Step) (low : ℕ) → n ≤ low → Rise low lines
    → noted_at n (lines_chosen lines steps) ≡ None
none_later n [] steps low le rise = refl
none_later n (l ∷ lines) [] low le rise = refl
none_later n (l ∷ lines) (step ∷ steps) low le rise =
    let up = above low l lines rise in
    by_step step (none_later n lines steps l.0 (omega (arith, le, up)) (later low l lines rise)) (omega (arith, le, up))
  where
    by_step : (x : Step) → noted_at n (lines_chosen lines steps) ≡ None → n < l.0
        → noted_at n (line_chosen l x ++ lines_chosen lines steps) ≡ None
    by_step Cancel rest less = rest
    by_step Keep rest less = not_at n l (lines_chosen lines steps) (λ e. omega (arith, e, less)) ∙ rest
    by_step (Take run) rest less =
        not_at n (l.0, noted_of run) (lines_chosen lines steps) (λ e. omega (arith, e, less)) ∙ rest

at_first : (l : Line) (noted : Noted) (lines : List Line) → noted_at l.0 ((l.0, noted) ∷ lines) ≡ Some noted
at_first l noted lines = by_test (l.0 == l.0) refl
  where
    by_test : (b : Bool) → (l.0 == l.0) ≡ b → (if b then Some noted else noted_at l.0 lines) ≡ Some noted
    by_test true e = refl
    by_test false e = absurd (false≢true (sym e ∙ eq-eqb l.0 l.0 refl))

-- what a line prints among the lines as chosen, of which some come before it
output_here : (before : List Line) (l : Line) (lines : List Line) (step : Step) (steps : List Step) (m : ℕ)
    → UpTo m before → m < l.0 → Rise l.0 lines
    → output_at l.0 (before ++ (line_chosen l step ++ lines_chosen lines steps)) ≡ output_chosen l.1 step
output_here before l lines step steps m up less rise =
    ap output_by (passed l.0 before (line_chosen l step ++ lines_chosen lines steps) m up less) ∙ by_step step
  where
    by_step : (x : Step) → output_at l.0 (line_chosen l x ++ lines_chosen lines steps) ≡ output_chosen l.1 x
    by_step Cancel = ap output_by (none_later l.0 lines steps l.0 (omega arith) rise)
    by_step Keep = ap output_by (at_first l l.1 (lines_chosen lines steps))
    by_step (Take run) = ap output_by (at_first l (noted_of run) (lines_chosen lines steps))

up_chosen : (l : Line) (step : Step) → UpTo l.0 (line_chosen l step)
up_chosen l Cancel = tt
up_chosen l Keep = (omega arith, tt)
up_chosen l (Take run) = (omega arith, tt)

-- ---- all lines

outputs_from : (before lines : List Line) (steps : List Step) (m : ℕ) → length steps ≡ length lines → UpTo m before
    → Rise m lines
    → flat_map (compensation_in (before ++ lines_chosen lines steps)) lines ≡ compensations_chosen lines steps
outputs_from before [] [] m all up rise = refl
outputs_from before [] (step ∷ steps) m all up rise = cc
outputs_from before (l ∷ lines) [] m all up rise = cc
outputs_from before (l ∷ lines) (step ∷ steps) m all up rise =
    let over = above m l lines rise in
    let here = output_here before l lines step steps m up over (later m l lines rise) in
    let now = before ++ (line_chosen l step ++ lines_chosen lines steps) in
    let same : (before ++ line_chosen l step) ++ lines_chosen lines steps ≡ now =
    append_assoc before (line_chosen l step) (lines_chosen lines steps) in
    ap₂ (λ xs ys. xs ++ ys) (ap (compensation l.0 l.1.output) here)
    (ap (λ ls. flat_map (compensation_in ls) lines) (sym same)
    ∙ outputs_from (before ++ line_chosen l step) lines steps l.0 (omega (arith, all))
    (up_more m l.0 before (line_chosen l step) (omega (arith, over)) up (up_chosen l step))
    (later m l lines rise))

pub outputs_differ : (lines : List Line) (steps : List Step) → length steps ≡ length lines → Rise 0 lines
    → flat_map (compensation_in (lines_chosen lines steps)) lines ≡ compensations_chosen lines steps
outputs_differ lines steps all rise = outputs_from [] lines steps 0 all tt rise
