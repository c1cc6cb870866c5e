-- Two recordings that change the cells of a query alike answer it alike.
use Rattle.std.proofs.Common.{◌≡◌, ◌∙◌, ◌≤◌, ◌<◌, ℕ, zero, suc, nat_lt, ◌==◌, Bool, true, false, cond, List, [], ◌∷◌}
use Rattle.std.proofs.Common.{Some, refl, sym, ap, arith}
use Rattle.std.specs.Bool.{if◌then◌else◌}
use Rattle.std.specs.List.{filter}
use Rattle.std.proofs.lemmas.Bool.{true≢false, eqb-true, ltb-true, lt-ltb}
use Rattle.std.proofs.lemmas.Bool.Decides.{nat_tests}
use Rattle.retro_tree.specs.Ask.{answer, supports}
use Rattle.retro_tree.specs.Cell.{value}
use Rattle.retro_tree.specs.Change.{cell_of, written}
use Rattle.retro_tree.specs.Notes.{after, cell_eq, effects}
use Rattle.retro_tree.specs.declared.ask.Ask.{Ask}
use Rattle.retro_tree.specs.declared.cell.Cell.{Cell}
use Rattle.retro_tree.specs.declared.change.Change.{Change}
use Rattle.retro_tree.specs.declared.note.Note.{Note}
use Rattle.retro_tree.specs.declared.note.Note.TheVariants.{Asked, Made}
use Rattle.retro_tree.specs.declared.state.State.{State}
use Rattle.retro_tree.specs.declared.value.Value.{Value}
use Rattle.retro_tree.proofs.Agree.{agreeing}
use Rattle.retro_tree.proofs.NoteLaws.{same_cells, value_after}
use Rattle.retro_keep.specs.Recorded.{lines_below, recorded_before}
use Rattle.retro_keep.specs.Recording.{IsWellFormed, RecordingValue, last_state, noted_at}
use Rattle.retro_history.proofs.Chains.{Lines, Rise, above, later, not_below}
use Rattle.casebook_cause.specs.Cause.{IsAlike, changes_at, changes_for, notes_of}
use Rattle.casebook_cause.specs.LineResult.{changes_in}

-- ---- one cell

-- the value of a cell after changes, by its value before them
abbrev pub changed : List Change → Cell → Value → Value
changed [] c v = v
changed (x ∷ xs) c v = changed xs c (if cell_eq (cell_of x) c then written x v else v)

effects_changed : (notes : List Note) (c : Cell) (v : Value) → effects notes c v ≡ changed (changes_in notes) c v
effects_changed [] c v = refl
effects_changed (Asked a r ∷ notes) c v = effects_changed notes c v
effects_changed (Made x ∷ notes) c v = effects_changed notes c (if cell_eq (cell_of x) c then written x v else v)

-- a change that is none of a query's cells isn't one of this cell
not_its : (q : Ask) (c : Cell) (x : Change) → supports q c ≡ true → supports q (cell_of x) ≡ false → (b : Bool)
    → cell_eq (cell_of x) c ≡ b → b ≡ false
not_its q c x sup out true e =
    absurd (true≢false (sym sup ∙ ap (supports q) (sym (same_cells (cell_of x) c e)) ∙ out))
not_its q c x sup out false e = refl

-- only the changes of a query's cells matter for one of them
changed_for : (q : Ask) (c : Cell) → supports q c ≡ true → (xs : List Change) (v : Value)
    → changed xs c v ≡ changed (filter (λ x. supports q (cell_of x)) xs) c v
changed_for q c sup [] v = refl
changed_for q c sup (x ∷ xs) v = by_test (supports q (cell_of x)) refl (changed_for q c sup xs)
  where
    by_test : (a : Bool) → supports q (cell_of x) ≡ a
        → ((w : Value) → changed xs c w ≡ changed (filter (λ y. supports q (cell_of y)) xs) c w)
        → changed xs c (if cell_eq (cell_of x) c then written x v else v)
        ≡ changed (cond a (x ∷ filter (λ y. supports q (cell_of y)) xs) (filter (λ y. supports q (cell_of y)) xs)) c v
    by_test true e rest = rest (if cell_eq (cell_of x) c then written x v else v)
    by_test false e rest =
        ap (λ b. changed xs c (if b then written x v else v)) (not_its q c x sup e (cell_eq (cell_of x) c) refl)
        ∙ rest v

value_for : (q : Ask) (c : Cell) → supports q c ≡ true → (notes : List Note) (s : State)
    → value c (after notes s) ≡ changed (changes_for q notes) c (value c s)
value_for q c sup notes s =
    value_after notes c s ∙ effects_changed notes c (value c s) ∙ changed_for q c sup (changes_in notes) (value c s)

-- ---- the state before the next number

-- no line after another one is below the number that follows it
none_soon : (n low : ℕ) (lines : Lines) → n ≤ suc low → Rise low lines → lines_below n lines ≡ []
none_soon n low [] h rise = refl
none_soon n low (l ∷ lines) h rise =
    let up = above low l lines rise in
    let past : nat_lt l.0 n ≡ false = not_below l.0 n (omega (arith, up)) in
    ap (λ (b : Bool). if b then l ∷ lines_below n lines else lines_below n lines) past
    ∙ none_soon n l.0 lines (omega (arith, up)) (later low l lines rise)

state_next : (k low : ℕ) (lines : Lines) (s : State) → Rise low lines
    → last_state (lines_below (suc k) lines) s
    ≡ after (notes_of (noted_at k lines)) (last_state (lines_below k lines) s)
state_next k low [] s rise = refl
state_next k low (l ∷ lines) s rise =
    by_number (l.0 == k) refl (nat_lt l.0 k) refl (later low l lines rise)
    (λ t. state_next k l.0 lines t (later low l lines rise))
  where
    by_number : (b : Bool) → (l.0 == k) ≡ b → (a : Bool) → nat_lt l.0 k ≡ a → Rise l.0 lines
        → ((t : State) → last_state (lines_below (suc k) lines) t
        ≡ after (notes_of (noted_at k lines)) (last_state (lines_below k lines) t))
        → last_state (if nat_lt l.0 (suc k) then l ∷ lines_below (suc k) lines else lines_below (suc k) lines) s
        ≡ after (notes_of (if b then Some l.1 else noted_at k lines))
        (last_state (if a then l ∷ lines_below k lines else lines_below k lines) s)
    by_number true e true g rise_on rest = absurd (omega (arith, eqb-true l.0 k e, ltb-true l.0 k g))
    by_number true e false g rise_on rest =
        let same = eqb-true l.0 k e in
        let now : nat_lt l.0 (suc k) ≡ true = lt-ltb l.0 (suc k) (omega (arith, same)) in
        ap (λ (d : Bool). last_state (if d then l ∷ lines_below (suc k) lines else lines_below (suc k) lines) s) now
        ∙ ap (λ ls. last_state ls (after l.1.notes s)) (none_soon (suc k) l.0 lines (omega (arith, same)) rise_on)
        ∙ ap (λ ls. after l.1.notes (last_state ls s)) (sym (none_soon k l.0 lines (omega (arith, same)) rise_on))
    by_number false e true g rise_on rest =
        let less = ltb-true l.0 k g in
        let now : nat_lt l.0 (suc k) ≡ true = lt-ltb l.0 (suc k) (omega (arith, less)) in
        ap (λ (d : Bool). last_state (if d then l ∷ lines_below (suc k) lines else lines_below (suc k) lines) s) now
        ∙ rest (after l.1.notes s)
    by_number false e false g rise_on rest =
        let now : nat_lt l.0 (suc k) ≡ false = grind (arith, nat_tests) in
        ap (λ (d : Bool). last_state (if d then l ∷ lines_below (suc k) lines else lines_below (suc k) lines) s) now
        ∙ rest s

before_next : (k : ℕ) (r : RecordingValue) → IsWellFormed r
    → recorded_before (suc k) r ≡ after (notes_of (noted_at k r.lines)) (recorded_before k r)
unfolding recorded_before
before_next k r w = state_next k 0 r.lines r.first w.rising

before_all : (r : RecordingValue) → IsWellFormed r → recorded_before 0 r ≡ r.first
unfolding recorded_before
before_all r w = ap (λ ls. last_state ls r.first) (none_soon 0 0 r.lines (omega arith) w.rising)

-- ---- two recordings

values_alike : (q : Ask) (c : Cell) → supports q c ≡ true → (n : ℕ) (one two : RecordingValue) → IsWellFormed one
    → IsWellFormed two → one.first ≡ two.first → ((m : ℕ) → m < n → IsAlike q one two m)
    → value c (recorded_before n one) ≡ value c (recorded_before n two)
values_alike q c sup zero one two v w same alike =
    ap (value c) (before_all one v ∙ same ∙ sym (before_all two w))
values_alike q c sup (suc k) one two v w same alike =
    let here : changes_at q k one ≡ changes_at q k two = alike k (omega arith) in
    ap (value c) (before_next k one v)
    ∙ value_for q c sup (notes_of (noted_at k one.lines)) (recorded_before k one)
    ∙ (λ i. changed (here i) c
    (values_alike q c sup k one two v w same (λ m less. alike m (omega (arith, less))) i))
    ∙ sym (value_for q c sup (notes_of (noted_at k two.lines)) (recorded_before k two))
    ∙ sym (ap (value c) (before_next k two w))

pub answers_alike : (q : Ask) (n : ℕ) (one two : RecordingValue) → IsWellFormed one → IsWellFormed two
    → one.first ≡ two.first → ((m : ℕ) → m < n → IsAlike q one two m) → (notes : List Note)
    → answer q (after notes (recorded_before n one)) ≡ answer q (after notes (recorded_before n two))
answers_alike q n one two v w same alike notes =
    agreeing q (after notes (recorded_before n one)) (after notes (recorded_before n two)) (λ c sup.
    value_after notes c (recorded_before n one) ∙ ap (effects notes c) (values_alike q c sup n one two v w same alike)
    ∙ sym (value_after notes c (recorded_before n two)))
