-- Lines whose texts stand are right, by what is asked of the world.
use Rattle.std.proofs.Common.{◌≡◌, ◌∙◌, ◌||◌, ℕ, Bool, true, false, List, [], ◌∷◌, ◌++◌, Option, Some, None}
use Rattle.std.proofs.Common.{IsTrue, refl, sym, ap, subst, map}
use Rattle.std.specs.List.{All, list_all}
use Rattle.std.specs.Option.{is_some}
use Rattle.std.proofs.lemmas.Bool.{false≢true}
use Rattle.std.proofs.lemmas.List.Elements.{All-cons, All-head, All-nil, All-tail}
use Rattle.retro_tree.specs.declared.state.State.{State}
use Rattle.retro_tree.proofs.Small.{both_true, first_true}
use Rattle.retro_shell.specs.Line.{line}
use Rattle.retro_keep.specs.Edit.{edited, text_run}
use Rattle.retro_keep.specs.Recording.{script_line}
use Rattle.retro_keep.specs.Runs.{outcome}
use Rattle.retro_keep.specs.declared.edit.Edit.{Edit}
use Rattle.retro_keep.specs.declared.noted.Noted.{Noted}
use Rattle.retro_keep.specs.declared.script.ScriptLine.{ScriptLine}
use Rattle.retro_redo.specs.Moments.{Moment, moments, next_repaired, state_of_run}
use Rattle.casebook_real.specs.Lines.{Basis, Observed, Modelled, Unedited, Replaced, Placed, TypedLine, are_named, fate, fate_by}
use Rattle.casebook_real.specs.Lines.{is_edited, placed, texts_now, texts_of}
use Rattle.casebook_real.specs.Next.{Stands}
use Rattle.casebook_real.specs.World.{HasBasis, HasNotes, HoldInTurn, Meaning}
use Rattle.casebook_real.proofs.Runs.{IsRight, IsRightBy}
use Rattle.casebook_real.proofs.Texts.{first_edited}

-- ---- the texts of the first lines, and those after them

module _ {X : Type 0} (P : X → Type 0) where
  all_first : (xs ys : List X) → All P (xs ++ ys) → All P xs
  all_first [] ys h = All-nil P
  all_first (x ∷ xs) ys h =
      All-cons P x xs (All-head P x (xs ++ ys) h) (all_first xs ys (All-tail P x (xs ++ ys) h))

  all_later : (xs ys : List X) → All P (xs ++ ys) → All P ys
  all_later [] ys h = h
  all_later (x ∷ xs) ys h = all_later xs ys (All-tail P x (xs ++ ys) h)

-- the recorded state after texts
abbrev recorded_after : List (ℕ × Noted) → State → State
recorded_after [] s = s
recorded_after (l ∷ lines) s = recorded_after lines (line l.1.sid l.1.text s).0

moments_append : (edit : ℕ → Option Edit) (one two : List (ℕ × Noted)) (s t : State)
    → moments edit (one ++ two) s t
    ≡ moments edit one s t
    ++ moments edit two (recorded_after one s) (outcome (edited edit (map script_line one)) t).0
moments_append edit [] two s t = refl
moments_append edit (l ∷ one) two s t =
    let s2 : State = (line l.1.sid l.1.text s).0 in
    let t2 : State = next_repaired edit l t in
    let m : Moment = record { number = l.0; noted = l.1; recorded = s; repaired = t } in
    ap (λ ms. m ∷ ms) (moments_append edit one two s2 t2
    ∙ ap (λ u. moments edit one s2 t2 ++ moments edit two (recorded_after one s2) u) (sym (first_edited edit l one t)))

-- ---- one line

-- the notes of observed texts that nothing edits hold in turn
unedited : (o : Option Edit) (more : Bool) → (is_some o || more) ≡ false → o ≡ None
unedited None more e = refl
unedited (Some edit) more e = absurd (false≢true (sym e))

others_unedited : (o : Option Edit) (more : Bool) → (is_some o || more) ≡ false → more ≡ false
others_unedited None more e = e
others_unedited (Some edit) more e = absurd (false≢true (sym e))

hold_in_turn : (edit : ℕ → Option Edit) (observed : ℕ → Bool) (texts : List (ℕ × Noted)) (s t : State)
    → is_edited edit texts ≡ false → list_all (λ text. observed text.0) texts ≡ true
    → All (Stands edit observed) (moments edit texts s t) → HoldInTurn texts t
hold_in_turn edit observed [] s t alone named stand = tt
hold_in_turn edit observed (l ∷ texts) s t alone named stand =
    let m : Moment = record { number = l.0; noted = l.1; recorded = s; repaired = t } in
    let none = unedited (edit l.0) (is_edited edit texts) alone in
    let s2 : State = (line l.1.sid l.1.text s).0 in
    let t2 : State = next_repaired edit l t in
    let own : t2 ≡ (line l.1.sid l.1.text t).0 = ap (λ o. state_of_run l.1.sid (text_run o l.1.text) t) none in
    let here = All-head (Stands edit observed) m (moments edit texts s2 t2) stand in (
      here (first_true (observed l.0) _ named) none,
      subst (HoldInTurn texts) own
          (hold_in_turn edit observed texts s2 t2 (others_unedited (edit l.0) (is_edited edit texts) alone)
          (both_true (observed l.0) _ named) (All-tail (Stands edit observed) m (moments edit texts s2 t2) stand)),
    )

-- A line as its basis says, in a state.
right_unedited : (edit : ℕ → Option Edit) (observed : ℕ → Bool) (basis : Basis) (texts : List (ℕ × Noted)) (s t : State)
    → is_edited edit texts ≡ false → IsTrue (are_named observed basis texts)
    → All (Stands edit observed) (moments edit texts s t) → HasNotes basis t → HasBasis basis texts t
right_unedited edit observed Observed texts s t alone named stand modelled =
    hold_in_turn edit observed texts s t alone named stand
right_unedited edit observed (Modelled notes) texts s t alone named stand modelled = modelled

right_by : (real : Meaning) (edit : ℕ → Option Edit) (observed : ℕ → Bool) (l : TypedLine) (s t : State) (b : Bool)
    (now : List ScriptLine) → is_edited edit l.texts ≡ b → IsTrue (are_named observed l.basis l.texts)
    → All (Stands edit observed) (moments edit l.texts s t) → (fate_by b now ≡ Unedited → HasNotes l.basis t)
    → (fate_by b now ≡ Replaced → real l.typed t ≡ (outcome now t).0) → IsRightBy real (fate_by b now) l now t
right_by real edit observed l s t false now alone named stand modelled run =
    right_unedited edit observed l.basis l.texts s t alone named stand (modelled refl)
right_by real edit observed l s t true [] alone named stand modelled run = tt
right_by real edit observed l s t true (text ∷ now) alone named stand modelled run = run refl

-- ---- all lines

abbrev AsModelled : (ℕ → Option Edit) → Placed → Type 0
AsModelled edit p = fate edit p.line ≡ Unedited → HasNotes p.line.basis p.before

abbrev AsRun : Meaning → (ℕ → Option Edit) → Placed → Type 0
AsRun real edit p =
    fate edit p.line ≡ Replaced → real p.line.typed p.before ≡ (outcome (texts_now edit p.line) p.before).0

abbrev IsNamed : (ℕ → Bool) → TypedLine → Bool
IsNamed observed l = are_named observed l.basis l.texts

pub all_right : (real : Meaning) (edit : ℕ → Option Edit) (observed : ℕ → Bool) (lines : List TypedLine) (s t : State)
    → IsTrue (list_all (IsNamed observed) lines) → All (Stands edit observed) (moments edit (texts_of lines) s t)
    → All (AsModelled edit) (placed edit lines t) → All (AsRun real edit) (placed edit lines t)
    → All (IsRight real edit) (placed edit lines t)
all_right real edit observed [] s t named stand modelled runs = All-nil (IsRight real edit)
all_right real edit observed (l ∷ lines) s t named stand modelled runs =
    let p : Placed = record { line = l; before = t } in
    let now : List ScriptLine = texts_now edit l in
    let s2 : State = recorded_after l.texts s in
    let t2 : State = (outcome now t).0 in
    let rest = placed edit lines t2 in
    let one = moments edit l.texts s t in
    let two = moments edit (texts_of lines) s2 t2 in
    let both = subst (All (Stands edit observed)) (moments_append edit l.texts (texts_of lines) s t) stand in
    All-cons (IsRight real edit) p rest
    (right_by real edit observed l s t (is_edited edit l.texts) now refl
    (first_true (IsNamed observed l) (list_all (IsNamed observed) lines) named)
    (all_first (Stands edit observed) one two both) (All-head (AsModelled edit) p rest modelled)
    (All-head (AsRun real edit) p rest runs))
    (all_right real edit observed lines s2 t2 (both_true (IsNamed observed l) (list_all (IsNamed observed) lines) named)
    (all_later (Stands edit observed) one two both) (All-tail (AsModelled edit) p rest modelled)
    (All-tail (AsRun real edit) p rest runs))
