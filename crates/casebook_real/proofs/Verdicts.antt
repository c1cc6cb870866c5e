-- What the verdicts of an exact repair say of notes: which text is the next one to run, and that the
-- texts before it stand.
use Rattle.std.proofs.Common.{◌≡◌, ◌∙◌, ◌<◌, ◌&&◌, ℕ, Bool, true, false, List, [], ◌∷◌, ◌++◌, Option, Some, None}
use Rattle.std.proofs.Common.{refl, sym, ap, subst, append-nil, arith, cond}
use Rattle.std.specs.List.{All, find}
use Rattle.std.specs.Option.{is_none, option_map}
use Rattle.std.proofs.lemmas.Bool.{false≢true}
use Rattle.std.proofs.lemmas.List.Elements.{All-cons, All-head, All-nil, All-tail, All-weaker}
use Rattle.retro_tree.specs.declared.state.State.{State}
use Rattle.retro_tree.proofs.Small.{and_true, both_true, first_true, none_some, some_same}
use Rattle.retro_shell.specs.Line.{line}
use Rattle.retro_keep.specs.Edit.{text_run}
use Rattle.retro_keep.specs.declared.edit.Edit.{Edit}
use Rattle.retro_keep.specs.declared.noted.Noted.{Noted}
use Rattle.retro_redo.specs.Moments.{AreSettledLines, IsSettledLine, IsStaleBy, IsVerdict, Moment, moments, next_repaired}
use Rattle.retro_redo.specs.Repair.{IsRepair, is_verdict, moments_of}
use Rattle.retro_redo.specs.declared.repair.Repair.{Repair}
use Rattle.retro_keep.specs.Recording.{RecordingValue}
use Rattle.retro_redo.specs.declared.verdict.SettledLine.{SettledLine}
use Rattle.retro_redo.specs.declared.verdict.Verdict.{Verdict}
use Rattle.retro_redo.specs.declared.verdict.Verdict.TheVariants.{Cancelled, Kept, Redone}
use Rattle.casebook_real.specs.Next.{IsNext, IsUpTo, MustBeRun, Stands, first_to_run, must_be_run, next_to_run}

-- ---- one text

is_none_true : (o : Option Edit) → is_none o ≡ true → o ≡ None
is_none_true None e = refl
is_none_true (Some edit) e = absurd (false≢true e)

redone : (v : Verdict) → is_verdict Redone v ≡ true → v ≡ Redone
redone Cancelled e = absurd (false≢true e)
redone Redone e = refl
redone Kept e = absurd (false≢true e)

module _ (edit : ℕ → Option Edit) (observed : ℕ → Bool) where
  -- a text that has to be run, by its verdict
  pub must : (m : Moment) (v : SettledLine) → IsSettledLine edit m v → must_be_run edit observed v ≡ true
      → MustBeRun edit observed m
  must m v is e =
      let redo = is_verdict Redone v.verdict in
      let alone = is_none (edit v.number) in
      let named = observed v.number in
      let both = first_true (redo && alone) named e in
      let verdict : v.verdict ≡ Redone = redone v.verdict (first_true redo alone both) in
      let unedited : edit m.number ≡ None = ap edit (sym is.0) ∙ is_none_true (edit v.number) (both_true redo alone both) in
      record {
        named = ap observed (sym is.0) ∙ both_true (redo && alone) named e;
        unedited = unedited;
        fails = subst (λ o. IsStaleBy o m.noted.notes m.repaired) unedited
            (subst (IsVerdict edit m) verdict is.1);
      }

  -- any other text stands
  stands_by : (m : Moment) (number : ℕ) (v : Verdict) → number ≡ m.number → IsVerdict edit m v
      → (is_verdict Redone v && is_none (edit number) && observed number) ≡ false → Stands edit observed m
  stands_by m number Cancelled same is e =
      λ named unedited. absurd (none_some m.noted.text (sym (sym (ap (λ o. text_run o m.noted.text) unedited) ∙ is)))
  stands_by m number Redone same is e =
      λ named unedited. absurd (false≢true (sym e
      ∙ and_true (is_none (edit number)) (observed number) (ap is_none (ap edit same ∙ unedited))
      (ap observed same ∙ named)))
  stands_by m number Kept same is e = λ named unedited. is.1

  stands : (m : Moment) (v : SettledLine) → IsSettledLine edit m v → must_be_run edit observed v ≡ false
      → Stands edit observed m
  stands m v is e = stands_by m v.number v.verdict is.0 is.1 e

  -- ---- the next text

  abbrev first_if : Bool → SettledLine → List SettledLine → Option ℕ
  first_if b v vs = option_map (λ l. l.number) (cond b (Some v) (find (must_be_run edit observed) vs))

  one_more : (m : Moment) (ms : List Moment) (next : Option ℕ) → Stands edit observed m → IsNext edit observed ms next
      → IsNext edit observed (m ∷ ms) next
  one_more m ms None here rest = All-cons (Stands edit observed) m ms here rest
  one_more m ms (Some n) here rest = record {
    before = m ∷ rest.before;
    moment = rest.moment;
    later = rest.later;
    parts = ap (λ ls. m ∷ ls) rest.parts;
    number = rest.number;
    stand = All-cons (Stands edit observed) m rest.before here rest.stand;
    must = rest.must;
  }

  next_if : (m : Moment) (ms : List Moment) (v : SettledLine) (vs : List SettledLine) (b : Bool)
      → must_be_run edit observed v ≡ b → IsSettledLine edit m v → IsNext edit observed ms (first_to_run edit observed vs)
      → IsNext edit observed (m ∷ ms) (first_if b v vs)
  next_if m ms v vs true e is rest = record {
    before = [];
    moment = m;
    later = ms;
    parts = refl;
    number = sym is.0;
    stand = All-nil (Stands edit observed);
    must = must m v is e;
  }
  next_if m ms v vs false e is rest = one_more m ms (first_to_run edit observed vs) (stands m v is e) rest

  pub is_next : (ms : List Moment) (vs : List SettledLine) → AreSettledLines edit ms vs
      → IsNext edit observed ms (first_to_run edit observed vs)
  is_next [] [] are = All-nil (Stands edit observed)
  is_next [] (v ∷ vs) are = cc
  is_next (m ∷ ms) [] are = absurd are
  is_next (m ∷ ms) (v ∷ vs) are = next_if m ms v vs (must_be_run edit observed v) refl are.0 (is_next ms vs are.1)

  -- ---- the texts before it

  abbrev IsBelow : Option ℕ → ℕ × Noted → Type 0
  IsBelow None text = Unit {0}
  IsBelow (Some n) text = text.0 < n

  not_first : (number : ℕ) (l : ℕ × Noted) (next : Option ℕ) → number ≡ l.0 → Some number ≡ next → IsBelow next l → ⊥
  not_first number l None same e below = none_some number (sym e)
  not_first number l (Some n) same e below =
      let here : number ≡ n = some_same number n e in
      absurd (omega (arith, below, same, here))

  abbrev pub AreStanding : List (ℕ × Noted) → State → State → Type 0
  AreStanding lines s t = All (Stands edit observed) (moments edit lines s t)

  standing_if : (l : ℕ × Noted) (lines : List (ℕ × Noted)) (s t : State) (v : SettledLine) (vs : List SettledLine)
      (next : Option ℕ) (b : Bool) → must_be_run edit observed v ≡ b
      → IsSettledLine edit (record { number = l.0; noted = l.1; recorded = s; repaired = t }) v
      → first_if b v vs ≡ next → IsBelow next l
      → (first_to_run edit observed vs ≡ next → AreStanding lines (line l.1.sid l.1.text s).0 (next_repaired edit l t))
      → AreStanding (l ∷ lines) s t
  standing_if l lines s t v vs next true e is first below rest =
      absurd (not_first v.number l next is.0 first below)
  standing_if l lines s t v vs next false e is first below rest =
      let m : Moment = record { number = l.0; noted = l.1; recorded = s; repaired = t } in
      All-cons (Stands edit observed) m (moments edit lines (line l.1.sid l.1.text s).0 (next_repaired edit l t))
      (stands m v is e) (rest first)

  standing : (lines rest : List (ℕ × Noted)) (s t : State) (vs : List SettledLine) (next : Option ℕ)
      → AreSettledLines edit (moments edit (lines ++ rest) s t) vs → first_to_run edit observed vs ≡ next
      → All (IsBelow next) lines → AreStanding lines s t
  standing [] rest s t vs next are first below = All-nil (Stands edit observed)
  standing (l ∷ lines) rest s t [] next are first below = absurd are
  standing (l ∷ lines) rest s t (v ∷ vs) next are first below =
      standing_if l lines s t v vs next (must_be_run edit observed v) refl are.0 first (All-head (IsBelow next) l lines below)
      (λ e. standing lines rest (line l.1.sid l.1.text s).0 (next_repaired edit l t) vs next are.1 e
      (All-tail (IsBelow next) l lines below))

  -- all texts stand if there is no next one
  pub all_stand : (lines : List (ℕ × Noted)) (s t : State) (vs : List SettledLine)
      → AreSettledLines edit (moments edit lines s t) vs → first_to_run edit observed vs ≡ None
      → AreStanding lines s t
  all_stand lines s t vs are none =
      standing lines [] s t vs None
      (subst (λ ls. AreSettledLines edit (moments edit ls s t) vs) (sym (append-nil lines)) are) none
      (λ k d lt. tt)

  -- those below a number up to the next one do
  up_to : (next : Option ℕ) (n : ℕ) → IsUpTo next n → (text : ℕ × Noted) → text.0 < n → IsBelow next text
  up_to None n h text less = tt
  up_to (Some m) n h text less = omega (arith, h, less)

  pub first_stand : (n : ℕ) (lines rest : List (ℕ × Noted)) (s t : State) (vs : List SettledLine)
      → AreSettledLines edit (moments edit (lines ++ rest) s t) vs → IsUpTo (first_to_run edit observed vs) n
      → All (λ text. text.0 < n) lines → AreStanding lines s t
  first_stand n lines rest s t vs are h less =
      let next = first_to_run edit observed vs in
      standing lines rest s t vs next are refl
      (All-weaker (λ text. text.0 < n) (IsBelow next) (up_to next n h) lines less)

-- ---- for `next_to_run`

-- what is next by edits and numbers that are given in two ways
pub same_next : (edit other : ℕ → Option Edit) (observed named : ℕ → Bool) (vs : List SettledLine)
    → ((n : ℕ) → edit n ≡ other n) → ((n : ℕ) → observed n ≡ named n)
    → first_to_run edit observed vs ≡ first_to_run other named vs
same_next edit other observed named vs same_edit same_number =
    λ i. first_to_run (λ n. same_edit n i) (λ n. same_number n i) vs

pub next_by_notes : (edit : ℕ → Option Edit) (observed : ℕ → Bool) (repair : Repair) (next : Option ℕ)
    → next ≡ next_to_run edit observed repair → (r : RecordingValue) → IsRepair edit r repair
    → IsNext edit observed (moments_of edit r) next
next_by_notes edit observed repair next is r exact =
    subst (IsNext edit observed (moments_of edit r)) (sym is)
    (is_next edit observed (moments_of edit r) repair.lines.items exact.lines_are)
