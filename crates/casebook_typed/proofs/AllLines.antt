-- The lines of observations, one after the other.
use Rattle.std.proofs.Common.{◌≡◌, ◌∙◌, ℕ, suc, ◌+◌, ◌-◌, ◌<◌, ◌≤◌, List, [], ◌∷◌, ◌++◌, get_or, length, map, flat_map, take, drop, refl, sym, ap, subst}
use Rattle.std.proofs.Math.Numerals.{add-one}
use Rattle.std.proofs.Math.Seq.{drop-cons}
use Rattle.std.proofs.lemmas.Grind.{flat_map-append}
use Rattle.std.proofs.lemmas.List.{append-nil, append_assoc, drop_all, get_or-map, length-map, take_more}
use Rattle.casebook_watch.specs.Sights.{Sights}
use Rattle.casebook_spool.specs.After.{after_items, after_notes, with_note}
use Rattle.casebook_spool.specs.declared.item.Item.{Item}
use Rattle.casebook_spool.specs.declared.item.Item.TheVariants as items
use Rattle.casebook_spool.specs.declared.note.Note.{Note}
use Rattle.casebook_typed.specs.Lines.{LineValue, active_in, lines_after, lines_at, lines_from, lines_in, records_of, sights_before}
use Rattle.casebook_typed.specs.Looks.{SeenValue, seen_by}
use Rattle.casebook_typed.specs.Missing.{begun_in, missing_in, recorded_in}
use Rattle.casebook_typed.specs.Observations.{Observed, notes_in, observations}
use Rattle.casebook_typed.specs.Sessions.{SessionValue, session_in, session_names, sessions_of, step_in, steps_of}
use Rattle.casebook_typed.specs.Spans.{active_at, spans_of}
use Rattle.casebook_typed.specs.inner.Lists.{list_at}
use Rattle.casebook_typed.specs.Seeing.{observed, said}
use Rattle.casebook_typed.specs.declared.observation.Observation.{Observation}
use Rattle.casebook_typed.specs.declared.span.Span.{Span}
use Rattle.casebook_typed.specs.declared.step.Step.{Step}
use Rattle.std.specs.Global.{Vec}

pub same_records : (os : List Observation) → map said os ≡ records_of (map observed os)
same_records [] = refl
same_records (o ∷ os) = ap (λ rs. said o ∷ rs) (same_records os)

pub items_are_notes : (xs : List Item) (s : Sights) → after_items s xs ≡ after_notes s (notes_in xs)
items_are_notes [] s = refl
items_are_notes (items.Note n ∷ xs) s = items_are_notes xs (with_note s n)
items_are_notes (items.Record r ∷ xs) s = items_are_notes xs s

pub notes_after_notes : (ns ms : List Note) (s : Sights) → after_notes s (ns ++ ms) ≡ after_notes (after_notes s ns) ms
notes_after_notes [] ms s = refl
notes_after_notes (n ∷ ns) ms s = notes_after_notes ns ms (with_note s n)

there : (os : List Observation) (at : ℕ) (o d : Observation) → at < length os → o ≡ get_or os at d
    → get_or (map observed os) at (observed o) ≡ observed o
there os at o d h is = get_or-map observed os at d (observed o) h ∙ ap observed (sym is)

took : (os : List Observation) (at : ℕ) (o d : Observation) → at < length os → o ≡ get_or os at d
    → take (at + 1) (map observed os) ≡ take at (map observed os) ++ observed o ∷ []
took os at o d h is =
    take_more (map observed os) at (observed o) (rw length-map h)
    ∙ ap (λ y. take at (map observed os) ++ y ∷ []) (there os at o d h is)

left : (os : List Observation) (at : ℕ) (o d : Observation) → at < length os → o ≡ get_or os at d
    → drop at (map observed os) ≡ observed o ∷ drop (at + 1) (map observed os)
left os at o d h is =
    drop-cons (map observed os) at (observed o) (rw length-map h)
    ∙ ap (λ y. y ∷ drop (suc at) (map observed os)) (there os at o d h is)
    ∙ ap (λ n. observed o ∷ drop n (map observed os)) (sym (add-one at))

pub next_sights : (first now next : Sights) (os : List Observation) (at : ℕ) (o d : Observation) → at < length os → o ≡ get_or os at d
    → now ≡ sights_before first (map observed os) at → next ≡ after_items now o.notes.now
    → next ≡ sights_before first (map observed os) (at + 1)
next_sights first now next os at o d h is before makes =
    makes ∙ items_are_notes o.notes.now now
    ∙ ap (λ s. after_notes s (notes_in o.notes.now)) before
    ∙ sym (notes_after_notes (flat_map (λ (x : Observed). x.noted) (take at (map observed os))) (notes_in o.notes.now) first)
    ∙ ap (λ ns. after_notes first (flat_map (λ (x : Observed). x.noted) (take at (map observed os)) ++ ns)) (sym (append-nil (notes_in o.notes.now)))
    ∙ ap (after_notes first) (sym (flat_map-append (λ (x : Observed). x.noted) (take at (map observed os)) (observed o ∷ [])))
    ∙ ap (λ xs. after_notes first (flat_map (λ (x : Observed). x.noted) xs)) (sym (took os at o d h is))

pub next_lines : (first now : Sights) (os : List Observation) (at : ℕ) (o d : Observation) (done more all : List LineValue)
    (active : List Span) (seen : SeenValue) → at < length os → o ≡ get_or os at d
    → now ≡ sights_before first (map observed os) at → active ≡ active_in (map observed os) at
    → seen ≡ seen_by now (notes_in o.notes.now)
    → more ≡ done ++ lines_at (map said os) at o.record.now active seen
    → done ++ lines_from first (map observed os) at (drop at (map observed os)) ≡ all
    → more ++ lines_from first (map observed os) (at + 1) (drop (at + 1) (map observed os)) ≡ all
next_lines first now os at o d done more all active seen h is before opened shown grows so =
    ap (λ xs. xs ++ lines_from first (map observed os) (at + 1) (drop (at + 1) (map observed os))) (grows
    ∙ (λ i. done ++ lines_at (same_records os i) at o.record.now (opened i)
    ((shown ∙ ap (λ s. seen_by s (notes_in o.notes.now)) before) i)))
    ∙ append_assoc done (lines_in first (map observed os) at (observed o)) _
    ∙ ap (λ xs. done ++ lines_from first (map observed os) at xs) (sym (left os at o d h is))
    ∙ so

pub no_lines_left : (first : Sights) (os : List Observation) (at : ℕ) (done : List LineValue) → length os ≤ at
    → done ++ lines_from first (map observed os) at (drop at (map observed os)) ≡ lines_from first (map observed os) 0 (map observed os)
    → done ≡ lines_after first (map observed os)
unfolding lines_after
no_lines_left first os at done h so =
    sym (append-nil done)
    ∙ ap (λ xs. done ++ lines_from first (map observed os) at xs) (sym (drop_all at (map observed os) (rw length-map h)))
    ∙ so

-- ---- what the steps before are of

pub listed_at : (lists : List (Vec Span)) (at : ℕ) (v d : Vec Span) → at < length lists → v ≡ get_or lists at d
    → list_at lists at ≡ v.items
listed_at lists at v d h is =
    get_or-map (λ (w : Vec Span). w.items) lists at d [] h ∙ ap (λ (w : Vec Span). w.items) (sym is)

pub steps_are : (said_items : List Item) (os os1 os2 : List Observation) (ns : List (List ℕ)) (steps : List Step)
    → map observed os ≡ observations said_items → os1 ≡ os → os2 ≡ os → ns ≡ session_names (map said os1)
    → steps ≡ map (step_in ns) (map said os2)
    → steps ≡ steps_of (records_of (observations said_items))
steps_are said_items os os1 os2 ns steps all one two names is =
    is
    ∙ (λ i. map (step_in ((names ∙ ap (λ xs. session_names (map said xs)) one) i)) (map said (two i)))
    ∙ ap steps_of (same_records os ∙ ap records_of all)

pub sessions_are : (said_items : List Item) (os os1 os7 : List Observation) (ns : List (List ℕ)) (sessions : List SessionValue)
    → map observed os ≡ observations said_items → os1 ≡ os → os7 ≡ os → ns ≡ session_names (map said os1)
    → sessions ≡ map (session_in ns (map said os7)) ns
    → sessions ≡ sessions_of (records_of (observations said_items))
sessions_are said_items os os1 os7 ns sessions all one seven names is =
    let named : ns ≡ session_names (map said os) = names ∙ ap (λ xs. session_names (map said xs)) one in
    is
    ∙ (λ i. map (session_in (named i) (map said (seven i))) (named i))
    ∙ ap sessions_of (same_records os ∙ ap records_of all)

pub missing_are : (os os1 os2 os9 : List Observation) (ns : List (List ℕ)) (steps s4 s7 : List Step) (spans s8 : List Span)
    (number : ℕ → ℕ)
    → os1 ≡ os → os2 ≡ os → os9 ≡ os → ns ≡ session_names (map said os1) → steps ≡ map (step_in ns) (map said os2)
    → s4 ≡ steps → s7 ≡ steps → spans ≡ spans_of s4 → s8 ≡ spans
    → ((s : ℕ) → number s ≡ begun_in s s7 - recorded_in s s8)
    → (s : ℕ) → number s ≡ missing_in (steps_of (map said os9)) s
missing_are os os1 os2 os9 ns steps s4 s7 spans s8 number one two nine names is four seven spanned eight counted s =
    let named : ns ≡ session_names (map said os9) = names ∙ ap (λ xs. session_names (map said xs)) (one ∙ sym nine) in
    let whole : steps ≡ steps_of (map said os9) = is ∙ (λ i. map (step_in (named i)) (map said ((two ∙ sym nine) i))) in
    let lines : s8 ≡ spans_of (steps_of (map said os9)) = eight ∙ spanned ∙ ap spans_of (four ∙ whole) in
    counted s ∙ (λ i. begun_in s ((seven ∙ whole) i) - recorded_in s (lines i))

pub active_are : (os os8 : List Observation) (steps s4 s5 : List Step) (spans s6 : List Span) (lists s9 : List (Vec Span))
    → steps ≡ steps_of (records_of (map observed os)) → os8 ≡ os → s4 ≡ steps → s5 ≡ steps → spans ≡ spans_of s4 → s6 ≡ spans
    → s9 ≡ lists → length s5 ≡ length os
    → ((at : ℕ) → at < length s5 → list_at lists at ≡ active_at s5 s6 at)
    → (at : ℕ) → at < length os8 → list_at s9 at ≡ active_in (map observed os8) at
active_are os os8 steps s4 s5 spans s6 lists s9 are eight four five spanned six nine long each at h =
    let whole : s5 ≡ steps_of (records_of (map observed os)) = five ∙ are in
    let lines : s6 ≡ spans_of (steps_of (records_of (map observed os))) = six ∙ spanned ∙ ap spans_of (four ∙ are) in
    ap (λ xs. list_at xs at) nine
    ∙ each at (subst (λ n. at < n) (ap length eight ∙ sym long) h)
    ∙ (λ i. active_at (whole i) (lines i) at)
    ∙ ap (λ xs. active_in (map observed xs) at) (sym eight)
