-- Notes from the newest to the oldest, and from the oldest to the newest.
use Rattle.std.proofs.Common.{◌≡◌, ◌↔◌, ℕ, Bool, true, List, [], ◌∷◌, ◌++◌, Option, Some, None, reverse}
use Rattle.std.proofs.Common.{refl, ap, sym, subst, ◌∙◌}
use Rattle.std.proofs.lemmas.List.{reverse-append, reverse-reverse}
use Rattle.std.specs.Prelude.{◌==◌}
use Rattle.std.specs.List.{list_all}
use Rattle.std.specs.FinMap as map
use Rattle.std.proofs.lemmas.Bool.{eqb-true}
use Rattle.retro_tree.specs.Ask.{answer}
use Rattle.retro_tree.specs.Change.{apply, has_its_session, IsLawfulChange}
use Rattle.retro_tree.specs.Lawful.{IsLawful}
use Rattle.retro_tree.specs.Notes.{after, Holds, AllAllowed}
use Rattle.retro_tree.specs.declared.change.Change.{Change}
use Rattle.retro_tree.specs.declared.change.Change.TheVariants as changes
use Rattle.retro_tree.specs.declared.note.Note.{Note}
use Rattle.retro_tree.specs.declared.note.Note.TheVariants.{Asked, Made}
use Rattle.retro_tree.specs.declared.state.State.{State}
use Rattle.retro_tree.proofs.Allowed.{sound}
use Rattle.retro_tree.proofs.MayMake.{session_stays}
use Rattle.retro_tree.proofs.Small.{and_true, both_true, first_true}
use Rattle.retro_tree.proofs.NoteLaws.{after_append, holds_append, allowed_append}
use Rattle.retro_local.specs.Trace.{reached, AllHold, AllPass, KeepsLaw, IsOwn}
use Rattle.retro_local.specs.Trace.{asked_session, changed_session, named_sessions, with_session}
use Rattle.retro_local.proofs.Noting.{lawful_reached, stays_lawful}

reverse_cons : (n : Note) (notes : List Note) → reverse (n ∷ notes) ≡ reverse notes ++ n ∷ []
reverse_cons n notes = reverse-append (n ∷ []) notes

-- ---- by the notes from the newest to the oldest
reached_reverse : (notes : List Note) (s : State) → after (reverse notes) s ≡ reached notes s
reached_reverse [] s = refl
reached_reverse (Asked a r ∷ notes) s =
    ap (λ x. after x s) (reverse_cons (Asked a r) notes) ∙ after_append (reverse notes) (Asked a r ∷ []) s
    ∙ reached_reverse notes s
reached_reverse (Made c ∷ notes) s =
    ap (λ x. after x s) (reverse_cons (Made c) notes) ∙ after_append (reverse notes) (Made c ∷ []) s
    ∙ ap (apply c) (reached_reverse notes s)

holds_reverse : (notes : List Note) (s : State) → Holds (reverse notes) s ↔ AllHold notes s
holds_reverse [] s = (λ h. h, λ h. h)
holds_reverse (Asked a r ∷ notes) s =
    rw (reverse_cons (Asked a r) notes)
    (let both = holds_append (reverse notes) (Asked a r ∷ []) s in
    let rest = holds_reverse notes s in
    let same = ap (answer a) (reached_reverse notes s) in (
      λ h. (rest.0 (both.0 h).0, sym same ∙ (both.0 h).1.0),
      λ h. both.1 (rest.1 h.0, (same ∙ h.1, tt)),
    ))
holds_reverse (Made c ∷ notes) s =
    rw (reverse_cons (Made c) notes)
    (let both = holds_append (reverse notes) (Made c ∷ []) s in
    let rest = holds_reverse notes s in
    (λ h. rest.0 (both.0 h).0, λ h. both.1 (rest.1 h, tt)))

-- the sessions that notes name, whichever order they are in
abbrev owns : ℕ → List ℕ → Bool
owns sid sids = list_all (λ k. k == sid) sids

owns_both : (sid : ℕ) (named : Option ℕ) (sids : List ℕ) → owns sid (with_session named sids) ≡ true
    → owns sid sids ≡ true
owns_both sid None sids h = h
owns_both sid (Some k) sids h = both_true (k == sid) _ h

owns_same : (sid : ℕ) (named : Option ℕ) (xs ys : List ℕ) → owns sid (with_session named xs) ≡ true
    → owns sid ys ≡ true → owns sid (with_session named ys) ≡ true
owns_same sid None xs ys h own = own
owns_same sid (Some k) xs ys h own = and_true _ _ (first_true (k == sid) _ h) own

own_append : (sid : ℕ) (xs ys : List Note) → IsOwn sid xs → IsOwn sid ys → IsOwn sid (xs ++ ys)
unfolding named_sessions
own_append sid [] ys h k = k
own_append sid (Asked a r ∷ xs) ys h k =
    owns_same sid (asked_session a) (named_sessions xs) (named_sessions (xs ++ ys)) h
    (own_append sid xs ys (owns_both sid (asked_session a) (named_sessions xs) h) k)
own_append sid (Made c ∷ xs) ys h k =
    owns_same sid (changed_session c) (named_sessions xs) (named_sessions (xs ++ ys)) h
    (own_append sid xs ys (owns_both sid (changed_session c) (named_sessions xs) h) k)

own_reverse : (sid : ℕ) (notes : List Note) → IsOwn sid notes → IsOwn sid (reverse notes)
unfolding named_sessions
own_reverse sid [] h = h
own_reverse sid (Asked a r ∷ notes) h =
    rw (reverse_cons (Asked a r) notes)
    (own_append sid (reverse notes) (Asked a r ∷ [])
    (own_reverse sid notes (owns_both sid (asked_session a) (named_sessions notes) h))
    (owns_same sid (asked_session a) (named_sessions notes) [] h refl))
own_reverse sid (Made c ∷ notes) h =
    rw (reverse_cons (Made c) notes)
    (own_append sid (reverse notes) (Made c ∷ [])
    (own_reverse sid notes (owns_both sid (changed_session c) (named_sessions notes) h))
    (owns_same sid (changed_session c) (named_sessions notes) [] h refl))

-- a session that exists still does
sessions_stay : (notes : List Note) (s : State) (sid : ℕ) → map.contains_key s.sessions sid ≡ true
    → map.contains_key (reached notes s).sessions sid ≡ true
sessions_stay [] s sid h = h
sessions_stay (Asked a r ∷ notes) s sid h = sessions_stay notes s sid h
sessions_stay (Made c ∷ notes) s sid h = session_stays c (reached notes s) sid (sessions_stay notes s sid h)

named_session : (sid k : ℕ) (sids : List ℕ) (s : State) → owns sid (k ∷ sids) ≡ true
    → map.contains_key s.sessions sid ≡ true → map.contains_key s.sessions k ≡ true
named_session sid k sids s own h = ap (map.contains_key s.sessions) (eqb-true k sid (first_true (k == sid) _ own)) ∙ h

own_session : (sid : ℕ) (c : Change) (sids : List ℕ) (s : State)
    → owns sid (with_session (changed_session c) sids) ≡ true
    → map.contains_key s.sessions sid ≡ true → has_its_session c s ≡ true
own_session sid (changes.Put p node) sids s own h = refl
own_session sid (changes.Grow p bytes) sids s own h = refl
own_session sid (changes.SetVar k name text) sids s own h = named_session sid k sids s own h
own_session sid (changes.SetCwd k p) sids s own h = named_session sid k sids s own h
own_session sid (changes.SetStatus k status) sids s own h = named_session sid k sids s own h

-- changes that pass, of a session that exists, are lawful where they are made
allowed_reverse : (sid : ℕ) (notes : List Note) (s : State) → IsLawful s → map.contains_key s.sessions sid ≡ true
    → IsOwn sid notes → AllPass notes s → AllAllowed (reverse notes) s
unfolding named_sessions
allowed_reverse sid [] s l there own pass = tt
allowed_reverse sid (Asked a r ∷ notes) s l there own pass =
    let rest = allowed_reverse sid notes s l there (owns_both sid (asked_session a) (named_sessions notes) own) pass in
    rw (reverse_cons (Asked a r) notes) ((allowed_append (reverse notes) (Asked a r ∷ []) s).1 (rest, tt))
allowed_reverse sid (Made c ∷ notes) s l there own pass =
    let owned = owns_both sid (changed_session c) (named_sessions notes) own in
    let rest = allowed_reverse sid notes s l there owned pass.0 in
    let session = own_session sid c (named_sessions notes) (reached notes s) own (sessions_stay notes s sid there) in
    let lawful = sound c (reached notes s) (lawful_reached notes s l pass.0) session pass.1 in
    rw (reverse_cons (Made c) notes)
    ((allowed_append (reverse notes) (Made c ∷ []) s).1
    (rest, (subst (IsLawfulChange c) (sym (reached_reverse notes s)) lawful, tt)))

-- ---- by the notes from the oldest to the newest, as `into_notes` has them
pub after_is_reached : (notes : List Note) (s : State) → after notes s ≡ reached (reverse notes) s
after_is_reached notes s = ap (λ x. after x s) (sym (reverse-reverse notes)) ∙ reached_reverse (reverse notes) s

pub holds_is_all : (notes : List Note) (s : State) → Holds notes s ↔ AllHold (reverse notes) s
holds_is_all notes s =
    subst (λ x. Holds x s ↔ AllHold (reverse notes) s) (reverse-reverse notes) (holds_reverse (reverse notes) s)

pub holds_in_order : (notes : List Note) (s : State) → AllHold (reverse notes) s → Holds notes s
holds_in_order notes s h = (holds_is_all notes s).1 h

pub own_in_order : (sid : ℕ) (notes : List Note) → IsOwn sid (reverse notes) → IsOwn sid notes
own_in_order sid notes h = subst (IsOwn sid) (reverse-reverse notes) (own_reverse sid (reverse notes) h)

pub lawful_in_order : (notes : List Note) → KeepsLaw (reverse notes) → (s : State) → IsLawful s → Holds notes s
    → IsLawful (after notes s)
lawful_in_order notes law s l h =
    rw (after_is_reached notes s) (stays_lawful (reverse notes) law s l ((holds_is_all notes s).0 h))

pub allowed_in_order : (sid : ℕ) (notes : List Note) → KeepsLaw (reverse notes) → IsOwn sid (reverse notes)
    → (s : State) → IsLawful s → map.contains_key s.sessions sid ≡ true → Holds notes s → AllAllowed notes s
allowed_in_order sid notes law own s l there h =
    subst (λ x. AllAllowed x s) (reverse-reverse notes)
    (allowed_reverse sid (reverse notes) s l there own (law s l ((holds_is_all notes s).0 h)))

pub ruleset both_orders =
    (holds_in_order, lawful_in_order, allowed_in_order, own_in_order, after_is_reached, holds_is_all)
