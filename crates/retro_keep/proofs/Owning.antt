-- The sessions that notes name, note by note.
use Rattle.std.proofs.Common.{◌≡◌, ℕ, ◌+◌, ◌<◌, ◌≤◌, ◌&&◌, ◌==◌, Bool, true, false, List, [], ◌∷◌, Option, Some, None}
use Rattle.std.proofs.Common.{drop, get_or, length, refl, sym, ap, ◌∙◌, subst}
use Rattle.std.proofs.Math.ListN.{drop_of_length-le}
use Rattle.std.proofs.lemmas.List.{drop_more}
use Rattle.std.specs.List.{list_all}
use Rattle.retro_tree.specs.declared.note.Note.{Note}
use Rattle.retro_tree.specs.declared.note.Note.TheVariants.{Asked, Made}
use Rattle.retro_local.specs.Trace.{asked_session, changed_session, named_sessions, with_session}
use Rattle.retro_keep.specs.Recording.{are_own}

-- one more session
named_more : (sid : ℕ) (named : Option ℕ) (sids : List ℕ)
    → list_all (λ k. k == sid) (with_session named sids)
    ≡ (list_all (λ k. k == sid) (with_session named []) && list_all (λ k. k == sid) sids)
named_more sid None sids = refl
named_more sid (Some k) sids = by_test (k == sid)
  where
    by_test : (b : Bool) → (b && list_all (λ k. k == sid) sids) ≡ ((b && true) && list_all (λ k. k == sid) sids)
    by_test true = refl
    by_test false = refl

-- notes name no session but one if the first doesn't and the others don't
own_cons : (sid : ℕ) (note : Note) (notes : List Note)
    → are_own sid (note ∷ notes) ≡ (are_own sid (note ∷ []) && are_own sid notes)
unfolding named_sessions
own_cons sid (Asked a r) notes = named_more sid (asked_session a) (named_sessions notes)
own_cons sid (Made c) notes = named_more sid (changed_session c) (named_sessions notes)

-- ---- a loop over notes, which are given as the items of a slice

module _ (sid : ℕ) (items notes : List Note) (same : items ≡ notes) (i : ℕ) (total : Bool)
    (so_far : are_own sid (drop i notes) ≡ total) where
  at_note : (d : Note) → i < length items → d ≡ get_or items i d
      → (are_own sid (d ∷ []) && are_own sid (drop (i + 1) notes)) ≡ total
  at_note d lt is =
      let here : drop i notes ≡ d ∷ drop (i + 1) notes =
      subst (λ ns. drop i ns ≡ d ∷ drop (i + 1) ns) same (drop_more items i d lt
      ∙ ap (λ (k : Note). k ∷ drop (i + 1) items) (sym is)) in
      sym (own_cons sid d (drop (i + 1) notes)) ∙ ap (are_own sid) (sym here) ∙ so_far

  pub own_next : (d : Note) → i < length items → d ≡ get_or items i d → are_own sid (d ∷ []) ≡ true
      → are_own sid (drop (i + 1) notes) ≡ total
  own_next d lt is own = ap (λ b. b && are_own sid (drop (i + 1) notes)) (sym own) ∙ at_note d lt is

  pub own_stops : (d : Note) → i < length items → d ≡ get_or items i d → are_own sid (d ∷ []) ≡ false
      → false ≡ total
  own_stops d lt is other = ap (λ b. b && are_own sid (drop (i + 1) notes)) (sym other) ∙ at_note d lt is

  pub own_ends : length items ≤ i → true ≡ total
  unfolding named_sessions
  own_ends le =
      let none : drop i notes ≡ [] = subst (λ ns. drop i ns ≡ []) same (drop_of_length-le items le) in
      ap (are_own sid) (sym none) ∙ so_far
