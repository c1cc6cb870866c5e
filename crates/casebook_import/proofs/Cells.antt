-- Effects with more cells.
use Rattle.std.proofs.Common.{◌≡◌, ◌∙◌, ap, sym, arith, length, List, [], ◌∷◌, Option, Some, None}
use Rattle.std.proofs.Common.{refl, ℕ}
use Rattle.std.specs.FinMap as finmap
use Rattle.std.specs.List.{filter_map}
use Rattle.std.specs.Option.{option_to_list, unwrap_or}
use Rattle.retro_path.specs.Order.{text_cmp}
use Rattle.retro_tree.specs.Session.{default_session, session_in}
use Rattle.retro_tree.specs.declared.cell.Cell.{Cell}
use Rattle.retro_tree.specs.declared.session.Session.{Session}
use Rattle.retro_tree.specs.declared.state.State.{State}
use Rattle.retro_tree.specs.declared.value.Value.{Value}
use Rattle.casebook_stand_in.specs.Effect.{EffectValue}
use Rattle.casebook_import.specs.Effects.{with_cells, with_vars}
use Rattle.casebook_import.specs.Variables.{Vars, changed_var, unset_var}

-- cells don't change whose effect it is
pub same_session : (cs : List (Cell × Value)) (effect : EffectValue)
    → (with_cells cs effect).sid ≡ effect.sid
same_session [] effect = refl
same_session (c ∷ cs) effect = same_session cs _

chosen : {X : Type 0} (f : X → Option (Cell × Value)) (x : X) (xs : List X) (o : Option (Cell × Value))
    → f x ≡ o → (effect : EffectValue)
    → with_cells (filter_map f (x ∷ xs)) effect
    ≡ with_cells (filter_map f xs) (with_cells (option_to_list o) effect)
chosen f x xs None e effect = rw e refl
chosen f x xs (Some cell) e effect = rw e refl

-- the cell that one thing gives, and then those that the others give
pub next_cell : {X : Type 0} (f : X → Option (Cell × Value)) (x : X) (xs : List X)
    → (effect : EffectValue)
    → with_cells (filter_map f (x ∷ xs)) effect
    ≡ with_cells (filter_map f xs) (with_cells (option_to_list (f x)) effect)
next_cell f x xs effect = chosen f x xs (f x) refl effect

-- the variables that changed, and then those that are unset
pub vars_set : (s : State) (new : Vars) (effect one two : EffectValue)
    → one ≡ with_cells (filter_map (changed_var effect.sid (session_in effect.sid s.sessions).vars)
    (finmap.entries new)) effect
    → two ≡ with_cells (filter_map (unset_var one.sid new)
    (finmap.entries (session_in one.sid s.sessions).vars)) one
    → two ≡ with_vars (session_in effect.sid s.sessions).vars new effect
vars_set s new effect one two p q =
    let same : one.sid ≡ effect.sid = ap (λ (e : EffectValue). e.sid) p
    ∙ same_session (filter_map (changed_var effect.sid (session_in effect.sid s.sessions).vars)
    (finmap.entries new)) effect in
    q
    ∙ ap (λ (k : ℕ). with_cells (filter_map (unset_var k new)
    (finmap.entries (session_in k s.sessions).vars)) one) same
    ∙ ap (λ (e : EffectValue). with_cells (filter_map (unset_var effect.sid new)
    (finmap.entries (session_in effect.sid s.sessions).vars)) e) p

no_length : {A : Type 0} (xs : List A) → length xs ≡ 0 → xs ≡ []
no_length [] e = refl
no_length (x ∷ xs) e = absurd (omega arith)

no_entries : (vars : Vars) → vars ≡ finmap.empty → finmap.entries vars ≡ []
no_entries vars none =
    no_length _ (sym (finmap.len-entries vars) ∙ ap finmap.len none ∙ finmap.len-empty text_cmp (List ℕ))

-- a session that doesn't exist has no variables that could be unset
pub no_old_vars : (s : State) (new : Vars) (effect : EffectValue) (sid : ℕ) → sid ≡ effect.sid
    → finmap.get s.sessions sid ≡ None
    → effect ≡ with_cells (filter_map (unset_var effect.sid new)
    (finmap.entries (session_in effect.sid s.sessions).vars)) effect
unfolding default_session
no_old_vars s new effect sid same none =
    let here : finmap.get s.sessions effect.sid ≡ None =
    ap (λ (k : ℕ). finmap.get s.sessions k) (sym same) ∙ none in
    sym (
    ap (λ (o : Option Session). with_cells (filter_map (unset_var effect.sid new)
    (finmap.entries (unwrap_or o default_session).vars)) effect) here
    ∙ ap (λ (es : List (List ℕ × List ℕ)). with_cells (filter_map (unset_var effect.sid new) es) effect)
    (no_entries finmap.empty refl)
    )
