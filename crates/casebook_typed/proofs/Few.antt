-- What the sights of named paths alone show is what all sights show.
use Rattle.std.proofs.Common.{◌≡◌, ◌∙◌, Bool, true, false, cond, ◌&&◌, ◌||◌, List, [], ◌∷◌, ◌++◌, map}
use Rattle.std.proofs.Common.{Option, Some, None, is_none, is_some, refl, sym, ap}
use Rattle.std.specs.BTreeSet.{BTreeSet}
use Rattle.std.specs.FinMap as finmap
use Rattle.std.specs.List.{list_any}
use Rattle.std.specs.List.Sorted.{IsStrictlySortedBy}
use Rattle.std.proofs.lemmas.Bool.{false≢true}
use Rattle.std.proofs.lemmas.List.{map-append}
use Rattle.std.proofs.lemmas.Map.Lookups.{btree_set_from_contains}
use Rattle.retro_path.specs.Order.{path_cmp, path_eq, path_equiv, path_exact, path_ties, path_total}
use Rattle.retro_path.specs.Path.{PathValue}
use Rattle.casebook_watch.specs.Delta.{after_changes, with_change, with_sight}
use Rattle.casebook_watch.specs.Seen.{gone_paths, is_changed, is_listed, is_read, passes, paths_where}
use Rattle.casebook_watch.specs.Sights.{Sights}
use Rattle.casebook_watch.specs.declared.sight.Sight.{Sight}
use Rattle.casebook_watch.specs.declared.sight_change.SightChange.{SightChange}
use Rattle.casebook_watch.proofs.Looks.{gone_exactly, named_exactly, nothing_changed, nothing_listed, nothing_read, sorted_gone, sorted_paths}
use Rattle.casebook_spool.specs.declared.note.Note.{Note}
use Rattle.casebook_typed.specs.Looks.{ChangeValue, SeenValue, change_at, changed_paths, changes_in, content_in, seen_by, sights_of_look}
use Rattle.casebook_typed.specs.inner.Few.{change_here, content_of, is_named}
use Rattle.casebook_typed.specs.declared.seen.Contents.{Contents}
use Rattle.casebook_typed.proofs.NotesSoFar.{HasNamed}

-- ---- what changes leave at a path

changed_at : (m : Sights) (p : PathValue) (x : Option Sight) (q : PathValue)
    → finmap.get (with_sight p x m) q ≡ cond (path_eq q p) x (finmap.get m q)
changed_at m p None q =
    finmap.get-remove path_total m p q
    ∙ ap (λ b. cond b None (finmap.get m q)) (sym (path_ties q p))
changed_at m p (Some s) q =
    finmap.get-insert path_total m p s q
    ∙ ap (λ b. cond b (Some s) (finmap.get m q)) (sym (path_ties q p))

pub congruent : (cs : List SightChange) (m n : Sights) (p : PathValue) → finmap.get m p ≡ finmap.get n p
    → finmap.get (after_changes m cs) p ≡ finmap.get (after_changes n cs) p
congruent [] m n p e = e
congruent (c ∷ cs) m n p e =
    congruent cs (with_change m c) (with_change n c) p (changed_at m c.path c.sight p
    ∙ ap (cond (path_eq p c.path) c.sight) e ∙ sym (changed_at n c.path c.sight p))

left_false : (a b : Bool) → (a || b) ≡ false → a ≡ false
left_false true b e = absurd (false≢true (sym e))
left_false false b e = refl

right_false : (a b : Bool) → (a || b) ≡ false → b ≡ false
right_false true b e = absurd (false≢true (sym e))
right_false false b e = e

pub untouched : (cs : List SightChange) (m : Sights) (p : PathValue) → is_named p cs ≡ false
    → finmap.get (after_changes m cs) p ≡ finmap.get m p
untouched [] m p e = refl
untouched (c ∷ cs) m p e =
    untouched cs (with_change m c) p (right_false (path_eq p c.path) (is_named p cs) e)
    ∙ changed_at m c.path c.sight p
    ∙ ap (λ b. cond b c.sight (finmap.get m p)) (left_false (path_eq p c.path) (is_named p cs) e)

-- ---- named paths

here : (few before : Sights) (cs : List SightChange) (p : PathValue) (b : Bool) → HasNamed few before cs
    → is_named p cs ≡ b → finmap.get few p ≡ cond b (finmap.get before p) None
here few before cs p b has e = has p ∙ ap (λ c. cond c (finmap.get before p) None) e

-- ---- lists of paths

pub same_lists : (xs ys : List PathValue) → IsStrictlySortedBy path_cmp xs → IsStrictlySortedBy path_cmp ys
    → ((p : PathValue) → list_any (path_eq p) xs ≡ list_any (path_eq p) ys) → xs ≡ ys
same_lists xs ys sx sy is =
    let s : BTreeSet PathValue = record { keys = xs } in
    let t : BTreeSet PathValue = record { keys = ys } in
    btree_set_from_contains path_total s t sx sy
    (λ p. (λ i. list_any (λ k. sym (path_ties p k) i) xs) ∙ is p ∙ (λ i. list_any (λ k. path_ties p k i) ys)) path_exact

never : (test : Option Sight → Sight → Bool) → ((s : Sights) → paths_where test s s ≡ [])
    → (m : Sights) (p : PathValue) → passes test (finmap.get m p) (finmap.get m p) ≡ false
never test nothing m p = sym (named_exactly test m m p) ∙ ap (list_any (path_eq p)) (nothing m)

some_and_none : (x : Option Sight) → (is_some x && is_none x) ≡ false
some_and_none None = refl
some_and_none (Some s) = refl

module _ (few small after before : Sights) (cs : List SightChange) (named : HasNamed few before cs) (also : HasNamed small before cs)
    (is : after ≡ after_changes small cs) where
  same_after : (p : PathValue) → is_named p cs ≡ true → finmap.get after p ≡ finmap.get (after_changes before cs) p
  same_after p e = ap (λ m. finmap.get m p) is ∙ congruent cs small before p (here small before cs p true also e)

  none_after : (p : PathValue) → is_named p cs ≡ false → finmap.get after p ≡ None
  none_after p e = ap (λ m. finmap.get m p) is ∙ untouched cs small p e ∙ here small before cs p false also e

  member : (f : Option Sight → Option Sight → Bool) → f None None ≡ false
      → ((p : PathValue) → f (finmap.get before p) (finmap.get before p) ≡ false)
      → (p : PathValue) → f (finmap.get few p) (finmap.get after p) ≡ f (finmap.get before p) (finmap.get (after_changes before cs) p)
  member f empty same p =
      elim (is_named p cs) as (λ b. is_named p cs ≡ b → f (finmap.get few p) (finmap.get after p)
      ≡ f (finmap.get before p) (finmap.get (after_changes before cs) p)) [
        | true ↦ λ e. λ i. f (here few before cs p true named e i) (same_after p e i)
        | false ↦ λ e. (λ i. f (here few before cs p false named e i) (none_after p e i)) ∙ empty
            ∙ sym (same p) ∙ ap (f (finmap.get before p)) (sym (untouched cs before p e))
      ] refl

  -- a path that passes is named
  is_member : (f : Option Sight → Option Sight → Bool) → f None None ≡ false → (p : PathValue)
      → f (finmap.get few p) (finmap.get after p) ≡ true → is_named p cs ≡ true
  is_member f empty p so =
      elim (is_named p cs) as (λ b. is_named p cs ≡ b → b ≡ true) [
        | true ↦ λ e. refl
        | false ↦ λ e. absurd (false≢true (sym empty
            ∙ (λ i. f (sym (here few before cs p false named e) i) (sym (none_after p e) i)) ∙ so))
      ] refl

  pub same_paths : (test : Option Sight → Sight → Bool) → ((s : Sights) → paths_where test s s ≡ [])
      → paths_where test few after ≡ paths_where test before (after_changes before cs)
  same_paths test nothing =
      same_lists _ _ (sorted_paths test few after) (sorted_paths test before (after_changes before cs))
      (λ p. named_exactly test few after p ∙ member (passes test) refl (never test nothing before) p
      ∙ sym (named_exactly test before (after_changes before cs) p))

  gone : Option Sight → Option Sight → Bool
  gone x y = is_some x && is_none y

  pub same_gone : gone_paths few after ≡ gone_paths before (after_changes before cs)
  unfolding gone
  same_gone =
      same_lists _ _ (sorted_gone few after) (sorted_gone before (after_changes before cs))
      (λ p. gone_exactly few after p ∙ member gone refl (λ q. some_and_none (finmap.get before q)) p
      ∙ sym (gone_exactly before (after_changes before cs) p))

  pub changed_named : (p : PathValue) → list_any (path_eq p) (paths_where is_changed few after) ≡ true
      → finmap.get after p ≡ finmap.get (after_changes before cs) p
  changed_named p e = same_after p (is_member (passes is_changed) refl p (sym (named_exactly is_changed few after p) ∙ e))

  pub gone_named : (p : PathValue) → list_any (path_eq p) (gone_paths few after) ≡ true
      → finmap.get after p ≡ finmap.get (after_changes before cs) p
  unfolding gone
  gone_named p e = same_after p (is_member gone refl p (sym (gone_exactly few after p) ∙ e))

or_true : (a b : Bool) → b ≡ true → (a || b) ≡ true
or_true true b e = refl
or_true false b e = e

map_on : {V : Type 0} (f g : PathValue → V) (xs : List PathValue)
    → ((p : PathValue) → list_any (path_eq p) xs ≡ true → f p ≡ g p) → map f xs ≡ map g xs
map_on f g [] h = refl
map_on f g (x ∷ xs) h = λ i.
    h x (ap (λ b. b || list_any (path_eq x) xs) (path_equiv.refl x)) i
    ∷ map_on f g xs (λ p e. h p (or_true (path_eq p x) (list_any (path_eq p) xs) e)) i

here_is : (after whole : Sights) (contents : Contents) (noted : List Note) (p : PathValue)
    → finmap.get after p ≡ finmap.get whole p → content_of contents p ≡ content_in noted p
    → change_here after contents p ≡ change_at whole noted p
here_is after whole contents noted p e h = λ i. record { path = p; sight = e i; content = h i }

-- what the sights of named paths show
pub all_seen : (few small after before : Sights) (noted : List Note) (contents : Contents) (changes : List ChangeValue) (read listed : List PathValue)
    → HasNamed few before (changes_in noted) → HasNamed small before (changes_in noted)
    → after ≡ after_changes small (changes_in noted)
    → ((p : PathValue) → content_of contents p ≡ content_in noted p)
    → changes ≡ map (change_here after contents) (paths_where is_changed few after) ++ map (change_here after contents) (gone_paths few after)
    → read ≡ paths_where is_read few after → listed ≡ paths_where is_listed few after
    → (let v : SeenValue = record { changes = changes; read = read; listed = listed } in v) ≡ seen_by before noted
all_seen few small after before noted contents changes read listed named also is held changed were_read were_listed =
    let whole : Sights = sights_of_look before noted in
    let there : changes ≡ map (change_at whole noted) (changed_paths before whole) =
    changed
    ∙ (λ i. map_on (change_here after contents) (change_at whole noted) (paths_where is_changed few after)
    (λ p e. here_is after whole contents noted p (changed_named few small after before (changes_in noted) named also is p e) (held p)) i
    ++ map_on (change_here after contents) (change_at whole noted) (gone_paths few after)
    (λ p e. here_is after whole contents noted p (gone_named few small after before (changes_in noted) named also is p e) (held p)) i)
    ∙ sym (map-append (change_at whole noted) (paths_where is_changed few after) (gone_paths few after))
    ∙ (λ i. map (change_at whole noted) (same_paths few small after before (changes_in noted) named also is is_changed nothing_changed i
    ++ same_gone few small after before (changes_in noted) named also is i)) in
    λ i. record {
      changes = there i;
      read = (were_read ∙ same_paths few small after before (changes_in noted) named also is is_read nothing_read) i;
      listed = (were_listed ∙ same_paths few small after before (changes_in noted) named also is is_listed nothing_listed) i;
    }
