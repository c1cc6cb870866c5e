-- What notes say, with one more.
use Rattle.std.proofs.Common.{◌≡◌, ◌∙◌, ℕ, ◌+◌, ◌<◌, ◌||◌, Bool, true, false, cond, List, [], ◌∷◌, ◌++◌, get_or, length, take, Bor}
use Rattle.std.proofs.Common.{Option, Some, None, is_none, is_some, not, refl, sym, ap, subst}
use Rattle.std.specs.Prelude.{option_map}
use Rattle.std.specs.FinMap as finmap
use Rattle.std.specs.Option.{option_or}
use Rattle.std.specs.Ordering.{is_eq}
use Rattle.std.specs.declared.cmp.Ordering.{Ordering}
use Rattle.std.specs.declared.cmp.Ordering.TheVariants.{Less, Equal, Greater}
use Rattle.std.proofs.lemmas.Bool.{false≢true}
use Rattle.std.proofs.lemmas.List.{append-nil, take_more}
use Rattle.std.proofs.lemmas.List.Folds.{list_any-append}
use Rattle.retro_path.specs.Order.{path_cmp, path_eq, path_equiv, path_exact, path_ties, path_total}
use Rattle.retro_path.specs.Path.{PathValue}
use Rattle.casebook_watch.specs.Sights.{Sights}
use Rattle.casebook_watch.specs.declared.sight.Sight.{Sight}
use Rattle.casebook_watch.specs.declared.sight_change.SightChange.{SightChange}
use Rattle.casebook_spool.specs.declared.content.Content.{Content}
use Rattle.casebook_spool.specs.declared.item.Item.{Item}
use Rattle.casebook_spool.specs.declared.item.Item.TheVariants as items
use Rattle.casebook_spool.specs.declared.note.Holds.{Holds}
use Rattle.casebook_spool.specs.declared.note.Note.{Note}
use Rattle.casebook_spool.specs.declared.note.Note.TheVariants as notes
use Rattle.casebook_typed.specs.Looks.{changes_in, content_in}
use Rattle.casebook_typed.specs.Observations.{notes_in}
use Rattle.casebook_typed.specs.inner.Few.{change_in, holds_in, is_named, or_here}

-- ---- one item more

pub notes_in-append : (xs ys : List Item) → notes_in (xs ++ ys) ≡ notes_in xs ++ notes_in ys
notes_in-append [] ys = refl
notes_in-append (items.Note n ∷ xs) ys = ap (λ ns. n ∷ ns) (notes_in-append xs ys)
notes_in-append (items.Record r ∷ xs) ys = notes_in-append xs ys

pub one_more_item : (xs : List Item) (i : ℕ) (x d : Item) → i < length xs → x ≡ get_or xs i d
    → notes_in (take (i + 1) xs) ≡ notes_in (take i xs) ++ notes_in (x ∷ [])
one_more_item xs i x d h is =
    ap notes_in (take_more xs i d h ∙ ap (λ y. take i xs ++ y ∷ []) (sym is))
    ∙ notes_in-append (take i xs) (x ∷ [])

pub changes_in-append : (ns ms : List Note) → changes_in (ns ++ ms) ≡ changes_in ns ++ changes_in ms
changes_in-append [] ms = refl
changes_in-append (notes.Sight c ∷ ns) ms = ap (λ cs. c ∷ cs) (changes_in-append ns ms)
changes_in-append (notes.Holds h ∷ ns) ms = changes_in-append ns ms
changes_in-append (notes.Looked l ∷ ns) ms = changes_in-append ns ms

or_first : (b : Bool) (c : Content) (x y : Option Content) → cond b (Some c) (option_or x y) ≡ option_or (cond b (Some c) x) y
or_first true c x y = refl
or_first false c x y = refl

pub content_in-append : (ns ms : List Note) (p : PathValue) → content_in (ns ++ ms) p ≡ option_or (content_in ns p) (content_in ms p)
content_in-append [] ms p = refl
content_in-append (notes.Sight c ∷ ns) ms p = content_in-append ns ms p
content_in-append (notes.Holds h ∷ ns) ms p =
    ap (cond (path_eq p h.path) (Some h.content)) (content_in-append ns ms p)
    ∙ or_first (path_eq p h.path) h.content (content_in ns p) (content_in ms p)
content_in-append (notes.Looked l ∷ ns) ms p = content_in-append ns ms p

-- ---- contents

abbrev pub seen_content : Option (Bor Content) → Option Content
seen_content o = option_map (λ c. c.now) o

put_first : (b : Bool) (c : Bor Content) (x : Option (Bor Content)) → (b ≡ true → x ≡ None)
    → seen_content (cond b (Some c) x) ≡ option_or (seen_content x) (cond b (Some c.now) None)
put_first true c None h = refl
put_first false c None h = refl
put_first true c (Some y) h = absurd (let e : Some y ≡ None = h refl in cc)
put_first false c (Some y) h = refl

tied : (r : Ordering) → is_eq r ≡ true → r ≡ Equal
tied Less e = absurd (false≢true e)
tied Equal e = refl
tied Greater e = absurd (false≢true e)

pub same_path : (p q : PathValue) → path_eq p q ≡ true → p ≡ q
same_path p q e = path_exact p q (tied _ (sym (path_ties p q) ∙ e))

same_key : (path p : PathValue) → is_eq (path_cmp path p) ≡ path_eq p path
same_key path p = sym (path_ties path p) ∙ path_equiv.symm path p

nothing : {A : Type 0} (x : Option A) → is_none x ≡ true → x ≡ None
nothing None e = refl
nothing (Some x) e = absurd (false≢true e)

pub none_seen : (x : Option (Bor Content)) → is_none (seen_content x) ≡ is_none x
none_seen None = refl
none_seen (Some c) = refl

pub not_some : {A : Type 0} (x : Option A) → is_none x ≡ not (is_some x)
not_some None = refl
not_some (Some c) = refl

-- a path got a content, since it had none
pub content_added : (old new : PathValue → Option (Bor Content)) (path : PathValue) (c : Bor Content)
    → is_none (old path) ≡ true
    → ((p : PathValue) → new p ≡ cond (is_eq (path_cmp path p)) (Some c) (old p))
    → (p : PathValue) → seen_content (new p) ≡ or_here (seen_content (old p)) p path c.now
content_added old new path c none puts p =
    ap seen_content (puts p)
    ∙ put_first (is_eq (path_cmp path p)) c (old p)
    (λ e. ap old (same_path p path (sym (same_key path p) ∙ e)) ∙ nothing (old path) none)
    ∙ ap (λ b. option_or (seen_content (old p)) (cond b (Some c.now) None)) (same_key path p)

keeps : (x : Option (Bor Content)) (b : Bool) (c : Content) → (b ≡ true → is_none x ≡ false)
    → seen_content x ≡ option_or (seen_content x) (cond b (Some c) None)
keeps None true c h = absurd (false≢true (sym (h refl)))
keeps None false c h = refl
keeps (Some y) b c h = refl

-- a path keeps the content that it has
pub content_kept : (old : PathValue → Option (Bor Content)) (path : PathValue) (c : Content) → is_none (old path) ≡ false
    → (p : PathValue) → seen_content (old p) ≡ or_here (seen_content (old p)) p path c
content_kept old path c some p =
    keeps (old p) (path_eq p path) c (λ e. ap (λ q. is_none (old q)) (same_path p path e) ∙ some)

or_nothing : (x : Option Content) → option_or x None ≡ x
or_nothing None = refl
or_nothing (Some c) = refl

-- what one item adds
by_holds : Option Content → Option Holds → PathValue → Option Content
by_holds held None p = held
by_holds held (Some h) p = or_here held p h.path h.content

one_item : (ns : List Note) (x : Item) (p : PathValue)
    → content_in (ns ++ notes_in (x ∷ [])) p ≡ by_holds (content_in ns p) (holds_in x) p
unfolding by_holds
one_item ns (items.Note (notes.Sight c)) p = content_in-append ns (notes.Sight c ∷ []) p ∙ or_nothing (content_in ns p)
one_item ns (items.Note (notes.Holds h)) p = content_in-append ns (notes.Holds h ∷ []) p
one_item ns (items.Note (notes.Looked l)) p = content_in-append ns (notes.Looked l ∷ []) p ∙ or_nothing (content_in ns p)
one_item ns (items.Record r) p = ap (λ ms. content_in ms p) (append-nil ns)

pub next_holds : (xs : List Item) (i : ℕ) (x d : Item) (h : Holds) → i < length xs → x ≡ get_or xs i d → holds_in x ≡ Some h
    → (p : PathValue) → or_here (content_in (notes_in (take i xs)) p) p h.path h.content ≡ content_in (notes_in (take (i + 1) xs)) p
unfolding by_holds
next_holds xs i x d h lt is found p =
    ap (λ o. by_holds (content_in (notes_in (take i xs)) p) o p) (sym found)
    ∙ sym (one_item (notes_in (take i xs)) x p)
    ∙ ap (λ ns. content_in ns p) (sym (one_more_item xs i x d lt is))

pub next_plain : (xs : List Item) (i : ℕ) (x d : Item) → i < length xs → x ≡ get_or xs i d → holds_in x ≡ None
    → (p : PathValue) → content_in (notes_in (take i xs)) p ≡ content_in (notes_in (take (i + 1) xs)) p
unfolding by_holds
next_plain xs i x d lt is found p =
    ap (λ o. by_holds (content_in (notes_in (take i xs)) p) o p) (sym found)
    ∙ sym (one_item (notes_in (take i xs)) x p)
    ∙ ap (λ ns. content_in ns p) (sym (one_more_item xs i x d lt is))

-- ---- sights

last_or : (b c : Bool) → (b || (c || false)) ≡ (b || c)
last_or true c = refl
last_or false true = refl
last_or false false = refl

pub named_more : (cs : List SightChange) (c : SightChange) (p : PathValue)
    → is_named p (cs ++ c ∷ []) ≡ (is_named p cs || path_eq p c.path)
named_more cs c p =
    list_any-append (λ d. path_eq p d.path) cs (c ∷ []) ∙ last_or (is_named p cs) (path_eq p c.path)

abbrev pub HasNamed : Sights → Sights → List SightChange → Type 0
HasNamed few sights cs = (p : PathValue) → finmap.get few p ≡ cond (is_named p cs) (finmap.get sights p) None

put_named : (b n : Bool) (x : Option Sight) (s : Sight) → (b ≡ true → x ≡ Some s)
    → cond b (Some s) (cond n x None) ≡ cond (n || b) x None
put_named true true x s h = sym (h refl)
put_named true false x s h = sym (h refl)
put_named false true x s h = refl
put_named false false x s h = refl

pub one_more_named : (few sights : Sights) (cs : List SightChange) (c : SightChange) (s : Sight)
    → finmap.get sights c.path ≡ Some s → HasNamed few sights cs
    → HasNamed (finmap.insert few c.path s) sights (cs ++ c ∷ [])
one_more_named few sights cs c s here has p =
    finmap.get-insert path_total few c.path s p
    ∙ ap (λ b. cond b (Some s) (finmap.get few p)) (sym (path_ties p c.path))
    ∙ ap (cond (path_eq p c.path) (Some s)) (has p)
    ∙ put_named (path_eq p c.path) (is_named p cs) (finmap.get sights p) s
    (λ e. ap (finmap.get sights) (same_path p c.path e) ∙ here)
    ∙ ap (λ b. cond b (finmap.get sights p) None) (sym (named_more cs c p))

none_named : (b n : Bool) (x : Option Sight) → (b ≡ true → x ≡ None) → cond n x None ≡ cond (n || b) x None
none_named true true x h = refl
none_named true false x h = sym (h refl)
none_named false true x h = refl
none_named false false x h = refl

pub one_more_missing : (few sights : Sights) (cs : List SightChange) (c : SightChange)
    → finmap.get sights c.path ≡ None → HasNamed few sights cs → HasNamed few sights (cs ++ c ∷ [])
one_more_missing few sights cs c here has p =
    has p
    ∙ none_named (path_eq p c.path) (is_named p cs) (finmap.get sights p)
    (λ e. ap (finmap.get sights) (same_path p c.path e) ∙ here)
    ∙ ap (λ b. cond b (finmap.get sights p) None) (sym (named_more cs c p))

-- ---- an item more of what is named

abbrev pub listed : Option SightChange → List SightChange
listed None = []
listed (Some c) = c ∷ []

changes_of_one : (x : Item) → changes_in (notes_in (x ∷ [])) ≡ listed (change_in x)
changes_of_one (items.Note (notes.Sight c)) = refl
changes_of_one (items.Note (notes.Holds h)) = refl
changes_of_one (items.Note (notes.Looked l)) = refl
changes_of_one (items.Record r) = refl

abbrev pub named_in : List Item → List SightChange
named_in xs = changes_in (notes_in xs)

pub one_more_change : (xs : List Item) (i : ℕ) (x d : Item) → i < length xs → x ≡ get_or xs i d
    → named_in (take (i + 1) xs) ≡ named_in (take i xs) ++ listed (change_in x)
one_more_change xs i x d h is =
    ap changes_in (one_more_item xs i x d h is) ∙ changes_in-append (notes_in (take i xs)) (notes_in (x ∷ []))
    ∙ ap (λ cs. named_in (take i xs) ++ cs) (changes_of_one x)

pub next_named : (few after sights : Sights) (xs : List Item) (i : ℕ) (x d : Item) (c : SightChange) (s : Sight)
    → i < length xs → x ≡ get_or xs i d → change_in x ≡ Some c → finmap.get sights c.path ≡ Some s
    → after ≡ finmap.insert few c.path s → HasNamed few sights (named_in (take i xs))
    → HasNamed after sights (named_in (take (i + 1) xs))
next_named few after sights xs i x d c s h is found here puts has =
    let P : Sights → List SightChange → Type 0 = λ m cs. HasNamed m sights cs in
    subst (λ m. P m (named_in (take (i + 1) xs))) (sym puts)
    (subst (P (finmap.insert few c.path s)) (sym (one_more_change xs i x d h is ∙ ap (λ o. named_in (take i xs) ++ listed o) found))
    (one_more_named few sights (named_in (take i xs)) c s here has))

pub next_missing : (few after sights : Sights) (xs : List Item) (i : ℕ) (x d : Item) (c : SightChange)
    → i < length xs → x ≡ get_or xs i d → change_in x ≡ Some c → finmap.get sights c.path ≡ None
    → after ≡ few → HasNamed few sights (named_in (take i xs))
    → HasNamed after sights (named_in (take (i + 1) xs))
next_missing few after sights xs i x d c h is found here same has =
    let P : Sights → List SightChange → Type 0 = λ m cs. HasNamed m sights cs in
    subst (λ m. P m (named_in (take (i + 1) xs))) (sym same)
    (subst (P few) (sym (one_more_change xs i x d h is ∙ ap (λ o. named_in (take i xs) ++ listed o) found))
    (one_more_missing few sights (named_in (take i xs)) c here has))

pub next_unnamed : (few after sights : Sights) (xs : List Item) (i : ℕ) (x d : Item)
    → i < length xs → x ≡ get_or xs i d → change_in x ≡ None
    → after ≡ few → HasNamed few sights (named_in (take i xs))
    → HasNamed after sights (named_in (take (i + 1) xs))
next_unnamed few after sights xs i x d h is found same has =
    let P : Sights → List SightChange → Type 0 = λ m cs. HasNamed m sights cs in
    subst (λ m. P m (named_in (take (i + 1) xs))) (sym same)
    (subst (P few) (sym (one_more_change xs i x d h is ∙ ap (λ o. named_in (take i xs) ++ listed o) found ∙ append-nil (named_in (take i xs)))) has)
