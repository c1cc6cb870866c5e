-- What the lists of paths between two looks say.
use Rattle.std.proofs.Common.{◌≡◌, ◌∙◌, Bool, true, false, cond, not, ◌&&◌, ◌||◌, List, [], ◌∷◌}
use Rattle.std.proofs.Common.{map}
use Rattle.std.proofs.Common.{Option, Some, None, is_none, is_some, refl, sym, ap}
use Rattle.std.specs.List.{filter, list_all, list_any}
use Rattle.std.specs.List.Sorted.{IsStrictlySortedBy}
use Rattle.std.specs.FinMap as finmap
use Rattle.retro_path.specs.Order.{path_cmp, path_eq, path_exact, path_total}
use Rattle.retro_path.specs.Path.{PathValue}
use Rattle.retro_tree.proofs.Entries.{all_tested}
use Rattle.retro_tree.proofs.Small.{and_true, both_true, first_true, not_true}
use Rattle.std.proofs.lemmas.Bool.{false≢true}
use Rattle.casebook_watch.specs.Sight.{has_other_content, is_after, is_same_node, kind_eq, time_eq}
use Rattle.casebook_watch.specs.Sights.{Sights}
use Rattle.casebook_watch.specs.Seen.{gone_paths, is_changed, is_gone, is_listed, is_read, passes}
use Rattle.casebook_watch.specs.Seen.{passes_from}
use Rattle.casebook_watch.specs.Seen.{paths_where}
use Rattle.casebook_watch.specs.declared.kind.Kind.TheVariants.{Dir, File}
use Rattle.casebook_watch.specs.declared.sight.Sight.{Sight}
use Rattle.casebook_watch.proofs.Alike.{attributes_itself, kind_itself, number_itself, time_itself}
use Rattle.casebook_watch.proofs.Leading.{gone_at, is_gone_exactly, is_where}
use Rattle.casebook_watch.proofs.Naming.{Entry, any_of_map, sorted_where}

-- ---- which paths are named

pub named_exactly : (test : Option Sight → Sight → Bool) (before after : Sights) (p : PathValue)
    → list_any (path_eq p) (paths_where test before after)
    ≡ passes test (finmap.get before p) (finmap.get after p)
named_exactly test before after p =
    any_of_map (path_eq p) (λ (e : Entry). e.0) (filter (passes_from test before)
    (finmap.entries after))
    ∙ is_where test before after p

gone_by_both : (x y : Option Sight) → gone_at x y ≡ (is_some x && is_none y)
gone_by_both None y = refl
gone_by_both (Some x) y = refl

pub gone_exactly : (before after : Sights) (p : PathValue)
    → list_any (path_eq p) (gone_paths before after)
    ≡ (is_some (finmap.get before p) && is_none (finmap.get after p))
gone_exactly before after p =
    any_of_map (path_eq p) (λ (e : Entry). e.0) (filter (is_gone after) (finmap.entries before))
    ∙ is_gone_exactly before after p
    ∙ gone_by_both (finmap.get before p) (finmap.get after p)

pub sorted_paths : (test : Option Sight → Sight → Bool) (before after : Sights)
    → IsStrictlySortedBy path_cmp (paths_where test before after)
sorted_paths test before after =
    sorted_where (passes_from test before) (finmap.entries after) (finmap.entries_sorted after)

pub sorted_gone : (before after : Sights) → IsStrictlySortedBy path_cmp (gone_paths before after)
sorted_gone before after =
    sorted_where (is_gone after) (finmap.entries before) (finmap.entries_sorted before)

not_both : (x y : Option Sight) → passes is_changed x y ≡ true → (is_some x && is_none y) ≡ false
not_both x None e = absurd (false≢true e)
not_both None (Some y) e = refl
not_both (Some x) (Some y) e = refl

pub changed_or_gone : (before after : Sights) (p : PathValue)
    → list_any (path_eq p) (paths_where is_changed before after) ≡ true
    → list_any (path_eq p) (gone_paths before after) ≡ false
changed_or_gone before after p is =
    gone_exactly before after p
    ∙ not_both (finmap.get before p) (finmap.get after p) (sym
    (named_exactly is_changed before after p) ∙ is)

-- ---- equal looks

none_passes : (t : Entry → Bool) (es : List Entry) → list_all (λ e. not (t e)) es ≡ true
    → filter t es ≡ []
none_passes t [] h = refl
none_passes t (e ∷ es) h =
    ap (λ b. cond b (e ∷ filter t es) (filter t es)) (not_true (t e) (first_true (not (t e)) _ h))
    ∙ none_passes t es (both_true (not (t e)) _ h)

nothing_passes : (test : Option Sight → Sight → Bool) (sights : Sights)
    → ((s : Sight) → test (Some s) s ≡ false) → paths_where test sights sights ≡ []
nothing_passes test sights never =
    ap (map (λ e. e.0)) (none_passes (passes_from test sights) (finmap.entries sights)
    (all_tested path_total path_exact (λ e. not (passes_from test sights e)) sights
    (λ p s is. ap not (ap (λ o. test o s) is ∙ never s))))

same_node : (s : Sight) → is_same_node s s ≡ true
same_node s = and_true (kind_eq s.kind s.kind) _ (kind_itself s.kind) (number_itself s.number)

last_false : (a b : Bool) → b ≡ false → (a && b) ≡ false
last_false true b e = e
last_false false b e = refl

never_read : (s : Sight) → is_read (Some s) s ≡ false
never_read s =
    last_false (kind_eq s.kind File) (cond (is_same_node s s) (not (time_eq s.read s.read))
    (is_after s.read s.written))
    (ap (λ b. cond b (not (time_eq s.read s.read)) (is_after s.read s.written)) (same_node s)
    ∙ ap not (time_itself s.read))

never_listed : (s : Sight) → is_listed (Some s) s ≡ false
never_listed s =
    last_false (kind_eq s.kind Dir && is_same_node s s) (not (time_eq s.read s.read)) (ap not
    (time_itself s.read))

same_content : (s : Sight) → has_other_content s s ≡ false
same_content s = λ i. not (number_itself s.size i) || not (time_itself s.written i) || not
    (time_itself s.changed i)

never_changed : (s : Sight) → is_changed (Some s) s ≡ false
never_changed s =
    (λ i. not (same_node s i) || (not (attributes_itself s.attributes i)
    || not (kind_eq s.kind Dir) && has_other_content s s))
    ∙ last_false (not (kind_eq s.kind Dir)) (has_other_content s s) (same_content s)

pub nothing_read : (sights : Sights) → paths_where is_read sights sights ≡ []
nothing_read sights = nothing_passes is_read sights never_read

pub nothing_listed : (sights : Sights) → paths_where is_listed sights sights ≡ []
nothing_listed sights = nothing_passes is_listed sights never_listed

pub nothing_changed : (sights : Sights) → paths_where is_changed sights sights ≡ []
nothing_changed sights = nothing_passes is_changed sights never_changed

pub nothing_gone : (sights : Sights) → gone_paths sights sights ≡ []
nothing_gone sights =
    ap (map (λ e. e.0)) (none_passes (is_gone sights) (finmap.entries sights)
    (all_tested path_total path_exact (λ e. not (is_gone sights e)) sights
    (λ p s is. ap (λ o. not (is_none o)) is)))
