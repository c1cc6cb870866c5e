-- The names of rows, row by row.
use Rattle.std.proofs.Common.{◌≡◌, ◌∙◌, ℕ, ◌+◌, ◌<◌, true, cond, List, [], ◌∷◌, ◌++◌, sym, ap}
use Rattle.std.proofs.Common.{Bor, Some, None, append-nil, get_or, length, map, take}
use Rattle.std.specs.BTreeSet.{BTreeSet, contains}
use Rattle.std.specs.FinSet as set
use Rattle.std.specs.List.{cons_option, filter_map}
use Rattle.std.specs.Ordering.{eq_by_cmp}
use Rattle.std.proofs.lemmas.List.{map-append, take_more}
use Rattle.std.proofs.lemmas.List.Elements.{filter_map-append}
use Rattle.retro_path.specs.Order.{text_cmp, text_exact, text_total}
use Rattle.casebook_shell.specs.Rows.{name_in}
use Rattle.casebook_shell.proofs.Sets.{insert_key, names_of}

-- the texts of rows
abbrev pub texts : List (Bor (List ℕ)) → List (List ℕ)
texts rows = map (λ (row : Bor (List ℕ)). row.now) rows

-- the names of the first rows
abbrev pub first_names : List (Bor (List ℕ)) → ℕ → List (List ℕ)
first_names rows i = filter_map name_in (texts (take i rows))

one_more : (rows : List (Bor (List ℕ))) (i : ℕ) (d : Bor (List ℕ)) → i < length rows
    → first_names rows (i + 1)
    ≡ first_names rows i ++ cons_option (name_in (get_or rows i d).now) []
one_more rows i d lt =
    ap (λ (taken : List (Bor (List ℕ))). filter_map name_in (texts taken)) (take_more rows i d lt)
    ∙ ap (filter_map name_in)
    (map-append (λ (row : Bor (List ℕ)). row.now) (take i rows) (get_or rows i d ∷ []))
    ∙ filter_map-append name_in (texts (take i rows)) ((get_or rows i d).now ∷ [])

-- a row that names something
pub row_names : (before after : BTreeSet (List ℕ)) (rows : List (Bor (List ℕ))) (i : ℕ)
    (d : Bor (List ℕ)) (k : List ℕ) → i < length rows → name_in (get_or rows i d).now ≡ Some k
    → ((q : List ℕ) → contains text_cmp after q ≡ cond (eq_by_cmp text_cmp k q) true
    (contains text_cmp before q))
    → names_of before ≡ set.from_list (first_names rows i)
    → names_of after ≡ set.from_list (first_names rows (i + 1))
row_names before after rows i d k lt is updates so_far =
    insert_key before after k updates
    ∙ ap (λ (s : set.FinSet text_cmp). set.insert s k) so_far
    ∙ sym (set.from_list_push text_total text_exact (first_names rows i) k)
    ∙ ap (λ (more : List (List ℕ)). set.from_list {R = text_cmp} (first_names rows i ++ more))
    (ap (λ name. cons_option name []) (sym is))
    ∙ ap (λ (all : List (List ℕ)). set.from_list {R = text_cmp} all) (sym (one_more rows i d lt))

-- a row that names nothing
pub row_names_nothing : (names : BTreeSet (List ℕ)) (rows : List (Bor (List ℕ))) (i : ℕ)
    (d : Bor (List ℕ)) → i < length rows → name_in (get_or rows i d).now ≡ None
    → names_of names ≡ set.from_list (first_names rows i)
    → names_of names ≡ set.from_list (first_names rows (i + 1))
row_names_nothing names rows i d lt is so_far =
    so_far
    ∙ ap (λ (all : List (List ℕ)). set.from_list {R = text_cmp} all)
    (sym (append-nil (first_names rows i))
    ∙ ap (λ (more : List (List ℕ)). first_names rows i ++ more)
    (ap (λ name. cons_option name []) (sym is))
    ∙ sym (one_more rows i d lt))
