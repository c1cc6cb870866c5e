-- What the first rows of a table say, as a loop goes over them.
use Rattle.std.proofs.Common.{◌≡◌, ◌∙◌, ℕ, ◌+◌, ◌<◌, ◌≤◌, length, map, take, get_or, Bor}
use Rattle.std.proofs.Common.{List, [], ◌∷◌, ◌++◌, Option, Some, None, sym, ap, append-nil}
use Rattle.std.specs.List.{cons_option, filter_map}
use Rattle.std.proofs.lemmas.List.{map-append, take_all, take_more}
use Rattle.std.proofs.lemmas.List.Elements.{filter_map-append}
use Rattle.casebook_host.specs.Words.{words_of}

-- slices of bytes, and their bytes
abbrev pub Slices : Type 0
Slices = List (Bor (List ℕ))

abbrev pub texts : Slices → List (List ℕ)
texts slices = map (λ slice. slice.now) slices

abbrev pub text_at : Slices → ℕ → List ℕ
text_at slices i = (get_or slices i (record { ref_ptr = (0, 0); now = [] })).now

-- what the words of rows say up to an index
abbrev pub said : {Y : Type 0} → (List (List ℕ) → Option Y) → Slices → ℕ → List Y
said says rows i = filter_map (λ row. says (words_of row)) (texts (take i rows))

one_more : {Y : Type 0} (says : List (List ℕ) → Option Y) (rows : Slices) (i : ℕ)
    → i < length rows
    → said says rows (i + 1)
    ≡ said says rows i ++ cons_option (says (words_of (text_at rows i))) []
one_more says rows i lt =
    let row = get_or rows i (record { ref_ptr = (0, 0); now = [] }) in
    ap (λ front. filter_map (λ row. says (words_of row)) (texts front)) (take_more rows i _ lt)
    ∙ ap (filter_map (λ row. says (words_of row)))
    (map-append (λ (slice : Bor (List ℕ)). slice.now) (take i rows) (row ∷ []))
    ∙ filter_map-append (λ row. says (words_of row)) (texts (take i rows)) (row.now ∷ [])

pub row_says : {Y : Type 0} (says : List (List ℕ) → Option Y) (rows : Slices) (i : ℕ) (y : Y)
    (so_far : List Y) → i < length rows → says (words_of (text_at rows i)) ≡ Some y
    → so_far ≡ said says rows i → so_far ++ y ∷ [] ≡ said says rows (i + 1)
row_says says rows i y so_far lt some known =
    ap (λ front. front ++ y ∷ []) known
    ∙ ap (λ o. said says rows i ++ cons_option o []) (sym some)
    ∙ sym (one_more says rows i lt)

pub row_says_nothing : {Y : Type 0} (says : List (List ℕ) → Option Y) (rows : Slices) (i : ℕ)
    (so_far : List Y) → i < length rows → says (words_of (text_at rows i)) ≡ None
    → so_far ≡ said says rows i → so_far ≡ said says rows (i + 1)
row_says_nothing says rows i so_far lt none known =
    known
    ∙ sym (append-nil (said says rows i))
    ∙ ap (λ o. said says rows i ++ cons_option o []) (sym none)
    ∙ sym (one_more says rows i lt)

-- what a slice of the words of a row says
pub words_say : {Y : Type 0} (says : List (List ℕ) → Y) (slice words : Slices) (row : List ℕ)
    → slice ≡ words → texts words ≡ words_of row → says (words_of row) ≡ says (texts slice)
words_say says slice words row same is = ap says (sym is ∙ ap texts (sym same))

-- what all rows say
pub all_said : {Y : Type 0} (says : List (List ℕ) → Option Y) (rows items : Slices) (i : ℕ)
    (all : List (List ℕ)) → length rows ≤ i → rows ≡ items → texts items ≡ all
    → said says rows i ≡ filter_map (λ row. says (words_of row)) all
all_said says rows items i all past same is =
    ap (λ front. filter_map (λ row. says (words_of row)) (texts front)) (take_all i rows past)
    ∙ ap (filter_map (λ row. says (words_of row))) (ap texts same ∙ is)
