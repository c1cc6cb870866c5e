-- The parts of a diff lead from the old text to the new one.
use Rattle.std.proofs.Common.{◌≡◌, ℕ, zero, suc, ◌+◌, ◌-◌, ◌<◌, ◌≤◌, Bool, true, false, not, refl}
use Rattle.std.proofs.Common.{sym, ap, ◌∙◌, arith, subst}
use Rattle.std.proofs.Common.{List, [], ◌∷◌, ◌++◌, Some, drop, get_or, length, length-append}
use Rattle.std.proofs.Common.{length-drop, map, min, take}
use Rattle.std.specs.Prelude.{◌&&◌, ◌^◌, nat_le, nat_lt, slice_range}
use Rattle.std.specs.List.{All, filter, list_any}
use Rattle.std.proofs.lemmas.Bool.{le-ltb, lt-leb, true≢false}
use Rattle.std.proofs.lemmas.List.{drop-drop, drop-take, get_or-drop, get_or-take, length-map}
use Rattle.std.proofs.lemmas.List.{length-take, length-take-le, map-append, take-append-drop}
use Rattle.std.proofs.lemmas.List.{take-take}
use Rattle.std.proofs.lemmas.List.Elements.{All-head, All-tail, filter-append}
use Rattle.std.proofs.lemmas.List.Folds.{list_any_at}
use Rattle.std.proofs.lemmas.List.Sums.{count_by-le-length, length-filter}
use Rattle.casebook_text.specs.Diff.{in_new, in_old, is_same, marked}
use Rattle.casebook_text.specs.Hunks.{AreApart, AreHunks, HasCounts, HaveCounts, Marked, count_in}
use Rattle.casebook_text.specs.Hunks.{is_in, is_near}
use Rattle.casebook_text.specs.declared.hunk.Hunk.{Hunk}
use Rattle.casebook_text.specs.declared.line_diff.Mark.{Mark}
use Rattle.casebook_text.specs.declared.line_diff.Mark.TheVariants.{Same, Removed, Added}
use Rattle.casebook_patch.specs.Parts.{IsCounted, Line, patched, turned}
use Rattle.casebook_patch.specs.inner.Leading.{Leads, part_of}
use Rattle.casebook_patch.proofs.PatchedLemmas.{leads_back, leads_patched}

-- ---- lines that pass a test

marked-append : (test : Mark → Bool) (xs ys : List Marked) → marked test (xs ++ ys) ≡ marked test xs ++ marked test ys
marked-append test xs ys =
    ap (map (λ (x : Marked). x.1.now)) (filter-append (λ (x : Marked). test x.0) xs ys)
    ∙ map-append (λ (x : Marked). x.1.now) (filter (λ (x : Marked). test x.0) xs) (filter (λ (x : Marked). test x.0) ys)

length-marked : (test : Mark → Bool) (xs : List Marked) → length (marked test xs) ≡ count_in test xs
length-marked test xs =
    length-map (filter (λ (x : Marked). test x.0) xs) (λ (x : Marked). x.1.now) ∙ length-filter (λ (x : Marked). test x.0) xs

count-append : (test : Mark → Bool) (xs ys : List Marked) → count_in test (xs ++ ys) ≡ count_in test xs + count_in test ys
count-append test xs ys =
    sym (length-marked test (xs ++ ys))
    ∙ ap length (marked-append test xs ys)
    ∙ (length-append (marked test xs) (marked test ys)
    ∙ (ap (λ n. n + length (marked test ys)) (length-marked test xs) ∙ ap (λ n. count_in test xs + n) (length-marked test ys)))

same_in_old : (m : Mark) → is_same m ≡ true → in_old m ≡ true
same_in_old Same e = refl
same_in_old Removed e = refl
same_in_old Added e = e

same_in_new : (m : Mark) → is_same m ≡ true → in_new m ≡ true
same_in_new Same e = refl
same_in_new Removed e = e
same_in_new Added e = refl

abbrev AreSame : List Marked → Type 0
AreSame xs = All (λ (x : Marked). is_same x.0 ≡ true) xs

-- lines that are the same are in both texts
marked_same : (xs : List Marked) → AreSame xs → marked in_old xs ≡ marked in_new xs
marked_same [] all = refl
marked_same (x ∷ xs) all =
    let first = All-head (λ (y : Marked). is_same y.0 ≡ true) x xs all in
    rw (same_in_old x.0 first, same_in_new x.0 first)
    (ap (λ ls. x.1.now ∷ ls) (marked_same xs (All-tail (λ (y : Marked). is_same y.0 ≡ true) x xs all)))

-- ---- ranges

drop_range : (xs : List Marked) (a b : ℕ) → a ≤ b → drop a xs ≡ slice_range xs a b ++ drop b xs
drop_range xs a b le =
    let place : a + (b - a) ≡ b = omega arith in
    sym (take-append-drop (b - a) (drop a xs)) ∙ ap (λ ys. slice_range xs a b ++ ys) (drop-drop (b - a) a xs ∙ ap (λ n. drop n xs) place)

take_range : (xs : List Marked) (a b : ℕ) → a ≤ b → take b xs ≡ take a xs ++ slice_range xs a b
take_range xs a b le =
    let place : a + (b - a) ≡ b = omega arith in
    sym (take-append-drop a (take b xs))
    ∙ ap (λ ys. ys ++ drop a (take b xs)) (take-take a b xs le)
    ∙ ap (λ ys. take a xs ++ ys) (ap (λ n. drop a (take n xs)) (sym place) ∙ drop-take a (b - a) xs)

count_range : (test : Mark → Bool) (xs : List Marked) (a b : ℕ) → a ≤ b
    → count_in test (take b xs) ≡ count_in test (take a xs) + length (marked test (slice_range xs a b))
count_range test xs a b le =
    ap (count_in test) (take_range xs a b le)
    ∙ count-append test (take a xs) (slice_range xs a b)
    ∙ ap (λ n. count_in test (take a xs) + n) (sym (length-marked test (slice_range xs a b)))

-- ---- lines that aren't near one that differs

near_false : (p : Marked → Bool) (xs : List Marked) (k : ℕ) (d : Marked) → k < length xs → list_any p xs ≡ false → p (get_or xs k d) ≡ false
near_false p xs k d lt none =
    elim (p (get_or xs k d)) as (λ b. p (get_or xs k d) ≡ b → b ≡ false)
    [ true ↦ (λ e. absurd (true≢false (sym (list_any_at p xs k d lt e) ∙ none))) | false ↦ (λ e. refl) ] refl

not_not : (b : Bool) → not b ≡ false → b ≡ true
not_not true e = refl
not_not false e = absurd (true≢false e)

same_at : (lines : List Marked) (context i : ℕ) (d : Marked) → i < length lines → is_near lines context i ≡ false
    → is_same (get_or lines i d).0 ≡ true
same_at lines context i d lt none =
    let a = i - context in
    let b = min (i + context + 1) (length lines) in
    let place : a + (i - a) ≡ i = omega arith in
    let less : i - a < b - a = omega arith in
    let long : length (take (b - a) (drop a lines)) ≡ min (b - a) (length lines - a) =
    length-take (b - a) (drop a lines) ∙ ap (min (b - a)) (length-drop a lines) in
    let here : i - a < length (take (b - a) (drop a lines)) = omega arith in
    let at : get_or (take (b - a) (drop a lines)) (i - a) d ≡ get_or lines i d =
    get_or-take (b - a) (drop a lines) (i - a) d less ∙ get_or-drop a lines (i - a) d ∙ ap (λ n. get_or lines n d) place in
    not_not (is_same (get_or lines i d).0)
    (sym (ap (λ (x : Marked). not (is_same x.0)) at)
    ∙ near_false (λ (x : Marked). not (is_same x.0)) (take (b - a) (drop a lines)) (i - a) d here none)

-- ---- parts of a diff

-- the lines from an index on that aren't in parts are the same
abbrev KeepOthers : List Marked → ℕ → List Hunk → Type 0
KeepOthers lines b hunks =
    (i : ℕ) (d : Marked) → b ≤ i → i < length lines → list_any (is_in i) hunks ≡ false → is_same (get_or lines i d).0 ≡ true

-- the index is before a part, or after it
before_part : (i : ℕ) (h : Hunk) → i < h.from → is_in i h ≡ false
before_part i h lt = rw (lt-leb h.from i lt) refl

and_false : (x : Bool) (y : Bool) → y ≡ false → (x && y) ≡ false
and_false true y e = e
and_false false y e = refl

after_part : (i : ℕ) (h : Hunk) → h.to ≤ i → is_in i h ≡ false
after_part i h le = and_false (nat_le h.from i) (nat_lt i h.to) (le-ltb i h.to le)

none_before : (lines : List Marked) (i b : ℕ) (hunks : List Hunk) → i < b → HaveCounts lines hunks → AreApart b hunks
    → list_any (is_in i) hunks ≡ false
none_before lines i b [] lt counts apart = refl
none_before lines i b (h ∷ hunks) lt counts apart =
    let le : b ≤ h.from = apart.0 in
    let own = counts.0 in
    let some : h.from < h.to = own.some in
    let first : is_in i h ≡ false = before_part i h (omega arith) in
    rw first (none_before lines i (h.to + 1) hunks (omega arith) counts.1 apart.1)

-- between an index and a part all lines are the same
same_range : (lines : List Marked) (h : Hunk) (hunks : List Hunk) (b : ℕ) → b ≤ h.from → h.from ≤ length lines
    → HaveCounts lines hunks → AreApart (h.to + 1) hunks → h.from < h.to → KeepOthers lines b (h ∷ hunks)
    → AreSame (slice_range lines b h.from)
same_range lines h hunks b le within counts apart some keep k d lt =
    let long : length (slice_range lines b h.from) ≡ min (h.from - b) (length lines - b) =
    length-take (h.from - b) (drop b lines) ∙ ap (min (h.from - b)) (length-drop b lines) in
    let less : k < h.from - b = omega arith in
    let at : get_or (slice_range lines b h.from) k d ≡ get_or lines (b + k) d =
    get_or-take (h.from - b) (drop b lines) k d less ∙ get_or-drop b lines k d in
    let outside : list_any (is_in (b + k)) (h ∷ hunks) ≡ false =
    rw (before_part (b + k) h (omega arith)) (none_before lines (b + k) (h.to + 1) hunks (omega arith) counts apart) in
    ap (λ (x : Marked). is_same x.0) at ∙ keep (b + k) d (omega arith) (omega arith) outside

keep_rest : (lines : List Marked) (h : Hunk) (hunks : List Hunk) (b : ℕ) → b ≤ h.to → KeepOthers lines b (h ∷ hunks)
    → KeepOthers lines h.to hunks
keep_rest lines h hunks b le keep i d from lt none =
    keep i d (omega arith) lt (rw (after_part i h from) none)

-- as `Leads` counts the lines before the rest
rest_leads : (lines : List Marked) (h : Hunk) (hunks : List Hunk) → HasCounts lines h
    → Leads (count_in in_old (take h.to lines)) (count_in in_new (take h.to lines)) (map (part_of lines) hunks)
    (marked in_old (drop h.to lines)) (marked in_new (drop h.to lines))
    → Leads (h.old.before + length (marked in_old (slice_range lines h.from h.to)))
    (h.new.before + length (marked in_new (slice_range lines h.from h.to))) (map (part_of lines) hunks)
    (marked in_old (drop h.to lines)) (marked in_new (drop h.to lines))
rest_leads lines h hunks own leads =
    let le : h.from ≤ h.to = (let some = own.some in omega arith) in
    let old : count_in in_old (take h.to lines) ≡ h.old.before + length (marked in_old (slice_range lines h.from h.to)) =
    count_range in_old lines h.from h.to le ∙ ap (λ n. n + length (marked in_old (slice_range lines h.from h.to))) (sym own.old_before) in
    let new : count_in in_new (take h.to lines) ≡ h.new.before + length (marked in_new (slice_range lines h.from h.to)) =
    count_range in_new lines h.from h.to le ∙ ap (λ n. n + length (marked in_new (slice_range lines h.from h.to))) (sym own.new_before) in
    subst (λ n. Leads n (h.new.before + length (marked in_new (slice_range lines h.from h.to))) (map (part_of lines) hunks) (marked in_old (drop h.to lines)) (marked in_new (drop h.to lines))) old
    (subst (λ n. Leads (count_in in_old (take h.to lines)) n (map (part_of lines) hunks) (marked in_old (drop h.to lines)) (marked in_new (drop h.to lines))) new leads)

later_apart : (b c : ℕ) (hunks : List Hunk) → b ≤ c → AreApart c hunks → AreApart b hunks
later_apart b c [] le apart = tt
later_apart b c (h ∷ hunks) le apart = (let from = apart.0 in omega arith, apart.1)

pub walked : (lines : List Marked) (hunks : List Hunk) (b : ℕ) → b ≤ length lines → HaveCounts lines hunks → AreApart b hunks
    → KeepOthers lines b hunks
    → Leads (count_in in_old (take b lines)) (count_in in_new (take b lines)) (map (part_of lines) hunks)
    (marked in_old (drop b lines)) (marked in_new (drop b lines))
walked lines [] b le counts apart keep =
    marked_same (drop b lines) (λ k d lt.
    let at : get_or (drop b lines) k d ≡ get_or lines (b + k) d = get_or-drop b lines k d in
    let within : b + k < length lines = omega (arith, length-drop b lines) in
    ap (λ (x : Marked). is_same x.0) at ∙ keep (b + k) d (omega arith) within refl)
walked lines (h ∷ hunks) b le counts apart keep =
    let own = counts.0 in
    let le_from : b ≤ h.from = apart.0 in
    let some : h.from < h.to = own.some in
    let within : h.to ≤ length lines = own.within in
    let skipped = slice_range lines b h.from in
    let inside = slice_range lines h.from h.to in
    let kept_same : marked in_old skipped ≡ marked in_new skipped = marked_same skipped (same_range lines h hunks b le_from (omega arith) counts.1 apart.1 some keep) in (
      marked in_old skipped,
      marked in_old (drop h.to lines),
      marked in_new (drop h.to lines),
      record {
        old_is = three in_old lines b h.from h.to le_from (omega arith);
        new_is = three in_new lines b h.from h.to le_from (omega arith)
            ∙ ap (λ ls. ls ++ (marked in_new inside ++ marked in_new (drop h.to lines))) (sym kept_same);
        old_at = own.old_before ∙ count_range in_old lines b h.from le_from;
        new_at = own.new_before ∙ count_range in_new lines b h.from le_from
            ∙ ap (λ (ls : List Line). count_in in_new (take b lines) + length ls) (sym kept_same);
      },
      rest_leads lines h hunks own (walked lines hunks h.to within counts.1 (later_apart h.to (h.to + 1) hunks (omega arith) apart.1) (keep_rest lines h hunks b (omega arith) keep)),
    )
  where
    three : (test : Mark → Bool) (lines : List Marked) (b f t : ℕ) → b ≤ f → f ≤ t
        → marked test (drop b lines) ≡ marked test (slice_range lines b f) ++ (marked test (slice_range lines f t) ++ marked test (drop t lines))
    three test lines b f t le le' =
        ap (marked test) (drop_range lines b f le)
        ∙ marked-append test (slice_range lines b f) (drop f lines)
        ∙ ap (λ ls. marked test (slice_range lines b f) ++ ls)
        (ap (marked test) (drop_range lines f t le') ∙ marked-append test (slice_range lines f t) (drop t lines))

-- ---- the texts of a diff

all_lead : (context : ℕ) (lines : List Marked) (hunks : List Hunk) → AreHunks lines context hunks
    → Leads 0 0 (map (part_of lines) hunks) (marked in_old lines) (marked in_new lines)
all_lead context lines hunks found =
    walked lines hunks 0 (omega arith) found.counts found.apart
    (λ i d le lt none. same_at lines context i d lt (found.exact i lt ∙ none))

pub made : (context : ℕ) (lines : List Marked) (hunks : List Hunk) (old new : List Line) → AreHunks lines context hunks
    → marked in_old lines ≡ old → marked in_new lines ≡ new → patched 0 (map (part_of lines) hunks) old ≡ Some new
made context lines hunks old new found old_is new_is =
    ap (patched 0 (map (part_of lines) hunks)) (sym old_is)
    ∙ leads_patched (map (part_of lines) hunks) 0 0 (marked in_old lines) (marked in_new lines) (all_lead context lines hunks found)
    ∙ ap Some new_is

pub made_back : (context : ℕ) (lines : List Marked) (hunks : List Hunk) (old new : List Line) → AreHunks lines context hunks
    → marked in_old lines ≡ old → marked in_new lines ≡ new
    → patched 0 (map turned (map (part_of lines) hunks)) new ≡ Some old
made_back context lines hunks old new found old_is new_is =
    ap (patched 0 (map turned (map (part_of lines) hunks))) (sym new_is)
    ∙ leads_patched (map turned (map (part_of lines) hunks)) 0 0 (marked in_new lines) (marked in_old lines)
    (leads_back (map (part_of lines) hunks) 0 0 (marked in_old lines) (marked in_new lines) (all_lead context lines hunks found))
    ∙ ap Some old_is

-- ---- what a part says

-- of the first lines at most all are in a text
fewer : (test : Mark → Bool) (lines : List Marked) (n : ℕ) → n ≤ length lines → count_in test (take n lines) ≤ n
fewer test lines n le = omega (arith, count_by-le-length (λ (line : Marked). test line.0) (take n lines), length-take-le n lines le)

pub counted : (lines : List Marked) (h : Hunk) → h.to < 2 ^ 64 → HasCounts lines h → IsCounted (part_of lines h)
counted lines h small counts =
    let le : h.from ≤ length lines = omega (arith, counts.some, counts.within) in
    record {
      old_count = counts.old_count ∙ sym (length-marked in_old (slice_range lines h.from h.to));
      new_count = counts.new_count ∙ sym (length-marked in_new (slice_range lines h.from h.to));
      old_fits = omega (arith, le, small, counts.some, counts.old_before, fewer in_old lines h.from le);
      new_fits = omega (arith, le, small, counts.some, counts.new_before, fewer in_new lines h.from le);
    }

pub counts_at : (lines : List Marked) (hunks : List Hunk) (k : ℕ) (d : Hunk) → k < length hunks → HaveCounts lines hunks
    → HasCounts lines (get_or hunks k d)
counts_at lines [] k d lt counts = absurd (omega (arith, lt))
counts_at lines (h ∷ hunks) zero d lt counts = counts.0
counts_at lines (h ∷ hunks) (suc k) d lt counts = counts_at lines hunks k d (omega (arith, lt)) counts.1
