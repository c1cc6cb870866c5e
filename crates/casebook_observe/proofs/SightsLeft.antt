-- The sights that a look leaves can be written and read back.
use Rattle.std.proofs.Common.{◌≡◌, ◌∙◌, Bool, true, false, cond, List, [], ◌∷◌, All, Option, Some}
use Rattle.std.proofs.Common.{None, refl, sym}
use Rattle.std.specs.Prelude.{fold}
use Rattle.std.specs.FinMap as finmap
use Rattle.std.specs.FinMap.{find}
use Rattle.std.specs.Ordering.{eq_by_cmp, is_eq}
use Rattle.std.specs.declared.cmp.Ordering.{Ordering}
use Rattle.std.specs.declared.cmp.Ordering.TheVariants.{Equal, Greater, Less}
use Rattle.std.proofs.lemmas.Bool.{false≢true}
use Rattle.std.proofs.lemmas.List.Elements.{All-from_recursion, All-head, All-tail, All-weaker}
use Rattle.retro_path.specs.Order.{path_cmp, path_exact, path_total}
use Rattle.retro_path.specs.Path.{PathValue}
use Rattle.casebook_spool.specs.After.{read_at, with_looked, with_reading}
use Rattle.casebook_spool.specs.Valid.{IsPath, IsTime}
use Rattle.casebook_spool.specs.declared.note.Looked.{Looked}
use Rattle.casebook_watch.specs.Sights.{Sights}
use Rattle.casebook_watch.specs.declared.file_time.FileTime.{FileTime}
use Rattle.casebook_watch.specs.declared.sight.Sight.{Sight}
use Rattle.casebook_watch.proofs.Naming.{Entry, each_found}
use Rattle.casebook_observe.specs.Followed.{sights_left}
use Rattle.casebook_observe.specs.Writable.{ArePaths, AreSights, IsLooked, IsSeen, IsSightOf}
use Rattle.casebook_observe.specs.Writable.{IsWritable}
use Rattle.casebook_observe.specs.Worlds.{World}

same_path : (p q : PathValue) → eq_by_cmp path_cmp p q ≡ true → p ≡ q
same_path p q e = path_exact p q (equal (path_cmp p q) e)
  where
    equal : (r : Ordering) → is_eq r ≡ true → r ≡ Equal
    equal Less e = absurd (false≢true e)
    equal Equal e = refl
    equal Greater e = absurd (false≢true e)

-- each path that is found has a sight that can be written
abbrev AreFound : Sights → Type 0
AreFound sights =
    (path : PathValue) (s : Sight) → finmap.get sights path ≡ Some s → IsSightOf (path, s)

here_or_later : (path : PathValue) (s : Sight) (e : Entry) (rest : Option Sight) (b : Bool)
    → eq_by_cmp path_cmp path e.0 ≡ b → cond b (Some e.1) rest ≡ Some s → IsSightOf e
    → (rest ≡ Some s → IsSightOf (path, s)) → IsSightOf (path, s)
here_or_later path s e rest true same is h later =
    let at : path ≡ e.0 = same_path path e.0 same in
    let value : s ≡ e.1 = cc in
    rw (at, value) h
here_or_later path s e rest false same is h later = later is

found_in : (es : List Entry) → All IsSightOf es → (path : PathValue) (s : Sight)
    → find path_cmp path es ≡ Some s → IsSightOf (path, s)
found_in [] h path s e = absurd (cc)
found_in (entry ∷ es) h path s e =
    here_or_later path s entry (find path_cmp path es) (eq_by_cmp path_cmp path entry.0) refl e
    (All-head IsSightOf entry es h)
    (found_in es (All-tail IsSightOf entry es h) path s)

are_found : (sights : Sights) → AreSights sights → AreFound sights
are_found sights h path s e =
    found_in (finmap.entries sights) h path s (sym (finmap.get-entries sights path) ∙ e)

found_are : (sights : Sights) → AreFound sights → AreSights sights
found_are sights h =
    All-weaker (λ e. finmap.get sights e.0 ≡ Some e.1) IsSightOf (λ e is. h e.0 e.1 is)
    (finmap.entries sights)
    (All-from_recursion (λ e. finmap.get sights e.0 ≡ Some e.1) (finmap.entries sights)
    (each_found (finmap.get sights) (finmap.entries sights)
    (λ p x is. finmap.get-entries sights p ∙ is) (finmap.entries_sorted sights)))

-- ---- other times of reading

one_read : (path q : PathValue) (new s : Sight) (old : Option Sight) (b : Bool)
    → eq_by_cmp path_cmp q path ≡ b → cond b (Some new) old ≡ Some s → IsSightOf (path, new)
    → (old ≡ Some s → IsSightOf (q, s)) → IsSightOf (q, s)
one_read path q new s old true same is h other =
    let at : q ≡ path = same_path q path same in
    let value : s ≡ new = cc in
    rw (at, value) h
one_read path q new s old false same is h other = other is

with_read : (sights : Sights) (path : PathValue) (time : FileTime) (old : Option Sight)
    → finmap.get sights path ≡ old → IsTime time → AreFound sights
    → AreFound (with_reading path time old sights)
with_read sights path time None is k h q new e = h q new e
with_read sights path time (Some s) is k h q new e =
    let old = h path s is in
    one_read path q (read_at time s) new (finmap.get sights q) (eq_by_cmp path_cmp q path) refl
    (sym (finmap.get-insert path_total sights path (read_at time s) q) ∙ e)
    (old.0, (old.1.0, old.1.1, old.1.2, k, old.1.4, old.1.5)) (h q new)

all_read : (sights : Sights) (looked : List Looked) → All IsLooked looked → AreFound sights
    → AreFound (fold with_looked sights looked)
all_read sights [] k h = h
all_read sights (l ∷ looked) k h =
    all_read (with_looked sights l) looked (All-tail IsLooked l looked k)
    (with_read sights l.path l.read (finmap.get sights l.path) refl (All-head IsLooked l looked k).1
    h)

pub left_are_sights : (world : World) → IsWritable world → AreSights (sights_left world)
left_are_sights world h =
    let seen : AreSights world.sights =
    All-weaker (IsSeen world) IsSightOf (λ e k. (k.0, k.1)) (finmap.entries world.sights) h.0 in
    found_are (sights_left world)
    (all_read world.sights world.looked h.1 (are_found world.sights seen))

pub are_paths : (sights : Sights) → AreSights sights → ArePaths sights
are_paths sights h =
    All-weaker IsSightOf (λ e. IsPath e.0) (λ e k. k.0) (finmap.entries sights) h
