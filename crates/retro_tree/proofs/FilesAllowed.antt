-- A lawful tree stays lawful if a permitted write is made.
use Rattle.std.proofs.Common.{nat_lt, length-append, arith, ◌+◌, ◌≡◌, ◌≤◌, ℕ, Bool, true, false, not, nat_le, length}
use Rattle.std.proofs.Common.{List, [], ◌∷◌, ◌++◌, Option, Some, None, refl, sym, ap, ◌∙◌, nat_eq}
use Rattle.std.specs.Prelude.{codes}
use Rattle.std.specs.Option.{is_some}
use Rattle.std.specs.Bool.{if◌then◌else◌}
use Rattle.std.specs.Cmp.Lexicographic.{pointwise}
use Rattle.std.proofs.lemmas.Bool.{false≢true, le-leb}
use Rattle.retro_tree.specs.Name.{AllNames}
use Rattle.retro_tree.specs.Path.{PathValue, below, parent_of, null_path, nothing_left, is_null, may_exist}
use Rattle.retro_tree.specs.Node.{file_limit, is_dir, grown, permit_under, permit_at}
use Rattle.retro_tree.specs.Tree.{Tree, node_in, put}
use Rattle.retro_tree.specs.Lawful.{law_at, IsLawfulTree}
use Rattle.retro_tree.specs.declared.node.Node.{Node}
use Rattle.retro_tree.specs.declared.node.Node.TheVariants.{Missing, Dir, File}
use Rattle.retro_tree.specs.declared.permit.Permit.TheVariants as permits
use Rattle.retro_tree.proofs.Small.{first_true, both_true, and_true, not_true}
use Rattle.retro_tree.proofs.LawLemmas.{lawful_put, none_below_file, lawful_growth}

-- a directory of a lawful tree isn't at /dev/null or below
dir_allowed : (p : PathValue) (t : Tree) → IsLawfulTree t → node_in p t ≡ Dir → is_some (below null_path p) ≡ false
unfolding IsLawfulTree may_exist
dir_allowed [] t l is = refl
dir_allowed (m ∷ r) t l is =
    let law = ap (λ n. law_at (m ∷ r) n (node_in (parent_of (m ∷ r)) t)) (sym is) ∙ l (m ∷ r) in
    not_true _ (first_true (not (is_some (below null_path (m ∷ r)))) _
    (both_true (is_dir (node_in (parent_of (m ∷ r)) t)) _ law))

abbrev whole : Option PathValue
whole = Some []

abbrev nothing : Option PathValue
nothing = None

same_branch : (a b : Bool) (x y : PathValue) → is_some (if a then (if b then Some x else None) else None)
    ≡ is_some (if a then (if b then Some y else None) else None)
same_branch true true x y = refl
same_branch true false x y = refl
same_branch false b x y = refl

at_end : (a b : Bool) → nothing_left (if a then (if b then whole else nothing) else nothing)
    ≡ is_some (if a then (if b then whole else nothing) else nothing)
at_end true true = refl
at_end true false = refl
at_end false b = refl

too_short : (a : Bool) → is_some (if a then nothing else nothing) ≡ false
too_short true = refl
too_short false = refl

above_null : (q : PathValue) → is_some (below null_path (parent_of q)) ≡ false → is_null q ≡ false
    → is_some (below null_path q) ≡ false
unfolding is_null
above_null [] h k = refl
above_null (x ∷ []) h k = too_short _
above_null (x ∷ y ∷ []) h k = sym (at_end (pointwise nat_eq (codes "dev") x) (pointwise nat_eq (codes "null") y)) ∙ k
above_null (x ∷ y ∷ z ∷ r) h k =
    same_branch (pointwise nat_eq (codes "dev") x) (pointwise nat_eq (codes "null") y) (z ∷ r) (parent_of (z ∷ r)) ∙ h

pub allowed_under : (q : PathValue) (t : Tree) → IsLawfulTree t → AllNames q → is_null q ≡ false
    → node_in (parent_of q) t ≡ Dir → may_exist q ≡ true
unfolding may_exist
allowed_under q t l names apart up = and_true _ _ (ap not (above_null q (dir_allowed (parent_of q) t l up) apart)) names

permit_above : (node above : Node) (n : ℕ) → permit_at node above n ≡ permits.Yes → above ≡ Dir
permit_above Missing Missing n e = cc
permit_above Missing Dir n e = refl
permit_above Missing (File b) n e = cc
permit_above Dir above n e = cc
permit_above (File b) Missing n e = cc
permit_above (File b) Dir n e = refl
permit_above (File b) (File c) n e = cc

pub permit_no_dir : (node above : Node) (n : ℕ) → permit_at node above n ≡ permits.Yes → is_dir node ≡ false
permit_no_dir Missing above n e = refl
permit_no_dir Dir above n e = cc
permit_no_dir (File b) above n e = refl

law_of_file : (q : PathValue) (bytes : List ℕ) (t : Tree) → IsLawfulTree t → AllNames q → is_null q ≡ false
    → nat_le (length bytes) file_limit ≡ true → is_dir (node_in q t) ≡ false → node_in (parent_of q) t ≡ Dir
    → law_at q (File bytes) (node_in (parent_of q) t) ≡ true
law_of_file [] bytes t l names apart fit file up = absurd (false≢true (sym file ∙ ap is_dir up))
law_of_file (m ∷ r) bytes t l names apart fit file up =
    and_true _ _ (ap is_dir up) (and_true _ _ (allowed_under (m ∷ r) t l names apart up) fit)

-- a file put where a write is permitted
pub file_allowed : (q : PathValue) (bytes : List ℕ) (t : Tree) (n : ℕ) → IsLawfulTree t → AllNames q
    → is_null q ≡ false → permit_at (node_in q t) (node_in (parent_of q) t) n ≡ permits.Yes
    → length bytes ≤ file_limit → IsLawfulTree (put q (File bytes) t)
file_allowed q bytes t n l names apart may fit =
    let file = permit_no_dir (node_in q t) (node_in (parent_of q) t) n may in
    lawful_put q (File bytes) t l
    (and_true _ _ (law_of_file q bytes t l names apart (le-leb _ _ fit) file
    (permit_above (node_in q t) (node_in (parent_of q) t) n may)) (ap not (none_below_file q t l file)))

fits_under : (above : Node) (size : ℕ) → permit_under above size ≡ permits.Yes → nat_le size file_limit ≡ true
fits_under Missing size e = cc
fits_under (File b) size e = cc
fits_under Dir size e =
    elim (nat_lt file_limit size) as (λ b. nat_lt file_limit size ≡ b
    → if b then permits.TooLarge else permits.Yes ≡ permits.Yes → nat_le size file_limit ≡ true) [
      | true ↦ λ t e. cc
      | false ↦ λ t e. let t' = t in grind (arith, t')
    ] refl e

law_of_growth : (q : PathValue) (bytes : List ℕ) (t : Tree) (node : Node) → IsLawfulTree t → AllNames q
    → is_null q ≡ false → node_in q t ≡ node → permit_at node (node_in (parent_of q) t) (length bytes)
    ≡ permits.Yes → law_at q (grown bytes node) (node_in (parent_of q) t) ≡ true
law_of_growth q bytes t Missing l names apart is may =
    law_of_file q bytes t l names apart (fits_under (node_in (parent_of q) t) (length bytes) may) (ap is_dir is)
    (permit_above Missing (node_in (parent_of q) t) (length bytes) may)
law_of_growth q bytes t Dir l names apart is may = cc
law_of_growth q bytes t (File old) l names apart is may =
    law_of_file q (old ++ bytes) t l names apart (ap (λ n. nat_le n file_limit) (length-append old bytes)
    ∙ fits_under (node_in (parent_of q) t) (length old + length bytes) may) (ap is_dir is)
    (permit_above (File old) (node_in (parent_of q) t) (length bytes) may)

-- a growth by bytes that a permit covers
pub growth_allowed : (q : PathValue) (bytes : List ℕ) (t : Tree) → IsLawfulTree t → AllNames q
    → is_null q ≡ false → permit_at (node_in q t) (node_in (parent_of q) t) (length bytes) ≡ permits.Yes
    → IsLawfulTree (put q (grown bytes (node_in q t)) t)
growth_allowed q bytes t l names apart may =
    lawful_growth q bytes t l (permit_no_dir (node_in q t) (node_in (parent_of q) t) (length bytes) may)
    (law_of_growth q bytes t (node_in q t) l names apart refl may)
