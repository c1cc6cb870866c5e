-- What a word is where a command may begin.
use Rattle.std.proofs.Common.{◌≡◌, ◌≢◌, ℕ, suc, ◌<◌, ◌==◌, length, get_or, Bool, true, false, List, [], ◌∷◌, ◌++◌}
use Rattle.std.proofs.Common.{Option, Some, None, option_map, option_and_then, arith, ◌&&◌, subst, refl, sym, ap, ◌∙◌}
use Rattle.std.proofs.Common.{bytes_eq, Bor}
use Rattle.std.proofs.lemmas.Str.Pattern.{IsSplitOnceResult, split_parts}
use Rattle.std.proofs.lemmas.Bool.{ne_eqb, eqb-true}
use Rattle.std.specs.List.{list_all}
use Rattle.retro_path.specs.VarName.{starts_name, continues_name, is_shell_name, is_var_name}
use Rattle.retro_syntax.specs.Spells.{is_assigned, begins_unquoted}
use Rattle.std.proofs.lemmas.Slice.Eq.{bytes_eq-Decides}
use Rattle.std.specs.Prelude.{cond}
use Rattle.retro_syntax.specs.Tree.{Piece, Word, Assignment, assignment_word, equals_then, plain, quoted, parameter}
use Rattle.retro_syntax.specs.Tree.{quoted_parameter, spelling}
use Rattle.retro_syntax.specs.declared.tree.ReservedWord.{ReservedWord}
use Rattle.retro_syntax.specs.declared.tree.ReservedWord.TheVariants.{Bang as bang, If as key_if, Then as key_then}
use Rattle.retro_syntax.specs.declared.tree.ReservedWord.TheVariants.{Elif as key_elif, Else as key_else, Fi as key_fi}
use Rattle.retro_syntax.specs.declared.tree.ReservedWord.TheVariants.{For as key_for, In as key_in, Do as key_do}
use Rattle.retro_syntax.specs.declared.tree.ReservedWord.TheVariants.{Done as key_done}
use Rattle.retro_syntax.specs.declared.words.Class.TheVariants.{Reserved as reserved, Forbidden as forbidden}
use Rattle.retro_syntax.specs.declared.words.Class.TheVariants.{Assignment as assignment, Ordinary as ordinary}
use Rattle.retro_syntax.specs.Words.{class, class_by, assignment_form, assignment_of, is_supported, lookup}
use Rattle.retro_syntax.specs.Words.{reserved_words, plain_class, name_of, is_one_of, other_reserved, split_equals}
use Rattle.retro_syntax.specs.Words.{split_name, if_named, assigned}

pub class_key : (k : ReservedWord) → class (plain (spelling k) ∷ []) ≡ reserved k
unfolding class
class_key bang = refl
class_key key_if = refl
class_key key_then = refl
class_key key_elif = refl
class_key key_else = refl
class_key key_fi = refl
class_key key_for = refl
class_key key_in = refl
class_key key_do = refl
class_key key_done = refl

and_left : (a b : Bool) → (a && b) ≡ true → a ≡ true
and_left true b e = refl
and_left false b e = e

and_right : (a b : Bool) → (a && b) ≡ true → b ≡ true
and_right true b e = e
and_right false b e = cc

lookup_step : (t : Bool) (k j : ReservedWord) (ks : List ReservedWord) (text : List ℕ) → bytes_eq (spelling k) text ≡ t
    → cond t (Some k) (lookup ks text) ≡ Some j
    → (lookup ks text ≡ Some j → text ≡ spelling j) → text ≡ spelling j
lookup_step true k j ks text e found rest = let same = (bytes_eq-Decides (spelling k) text).0 e in
    let one : k ≡ j = cc in sym same ∙ ap spelling one
lookup_step false k j ks text e found rest = rest found

lookup_key : (ks : List ReservedWord) (text : List ℕ) (j : ReservedWord) → lookup ks text ≡ Some j → text ≡ spelling j
lookup_key [] text j e = cc
lookup_key (k ∷ ks) text j e = lookup_step _ k j ks text refl e (lookup_key ks text j)

not_key : (a : Bool) (k : ReservedWord) → cond a assignment forbidden ≡ reserved k → ⊥
not_key true k e = cc
not_key false k e = cc

not_key_2 : (a : Bool) (k : ReservedWord) → cond a forbidden ordinary ≡ reserved k → ⊥
not_key_2 true k e = cc
not_key_2 false k e = cc

plain_key : (text : List ℕ) (o : Option ReservedWord) (k : ReservedWord) → plain_class text o ≡ reserved k
    → lookup reserved_words text ≡ o → text ≡ spelling k
plain_key text (Some j) k e found = let one : j ≡ k = cc in lookup_key reserved_words text j found ∙ ap spelling one
plain_key text None k e found = absurd (not_key_2 (is_one_of other_reserved text) k e)

key_by : (w : Word) (o : Option Assignment) (k : ReservedWord) → class_by w o ≡ reserved k → w ≡ plain (spelling k) ∷ []
key_by w (Some a) k e = absurd (not_key (is_supported a) k e)
key_by [] None k e = cc
key_by (plain text ∷ []) None k e = ap (λ t. plain t ∷ []) (plain_key text (lookup reserved_words text) k e refl)
key_by (plain text ∷ p ∷ ps) None k e = cc
key_by (quoted text ∷ ps) None k e = cc
key_by (parameter n ∷ ps) None k e = cc
key_by (quoted_parameter n ∷ ps) None k e = cc

pub key_of_class : (w : Word) (k : ReservedWord) → class w ≡ reserved k → w ≡ plain (spelling k) ∷ []
unfolding class
key_of_class w k e = key_by w (assignment_form w) k e

-- ---- the first `=` of a text

no_equals : (bs : List ℕ) → ((i : ℕ) → i < length bs → get_or bs i 0 ≢ 61) → split_equals bs ≡ None
no_equals [] h = refl
no_equals (c ∷ cs) h =
    let first : (c == 61) ≡ false = ne_eqb c 61 (h 0 (omega arith)) in
    rw (first, no_equals cs (λ i l. h (suc i) (omega arith))) refl

at_equals : (n v : List ℕ) → ((i : ℕ) → i < length n → get_or n i 0 ≢ 61) → split_equals (n ++ 61 ∷ v) ≡ Some (n, v)
at_equals [] v h = refl
at_equals (c ∷ cs) v h =
    let first : (c == 61) ≡ false = ne_eqb c 61 (h 0 (omega arith)) in
    rw (first, at_equals cs v (λ i l. h (suc i) (omega arith))) refl

-- what `split_once` answers
pub split_once_is : (bs : List ℕ) (r : Option (Bor (List ℕ) × Bor (List ℕ))) → IsSplitOnceResult 61 bs r
    → split_equals bs ≡ option_map (λ x. (x.0.now, x.1.now)) r
split_once_is bs None h = no_equals bs (split_parts 61 bs None h (omega arith))
split_once_is bs (Some x) h =
    let m = split_parts 61 bs (Some x) h (omega arith) in
    ap split_equals m.0 ∙ at_equals x.0.now x.1.now m.1

pub split_name_is : (text n v : List ℕ) (t : Bool) → split_equals text ≡ Some (n, v) → is_shell_name n ≡ t
    → split_name text ≡ cond t (Some (n, v)) None
split_name_is text n v t e f = rw (e, f) refl

pub split_name_none : (text : List ℕ) → split_equals text ≡ None → split_name text ≡ None
split_name_none text e = rw e refl

-- ---- what a word assigns

name_equals : (n v : List ℕ) → list_all continues_name n ≡ true → split_equals (n ++ 61 ∷ v) ≡ Some (n, v)
name_equals [] v h = refl
name_equals (c ∷ cs) v h =
    let t : continues_name c ≡ true = and_left (continues_name c) (list_all continues_name cs) h in
    let first : (c == 61) ≡ false = ne_eqb c 61 (λ e. let f : false ≡ true = subst (λ x. continues_name x ≡ true) e t in
    cc) in
    rw (first, name_equals cs v (and_right (continues_name c) (list_all continues_name cs) h)) refl

split_written : (n v : List ℕ) → is_shell_name n ≡ true → split_equals (n ++ 61 ∷ v) ≡ Some (n, v)
unfolding is_shell_name
split_written [] v h = cc
split_written (c ∷ cs) v h =
    let t : starts_name c ≡ true = and_left (starts_name c) (list_all continues_name cs) h in
    let first : (c == 61) ≡ false = ne_eqb c 61 (λ e. let f : false ≡ true = subst (λ x. starts_name x ≡ true) e t in
    cc) in
    rw (first, name_equals cs v (and_right (starts_name c) (list_all continues_name cs) h)) refl

pub shell_name : (n : List ℕ) → is_var_name n ≡ true → is_shell_name n ≡ true
unfolding is_var_name
shell_name n h = and_left (is_shell_name n) _ h

assigned_word : (n : List ℕ) (v : Word) → is_shell_name n ≡ true → begins_unquoted v ≡ true
    → assignment_form (equals_then n v) ≡ Some (record { name = n; value = v })
assigned_word n [] h k = cc
assigned_word n (plain text ∷ ps) h k = ap (option_map (λ s. assigned s.0 s.1 ps))
    (split_name_is (n ++ 61 ∷ text) n text true (split_written n text h) h)
assigned_word n (quoted text ∷ ps) h k = cc
assigned_word n (parameter m ∷ ps) h k = cc
assigned_word n (quoted_parameter m ∷ ps) h k = cc

var_name_left : (a : Assignment) → is_assigned a ≡ true → is_var_name a.name ≡ true
var_name_left a h = and_left (is_var_name a.name) _ (and_right (begins_unquoted a.value) (is_supported a) h)

form_of_word : (a : Assignment) → is_assigned a ≡ true → assignment_form (assignment_word a) ≡ Some a
form_of_word a h = assigned_word a.name a.value (shell_name a.name (var_name_left a h))
    (and_left (begins_unquoted a.value) (is_supported a) h)

-- what an assignment is written as assigns that
pub assignment_of_word : (a : Assignment) → is_assigned a ≡ true → assignment_of (assignment_word a) ≡ Some a
assignment_of_word a h = rw (form_of_word a h, var_name_left a h) refl

pub class_assigned : (a : Assignment) → is_assigned a ≡ true → class (assignment_word a) ≡ assignment
unfolding class
class_assigned a h = rw (form_of_word a h, and_right (begins_unquoted a.value) (is_supported a) h) refl

join_equals : (text : List ℕ) (s : List ℕ × List ℕ) → split_equals text ≡ Some s → s.0 ++ 61 ∷ s.1 ≡ text
join_equals [] s e = cc
join_equals (c ∷ cs) s e = join_step c cs s (c == 61) (split_equals cs) refl refl e (λ z f. join_equals cs z f)
  where
    join_step : (c : ℕ) (cs : List ℕ) (s : List ℕ × List ℕ) (t : Bool) (m : Option (List ℕ × List ℕ)) → (c == 61) ≡ t
        → split_equals cs ≡ m
        → cond t (Some ([], cs)) (option_map (λ z. (c ∷ z.0, z.1)) m) ≡ Some s
        → ((z : List ℕ × List ℕ) → split_equals cs ≡ Some z → z.0 ++ 61 ∷ z.1 ≡ cs)
        → s.0 ++ 61 ∷ s.1 ≡ c ∷ cs
    join_step c cs s true m e f g rest = let same : ([], cs) ≡ s = cc in ap (λ z. z.0 ++ 61 ∷ z.1) (sym same)
        ∙ ap (λ d. d ∷ cs) (sym (eqb-true c 61 e))
    join_step c cs s false None e f g rest = cc
    join_step c cs s false (Some z) e f g rest = let same : (c ∷ z.0, z.1) ≡ s = cc in
        ap (λ y. y.0 ++ 61 ∷ y.1) (sym same) ∙ ap (λ l. c ∷ l) (rest z f)

named_parts : (m : Option (List ℕ × List ℕ)) (s : List ℕ × List ℕ) → option_and_then if_named m ≡ Some s
    → (m ≡ Some s) × (is_shell_name s.0 ≡ true)
named_parts None s e = cc
named_parts (Some z) s e = named_by z s (is_shell_name z.0) refl e
  where
    named_by : (z s : List ℕ × List ℕ) (t : Bool) → is_shell_name z.0 ≡ t → cond t (Some z) None ≡ Some s
        → (Some z ≡ Some s) × (is_shell_name s.0 ≡ true)
    named_by z s true e f = let same : z ≡ s = cc in (f, subst (λ y. is_shell_name y.0 ≡ true) same e)
    named_by z s false e f = cc

-- a word that assigns, with what it assigns
pub record Assigns (w : Word) : Type 0 where
  pub given : Assignment
  pub found : assignment_of w ≡ Some given
  pub written : assignment_word given ≡ w
  pub lawful : is_assigned given ≡ true

parts_of : (text : List ℕ) (ps : List Piece) (m : Option (List ℕ × List ℕ)) (a : Assignment) → split_name text ≡ m
    → option_map (λ s. assigned s.0 s.1 ps) m ≡ Some a
    → (assignment_word a ≡ plain text ∷ ps) × (begins_unquoted a.value ≡ true)
parts_of text ps None a e f = absurd (let g : None ≡ Some a = f in cc)
parts_of text ps (Some s) a e f =
    let p = named_parts (split_equals text) s e in
    let same : assigned s.0 s.1 ps ≡ a = cc in
    subst (λ b. (assignment_word b ≡ plain text ∷ ps) × (begins_unquoted b.value ≡ true)) same
    (ap (λ t. plain t ∷ ps) (join_equals text s p.0), refl)

word_parts : (w : Word) (a : Assignment) → assignment_form w ≡ Some a
    → (assignment_word a ≡ w) × (begins_unquoted a.value ≡ true)
word_parts [] a e = cc
word_parts (plain text ∷ ps) a e = parts_of text ps (split_name text) a refl e
word_parts (quoted text ∷ ps) a e = cc
word_parts (parameter n ∷ ps) a e = cc
word_parts (quoted_parameter n ∷ ps) a e = cc

supported_by : (t : Bool) → cond t assignment forbidden ≡ assignment → t ≡ true
supported_by true e = refl
supported_by false e = cc

no_plain_assignment : (text : List ℕ) (m : Option ReservedWord) → plain_class text m ≡ assignment → ⊥
no_plain_assignment text (Some k) e = cc
no_plain_assignment text None e = not_assignment (is_one_of other_reserved text) e
  where
    not_assignment : (t : Bool) → cond t forbidden ordinary ≡ assignment → ⊥
    not_assignment true e = cc
    not_assignment false e = cc

assigns_by : (w : Word) (m : Option Assignment) → assignment_form w ≡ m → class_by w m ≡ assignment → Assigns w
assigns_by w (Some a) e f =
    let p = word_parts w a e in
    let s = supported_by (is_supported a) f in
    let n : is_var_name a.name ≡ true = and_left (is_var_name a.name) _ s in
    record { given = a; found = rw (e, n) refl; written = p.0; lawful = rw (p.1, s) refl }
assigns_by [] None e f = cc
assigns_by (plain text ∷ []) None e f = absurd (no_plain_assignment text (lookup reserved_words text) f)
assigns_by (plain text ∷ p ∷ ps) None e f = cc
assigns_by (quoted text ∷ ps) None e f = cc
assigns_by (parameter n ∷ ps) None e f = cc
assigns_by (quoted_parameter n ∷ ps) None e f = cc

pub assigns : (w : Word) → class w ≡ assignment → Assigns w
unfolding class
assigns w e = assigns_by w (assignment_form w) refl e

-- a name is the name of the word that it alone is
name_kept : (t : Bool) (text n : List ℕ) → cond t (Some text) None ≡ Some n → text ≡ n
name_kept true text n e = cc
name_kept false text n e = cc

pub name_of_is : (w : Word) (n : List ℕ) → name_of w ≡ Some n → w ≡ plain n ∷ []
unfolding name_of
name_of_is [] n e = cc
name_of_is (plain text ∷ []) n e = ap (λ t. plain t ∷ []) (name_kept (is_var_name text) text n e)
name_of_is (plain text ∷ p ∷ ps) n e = cc
name_of_is (quoted text ∷ ps) n e = cc
name_of_is (parameter m ∷ ps) n e = cc
name_of_is (quoted_parameter m ∷ ps) n e = cc
