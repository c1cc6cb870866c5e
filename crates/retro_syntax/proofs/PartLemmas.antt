-- A word so far, as parts that can be written.
use Rattle.std.proofs.Common.{◌≡◌, ℕ, Bool, true, false, not, ◌&&◌, ◌||◌, ◌==◌, List, [], ◌∷◌, ◌++◌, map, refl, sym, ap}
use Rattle.std.proofs.Common.{subst, ◌∙◌, append_assoc, append-nil}
use Rattle.std.specs.Char.{encode_utf8}
use Rattle.retro_syntax.specs.Tree as T
use Rattle.retro_syntax.specs.Quoting.{add_plain, add_quoted}
use Rattle.retro_syntax.specs.Writing.{Part, unquoted, quoted, parameter, Written, word, bytes_of, pieces_of, word_of}
use Rattle.retro_syntax.specs.Writing.{token_of, fits, is_literal_dollar, are_unquoted, are_quoted, is_parameter}
use Rattle.retro_syntax.specs.Writing.{are_parameters, is_part, is_unquoted_parameter, are_apart, are_parts}
use Rattle.retro_syntax.specs.Writing.{begins_no_comment, is_writable, are_writable, HasWriting}
use Rattle.retro_syntax.proofs.QuotingLemmas.{add_quoted_push}
use Rattle.retro_syntax.proofs.ParserLemmas.{map-push}
use Rattle.retro_syntax.proofs.WritingLemmas.{and_left, and_right, add_all, add_all_plain, ready_after}

-- ---- tests

pub by_bool : {P : Type 0} (b : Bool) → (b ≡ true → P) → (b ≡ false → P) → P
by_bool true f g = f refl
by_bool false f g = g refl

pub and_both : (a b : Bool) → a ≡ true → b ≡ true → (a && b) ≡ true
and_both true b e f = f
and_both false b e f = cc

pub and_taken : (a : Bool) → (a && true) ≡ false → a ≡ false
and_taken true e = e
and_taken false e = refl

or_and : (a b s t : Bool) → (a || (b && s)) ≡ true → (s ≡ true → t ≡ true) → (a || (b && t)) ≡ true
or_and true b s t h k = refl
or_and false true s t h k = k h
or_and false false s t h k = h

-- ---- lists of characters and parts

bytes_of-append : (cs ds : List ℕ) → bytes_of (cs ++ ds) ≡ bytes_of cs ++ bytes_of ds
bytes_of-append [] ds = refl
bytes_of-append (c ∷ cs) ds = ap (λ x. encode_utf8 c ++ x) (bytes_of-append cs ds)
    ∙ sym (append_assoc (encode_utf8 c) (bytes_of cs) (bytes_of ds))

word_of-push : (fs : List Part) (p : Part) → word_of (fs ++ p ∷ []) ≡ word_of fs ++ pieces_of p
word_of-push [] p = append-nil (pieces_of p)
word_of-push (f ∷ fs) p = ap (λ x. pieces_of f ++ x) (word_of-push fs p)
    ∙ sym (append_assoc (pieces_of f) (word_of fs) (pieces_of p))

literal_dollar_more : (followed : Bool) (cs ds : List ℕ) → is_literal_dollar true cs ≡ true
    → is_literal_dollar followed (cs ++ ds) ≡ true
literal_dollar_more followed [] ds h = cc
literal_dollar_more followed (c ∷ cs) ds h = h

unquoted_append : (followed : Bool) (cs ds : List ℕ) → are_unquoted true cs ≡ true → are_unquoted followed ds ≡ true
    → are_unquoted followed (cs ++ ds) ≡ true
unquoted_append followed [] ds h k = k
unquoted_append followed (c ∷ cs) ds h k =
    let one = and_left (fits c || ((c == 36) && is_literal_dollar true cs)) (are_unquoted true cs) h in
    let rest = and_right (fits c || ((c == 36) && is_literal_dollar true cs)) (are_unquoted true cs) h in
    and_both (fits c || ((c == 36) && is_literal_dollar followed (cs ++ ds))) (are_unquoted followed (cs ++ ds))
    (or_and (fits c) (c == 36) (is_literal_dollar true cs) (is_literal_dollar followed (cs ++ ds)) one
    (literal_dollar_more followed cs ds))
    (unquoted_append followed cs ds rest k)

quoted_append : (cs ds : List ℕ) → are_quoted cs ≡ true → are_quoted ds ≡ true → are_quoted (cs ++ ds) ≡ true
quoted_append [] ds h k = k
quoted_append (c ∷ cs) ds h k =
    and_both (not (c == 0)) (are_quoted (cs ++ ds)) (and_left (not (c == 0)) (are_quoted cs) h)
    (quoted_append cs ds (and_right (not (c == 0)) (are_quoted cs) h) k)

parameters_push : (ns : List T.Parameter) (n : T.Parameter) → are_parameters ns ≡ true → is_parameter n ≡ true
    → are_parameters (ns ++ n ∷ []) ≡ true
parameters_push [] n h k = and_both (is_parameter n) true k refl
parameters_push (m ∷ ns) n h k =
    and_both (is_parameter m) (are_parameters (ns ++ n ∷ [])) (and_left (is_parameter m) (are_parameters ns) h)
    (parameters_push ns n (and_right (is_parameter m) (are_parameters ns) h) k)

unquoted_weak : (followed : Bool) (cs : List ℕ) → are_unquoted followed cs ≡ true → are_unquoted false cs ≡ true
unquoted_weak true cs h = subst (λ ds. are_unquoted false ds ≡ true) (append-nil cs)
    (unquoted_append false cs [] h refl)
unquoted_weak false cs h = h

part_weak : (followed : Bool) (p : Part) → is_part followed p ≡ true → is_part false p ≡ true
part_weak followed (unquoted []) h = cc
part_weak followed (unquoted (c ∷ cs)) h = unquoted_weak followed (c ∷ cs) h
part_weak followed (quoted cs ns) h = h
part_weak followed (parameter n) h = h

-- ---- the parts before the last, each apart from the next

abbrev pub Leads : List Part → Part → Type 0
Leads [] p = Unit {0}
Leads (f ∷ []) p = (is_part (is_unquoted_parameter p) f ≡ true) × (are_apart f p ≡ true)
Leads (f ∷ g ∷ fs) p = (is_part (is_unquoted_parameter g) f ≡ true) × (are_apart f g ≡ true) × Leads (g ∷ fs) p

leads_push : (fs : List Part) (p q : Part) → Leads fs p → is_part (is_unquoted_parameter q) p ≡ true
    → are_apart p q ≡ true → Leads (fs ++ p ∷ []) q
leads_push [] p q h a b = (a, b)
leads_push (f ∷ []) p q h a b = (h.0, h.1, (a, b))
leads_push (f ∷ g ∷ fs) p q h a b = (h.0, h.1, leads_push (g ∷ fs) p q h.2 a b)

leads_end : (fs : List Part) (p : Part) → Leads fs p → is_part false p ≡ true → are_parts (fs ++ p ∷ []) ≡ true
leads_end [] p h a = a
leads_end (f ∷ []) p h a =
    and_both (is_part (is_unquoted_parameter p) f) (are_apart f p && are_parts (p ∷ [])) h.0
    (and_both (are_apart f p) (are_parts (p ∷ [])) h.1 a)
leads_end (f ∷ g ∷ fs) p h a =
    and_both (is_part (is_unquoted_parameter g) f) (are_apart f g && are_parts (g ∷ (fs ++ p ∷ []))) h.0
    (and_both (are_apart f g) (are_parts (g ∷ (fs ++ p ∷ []))) h.1 (leads_end (g ∷ fs) p h.2 a))

apart_unquoted : (f : Part) (cs ds : List ℕ) → are_apart f (unquoted cs) ≡ true → are_apart f (unquoted ds) ≡ true
apart_unquoted (unquoted x) cs ds h = h
apart_unquoted (quoted x []) cs ds h = h
apart_unquoted (quoted x (n ∷ ns)) cs ds h = h
apart_unquoted (parameter n) cs ds h = h

apart_quoted : (f : Part) (cs ds : List ℕ) (ns ms : List T.Parameter) → are_apart f (quoted cs ns) ≡ true
    → are_apart f (quoted ds ms) ≡ true
apart_quoted (unquoted x) cs ds ns ms h = h
apart_quoted (quoted x []) cs ds ns ms h = h
apart_quoted (quoted x (k ∷ ks)) cs ds ns ms h = h
apart_quoted (parameter n) cs ds ns ms h = h

leads_unquoted : (fs : List Part) (cs ds : List ℕ) → Leads fs (unquoted cs) → Leads fs (unquoted ds)
leads_unquoted [] cs ds h = tt
leads_unquoted (f ∷ []) cs ds h = (h.0, apart_unquoted f cs ds h.1)
leads_unquoted (f ∷ g ∷ fs) cs ds h = (h.0, h.1, leads_unquoted (g ∷ fs) cs ds h.2)

leads_quoted : (fs : List Part) (cs ds : List ℕ) (ns ms : List T.Parameter) → Leads fs (quoted cs ns)
    → Leads fs (quoted ds ms)
leads_quoted [] cs ds ns ms h = tt
leads_quoted (f ∷ []) cs ds ns ms h = (h.0, apart_quoted f cs ds ns ms h.1)
leads_quoted (f ∷ g ∷ fs) cs ds ns ms h = (h.0, h.1, leads_quoted (g ∷ fs) cs ds ns ms h.2)

begins_more : (xs ys : List Part) → begins_no_comment xs ≡ true → begins_no_comment (xs ++ ys) ≡ true
begins_more [] ys h = cc
begins_more (unquoted [] ∷ ps) ys h = cc
begins_more (unquoted (c ∷ cs) ∷ ps) ys h = h
begins_more (quoted cs ns ∷ ps) ys h = h
begins_more (parameter n ∷ ps) ys h = h

begins_last : (fs : List Part) (p q : Part) → (begins_no_comment (p ∷ []) ≡ true → begins_no_comment (q ∷ []) ≡ true)
    → begins_no_comment (fs ++ p ∷ []) ≡ true → begins_no_comment (fs ++ q ∷ []) ≡ true
begins_last [] p q k h = k h
begins_last (unquoted [] ∷ fs) p q k h = cc
begins_last (unquoted (c ∷ cs) ∷ fs) p q k h = h
begins_last (quoted cs ns ∷ fs) p q k h = h
begins_last (parameter n ∷ fs) p q k h = h

-- ---- a word so far

-- its pieces are those of parts; `followed` says whether a parameter may come next
pub record Word (followed : Bool) (ps : List T.Piece) : Type 0 where
  pub front : List Part
  pub last : Part
  pub same : word_of front ++ pieces_of last ≡ ps
  pub leads : Leads front last
  pub begins : begins_no_comment (front ++ last ∷ []) ≡ true
  pub whole : is_part followed last ≡ true

abbrev pub is_quoted_part : Part → Bool
is_quoted_part (unquoted cs) = false
is_quoted_part (quoted cs ns) = true
is_quoted_part (parameter n) = false

-- a word whose last part is in double quotes, or can be
pub record QuotedWord (ps : List T.Piece) : Type 0 where
  pub given : Word true ps
  pub kind : is_quoted_part given.last ≡ true

pub data Begun (followed : Bool) (ps : List T.Piece) : Type 0 where
  empty : ps ≡ [] → Begun followed ps
  going : Word followed ps → Begun followed ps

start_part : (followed : Bool) (q : Part) → is_part followed q ≡ true → begins_no_comment (q ∷ []) ≡ true
    → Word followed (pieces_of q)
start_part followed q h b = record { front = []; last = q; same = refl; leads = tt; begins = b; whole = h }

push_part : (g f : Bool) (ps : List T.Piece) (w : Word g ps) (q : Part)
    → is_part (is_unquoted_parameter q) w.last ≡ true → are_apart w.last q ≡ true → is_part f q ≡ true
    → Word f (ps ++ pieces_of q)
push_part g f ps w q h a k = record {
  front = w.front ++ w.last ∷ [];
  last = q;
  same = ap (λ x. x ++ pieces_of q) (word_of-push w.front w.last ∙ w.same);
  leads = leads_push w.front w.last q w.leads h a;
  begins = begins_more (w.front ++ w.last ∷ []) (q ∷ []) w.begins;
  whole = k;
}

-- ---- unquoted characters after it

pub all_added : (ps : List T.Piece) (d : ℕ) (ds : List ℕ) → add_plain ps d ≡ ps ++ T.plain (encode_utf8 d) ∷ []
    → add_all ps (d ∷ ds) ≡ ps ++ T.plain (bytes_of (d ∷ ds)) ∷ []
all_added ps d ds e = ap (λ qs. add_all qs ds) e ∙ add_all_plain ps (encode_utf8 d) ds

pub start_unquoted : (f : Bool) (d : ℕ) (ds : List ℕ) → are_unquoted f (d ∷ ds) ≡ true → (d == 35) ≡ false
    → Word f (add_all [] (d ∷ ds))
start_unquoted f d ds h b =
    let begins : not (d == 35) ≡ true = rw b refl in
    subst (Word f) (sym (all_added [] d ds refl)) (start_part f (unquoted (d ∷ ds)) h begins)

add_after_other : (f : Bool) (ps : List T.Piece) (d : ℕ) (ds : List ℕ) (w : Word true ps)
    → are_unquoted f (d ∷ ds) ≡ true → are_apart w.last (unquoted (d ∷ ds)) ≡ true → Word f (add_all ps (d ∷ ds))
add_after_other f ps d ds w h a =
    let new_piece : add_plain ps d ≡ ps ++ T.plain (encode_utf8 d) ∷ [] =
    subst (λ x. add_plain x d ≡ x ++ T.plain (encode_utf8 d) ∷ []) w.same
    (ready_after w.last (unquoted (d ∷ ds)) (word_of w.front) a d) in
    subst (Word f) (sym (all_added ps d ds new_piece))
    (push_part true f ps w (unquoted (d ∷ ds)) (part_weak true w.last w.whole) a h)

grow_by : (f : Bool) (ps : List T.Piece) (d : ℕ) (ds : List ℕ) (w : Word true ps) (p : Part) → w.last ≡ p
    → are_unquoted f (d ∷ ds) ≡ true → Word f (add_all ps (d ∷ ds))
grow_by f ps d ds w (unquoted []) e h =
    absurd (let x : is_part true (unquoted []) ≡ true = subst (λ q. is_part true q ≡ true) e w.whole in
    let y : false ≡ true = x in cc)
grow_by f ps d ds w (unquoted (c ∷ cs)) e h =
    let same : word_of w.front ++ T.plain (bytes_of (c ∷ cs)) ∷ [] ≡ ps =
    subst (λ q. word_of w.front ++ pieces_of q ≡ ps) e w.same in
    let grown : word_of w.front ++ T.plain (bytes_of ((c ∷ cs) ++ (d ∷ ds))) ∷ [] ≡ add_all ps (d ∷ ds) =
    ap (λ t. word_of w.front ++ T.plain t ∷ []) (bytes_of-append (c ∷ cs) (d ∷ ds))
    ∙ sym (add_all_plain (word_of w.front) (bytes_of (c ∷ cs)) (d ∷ ds)) ∙ ap (λ qs. add_all qs (d ∷ ds)) same in
    record {
      front = w.front;
      last = unquoted ((c ∷ cs) ++ (d ∷ ds));
      same = grown;
      leads = leads_unquoted w.front (c ∷ cs) ((c ∷ cs) ++ (d ∷ ds)) (subst (Leads w.front) e w.leads);
      begins = begins_last w.front (unquoted (c ∷ cs)) (unquoted ((c ∷ cs) ++ (d ∷ ds))) (λ x. x)
          (subst (λ q. begins_no_comment (w.front ++ q ∷ []) ≡ true) e w.begins);
      whole = unquoted_append f (c ∷ cs) (d ∷ ds) (subst (λ q. is_part true q ≡ true) e w.whole) h;
    }
grow_by f ps d ds w (quoted cs ns) e h =
    add_after_other f ps d ds w h (subst (λ q. are_apart q (unquoted (d ∷ ds)) ≡ true) (sym e) (apart_of ns))
  where
    apart_of : (ms : List T.Parameter) → are_apart (quoted cs ms) (unquoted (d ∷ ds)) ≡ true
    apart_of [] = refl
    apart_of (m ∷ ms) = refl
grow_by f ps d ds w (parameter n) e h =
    add_after_other f ps d ds w h (subst (λ q. are_apart q (unquoted (d ∷ ds)) ≡ true) (sym e) refl)

pub grow_unquoted : (f : Bool) (ps : List T.Piece) (d : ℕ) (ds : List ℕ) → Word true ps → are_unquoted f (d ∷ ds) ≡ true
    → Word f (add_all ps (d ∷ ds))
grow_unquoted f ps d ds w h = grow_by f ps d ds w w.last refl h

-- ---- quoted characters after it

quote_after : (g : Bool) (ps : List T.Piece) (s ds : List ℕ) (w : Word g ps) → s ≡ bytes_of ds → are_quoted ds ≡ true
    → are_apart w.last (quoted ds []) ≡ true → QuotedWord (add_quoted ps s)
unfolding push_part
quote_after g ps s ds w e h a =
    let new_piece : add_quoted ps s ≡ ps ++ T.quoted s ∷ [] =
    subst (λ x. add_quoted x s ≡ x ++ T.quoted s ∷ []) w.same (ready_after w.last (quoted ds []) (word_of w.front) a s)
    in
    let grown : ps ++ T.quoted (bytes_of ds) ∷ [] ≡ add_quoted ps s = ap (λ t. ps ++ T.quoted t ∷ []) (sym e)
    ∙ sym new_piece in
    subst QuotedWord grown (record {
      given = push_part g true ps w (quoted ds []) (part_weak g w.last w.whole) a
          (and_both (are_quoted ds) true h refl);
      kind = refl;
    })

quote_by : (g : Bool) (ps : List T.Piece) (s ds : List ℕ) (w : Word g ps) (p : Part) → w.last ≡ p → s ≡ bytes_of ds
    → are_quoted ds ≡ true → QuotedWord (add_quoted ps s)
quote_by g ps s ds w (unquoted cs) e f h =
    quote_after g ps s ds w f h (subst (λ q. are_apart q (quoted ds []) ≡ true) (sym e) refl)
quote_by g ps s ds w (quoted cs []) e f h =
    let same : word_of w.front ++ T.quoted (bytes_of cs) ∷ [] ≡ ps = subst (λ q. word_of w.front ++ pieces_of q ≡ ps) e
    w.same in
    let grown : word_of w.front ++ T.quoted (bytes_of (cs ++ ds)) ∷ [] ≡ add_quoted ps s =
    ap (λ t. word_of w.front ++ T.quoted t ∷ []) (bytes_of-append cs ds ∙ ap (λ t. bytes_of cs ++ t) (sym f))
    ∙ sym (add_quoted_push (word_of w.front) (T.quoted (bytes_of cs)) s) ∙ ap (λ qs. add_quoted qs s) same in
    let whole_before : (are_quoted cs && true) ≡ true = subst (λ q. is_part g q ≡ true) e w.whole in
    record {
      given = record {
        front = w.front;
        last = quoted (cs ++ ds) [];
        same = grown;
        leads = leads_quoted w.front cs (cs ++ ds) [] [] (subst (Leads w.front) e w.leads);
        begins = begins_last w.front (quoted cs []) (quoted (cs ++ ds) []) (λ x. x)
            (subst (λ q. begins_no_comment (w.front ++ q ∷ []) ≡ true) e w.begins);
        whole = and_both (are_quoted (cs ++ ds)) true
            (quoted_append cs ds (and_left (are_quoted cs) true whole_before) h) refl;
      };
      kind = refl;
    }
quote_by g ps s ds w (quoted cs (n ∷ ns)) e f h =
    quote_after g ps s ds w f h (subst (λ q. are_apart q (quoted ds []) ≡ true) (sym e) refl)
quote_by g ps s ds w (parameter n) e f h =
    quote_after g ps s ds w f h (subst (λ q. are_apart q (quoted ds []) ≡ true) (sym e) refl)

pub grow_quoted : (g : Bool) (ps : List T.Piece) (s ds : List ℕ) → Begun g ps → s ≡ bytes_of ds → are_quoted ds ≡ true
    → QuotedWord (add_quoted ps s)
unfolding start_part
grow_quoted g ps s ds (empty x) e h =
    let grown : T.quoted (bytes_of ds) ∷ [] ≡ add_quoted ps s = ap (λ t. T.quoted t ∷ []) (sym e)
    ∙ ap (λ qs. add_quoted qs s) (sym x) in
    subst QuotedWord grown
    (record { given = start_part true (quoted ds []) (and_both (are_quoted ds) true h refl) refl; kind = refl })
grow_quoted g ps s ds (going w) e h = quote_by g ps s ds w w.last refl e h

-- ---- a parameter after it

apart_parameter : (p : Part) (n : T.Parameter) → are_apart p (parameter n) ≡ true
apart_parameter (unquoted cs) n = refl
apart_parameter (quoted cs []) n = refl
apart_parameter (quoted cs (m ∷ ms)) n = refl
apart_parameter (parameter m) n = refl

pub push_parameter : (ps : List T.Piece) (n : T.Parameter) → Begun true ps → is_parameter n ≡ true
    → Word true (ps ++ T.parameter n ∷ [])
push_parameter ps n (empty x) h = subst (λ qs. Word true (qs ++ T.parameter n ∷ [])) (sym x)
    (start_part true (parameter n) h refl)
push_parameter ps n (going w) h = push_part true true ps w (parameter n) w.whole (apart_parameter w.last n) h

push_by : (ps : List T.Piece) (n : T.Parameter) (w : Word true ps) (p : Part) → w.last ≡ p → is_quoted_part p ≡ true
    → is_parameter n ≡ true → QuotedWord (ps ++ T.quoted_parameter n ∷ [])
push_by ps n w (unquoted cs) e k h = cc
push_by ps n w (parameter m) e k h = cc
push_by ps n w (quoted cs ns) e k h =
    let same : word_of w.front ++ T.quoted (bytes_of cs) ∷ map T.quoted_parameter ns ≡ ps =
    subst (λ q. word_of w.front ++ pieces_of q ≡ ps) e w.same in
    let grown : word_of w.front ++ T.quoted (bytes_of cs) ∷ map T.quoted_parameter (ns ++ n ∷ []) ≡ ps ++
    T.quoted_parameter n ∷ [] =
    ap (λ x. word_of w.front ++ T.quoted (bytes_of cs) ∷ x) (map-push T.quoted_parameter ns n)
    ∙ sym
    (append_assoc (word_of w.front) (T.quoted (bytes_of cs) ∷ map T.quoted_parameter ns)
    (T.quoted_parameter n ∷ [])) ∙ ap (λ x. x ++ T.quoted_parameter n ∷ []) same in
    let before : (are_quoted cs && are_parameters ns) ≡ true = subst (λ q. is_part true q ≡ true) e w.whole in
    record {
      given = record {
        front = w.front;
        last = quoted cs (ns ++ n ∷ []);
        same = grown;
        leads = leads_quoted w.front cs cs ns (ns ++ n ∷ []) (subst (Leads w.front) e w.leads);
        begins = begins_last w.front (quoted cs ns) (quoted cs (ns ++ n ∷ [])) (λ x. x)
            (subst (λ q. begins_no_comment (w.front ++ q ∷ []) ≡ true) e w.begins);
        whole = and_both (are_quoted cs) (are_parameters (ns ++ n ∷ []))
            (and_left (are_quoted cs) (are_parameters ns) before)
            (parameters_push ns n (and_right (are_quoted cs) (are_parameters ns) before) h);
      };
      kind = refl;
    }

pub push_quoted_parameter : (ps : List T.Piece) (n : T.Parameter) → QuotedWord ps → is_parameter n ≡ true
    → QuotedWord (ps ++ T.quoted_parameter n ∷ [])
push_quoted_parameter ps n w h = push_by ps n w.given w.given.last refl w.kind h

-- ---- tokens

writable_push : (ws : List Written) (w : Written) → are_writable ws ≡ true → is_writable w ≡ true
    → are_writable (ws ++ w ∷ []) ≡ true
writable_push [] w h k = and_both (is_writable w) true k refl
writable_push (v ∷ ws) w h k =
    and_both (is_writable v) (are_writable (ws ++ w ∷ [])) (and_left (is_writable v) (are_writable ws) h)
    (writable_push ws w (and_right (is_writable v) (are_writable ws) h) k)

pub push_token : (ts : List T.Token) (w : Written) → HasWriting ts → is_writable w ≡ true
    → HasWriting (ts ++ token_of w ∷ [])
push_token ts w x h = record {
  tokens = x.tokens ++ w ∷ [];
  writable = writable_push x.tokens w x.writable h;
  same = map-push token_of x.tokens w ∙ ap (λ us. us ++ token_of w ∷ []) x.same;
}

pub push_word : (ts : List T.Token) (g : Bool) (ps : List T.Piece) → HasWriting ts → Word g ps
    → HasWriting (ts ++ T.word ps ∷ [])
push_word ts g ps x w =
    let parts : List Part = w.front ++ w.last ∷ [] in
    subst (λ qs. HasWriting (ts ++ T.word qs ∷ [])) (word_of-push w.front w.last ∙ w.same)
    (push_token ts (word parts) x
    (and_both (begins_no_comment parts) (are_parts parts) w.begins
    (leads_end w.front w.last w.leads (part_weak g w.last w.whole))))
