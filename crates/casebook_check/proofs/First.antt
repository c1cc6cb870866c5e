-- The first item of a list of which a fact holds, as a loop looks for it.
use Rattle.std.proofs.Common.{◌≡◌, ◌∙◌, ℕ, suc, ◌+◌, ◌<◌, ◌≤◌, length, map, drop, take, get_or, List, [], ◌∷◌, ◌++◌}
use Rattle.std.proofs.Common.{None, Some, ap, false, sym, subst, arith}
use Rattle.std.proofs.lemmas.List.{map_push, take_more}
use Rattle.serde_json.specs.Data.{Data}
use Rattle.retro_json.proofs.Each.{at_item}
use Rattle.casebook_check.specs.Items.{IsFall, IsFirst, IsRepeat, IsTaken, has_session, line_number, session_number}

-- the first item from an index on is the first of all
abbrev pub IsSought : {A : Type 0} → (Data → Type 0) → (A → Data) → List A → ℕ → Type 0
IsSought P va items i = (k : ℕ) → IsFirst P (map va (drop i items)) k → IsFirst P (map va items) (k + i)

pub sought_on : {A : Type 0} (P : Data → Type 0) (va : A → Data) (items : List A) (i : ℕ) (d x : A)
    → i < length items → x ≡ get_or items i d → ¬ (P (va x)) → IsSought P va items i → IsSought P va items (i + 1)
sought_on P va items i d x lt is other so_far = λ k first.
    let here = at_item va items i d x lt is in
    let there : IsFirst P (map va (drop i items)) (suc k) =
    subst (λ (rest : List Data). IsFirst P rest (suc k)) (sym here) (other, first) in
    let same : suc k + i ≡ k + (i + 1) = omega arith in
    subst (IsFirst P (map va items)) same (so_far (suc k) there)

pub found_at : {A : Type 0} (P : Data → Type 0) (va : A → Data) (items : List A) (i : ℕ) (d x : A)
    → i < length items → x ≡ get_or items i d → P (va x) → IsSought P va items i → IsFirst P (map va items) i
found_at P va items i d x lt is holds so_far =
    let here = at_item va items i d x lt is in
    let there : IsFirst P (map va (drop i items)) 0 = subst (λ (rest : List Data). IsFirst P rest 0) (sym here) holds in
    let same : 0 + i ≡ i = omega arith in
    subst (IsFirst P (map va items)) same (so_far 0 there)

-- ---- numbers that fall

-- the first line from an index on whose number is too small is the first of all
abbrev pub IsFallSought : {A : Type 0} → (A → Data) → ℕ → ℕ → List A → ℕ → Type 0
IsFallSought va least next items i =
    (k : ℕ) → IsFall next (map va (drop i items)) k → IsFall least (map va items) (k + i)

pub fall_on : {A : Type 0} (va : A → Data) (least next n : ℕ) (items : List A) (i : ℕ) (d x : A)
    → i < length items → x ≡ get_or items i d → line_number (va x) ≡ Some n → next ≤ n
    → IsFallSought va least next items i → IsFallSought va least (n + 1) items (i + 1)
fall_on va least next n items i d x lt is number le so_far = λ k fall.
    let here = at_item va items i d x lt is in
    let there : IsFall next (map va (drop i items)) (suc k) =
    subst (λ (rest : List Data). IsFall next rest (suc k)) (sym here) (n, number, le, fall) in
    let same : suc k + i ≡ k + (i + 1) = omega arith in
    subst (IsFall least (map va items)) same (so_far (suc k) there)

pub fall_at : {A : Type 0} (va : A → Data) (least next n : ℕ) (items : List A) (i : ℕ) (d x : A)
    → i < length items → x ≡ get_or items i d → line_number (va x) ≡ Some n → n < next
    → IsFallSought va least next items i → IsFall least (map va items) i
fall_at va least next n items i d x lt is number less so_far =
    let here = at_item va items i d x lt is in
    let there : IsFall next (map va (drop i items)) 0 =
    subst (λ (rest : List Data). IsFall next rest 0) (sym here) (n, number, less) in
    let same : 0 + i ≡ i = omega arith in
    subst (IsFall least (map va items)) same (so_far 0 there)

-- ---- rows whose numbers repeat

-- the first row from an index on whose number a row before it has is the first of all
abbrev pub IsRepeatSought : {A : Type 0} → (A → Data) → List A → ℕ → Type 0
IsRepeatSought va rows i =
    (k : ℕ) → IsRepeat (map va (take i rows)) (map va (drop i rows)) k → IsRepeat [] (map va rows) (k + i)

-- the rows before the next index
front : {A : Type 0} (va : A → Data) (rows : List A) (i : ℕ) (d x : A) → i < length rows → x ≡ get_or rows i d
    → map va (take (i + 1) rows) ≡ map va (take i rows) ++ va x ∷ []
front va rows i d x lt is =
    ap (map va) (take_more rows i d lt) ∙ map_push va (take i rows) (get_or rows i d)
    ∙ ap (λ y. map va (take i rows) ++ va y ∷ []) (sym is)

pub repeat_on : {A : Type 0} (va : A → Data) (rows : List A) (i : ℕ) (d x : A)
    → i < length rows → x ≡ get_or rows i d → ¬ (IsTaken (map va (take i rows)) (va x))
    → IsRepeatSought va rows i → IsRepeatSought va rows (i + 1)
repeat_on va rows i d x lt is other so_far = λ k repeat.
    let here = at_item va rows i d x lt is in
    let next : IsRepeat (map va (take i rows) ++ va x ∷ []) (map va (drop (i + 1) rows)) k =
    subst (λ (before : List Data). IsRepeat before (map va (drop (i + 1) rows)) k) (front va rows i d x lt is) repeat in
    let there : IsRepeat (map va (take i rows)) (map va (drop i rows)) (suc k) =
    subst (λ (rest : List Data). IsRepeat (map va (take i rows)) rest (suc k)) (sym here) (other, next) in
    let same : suc k + i ≡ k + (i + 1) = omega arith in
    subst (IsRepeat [] (map va rows)) same (so_far (suc k) there)

pub repeat_at : {A : Type 0} (va : A → Data) (rows : List A) (i : ℕ) (d x : A)
    → i < length rows → x ≡ get_or rows i d → IsTaken (map va (take i rows)) (va x) → IsRepeatSought va rows i
    → IsRepeat [] (map va rows) i
repeat_at va rows i d x lt is taken so_far =
    let here = at_item va rows i d x lt is in
    let there : IsRepeat (map va (take i rows)) (map va (drop i rows)) 0 =
    subst (λ (rest : List Data). IsRepeat (map va (take i rows)) rest 0) (sym here) taken in
    let same : 0 + i ≡ i = omega arith in
    subst (IsRepeat [] (map va rows)) same (so_far 0 there)

pub not_taken : (before : List Data) (d : Data) (sid : ℕ) → session_number d ≡ Some sid → has_session before sid ≡ false
    → ¬ (IsTaken before d)
not_taken before d sid number none (other, is, there) =
    let same : sid ≡ other = cc in
    let none' : has_session before other ≡ false = subst (λ (n : ℕ). has_session before n ≡ false) same none in
    absurd (cc)

pub no_number : (before : List Data) (d : Data) → session_number d ≡ None → ¬ (IsTaken before d)
no_number before d none (other, is, there) = absurd (cc)
