-- How deep the code's lists nest.
use Rattle.std.proofs.Common.{◌≡◌, Vec, Box, arith, ℕ, zero, suc, ◌-◌, max, nat_le, Bool, true, false, ◌&&◌, List, []}
use Rattle.std.proofs.Common.{◌∷◌, map, refl, sym, ap, ap₂, ◌∙◌}
use Rattle.std.proofs.Math.Dec.{leb-suc-suc, leb-suc-zero}
use Rattle.std.proofs.lemmas.Bool.{le-leb}
use Rattle.std.proofs.lemmas.Bool.Decides.{leb_tells}
use Rattle.std.specs.declared.alloc.Global.{Global}
use Rattle.retro_syntax.specs.Tree as T
use Rattle.retro_syntax.specs.Parsing.{join, listed, arms_up_to}
use Rattle.retro_syntax.specs.Depth as D
use Rattle.retro_syntax.specs.inner.Fits.{command_fits, pipelines_fit, and_or_fits, and_ors_fit}
use Rattle.retro_syntax.specs.inner.Fits.{list_fits, arms_fit}
use Rattle.retro_syntax.specs.inner.Fits.{conditional_fits}
use Rattle.retro_syntax.specs.View.{view, commands_of, and_or_of, pipeline_of, arms_of, arms_else_of}
use Rattle.retro_syntax.specs.declared.tree.AndOr.{AndOr}
use Rattle.retro_syntax.specs.declared.tree.Pipeline.{Pipeline}
use Rattle.retro_syntax.specs.declared.tree.Connector.{Connector}
use Rattle.retro_syntax.specs.declared.tree.Commands.{Commands}
use Rattle.retro_syntax.specs.declared.tree.Conditional.{Conditional}
use Rattle.retro_syntax.specs.declared.tree.Loop.{Loop}
use Rattle.retro_syntax.specs.declared.tree.Command.{Command}
use Rattle.retro_syntax.specs.declared.tree.Command.TheVariants.{Pipe, If, IfElse, For}
use Rattle.retro_syntax.specs.declared.tree.Simple.{Simple}
use Rattle.retro_syntax.proofs.ViewLemmas.{view_pipe, view_if, view_if_else, view_for}

and_assoc : (a b c : Bool) → (a && (b && c)) ≡ ((a && b) && c)
and_assoc true b c = refl
and_assoc false b c = refl

-- two numbers are within a bound exactly if the greater is
max_fits : (a b n : ℕ) → nat_le (max a b) n ≡ (nat_le a n && nat_le b n)
max_fits a b n = grind (arith, leb_tells)

join-fits : (js : List (Pipeline Command × Connector)) (p : T.Pipeline) (n : ℕ)
    → nat_le (D.and_or_depth (join (map (λ j. (pipeline_of view j.0, j.1)) js) p)) n ≡
    (pipelines_fit js n && nat_le (D.pipeline_depth p) n)
join-fits [] p n = refl
join-fits (j ∷ js) p n =
    max_fits (D.command_depth (view j.0.command)) (D.and_or_depth (join (map (λ i. (pipeline_of view i.0, i.1)) js) p))
    n
    ∙ ap (λ b. command_fits j.0.command n && b) (join-fits js p n)
    ∙ and_assoc (command_fits j.0.command n) (pipelines_fit js n) (nat_le (D.pipeline_depth p) n)

and_or-fits : (a : AndOr Command) (n : ℕ) → nat_le (D.and_or_depth (and_or_of view a)) n ≡ and_or_fits a n
and_or-fits a n = join-fits a.before.items (pipeline_of view a.last) n

listed-fits : (ds : List (AndOr Command)) (a : AndOr Command) (b : Bool) (n : ℕ)
    → nat_le (D.depth (listed (map (and_or_of view) ds) (and_or_of view a) b)) n ≡ (and_ors_fit ds n && and_or_fits a n)
listed-fits [] a b n = and_or-fits a n
listed-fits (d ∷ ds) a b n =
    max_fits (D.and_or_depth (and_or_of view d)) (D.depth (listed (map (and_or_of view) ds) (and_or_of view a) b)) n
    ∙ ap₂ (λ x y. x && y) (and_or-fits d n) (listed-fits ds a b n)
    ∙ and_assoc (and_or_fits d n) (and_ors_fit ds n) (and_or_fits a n)

pub list-fits : (l : Commands Command) (n : ℕ) → nat_le (D.depth (commands_of view l)) n ≡ list_fits l n
list-fits l n = listed-fits l.before.items l.last l.final_semicolon n

arms-fit : (xs : List (Commands Command × Commands Command)) (a : T.Arms) (n : ℕ)
    → nat_le (D.arms_depth (arms_up_to (map (λ x. (commands_of view x.0, commands_of view x.1)) xs) a)) n ≡
    (arms_fit xs n && nat_le (D.arms_depth a) n)
arms-fit [] a n = refl
arms-fit (x ∷ xs) a n =
    let rest = D.arms_depth (arms_up_to (map (λ y. (commands_of view y.0, commands_of view y.1)) xs) a) in
    max_fits (D.depth (commands_of view x.0)) (max (D.depth (commands_of view x.1)) rest) n
    ∙ ap₂ (λ p q. p && q) (list-fits x.0 n) (max_fits (D.depth (commands_of view x.1)) rest n
    ∙ ap₂ (λ p q. p && q) (list-fits x.1 n) (arms-fit xs a n))
    ∙ and_assoc (list_fits x.0 n) (list_fits x.1 n) (arms_fit xs n && nat_le (D.arms_depth a) n)
    ∙ and_assoc (list_fits x.0 n && list_fits x.1 n) (arms_fit xs n) (nat_le (D.arms_depth a) n)

two-fit : (c t : Commands Command) (n : ℕ) → nat_le (D.arms_depth (T.fi (commands_of view c) (commands_of view t))) n ≡
    (list_fits c n && list_fits t n)
two-fit c t n = max_fits (D.depth (commands_of view c)) (D.depth (commands_of view t)) n
    ∙ ap₂ (λ p q. p && q) (list-fits c n) (list-fits t n)

conditional-fits : (x : Conditional Command) (n : ℕ) → nat_le (D.arms_depth (arms_of view x)) n ≡ conditional_fits x n
conditional-fits x n =
    arms-fit x.before.items (T.fi (commands_of view x.condition) (commands_of view x.consequence)) n
    ∙ ap (λ b. arms_fit x.before.items n && b) (two-fit x.condition x.consequence n)

three-fit : (c t e : Commands Command) (n : ℕ)
    → nat_le (D.arms_depth (T.otherwise (commands_of view c) (commands_of view t) (commands_of view e))) n ≡
    (list_fits c n && (list_fits t n && list_fits e n))
three-fit c t e n =
    max_fits (D.depth (commands_of view c)) (max (D.depth (commands_of view t)) (D.depth (commands_of view e))) n
    ∙ ap₂ (λ p q. p && q) (list-fits c n) (two-fit t e n)

conditional-else-fits : (x : Conditional Command) (y : Commands Command) (n : ℕ)
    → nat_le (D.arms_depth (arms_else_of view x y)) n ≡ (conditional_fits x n && list_fits y n)
conditional-else-fits x y n =
    arms-fit x.before.items
    (T.otherwise (commands_of view x.condition) (commands_of view x.consequence) (commands_of view y)) n
    ∙ ap (λ b. arms_fit x.before.items n && b)
    (three-fit x.condition x.consequence y n ∙ and_assoc (list_fits x.condition n) (list_fits x.consequence n)
    (list_fits y n))
    ∙ and_assoc (arms_fit x.before.items n) (list_fits x.condition n && list_fits x.consequence n) (list_fits y n)

-- ---- a command, by its kind

pub pipe_fits : (ss : Vec Simple Global) (k : Command) (n : ℕ) → k ≡ Pipe ss → true ≡ command_fits k n
pipe_fits ss k n e = rw (e, view_pipe ss) (sym (le-leb 0 n (omega arith)))

pub if_deep : (x : Box (Conditional Command) Global) (k : Command) (n : ℕ) → k ≡ If x → n ≡ 0 → false ≡ command_fits k n
if_deep x k n e z = rw (e, view_if x, z) (sym (leb-suc-zero (D.arms_depth (arms_of view x.value))))

pub if_fits : (x : Box (Conditional Command) Global) (k : Command) (n : ℕ) → k ≡ If x → (n ≡ 0 → ⊥)
    → command_fits k n ≡ conditional_fits x.value (n - 1)
if_fits x k zero e h = absurd (h refl)
if_fits x k (suc n) e h = let f : suc n - 1 ≡ n = omega arith in
    rw (e, view_if x, f) (leb-suc-suc (D.arms_depth (arms_of view x.value)) n ∙ conditional-fits x.value n)

pub if_else_deep : (x : Box (Conditional Command) Global) (y : Box (Commands Command) Global) (k : Command) (n : ℕ)
    → k ≡ IfElse x y → n ≡ 0 → false ≡ command_fits k n
if_else_deep x y k n e z =
    rw (e, view_if_else x y, z) (sym (leb-suc-zero (D.arms_depth (arms_else_of view x.value y.value))))

pub if_else_fits : (x : Box (Conditional Command) Global) (y : Box (Commands Command) Global) (k : Command) (n : ℕ)
    → k ≡ IfElse x y → (n ≡ 0 → ⊥)
    → command_fits k n ≡ (conditional_fits x.value (n - 1) && list_fits y.value (n - 1))
if_else_fits x y k zero e h = absurd (h refl)
if_else_fits x y k (suc n) e h = let f : suc n - 1 ≡ n = omega arith in
    rw (e, view_if_else x y, f) (leb-suc-suc (D.arms_depth (arms_else_of view x.value y.value)) n
    ∙ conditional-else-fits x.value y.value n)

pub for_deep : (x : Box (Loop Command) Global) (k : Command) (n : ℕ) → k ≡ For x → n ≡ 0 → false ≡ command_fits k n
for_deep x k n e z = rw (e, view_for x, z) (sym (leb-suc-zero (D.depth (commands_of view x.value.body))))

pub for_fits : (x : Box (Loop Command) Global) (k : Command) (n : ℕ) → k ≡ For x → (n ≡ 0 → ⊥)
    → command_fits k n ≡ list_fits x.value.body (n - 1)
for_fits x k zero e h = absurd (h refl)
for_fits x k (suc n) e h = let f : suc n - 1 ≡ n = omega arith in
    rw (e, view_for x, f) (leb-suc-suc (D.depth (commands_of view x.value.body)) n ∙ list-fits x.value.body n)
