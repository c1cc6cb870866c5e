use Rattle.std.proofs.Common.{◌≡◌, List, [], ◌∷◌, map, refl, sym, ap, ap₂, ◌∙◌, Box, Vec}
use Rattle.std.specs.declared.alloc.Global.{Global}
use Rattle.retro_syntax.specs.Tree as T
use Rattle.retro_syntax.specs.Parsing.{join, listed, arms_up_to}
use Rattle.retro_syntax.specs.View.{view, view_step, arms_of, arms_else_of, commands_of, and_or_of, pipeline_of}
use Rattle.retro_syntax.specs.View.{word_view, simple_view}
use Rattle.retro_syntax.specs.declared.tree.Conditional.{Conditional}
use Rattle.retro_syntax.specs.declared.tree.Commands.{Commands}
use Rattle.retro_syntax.specs.declared.tree.AndOr.{AndOr}
use Rattle.retro_syntax.specs.declared.tree.Loop.{Loop}
use Rattle.retro_syntax.specs.declared.tree.Simple.{Simple}
use Rattle.retro_syntax.specs.declared.tree.Pipeline.{Pipeline}
use Rattle.retro_syntax.specs.declared.tree.Connector.{Connector}
use Rattle.retro_syntax.specs.declared.tree.Command.{Command, fold-Command, fold-roll-Command}
use Rattle.retro_syntax.specs.declared.tree.Command.TheVariants.{Pipe, If, IfElse, For, rolls-Pipe, rolls-If}
use Rattle.retro_syntax.specs.declared.tree.Command.TheVariants.{rolls-IfElse, rolls-For}
use Rattle.retro_syntax.specs.declared.tree.Command.TheOpen.{Command-F}

map-fuse : {A B D : Type 0} (h : A → B) (g : B → D) (f : A → D) → ((a : A) → g (h a) ≡ f a) → (xs : List A)
    → map g (map h xs) ≡ map f xs
map-fuse h g f e [] = refl
map-fuse h g f e (x ∷ xs) = ap₂ (λ y ys. y ∷ ys) (e x) (map-fuse h g f e xs)

abbrev viewed : Pipeline Command × Connector → Pipeline T.Command × Connector
viewed j = (record { negated = j.0.negated; command = view j.0.command }, j.1)

abbrev joint : {C : Type 0} → (C → T.Command) → Pipeline C × Connector → T.Pipeline × Connector
joint of j = (pipeline_of of j.0, j.1)

pipelines-fuse : (h : Pipeline Command × Connector → Pipeline T.Command × Connector)
    → ((j : Pipeline Command × Connector) → h j ≡ viewed j)
    → (js : List (Pipeline Command × Connector)) → map (joint (λ c. c)) (map h js) ≡ map (joint view) js
pipelines-fuse h e js = map-fuse h (joint (λ c. c)) (joint view) (λ j. ap (joint (λ c. c)) (e j)) js

commands-fuse : (hb : AndOr Command → AndOr T.Command)
    (hj : Pipeline Command × Connector → Pipeline T.Command × Connector)
    → ((a : AndOr Command) → and_or_of (λ c. c) (hb a) ≡ and_or_of view a)
    → ((j : Pipeline Command × Connector) → hj j ≡ viewed j)
    → (c : Commands Command)
    → listed (map (and_or_of (λ x. x)) (map hb c.before.items))
    (join (map (joint (λ x. x)) (map hj c.last.before.items))
    (T.pipeline c.last.last.negated (view c.last.last.command))) c.final_semicolon
    ≡ commands_of view c
commands-fuse hb hj eb ej c = ap₂ (λ ds a. listed ds a c.final_semicolon)
    (map-fuse hb (and_or_of (λ x. x)) (and_or_of view) eb c.before.items)
    (ap (λ js. join js (pipeline_of view c.last.last)) (pipelines-fuse hj ej c.last.before.items))

pub view_if : (x : Box (Conditional Command) Global) → view (If x) ≡ T.conditional (arms_of view x.value)
unfolding view
view_if x = ap (fold-Command T.Command view_step) (sym (rolls-If x))
    ∙ (fold-roll-Command T.Command view_step (Command-F.If x) ∙ ap T.conditional
    (ap₂ arms_up_to
    (map-fuse _ _ _
    (λ a. ap₂ (λ c t. (c, t))
    (commands-fuse _ _
    (λ b. ap (λ js. join js (pipeline_of view b.last)) (pipelines-fuse _ (λ j. refl) b.before.items)) (λ j. refl)
    a.0)
    (commands-fuse _ _
    (λ b. ap (λ js. join js (pipeline_of view b.last)) (pipelines-fuse _ (λ j. refl) b.before.items)) (λ j. refl)
    a.1)) x.value.before.items)
    (ap₂ T.fi
    (commands-fuse _ _ (λ b. ap (λ js. join js (pipeline_of view b.last)) (pipelines-fuse _ (λ j. refl) b.before.items))
    (λ j. refl) x.value.condition)
    (commands-fuse _ _ (λ b. ap (λ js. join js (pipeline_of view b.last)) (pipelines-fuse _ (λ j. refl) b.before.items))
    (λ j. refl) x.value.consequence))))

pub view_for : (x : Box (Loop Command) Global) → view (For x) ≡ T.loop x.value.name (map word_view x.value.words.items)
    (commands_of view x.value.body)
unfolding view
view_for x = ap (fold-Command T.Command view_step) (sym (rolls-For x))
    ∙ (fold-roll-Command T.Command view_step (Command-F.For x)
    ∙ ap (T.loop x.value.name (map word_view x.value.words.items))
    (ap₂ (λ ds a. listed ds a x.value.body.final_semicolon)
    (map-fuse _ _ _ (λ a. ap (λ js. join js (pipeline_of view a.last)) (map-fuse _ _ _ (λ j. refl) a.before.items))
    x.value.body.before.items)
    (ap (λ js. join js (pipeline_of view x.value.body.last.last))
    (map-fuse _ _ _ (λ j. refl) x.value.body.last.before.items))))

pub view_if_else : (x : Box (Conditional Command) Global) (y : Box (Commands Command) Global)
    → view (IfElse x y) ≡ T.conditional (arms_else_of view x.value y.value)
unfolding view
view_if_else x y = ap (fold-Command T.Command view_step) (sym (rolls-IfElse x y))
    ∙ (fold-roll-Command T.Command view_step (Command-F.IfElse x y) ∙ ap T.conditional
    (ap₂ arms_up_to
    (map-fuse _ _ _
    (λ a. ap₂ (λ c t. (c, t))
    (commands-fuse _ _
    (λ b. ap (λ js. join js (pipeline_of view b.last)) (pipelines-fuse _ (λ j. refl) b.before.items)) (λ j. refl)
    a.0)
    (commands-fuse _ _
    (λ b. ap (λ js. join js (pipeline_of view b.last)) (pipelines-fuse _ (λ j. refl) b.before.items)) (λ j. refl)
    a.1)) x.value.before.items)
    (ap₂ (λ (ct : T.Commands × T.Commands) e. T.otherwise ct.0 ct.1 e)
    (ap₂ (λ c t. (c, t))
    (commands-fuse _ _
    (λ b. ap (λ js. join js (pipeline_of view b.last)) (pipelines-fuse _ (λ j. refl) b.before.items)) (λ j. refl)
    x.value.condition)
    (commands-fuse _ _ (λ b. ap (λ js. join js (pipeline_of view b.last)) (pipelines-fuse _ (λ j. refl) b.before.items))
    (λ j. refl) x.value.consequence))
    (commands-fuse _ _ (λ b. ap (λ js. join js (pipeline_of view b.last)) (pipelines-fuse _ (λ j. refl) b.before.items))
    (λ j. refl) y.value))))

pub view_pipe : (ss : Vec Simple Global) → view (Pipe ss) ≡ T.simples (map simple_view ss.items)
unfolding view
view_pipe ss = ap (fold-Command T.Command view_step) (sym (rolls-Pipe ss))
    ∙ fold-roll-Command T.Command view_step (Command-F.Pipe ss)
