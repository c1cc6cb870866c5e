-- Each call is for a smaller tree, and the views of `if` and `for`.
use Rattle.std.proofs.Common.{rules, arith, ◌≡◌, ℕ, ◌+◌, ◌-◌, ◌*◌, ◌<◌, List, [], ◌∷◌, Option, Some, option_map}
use Rattle.std.proofs.Common.{IfOk, ap, sym, subst, ◌∙◌, drop, get_or, length, map, take, take_all, length-drop}
use Rattle.std.proofs.lemmas.List.{drop_more}
use Rattle.retro_syntax.specs.Parsing.{join}
use Rattle.retro_syntax.specs.Tree as T
use Rattle.retro_syntax.specs.declared.tree.Command.{Command}
use Rattle.retro_syntax.specs.declared.tree.Commands.{Commands}
use Rattle.retro_syntax.specs.declared.tree.Conditional.{Conditional}
use Rattle.retro_syntax.specs.declared.tree.Connector.{Connector}
use Rattle.casebook_usage.specs.declared.obstacle.Obstacle.{Obstacle}
use Rattle.casebook_profile.specs.Commands.{first_of}
use Rattle.casebook_profile.specs.Lines as L
use Rattle.casebook_profile.specs.Scope.{Scope}
use Rattle.casebook_profile.specs.inner.Scopes.{scope_view}
use Rattle.retro_syntax.specs.View.{view, pipeline_of, and_or_of, commands_of, arms_of, arms_else_of}
use Rattle.retro_syntax.proofs.ViewLemmas.{view_if, view_if_else, view_for}
use Rattle.retro_shell.specs.inner.Trees.{arm_of, arms_with, last_arm}
use Rattle.retro_shell.proofs.Sizes.{size, and_or_size, command_size, arms_size, joint_smaller, last_joint_smaller}
use Rattle.retro_shell.proofs.Sizes.{listed_smaller, last_listed_smaller}
use Rattle.casebook_profile.proofs.Sizes.{arm_smaller, last_arm_smaller, ending_arm}
use Rattle.casebook_profile.proofs.lines.+lines.Goals as goal

-- several pipelines are the first one and those after it
first_joined : {A : Type 0} (f : A → T.Pipeline × Connector) (xs : List A) (x : A) (p : T.Pipeline) → 0 < length xs
    → x ≡ get_or xs 0 x → T.chain (f x).0 (f x).1 (join (map f (take (length xs - 1) (drop 1 xs))) p) ≡ join (map f xs) p
first_joined f [] x p some is = absurd (omega (arith, some))
first_joined f (y ∷ ys) x p some is =
    ap (λ zs. T.chain (f x).0 (f x).1 (join (map f zs) p))
    (take_all _ (drop 1 (y ∷ ys)) (omega (arith, length-drop 1 (y ∷ ys))))
    ∙ ap (λ z. T.chain (f z).0 (f z).1 (join (map f ys) p)) is

-- an arm that isn't understood, and the arms after it
arm_found : (scope : Scope) (before : List (Commands Command × Commands Command)) (i : ℕ)
    (arm : Commands Command × Commands Command) (parts : Conditional Command) (other : Option T.Commands) (o : Obstacle)
    → i < length before → arm ≡ get_or before i arm
    → L.arm_obstacle scope (commands_of view arm.0) (commands_of view arm.1) ≡ Some o
    → Some o ≡ L.arms_obstacle scope (arms_with (drop i before) parts other)
arm_found scope before i arm parts other o lt is found =
    sym (ap (λ rest. L.arms_obstacle scope (arms_with rest parts other)) (drop_more before i arm lt)
    ∙ ap (λ a. L.arms_obstacle scope (arms_with (a ∷ drop (i + 1) before) parts other)) (sym is)
    ∙ ap (λ (s : Option Obstacle). first_of s (L.arms_obstacle scope (arms_with (drop (i + 1) before) parts other))) found)

pub and_or_obstacle-returns-in-len1-up : goal.and_or_obstacle-returns-in-len1-up
and_or_obstacle-returns-in-len1-up t c =
    let last = pipeline_of view c.args.and_or.now.last in
    let same = first_joined (λ j. (pipeline_of view j.0, j.1)) c.as_slice.result.now c.first-item.result last (omega arith)
    c.first-item.is
    ∙ ap (λ js. join (map (λ j. (pipeline_of view j.0, j.1)) js) last) c.as_slice.ensures.value in
    subst (λ (a : T.AndOr). IfOk c.chain_obstacle.result (λ found. found ≡ L.and_or_obstacle (scope_view c.args.scope.now) a))
    same c.chain_obstacle.ensures

pub if_obstacle-returns-in-Some : goal.if_obstacle-returns-in-Some
if_obstacle-returns-in-Some t c =
    let same = c.as_slice-arm-items.ensures.value in
    arm_found (scope_view c.args.scope.now) c.args.parts.now.before.items c.loop-arm.arm-index c.arm-item.result
    c.args.parts.now (option_map (λ e. commands_of view e.now) c.args.other) c.in-Some.obstacle
    (subst (λ arms. c.loop-arm.arm-index < length arms) same c.loop-arm-test.true)
    (subst (λ arms. c.arm-item.result ≡ get_or arms c.loop-arm.arm-index c.arm-item.result) same c.arm-item.is)
    (sym c.in_ok-obstacle.ensures ∙ c.in-Some.is)
    ∙ c.loop-arm.invariant

pub command_obstacle-returns-in-If : goal.command_obstacle-returns-in-If
command_obstacle-returns-in-If t c =
    rw (c.in-If.is, view_if c.in-If.parts) (rw c.deref.ensures at c.if_obstacle.ensures)

pub command_obstacle-returns-in-IfElse : goal.command_obstacle-returns-in-IfElse
command_obstacle-returns-in-IfElse t c =
    rw (c.in-IfElse.is, view_if_else c.in-IfElse.parts c.in-IfElse.other)
    (rw (c.deref-in-IfElse.ensures, c.deref-in-IfElse-2.ensures) at c.if_obstacle-in-IfElse.ensures)

pub command_obstacle-returns-in-For : goal.command_obstacle-returns-in-For
command_obstacle-returns-in-For t c =
    rw (c.in-For.is, view_for c.in-For.parts) (rw c.deref-in-For.ensures at c.for_obstacle.ensures)

pub command_obstacle-if_obstacle-requires : goal.command_obstacle-if_obstacle-requires
command_obstacle-if_obstacle-requires t c =
    let h : 8 * arms_size (arms_of view c.deref.result.now) + 2 < 8 * command_size (view c.args.command.now) =
    rw (c.in-If.is, view_if c.in-If.parts, c.deref.ensures) (omega arith) in
    search (rules, h)

pub command_obstacle-if_obstacle-requires-in-IfElse : goal.command_obstacle-if_obstacle-requires-in-IfElse
command_obstacle-if_obstacle-requires-in-IfElse t c =
    let h : 8 * arms_size (arms_else_of view c.deref-in-IfElse.result.now c.deref-in-IfElse-2.result.now) + 2
    < 8 * command_size (view c.args.command.now) =
    rw (
      c.in-IfElse.is,
      view_if_else c.in-IfElse.parts c.in-IfElse.other,
      c.deref-in-IfElse.ensures,
      c.deref-in-IfElse-2.ensures,
    ) (omega arith) in
    search (rules, h)

pub command_obstacle-for_obstacle-requires : goal.command_obstacle-for_obstacle-requires
command_obstacle-for_obstacle-requires t c =
    let h : 8 * size (commands_of view c.deref-in-For.result.now.body) + 4
    < 8 * command_size (view c.args.command.now) =
    rw (c.in-For.is, view_for c.in-For.parts, c.deref-in-For.ensures) (omega arith) in
    search (rules, h)

pub if_obstacle-arm_obstacle-requires : goal.if_obstacle-arm_obstacle-requires
if_obstacle-arm_obstacle-requires t c =
    let h = arm_smaller arm_of c.as_slice-arm-items.result.now c.loop-arm.arm-index c.arm-item.result
    (last_arm (commands_of view c.args.parts.now.condition) (commands_of view c.args.parts.now.consequence)
    (option_map (λ e. commands_of view e.now) c.args.other)) c.loop-arm-test.true c.arm-item.is in
    let k = rw c.as_slice-arm-items.ensures.value at h in
    search (rules, k)

pub if_obstacle-arm_obstacle-requires-2 : goal.if_obstacle-arm_obstacle-requires-2
if_obstacle-arm_obstacle-requires-2 t c =
    let condition = commands_of view c.args.parts.now.condition in
    let consequence = commands_of view c.args.parts.now.consequence in
    let other = option_map (λ e. commands_of view e.now) c.args.other in
    let h = last_arm_smaller arm_of c.args.parts.now.before.items (last_arm condition consequence other)
    (8 * (size condition + size consequence) + 9) (ending_arm condition consequence other) in
    search (rules, h)

pub if_obstacle-list_obstacle-requires : goal.if_obstacle-list_obstacle-requires
if_obstacle-list_obstacle-requires t c =
    let condition = commands_of view c.args.parts.now.condition in
    let consequence = commands_of view c.args.parts.now.consequence in
    let other = option_map (λ e. commands_of view e.now) c.args.other in
    let last : 8 * size (commands_of view c.in-Some-other.commands.now)
    < 8 * arms_size (last_arm condition consequence other) + 2 =
    rw c.in-Some-other.is (omega arith) in
    let h = last_arm_smaller arm_of c.args.parts.now.before.items (last_arm condition consequence other)
    (8 * size (commands_of view c.in-Some-other.commands.now)) last in
    search (rules, h)

pub list_obstacle-and_or_obstacle-requires : goal.list_obstacle-and_or_obstacle-requires
list_obstacle-and_or_obstacle-requires t c =
    let h = listed_smaller (and_or_of view) c.as_slice-and_or-items.result.now c.loop-and_or.and_or-index
    c.and_or-item.result (and_or_of view c.args.commands.now.last) c.args.commands.now.final_semicolon
    c.loop-and_or-test.true c.and_or-item.is in
    let k = rw c.as_slice-and_or-items.ensures.value at h in
    let l : 8 * and_or_size (and_or_of view c.and_or-item.result) + 2 < 8 * size (commands_of view c.args.commands.now) = omega (arith, k) in
    search (rules, l)

pub list_obstacle-and_or_obstacle-requires-2 : goal.list_obstacle-and_or_obstacle-requires-2
list_obstacle-and_or_obstacle-requires-2 t c =
    let h = last_listed_smaller (and_or_of view) c.args.commands.now.before.items
    (and_or_of view c.args.commands.now.last) c.args.commands.now.final_semicolon in
    let l : 8 * and_or_size (and_or_of view c.args.commands.now.last) + 2 < 8 * size (commands_of view c.args.commands.now) = omega (arith, h) in
    search (rules, l)

pub rest_obstacle-command_obstacle-requires : goal.rest_obstacle-command_obstacle-requires
rest_obstacle-command_obstacle-requires t c =
    let h = joint_smaller (λ j. (pipeline_of view j.0, j.1)) c.args.before.now
    c.loop-joint.joint-index c.joint-item.result (pipeline_of view c.args.last.now)
    c.loop-joint-test.true c.joint-item.is in
    search (rules, h)

pub rest_obstacle-command_obstacle-requires-2 : goal.rest_obstacle-command_obstacle-requires-2
rest_obstacle-command_obstacle-requires-2 t c =
    let h = last_joint_smaller (λ j. (pipeline_of view j.0, j.1)) c.args.before.now
    (pipeline_of view c.args.last.now) in
    search (rules, h)
