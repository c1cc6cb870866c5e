-- Each call is for a smaller tree, and the views of `if` and `for`.
use Rattle.std.proofs.Common.{rules, ◌≡◌, arith, ◌+◌, ◌*◌, ◌<◌, option_map, Option, Some, None}
use Rattle.retro_syntax.specs.View.{view, pipeline_of, and_or_of, commands_of, arms_of, arms_else_of}
use Rattle.retro_syntax.proofs.ViewLemmas.{view_if, view_if_else, view_for}
use Rattle.retro_shell.specs.inner.Trees.{arm_of, last_arm}
use Rattle.retro_shell.proofs.Sizes.{size, command_size, arms_size, joint_smaller, last_joint_smaller}
use Rattle.retro_shell.proofs.Sizes.{listed_smaller, last_listed_smaller, condition_smaller, consequence_smaller}
use Rattle.retro_shell.proofs.Sizes.{last_arm_smaller, ending_condition, ending_consequence}
use Rattle.retro_shell.proofs.command.+run.Goals as goal

pub run_command-returns-in_ok-run_if-in-If-clause-means : goal.run_command-returns-in_ok-run_if-in-If-clause-means
run_command-returns-in_ok-run_if-in-If-clause-means g t c =
    rw (c.in-If.is, view_if c.in-If.parts) (rw c.deref-in-If.ensures at c.in_ok-run_if-in-If.ensures.means)

pub run_command-returns-in_ok-run_if-in-IfElse-clause-means
    : goal.run_command-returns-in_ok-run_if-in-IfElse-clause-means
run_command-returns-in_ok-run_if-in-IfElse-clause-means g t c =
    rw (c.in-IfElse.is, view_if_else c.in-IfElse.parts c.in-IfElse.other)
    (rw (c.deref-in-IfElse.ensures, c.deref-in-IfElse-2.ensures) at c.in_ok-run_if-in-IfElse.ensures.means)

pub run_command-returns-in_ok-run_for-in-For-clause-means : goal.run_command-returns-in_ok-run_for-in-For-clause-means
run_command-returns-in_ok-run_for-in-For-clause-means g t c =
    rw (c.in-For.is, view_for c.in-For.parts) (rw c.deref-in-For.ensures at c.in_ok-run_for-in-For.ensures.means)

pub run_and_or-run_pipeline-requires : goal.run_and_or-run_pipeline-requires
run_and_or-run_pipeline-requires g t c κs within =
    let h = joint_smaller (λ j. (pipeline_of view j.0, j.1)) c.as_slice-joint-items.result.now
    c.loop-joint.joint-index c.joint-item.result (pipeline_of view c.args.and_or.now.last)
    c.loop-joint-test.true c.joint-item.is in
    let k = rw c.as_slice-joint-items.ensures.value at h in
    search (rules, k)

pub run_and_or-run_pipeline-requires-then-runs-2 : goal.run_and_or-run_pipeline-requires-then-runs-2
run_and_or-run_pipeline-requires-then-runs-2 g t c κs within =
    let h = last_joint_smaller (λ j. (pipeline_of view j.0, j.1)) c.args.and_or.now.before.items
    (pipeline_of view c.args.and_or.now.last) in
    search (rules, h)

pub run_commands-run_and_or-requires : goal.run_commands-run_and_or-requires
run_commands-run_and_or-requires g t c κs within =
    let h = listed_smaller (and_or_of view) c.as_slice-and_or-items.result.now c.loop-and_or.and_or-index
    c.and_or-item.result (and_or_of view c.args.commands.now.last) c.args.commands.now.final_semicolon
    c.loop-and_or-test.true c.and_or-item.is in
    let k = rw c.as_slice-and_or-items.ensures.value at h in
    search (rules, k)

pub run_commands-run_and_or-requires-2 : goal.run_commands-run_and_or-requires-2
run_commands-run_and_or-requires-2 g t c κs within =
    let h = last_listed_smaller (and_or_of view) c.args.commands.now.before.items
    (and_or_of view c.args.commands.now.last) c.args.commands.now.final_semicolon in
    search (rules, h)

pub run_if-run_commands-requires : goal.run_if-run_commands-requires
run_if-run_commands-requires g t c κs within =
    let h = condition_smaller arm_of c.as_slice-arm-items.result.now c.loop-arm.arm-index c.arm-item.result
    (last_arm (commands_of view c.args.parts.now.condition) (commands_of view c.args.parts.now.consequence)
    (option_map (λ e. commands_of view e.now) c.args.other)) c.loop-arm-test.true c.arm-item.is in
    let k = rw c.as_slice-arm-items.ensures.value at h in
    search (rules, k)

pub run_if-run_commands-requires-then-succeeded : goal.run_if-run_commands-requires-then-succeeded
run_if-run_commands-requires-then-succeeded g t c κs within =
    let h = consequence_smaller arm_of c.as_slice-arm-items.result.now c.loop-arm.arm-index c.arm-item.result
    (last_arm (commands_of view c.args.parts.now.condition) (commands_of view c.args.parts.now.consequence)
    (option_map (λ e. commands_of view e.now) c.args.other)) c.loop-arm-test.true c.arm-item.is in
    let k = rw c.as_slice-arm-items.ensures.value at h in
    search (rules, k)

pub run_if-run_commands-requires-2 : goal.run_if-run_commands-requires-2
run_if-run_commands-requires-2 g t c κs within =
    let condition = commands_of view c.args.parts.now.condition in
    let consequence = commands_of view c.args.parts.now.consequence in
    let other = option_map (λ e. commands_of view e.now) c.args.other in
    let h = last_arm_smaller arm_of c.args.parts.now.before.items (last_arm condition consequence other)
    (size condition) (ending_condition condition consequence other) in
    search (rules, h)

pub run_if-run_commands-requires-then-succeeded-2 : goal.run_if-run_commands-requires-then-succeeded-2
run_if-run_commands-requires-then-succeeded-2 g t c κs within =
    let condition = commands_of view c.args.parts.now.condition in
    let consequence = commands_of view c.args.parts.now.consequence in
    let other = option_map (λ e. commands_of view e.now) c.args.other in
    let h = last_arm_smaller arm_of c.args.parts.now.before.items (last_arm condition consequence other)
    (size consequence) (ending_consequence condition consequence other) in
    search (rules, h)

pub run_if-run_commands-requires-in-Some : goal.run_if-run_commands-requires-in-Some
run_if-run_commands-requires-in-Some g t c κs within =
    let condition = commands_of view c.args.parts.now.condition in
    let consequence = commands_of view c.args.parts.now.consequence in
    let other = option_map (λ e. commands_of view e.now) c.args.other in
    let last : 8 * size (commands_of view c.in-Some.commands.now)
    < 8 * arms_size (last_arm condition consequence other) + 1 =
    rw c.in-Some.is (omega arith) in
    let h = last_arm_smaller arm_of c.args.parts.now.before.items (last_arm condition consequence other)
    (size (commands_of view c.in-Some.commands.now)) last in
    search (rules, h)

pub run_command-run_if-requires : goal.run_command-run_if-requires
run_command-run_if-requires g t c κs within =
    let h : 8 * arms_size (arms_of view c.deref-in-If.result.now) + 1 < 8 * command_size (view c.args.command.now) =
    rw (c.in-If.is, view_if c.in-If.parts, c.deref-in-If.ensures) (omega arith) in
    search (rules, h)

pub run_command-run_if-requires-in-IfElse : goal.run_command-run_if-requires-in-IfElse
run_command-run_if-requires-in-IfElse g t c κs within =
    let h : 8 * arms_size (arms_else_of view c.deref-in-IfElse.result.now c.deref-in-IfElse-2.result.now) + 1
    < 8 * command_size (view c.args.command.now) =
    rw (
      c.in-IfElse.is,
      view_if_else c.in-IfElse.parts c.in-IfElse.other,
      c.deref-in-IfElse.ensures,
      c.deref-in-IfElse-2.ensures,
    ) (omega arith) in
    search (rules, h)

pub run_command-run_for-requires : goal.run_command-run_for-requires
run_command-run_for-requires g t c κs within =
    let h : 8 * size (commands_of view c.deref-in-For.result.now.body) + 4
    < 8 * command_size (view c.args.command.now) =
    rw (c.in-For.is, view_for c.in-For.parts, c.deref-in-For.ensures) (omega arith) in
    search (rules, h)
