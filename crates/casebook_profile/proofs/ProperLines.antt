-- No command of an understood line is unknown or a usage fault.
use Rattle.std.proofs.Common.{◌≡◌, ℕ, ◌||◌, Bool, true, false, not, List, [], ◌∷◌, ◌++◌, length, map, nat_le, Option, Some, None}
use Rattle.std.proofs.Common.{refl, sym, subst, if◌then◌else◌}
use Rattle.std.proofs.lemmas.Bool.{and_parts}
use Rattle.std.specs.List.{list_all, list_any}
use Rattle.retro_text.specs.declared.utility.Utility.{Utility}
use Rattle.retro_tree.specs.Change.{put_var}
use Rattle.retro_tree.specs.Session.{value_limit}
use Rattle.retro_tree.specs.declared.state.State.{State}
use Rattle.retro_syntax.specs.Lines.{parsed}
use Rattle.retro_syntax.specs.Tree.{Word, Simple, assignments, command, Commands, last, more, AndOr, end, chain}
use Rattle.retro_syntax.specs.Tree.{Pipeline, pipeline, Command, simples, conditional, loop, Arms, fi, otherwise, elif}
use Rattle.retro_utils.specs.Outcomes.{nothing_done}
use Rattle.retro_utils.specs.declared.done.Done.{Done}
use Rattle.retro_utils.specs.declared.input.Input.TheVariants.{Bytes}
use Rattle.retro_shell.specs.Commands.{Step, context_of, for_each, for_fields, goes_on, is_several, negated, no_branch}
use Rattle.retro_shell.specs.Commands.{nothing_run, pipe, printed, run_and_or, run_arms, run_command, run_commands, run_if}
use Rattle.retro_shell.specs.Commands.{run_pipeline, stages, succeeded, turns}
use Rattle.retro_shell.specs.Expansion.{arguments, fields}
use Rattle.retro_shell.specs.Fields.{fields_fit}
use Rattle.retro_shell.specs.Simple.{simple}
use Rattle.casebook_usage.specs.Obstacles.{use_obstacle}
use Rattle.casebook_usage.proofs.Fitting.{understood_fits}
use Rattle.casebook_usage.proofs.UsageFaults.{fitting_calls}
use Rattle.casebook_profile.specs.Commands.{are_clear, call_obstacle, is_input, simple_obstacle, stages_obstacle, targets}
use Rattle.casebook_profile.specs.Commands.{unless_clear, utility_of, words_obstacle}
use Rattle.casebook_profile.specs.Lines.{and_or_obstacle, arms_obstacle, command_obstacle, line_obstacle, list_obstacle}
use Rattle.casebook_profile.specs.Lines.{loop_obstacle, loop_scope, pipeline_obstacle, rest_obstacle, set_by, set_by_pipeline}
use Rattle.casebook_profile.specs.Lines.{text_obstacle}
use Rattle.casebook_profile.specs.Proper.{AreProperStages, AreProperTurns, Context, Demand, HomesAreAbsolute, If, IsProperCall}
use Rattle.casebook_profile.specs.Proper.{IsProperSimple, Progress, ProperAndOr, ProperArms, ProperCommand, ProperCommands}
use Rattle.casebook_profile.specs.Proper.{ProperLine, ProperPipeline}
use Rattle.casebook_profile.specs.Scope.{Scope, is_loop, with_loop, with_set}
use Rattle.casebook_profile.specs.Variables.{is_special}
use Rattle.casebook_profile.specs.Words.{is_clear, is_plain_text, is_plain_word, shape_of}
use Rattle.casebook_profile.proofs.ClearWords.{call_fields, plain_fields}
use Rattle.casebook_profile.proofs.LoopValues.{LoopsHold, fewer_hold, is_clear_test, no_first, no_form, none_hold, not_loop}
use Rattle.casebook_profile.proofs.LoopValues.{put_holds, simple_holds, some_none, turn_holds}

-- ---- simple commands

module _ (scope : Scope) (context : Context) (s : State) (holds : LoopsHold scope.loops context.place.sid s) where
  utility_proper : (has_input : Bool) (name : Word) (operands : List Word) (o : Option Utility) → utility_of name ≡ o
      → call_obstacle scope has_input o operands ≡ None → HomesAreAbsolute context.place.sid s
      → IsProperCall (fields context s (name ∷ operands))
  utility_proper has_input name operands None is none homes = absurd (some_none _ none)
  utility_proper has_input name operands (Some u) is none homes =
      let (clear, use_none) = no_first (unless_clear (are_clear scope operands))
      (use_obstacle u has_input (map (shape_of scope) operands)) none in
      let (text, (rest, (are, (named, become)))) = call_fields scope context s holds name operands u is
      (is_clear_test _ clear) homes in
      subst IsProperCall (sym are) (
        u,
        (
          named,
          λ input place t. fitting_calls u rest input place t
              (understood_fits u has_input (map (shape_of scope) operands) rest use_none become),
        ),
      )

  words_proper : (has_input : Bool) (ws : List Word) → words_obstacle scope has_input ws ≡ None
      → HomesAreAbsolute context.place.sid s → IsProperCall (fields context s ws)
  unfolding fields
  words_proper has_input [] none homes = tt
  words_proper has_input (name ∷ operands) none homes =
      utility_proper has_input name operands (utility_of name) refl none homes

  simple_proper : (is_piped : Bool) (c : Simple) → simple_obstacle scope is_piped c ≡ None → IsProperSimple context c s
  unfolding simple_obstacle
  simple_proper is_piped (assignments all) none = tt
  simple_proper is_piped (command items) none =
      let has_input : Bool = is_piped || list_any is_input items in
      words_proper has_input (arguments items)
      (no_first (words_obstacle scope has_input (arguments items)) (unless_clear (are_clear scope (targets items))) none).0

-- ---- pipes

module _ (scope : Scope) (context : Context) where
  stages_proper : (is_piped : Bool) (cs : List Simple) (s : State) (done : Done) → stages_obstacle scope is_piped cs ≡ None
      → LoopsHold scope.loops context.place.sid s → AreProperStages context cs (s, done)
  stages_proper is_piped [] s done none holds = tt
  stages_proper is_piped (c ∷ cs) s done none holds =
      let (first, rest) = no_first (simple_obstacle scope is_piped c) (stages_obstacle scope true cs) none in
      let r : State × Done = simple context c (Bytes done.out) s in (
        simple_proper scope context s holds is_piped c first,
        stages_proper true cs r.0 r.1 rest (simple_holds scope is_piped context c (Bytes done.out) s first holds),
      )

  stages_hold : (is_piped : Bool) (cs : List Simple) (done : Done) (x : Progress) (s : State)
      → stages_obstacle scope is_piped cs ≡ None → LoopsHold scope.loops context.place.sid s
      → LoopsHold scope.loops context.place.sid (stages context cs done x s).0
  stages_hold is_piped [] done x s none holds = holds
  stages_hold is_piped (c ∷ cs) done x s none holds =
      let (first, rest) = no_first (simple_obstacle scope is_piped c) (stages_obstacle scope true cs) none in
      let r : State × Done = simple context c (Bytes done.out) s in
      stages_hold true cs r.1 (printed done.err x) r.0 rest
      (simple_holds scope is_piped context c (Bytes done.out) s first holds)

-- ---- parts of a line

-- a demand holds before a part, and the variables of loops are plain after it
abbrev Passes : List (List ℕ) → ℕ → Demand → Step → Progress → State → Type 0
Passes loops sid demand step x s = demand x s × LoopsHold loops sid (step x s).0

run_passes : (runs : Bool) (loops : List (List ℕ)) (sid : ℕ) (demand : Demand) (step : Step) (x : Progress) (s : State)
    → LoopsHold loops sid s → Passes loops sid demand step x s → Passes loops sid (If runs demand) (run_if runs step) x s
run_passes true loops sid demand step x s holds passes = passes
run_passes false loops sid demand step x s holds passes = (tt, holds)

negated_holds : (bang : Bool) (loops : List (List ℕ)) (sid : ℕ) (r : State × Progress) → LoopsHold loops sid r.0
    → LoopsHold loops sid (negated bang r).0
negated_holds true loops sid r holds = holds
negated_holds false loops sid r holds = holds

-- what runs if a test holds, and what else
either_passes : (b : Bool) (loops : List (List ℕ)) (sid : ℕ) (demand other : Demand) (step alternative : Step)
    (x : Progress) (s : State) → Passes loops sid demand step x s → Passes loops sid other alternative x s
    → (If b demand x s × If (not b) other x s) × LoopsHold loops sid (if b then step x s else alternative x s).0
either_passes true loops sid demand other step alternative x s passes less = ((passes.0, tt), passes.1)
either_passes false loops sid demand other step alternative x s passes less = ((tt, less.0), less.1)

size_holds : (fits : Bool) (loops : List (List ℕ)) (sid : ℕ) (s : State) (x : Progress) (r : State × Progress)
    → LoopsHold loops sid s → LoopsHold loops sid r.0 → LoopsHold loops sid (if fits then r else (s, x)).0
size_holds true loops sid s x r holds after = after
size_holds false loops sid s x r holds after = holds

-- ---- pipes

pipe_passes : (scope : Scope) (sid : ℕ) (cs : List Simple) (x : Progress) (s : State) → stages_obstacle scope false cs ≡ None
    → LoopsHold scope.loops sid s → Passes scope.loops sid (ProperCommand sid (simples cs)) (pipe sid cs) x s
unfolding pipe
pipe_passes scope sid cs x s none holds =
    let context : Context = record { place = record { sid = sid; sub = is_several cs }; last = x.last } in (
      stages_proper scope context false cs s (nothing_done 0) none holds,
      stages_hold scope context false cs (nothing_done 0) x s none holds,
    )

-- ---- `for`

module _ (loops inner : List (List ℕ)) (sid : ℕ) (name : List ℕ) (test : List ℕ → Bool) (demand : Demand) (body : Step)
    (enter : (f : List ℕ) (s : State) → test f ≡ true → LoopsHold loops sid s → LoopsHold inner sid (put_var sid name f s))
    (leave : (s : State) → LoopsHold inner sid s → LoopsHold loops sid s)
    (passes : (x : Progress) (s : State) → LoopsHold inner sid s → Passes inner sid demand body x s) where
  turns_passes : (fs : List (List ℕ)) (x : Progress) (s : State) → list_all test fs ≡ true → LoopsHold loops sid s
      → Passes loops sid (AreProperTurns sid name body demand fs) (turns sid name body fs) x s
  turns_passes [] x s all holds = (tt, holds)
  turns_passes (f ∷ fs) x s all holds =
      let a = and_parts (test f) (list_all test fs) all in
      let first = passes x (put_var sid name f s) (enter f s a.0 holds) in
      let r : State × Progress = body x (put_var sid name f s) in
      let rest = turns_passes fs r.1 r.0 a.1 (leave r.0 first.1) in (
        (first.0, rest.0),
        size_holds (nat_le (length f) value_limit) loops sid s _ (turns sid name body fs r.1 r.0) holds rest.1,
      )

  each_holds : (fs : List (List ℕ)) (x : Progress) (s : State) → list_all test fs ≡ true → LoopsHold loops sid s
      → LoopsHold loops sid (for_each sid name body fs x s).0
  each_holds [] x s all holds = holds
  each_holds (f ∷ fs) x s all holds = (turns_passes (f ∷ fs) x s all holds).1

  loop_passes : (fs : List (List ℕ)) (x : Progress) (s : State) → list_all test fs ≡ true → LoopsHold loops sid s
      → Passes loops sid (AreProperTurns sid name body demand fs) (for_fields sid name body fs) x s
  loop_passes fs x s all holds = (
    (turns_passes fs x s all holds).0,
    size_holds (fields_fit fs) loops sid s _ (for_each sid name body fs x s) holds (each_holds fs x s all holds),
  )

all_pass : (fs : List (List ℕ)) → list_all (λ f. true) fs ≡ true
all_pass [] = refl
all_pass (f ∷ fs) = all_pass fs

-- the body, after the words
body_passes : (plain : Bool) (scope : Scope) (sid : ℕ) (name : List ℕ) (demand : Demand) (body : Step)
    (fs : List (List ℕ)) (x : Progress) (s : State) → is_loop scope name ≡ false
    → (plain ≡ true → list_all is_plain_text fs ≡ true)
    → ((y : Progress) (t : State) → LoopsHold (if plain then with_loop name scope else with_set (name ∷ []) scope).loops sid t
    → Passes (if plain then with_loop name scope else with_set (name ∷ []) scope).loops sid demand body y t)
    → LoopsHold scope.loops sid s
    → Passes scope.loops sid (AreProperTurns sid name body demand fs) (for_fields sid name body fs) x s
body_passes true scope sid name demand body fs x s unset all passes holds =
    loop_passes scope.loops (scope.loops ++ name ∷ []) sid name is_plain_text demand body
    (λ f t is h. turn_holds scope.loops sid name f t unset is h) (λ t h. fewer_hold scope.loops sid name t h) passes fs x s
    (all refl) holds
body_passes false scope sid name demand body fs x s unset all passes holds =
    loop_passes scope.loops scope.loops sid name (λ f. true) demand body
    (λ f t is h. put_holds scope.loops sid name f t unset h) (λ t h. h) passes fs x s (all_pass fs) holds

-- ---- the tree of a line

module _ (sid : ℕ) where
  mutual
    commands_passes : (c : Commands) (scope : Scope) (x : Progress) (s : State) → list_obstacle scope c ≡ None
        → LoopsHold scope.loops sid s → Passes scope.loops sid (ProperCommands sid c) (run_commands sid c) x s
    commands_passes (last a closed) scope x s none holds = and_or_passes a scope x s none holds
    commands_passes (more a c) scope x s none holds =
        let (first, rest) = no_first (and_or_obstacle scope a) (list_obstacle (with_set (set_by a) scope) c) none in
        let r : State × Progress = run_and_or sid true a x s in
        let (proper, after) = and_or_passes a scope x s first holds in
        let (all, end_holds) = commands_passes c (with_set (set_by a) scope) r.1 r.0 rest after in
        ((proper, all), end_holds)

    and_or_passes : (a : AndOr) (scope : Scope) (x : Progress) (s : State) → and_or_obstacle scope a ≡ None
        → LoopsHold scope.loops sid s → Passes scope.loops sid (ProperAndOr sid true a) (run_and_or sid true a) x s
    and_or_passes (end p) scope x s none holds = pipeline_passes p scope x s none holds
    and_or_passes (chain p op a) scope x s none holds =
        let (first, rest) = no_first (pipeline_obstacle scope p) (rest_obstacle (with_set (set_by_pipeline p) scope) a) none in
        let r : State × Progress = run_pipeline sid p x s in
        let (proper, after) = pipeline_passes p scope x s first holds in
        let (all, end_holds) = rest_passes a (goes_on op r.1) (with_set (set_by_pipeline p) scope) r.1 r.0 rest after in
        ((proper, all), end_holds)

    rest_passes : (a : AndOr) (runs : Bool) (scope : Scope) (x : Progress) (s : State) → rest_obstacle scope a ≡ None
        → LoopsHold scope.loops sid s → Passes scope.loops sid (ProperAndOr sid runs a) (run_and_or sid runs a) x s
    rest_passes (end p) runs scope x s none holds =
        run_passes runs scope.loops sid (ProperPipeline sid p) (run_pipeline sid p) x s holds
        (pipeline_passes p scope x s none holds)
    rest_passes (chain p op a) runs scope x s none holds =
        let (first, rest) = no_first (pipeline_obstacle scope p) (rest_obstacle scope a) none in
        let r : State × Progress = run_if runs (run_pipeline sid p) x s in
        let (proper, after) = run_passes runs scope.loops sid (ProperPipeline sid p) (run_pipeline sid p) x s holds
        (pipeline_passes p scope x s first holds) in
        let (all, end_holds) = rest_passes a (goes_on op r.1) scope r.1 r.0 rest after in
        ((proper, all), end_holds)

    pipeline_passes : (p : Pipeline) (scope : Scope) (x : Progress) (s : State) → pipeline_obstacle scope p ≡ None
        → LoopsHold scope.loops sid s → Passes scope.loops sid (ProperPipeline sid p) (run_pipeline sid p) x s
    pipeline_passes (pipeline bang c) scope x s none holds =
        let (proper, after) = command_passes c scope x s none holds in
        (proper, negated_holds bang scope.loops sid (run_command sid c x s) after)

    command_passes : (c : Command) (scope : Scope) (x : Progress) (s : State) → command_obstacle scope c ≡ None
        → LoopsHold scope.loops sid s → Passes scope.loops sid (ProperCommand sid c) (run_command sid c) x s
    command_passes (simples cs) scope x s none holds =
        pipe_passes scope sid cs x s none holds
    command_passes (conditional a) scope x s none holds = arms_passes a scope x s none holds
    command_passes (loop name ws c) scope x s none holds =
        let (first, rest) = no_first (loop_obstacle scope name ws) (list_obstacle (loop_scope scope name ws) c) none in
        let (unset, clear) = not_loop (is_loop scope name) (list_all (is_clear scope) ws)
        (no_form (is_special name) _ first) in
        body_passes (list_all is_plain_word ws) scope sid name (ProperCommands sid c) (run_commands sid c)
        (fields (context_of sid x) s ws) x s unset
        (λ known. plain_fields scope (context_of sid x) s holds ws known clear)
        (λ y t h. commands_passes c (loop_scope scope name ws) y t rest h) holds

    arms_passes : (a : Arms) (scope : Scope) (x : Progress) (s : State) → arms_obstacle scope a ≡ None
        → LoopsHold scope.loops sid s → Passes scope.loops sid (ProperArms sid a) (run_arms sid a) x s
    arms_passes (fi c t) scope x s none holds =
        let (first, rest) = no_first (list_obstacle scope c) (list_obstacle scope t) none in
        let r : State × Progress = run_commands sid c x s in
        let (proper, after) = commands_passes c scope x s first holds in
        let (branch, end_holds) = either_passes (succeeded r.1) scope.loops sid (ProperCommands sid t) (λ y u. Unit {0})
        (run_commands sid t) no_branch r.1 r.0 (commands_passes t scope r.1 r.0 rest after) (tt, after) in
        ((proper, branch.0), end_holds)
    arms_passes (otherwise c t e) scope x s none holds =
        let (both, third) = no_first _ (list_obstacle scope e) none in
        let (first, second) = no_first (list_obstacle scope c) (list_obstacle scope t) both in
        let r : State × Progress = run_commands sid c x s in
        let (proper, after) = commands_passes c scope x s first holds in
        let (branch, end_holds) = either_passes (succeeded r.1) scope.loops sid (ProperCommands sid t) (ProperCommands sid e)
        (run_commands sid t) (run_commands sid e) r.1 r.0 (commands_passes t scope r.1 r.0 second after)
        (commands_passes e scope r.1 r.0 third after) in
        ((proper, branch), end_holds)
    arms_passes (elif c t a) scope x s none holds =
        let (both, third) = no_first _ (arms_obstacle scope a) none in
        let (first, second) = no_first (list_obstacle scope c) (list_obstacle scope t) both in
        let r : State × Progress = run_commands sid c x s in
        let (proper, after) = commands_passes c scope x s first holds in
        let (branch, end_holds) = either_passes (succeeded r.1) scope.loops sid (ProperCommands sid t) (ProperArms sid a)
        (run_commands sid t) (run_arms sid a) r.1 r.0 (commands_passes t scope r.1 r.0 second after)
        (arms_passes a scope r.1 r.0 third after) in
        ((proper, branch), end_holds)

-- ---- lines

line_proper : (scope : Scope) (sid : ℕ) (line : Option (Option Commands)) (s : State) → scope.loops ≡ []
    → line_obstacle scope line ≡ None → ProperLine sid line s
line_proper scope sid None s none is = absurd (some_none _ is)
line_proper scope sid (Some None) s none is = tt
line_proper scope sid (Some (Some c)) s none is =
    (commands_passes sid c scope nothing_run s is (none_hold scope.loops sid s none)).0

pub understood_lines : (scope : Scope) (sid : ℕ) (text : List ℕ) (s : State)
    → scope.loops ≡ [] → text_obstacle scope text ≡ None → ProperLine sid (parsed text) s
unfolding text_obstacle
understood_lines scope sid text s none is = line_proper scope sid (parsed text) s none is
