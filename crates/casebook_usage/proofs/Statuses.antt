-- The status of a use that a utility takes.
use Rattle.std.proofs.Common.{◌≡◌, ◌≢◌, ℕ, ◌<◌, Bool, true, false, List, [], ◌∷◌, Option, Some, None, ap}
use Rattle.std.proofs.Common.{arith}
use Rattle.std.specs.Prelude.{Result, Ok, Err, codes, if◌then◌else◌, ◌||◌}
use Rattle.retro_tree.specs.Node.{kind_of}
use Rattle.retro_tree.specs.Order.{path_eq}
use Rattle.retro_tree.specs.Path.{PathValue, is_null}
use Rattle.retro_tree.specs.State.{permit_of}
use Rattle.retro_tree.specs.Tree.{node_in}
use Rattle.retro_tree.specs.declared.kind.Kind.{Kind}
use Rattle.retro_tree.specs.declared.state.State.{State}
use Rattle.retro_text.specs.declared.cut.Cut.{Cut}
use Rattle.retro_text.specs.Request.{Given}
use Rattle.retro_utils.specs.Calls.{removal}
use Rattle.retro_utils.specs.Cat.{cat, concatenated}
use Rattle.retro_utils.specs.Cp.{copy_all, copy_at, copy_operand, copy_path, copy_reading, copy_to, cp, put_copy, write_copy}
use Rattle.retro_utils.specs.Cutting.{cut, cut_reading, cut_sources}
use Rattle.retro_utils.specs.Directories.{cd_home, cd_to, enter, home_not_set}
use Rattle.retro_utils.specs.Mkdir.{make_dir, mkdir}
use Rattle.retro_utils.specs.MkdirParents.{make_parents, mkdir_parents}
use Rattle.retro_utils.specs.Mv.{is_device, move_all, move_all_to, move_at, move_operand, move_path, move_to, move_unless}
use Rattle.retro_utils.specs.Mv.{mv, no_place, no_source, put_moved}
use Rattle.retro_utils.specs.Operands.{after_outcome, at_operand, in_turn, is_several, located}
use Rattle.retro_utils.specs.Outcomes.{nothing_done, usage, with_fault, with_outcome, with_output, with_reading}
use Rattle.retro_utils.specs.Output.{appended}
use Rattle.retro_utils.specs.Reading.{input_in, or_dash, path_reading, sources}
use Rattle.retro_utils.specs.Reasons.{refusal}
use Rattle.retro_utils.specs.Rm.{is_protected, remove_operand, rm}
use Rattle.retro_utils.specs.Tee.{Files, append_all, open_all, open_operand, tee, with_file, write_all}
use Rattle.retro_utils.specs.Transfers.{after_transfer, target_of, target_path}
use Rattle.retro_utils.specs.declared.done.Done.{Done}
use Rattle.retro_utils.specs.declared.input.Input.{Input}
use Rattle.retro_utils.specs.declared.mode.Mode.{Mode}
use Rattle.retro_utils.specs.declared.place.Place.{Place}
use Rattle.retro_utils.specs.declared.reason.Reason.{Reason}

-- a status of 0 or 1
pub record IsLow (done : Done) : Type 0 where
  pub low : done.status < 2

pub low_is_no_usage : (done : Done) (name : List ℕ) → IsLow done → done ≢ usage name
low_is_no_usage done name low e =
    let is : done.status ≡ 2 = ap (λ (d : Done). d.status) e in
    let small : done.status < 2 = low.low in
    absurd (omega arith)

low_zero : IsLow (nothing_done 0)
low_zero = record { low = omega arith }

-- ---- one operand

if_low : {X : Type 0} (f : X → Done) (b : Bool) (x y : X) → IsLow (f x) → IsLow (f y)
    → IsLow (f (if b then x else y))
if_low f true x y one two = one
if_low f false x y one two = two

fault_low : (name operand : List ℕ) (reason : Reason) (done : Done) → IsLow (with_fault name operand reason done)
fault_low name operand reason done = record { low = omega arith }

outcome_low : (name operand : List ℕ) (outcome : Result (Unit {0}) Reason) (done : Done) → IsLow done
    → IsLow (with_outcome name operand outcome done)
outcome_low name operand (Ok u) done low = low
outcome_low name operand (Err reason) done low = fault_low name operand reason done

reading_low : (name operand : List ℕ) (r : Result (List ℕ) Reason) (done : Done) → IsLow done
    → IsLow (with_reading name operand r done)
reading_low name operand (Ok bytes) done low = record { low = low.low }
reading_low name operand (Err reason) done low = fault_low name operand reason done

-- ---- operands in turn

turn_low : (name : List ℕ) (step : List ℕ → State → State × Result (Unit {0}) Reason) (operands : List (List ℕ))
    (done : Done) (s : State) → IsLow done → IsLow (in_turn name step operands done s).1
turn_low name step [] done s low = low
turn_low name step (x ∷ xs) done s low =
    turn_low name step xs (after_outcome name x done (step x s)).1 (step x s).0
    (outcome_low name x (step x s).1 done low)

concatenated_low : (all : List (List ℕ × Result (List ℕ) Reason)) (done : Done) → IsLow done
    → IsLow (concatenated all done)
concatenated_low [] done low = low
concatenated_low ((operand, r) ∷ more) done low =
    concatenated_low more (with_reading (codes "cat") operand r done) (reading_low (codes "cat") operand r done low)

cut_low : (how : Cut) (all : List (List ℕ × Result (List ℕ) Reason)) (done : Done) → IsLow done
    → IsLow (cut_sources how all done)
cut_low how [] done low = low
cut_low how ((operand, r) ∷ more) done low =
    cut_low how more (with_reading (codes "cut") operand (cut_reading how r) done)
    (reading_low (codes "cut") operand (cut_reading how r) done low)

-- ---- `cp`

module _ (x last : List ℕ) (done : Done) (low : IsLow done) where
  put_copy_low : (reason : Option Reason) (q : PathValue) (text : List ℕ) (s : State)
      → IsLow (after_transfer (codes "cp") x last done (put_copy reason q text s)).1
  put_copy_low None q text s = low
  put_copy_low (Some reason) q text s = fault_low (codes "cp") last reason done

  write_low : (q : PathValue) (text : List ℕ) (s : State)
      → IsLow (after_transfer (codes "cp") x last done (write_copy q text s)).1
  unfolding write_copy
  write_low q text s =
      if_low (λ step. (after_transfer (codes "cp") x last done step).1) (is_null q) (s, Ok tt) _ low
      (put_copy_low (refusal (permit_of q 0 s)) q text s)

  read_low : (p q : PathValue) (r : Result (List ℕ) Reason) (s : State)
      → IsLow (after_transfer (codes "cp") x last done (copy_reading p q r s)).1
  read_low p q (Err reason) s = fault_low (codes "cp") x reason done
  read_low p q (Ok text) s =
      if_low (λ step. (after_transfer (codes "cp") x last done step).1) (path_eq p q) _ _
      (record { low = omega arith }) (write_low q text s)

  copy_low : (target : _) (p : Result PathValue Reason) (s : State)
      → IsLow (after_transfer (codes "cp") x last done (copy_at target p s)).1
  unfolding copy_path
  copy_low target (Ok p) s = read_low p (target_path target p) (path_reading p s) s
  copy_low target (Err reason) s = fault_low (codes "cp") x reason done

copy_all_low : (sid : ℕ) (target : _) (last : List ℕ) (operands : List (List ℕ)) (done : Done) (s : State)
    → IsLow done → IsLow (copy_all sid target last operands done s).1
unfolding copy_operand
copy_all_low sid target last [] done s low = low
copy_all_low sid target last (x ∷ xs) done s low =
    copy_all_low sid target last xs _ _ (copy_low x last done low target (located sid x s) s)

copy_to_low : (sid : ℕ) (target : _) (last : List ℕ) (operands : List (List ℕ)) (s : State)
    → IsLow (copy_to sid target last operands s).1
copy_to_low sid (Ok target) last operands s = copy_all_low sid target last operands (nothing_done 0) s low_zero
copy_to_low sid (Err reason) last operands s = fault_low (codes "cp") last reason (nothing_done 0)

pub cp_low : (sid : ℕ) (last x : List ℕ) (xs : List (List ℕ)) (s : State) → IsLow (cp sid last (x ∷ xs) s).1
unfolding cp
cp_low sid last x xs s = copy_to_low sid (target_of sid (is_several (x ∷ xs)) last s) last (x ∷ xs) s

-- ---- `mv`

module _ (x last : List ℕ) (done : Done) (low : IsLow done) where
  put_moved_low : (reason : Option Reason) (p q : PathValue) (s : State)
      → IsLow (after_transfer (codes "mv") x last done (put_moved reason p q s)).1
  put_moved_low None p q s = low
  put_moved_low (Some reason) p q s = fault_low (codes "mv") last reason done

  unless_low : (reason : Option Reason) (kind : Kind) (p q : PathValue) (s : State)
      → IsLow (after_transfer (codes "mv") x last done (move_unless reason kind p q s)).1
  unless_low None kind p q s = put_moved_low (no_place kind q s) p q s
  unless_low (Some reason) kind p q s = fault_low (codes "mv") x reason done

  move_path_low : (p q : PathValue) (s : State)
      → IsLow (after_transfer (codes "mv") x last done (move_path p q s)).1
  unfolding move_path
  move_path_low p q s =
      unless_low (no_source (kind_of (node_in p s.tree)) p q) (kind_of (node_in p s.tree)) p q s

  move_to_low : (p q : PathValue) (s : State)
      → IsLow (after_transfer (codes "mv") x last done (move_to x p q s)).1
  unfolding move_to
  move_to_low p q s =
      if_low (λ step. (after_transfer (codes "mv") x last done step).1) (is_protected x p || is_device q) _ _
      (record { low = omega arith }) (move_path_low p q s)

  move_low : (target : _) (p : Result PathValue Reason) (s : State)
      → IsLow (after_transfer (codes "mv") x last done (move_at x target p s)).1
  move_low target (Ok p) s = move_to_low p (target_path target p) s
  move_low target (Err reason) s = fault_low (codes "mv") x reason done

move_all_low : (sid : ℕ) (target : _) (last : List ℕ) (operands : List (List ℕ)) (done : Done) (s : State)
    → IsLow done → IsLow (move_all sid target last operands done s).1
unfolding move_operand
move_all_low sid target last [] done s low = low
move_all_low sid target last (x ∷ xs) done s low =
    move_all_low sid target last xs _ _ (move_low x last done low target (located sid x s) s)

move_to_target_low : (sid : ℕ) (target : _) (last : List ℕ) (operands : List (List ℕ)) (s : State)
    → IsLow (move_all_to sid target last operands s).1
move_to_target_low sid (Ok target) last operands s = move_all_low sid target last operands (nothing_done 0) s low_zero
move_to_target_low sid (Err reason) last operands s = fault_low (codes "mv") last reason (nothing_done 0)

pub mv_low : (sid : ℕ) (last x : List ℕ) (xs : List (List ℕ)) (s : State) → IsLow (mv sid last (x ∷ xs) s).1
unfolding mv
mv_low sid last x xs s = move_to_target_low sid (target_of sid (is_several (x ∷ xs)) last s) last (x ∷ xs) s

-- ---- the others

pub mkdir_low : (sid : ℕ) (x : List ℕ) (xs : List (List ℕ)) (s : State) → IsLow (mkdir sid (x ∷ xs) s).1
unfolding mkdir
mkdir_low sid x xs s = turn_low (codes "mkdir") (at_operand sid make_dir) (x ∷ xs) (nothing_done 0) s low_zero

pub parents_low : (sid : ℕ) (x : List ℕ) (xs : List (List ℕ)) (s : State) → IsLow (mkdir_parents sid (x ∷ xs) s).1
unfolding mkdir_parents
parents_low sid x xs s = turn_low (codes "mkdir") (at_operand sid make_parents) (x ∷ xs) (nothing_done 0) s low_zero

pub rm_low : (sid : ℕ) (options : List Given) (x : List ℕ) (xs : List (List ℕ)) (s : State)
    → IsLow (rm sid (removal options) (x ∷ xs) s).1
unfolding rm
rm_low sid options x xs s =
    turn_low (codes "rm") (remove_operand sid (removal options)) (x ∷ xs) (nothing_done 0) s low_zero

pub cat_low : (sid : ℕ) (operands : List (List ℕ)) (input : Input) (s : State) → IsLow (cat sid operands input s).1
unfolding cat
cat_low sid operands input s = concatenated_low (sources sid (or_dash operands) input s) (nothing_done 0) low_zero

pub cut_all_low : (sid : ℕ) (how : Cut) (operands : List (List ℕ)) (input : Input) (s : State)
    → IsLow (cut sid how operands input s).1
unfolding cut
cut_all_low sid how operands input s = cut_low how (sources sid (or_dash operands) input s) (nothing_done 0) low_zero

file_low : (x : List ℕ) (p : Result PathValue Reason) (files : Files) → IsLow files.1 → IsLow (with_file x p files).1
file_low x (Ok p) (files, done) low = low
file_low x (Err reason) (files, done) low = fault_low (codes "tee") x reason done

open_low : (sid : ℕ) (mode : Mode) (operands : List (List ℕ)) (files : Files) (s : State) → IsLow files.1
    → IsLow (open_all sid mode operands files s).1.1
open_low sid mode [] files s low = low
open_low sid mode (x ∷ xs) files s low =
    open_low sid mode xs (with_file x (open_operand sid mode x s).1 files) (open_operand sid mode x s).0
    (file_low x (open_operand sid mode x s).1 files low)

append_low : (text : List ℕ) (files : List (List ℕ × PathValue)) (done : Done) (s : State) → IsLow done
    → IsLow (append_all text files done s).1
append_low text [] done s low = low
append_low text ((x, p) ∷ files) done s low =
    append_low text files (after_outcome (codes "tee") x done (appended text p s)).1 (appended text p s).0
    (outcome_low (codes "tee") x (appended text p s).1 done low)

write_all_low : (text : List ℕ) (files : Files) (s : State) → IsLow files.1 → IsLow (write_all text files s).1
unfolding write_all
write_all_low [] (files, done) s low = low
write_all_low (b ∷ text) (files, done) s low =
    append_low (b ∷ text) files (with_output (b ∷ text) done) s (record { low = low.low })

pub tee_low : (sid : ℕ) (mode : Mode) (operands : List (List ℕ)) (input : Input) (s : State)
    → IsLow (tee sid mode operands input s).1
unfolding tee
tee_low sid mode operands input s =
    let all : State × Files = open_all sid mode operands ([], nothing_done 0) s in
    write_all_low (input_in input all.0) all.1 all.0 (open_low sid mode operands ([], nothing_done 0) s low_zero)

pub cd_to_low : (place : Place) (operand : List ℕ) (s : State) → IsLow (cd_to place operand s).1
unfolding cd_to
cd_to_low place operand s =
    outcome_low (codes "cd") operand (at_operand place.sid (enter place) operand s).1 (nothing_done 0) low_zero

pub cd_home_low : (place : Place) (home : Option (List ℕ)) (s : State) → IsLow (cd_home place home s).1
unfolding home_not_set
cd_home_low place None s = record { low = omega arith }
cd_home_low place (Some []) s = record { low = omega arith }
cd_home_low place (Some (b ∷ text)) s = cd_to_low place (b ∷ text) s
