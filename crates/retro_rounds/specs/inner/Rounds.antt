-- What the rounds of a repair come to.
use Rattle.std.specs.Prelude.{◌≡◌, ◌⊎◌, ◌+◌, ◌-◌, ◌<◌, ◌≤◌, ℕ, suc, Bool, true, false}
use Rattle.std.specs.Prelude.{List, ◌∷◌, ◌++◌, length, Option, None, Some, IsSome, is_some}
use Rattle.std.specs.List.{AllByRecursion}
use Rattle.retro_tree.specs.Notes.{Holds}
use Rattle.retro_tree.specs.declared.state.State.{State}
use Rattle.retro_keep.specs.declared.edit.Edit.{Edit}
use Rattle.retro_keep.specs.Recording.{IsRecordingOf, RecordingValue, number_in, script_in}
use Rattle.retro_history.specs.Index.{Line}
use Rattle.retro_keep.specs.Recorded.{recorded_before}
use Rattle.retro_redo.specs.Meetings.{lines_until}
use Rattle.retro_redo.specs.Moments.{IsStaleBy, text_now}
use Rattle.retro_redo.specs.Picks.{PicksBy}
use Rattle.retro_redo.specs.Progress.{ProgressValue, edit_in, next_line, recorded_now, repaired_now, settled_now}
use Rattle.retro_redo.specs.Settling.{IsOneSettled}
use Rattle.retro_redo.specs.declared.settlement.Settlement.{Settlement}
use Rattle.retro_redo.specs.declared.settlement.Settlement.TheVariants.{Cancelled, Kept, TakenUp, Redone}
use Rattle.retro_redo.specs.declared.tally.Tally.{Tally}
use Rattle.retro_rounds.specs.Jobs.{IsJob, IsJobFrom, IsUnused}
use Rattle.retro_rounds.specs.Pieces.{Start, in_pieces}
use Rattle.retro_rounds.specs.Refusals.{are_cuts}
use Rattle.retro_rounds.specs.Tally.{IsCount, spent}
use Rattle.retro_rounds.specs.inner.Attempts.{IsAttempt, IsFrom, IsOther, numbers_of}
use Rattle.retro_rounds.specs.inner.Places.{after_lines}
use Rattle.retro_rounds.specs.declared.attempt.Attempt.{Attempt}
use Rattle.retro_rounds.specs.declared.rounds.Rounds.{Rounds}

-- a recording is what running its lines gives
abbrev pub IsOwn : RecordingValue → Type 0
IsOwn r = IsRecordingOf (script_in r) r

-- the states of the two runs before the next line
abbrev pub start_now : ProgressValue → Start
start_now p = record { recorded = recorded_now p; repaired = repaired_now p }

-- a line is a job of the piece that begins at a start, by the recorded state before it
abbrev pub IsJobLine : (ℕ → Option Edit) → Start → State → Line → Type 0
IsJobLine edit start s l =
    IsJobFrom edit start (record { number = l.0; noted = l.1; recorded = s; repaired = s })

-- the same of a line of a recording
abbrev pub IsJobOf : ProgressValue → Start → Line → Type 0
IsJobOf p start l = IsJobLine (edit_in p) start (recorded_before l.0 p.recording) l

-- a line is a job of the piece that begins at the next line
abbrev pub IsJobNow : ProgressValue → Line → Type 0
IsJobNow p l = IsJobOf p (start_now p) l

-- ---- the attempts at lines before one are dropped

pub record IsPassed (n : ℕ) (old new : Rounds) : Type 0 where
  pub gone : List Attempt
  pub split : old.attempts.queue.items ≡ gone ++ new.attempts.queue.items
  pub below : AllByRecursion (λ a. a.number < n) gone
  pub from : IsFrom n new.attempts.queue.items
  pub end : new.pieces.end ≡ old.pieces.end
  pub cuts : new.pieces.cuts.now ≡ old.pieces.cuts.now
  pub tally : new.tally ≡ record old.tally { unused = old.tally.unused + length gone }

-- ---- a round begins

-- The next line is in the piece, and attempts were made at the jobs up to its end.
pub record IsBegun (p : ProgressValue) (old new : Rounds) : Type 0 where
  pub place : after_lines (suc (length p.choices) - old.pieces.end)
      (record { left = old.pieces.end - suc (length p.choices); cuts = old.pieces.cuts.now })
      ≡ record { left = new.pieces.end - suc (length p.choices); cuts = new.pieces.cuts.now }
  pub within : length p.choices < new.pieces.end
  pub cuts : are_cuts new.pieces.cuts.now ≡ true
  pub attempts : AllByRecursion (IsAttempt (edit_in p) p.recording) new.attempts.queue.items
  pub jobs : PicksBy number_in (IsJobNow p) (lines_until new.pieces.end p) (numbers_of new.attempts.queue.items)
  pub tally : new.tally ≡ record old.tally { jobs = old.tally.jobs + length new.attempts.queue.items }

-- the round goes on, or the next one begins
abbrev pub IsAdvanced : ProgressValue → Rounds → Rounds → Type 0
IsAdvanced p old new =
    ((length p.choices < old.pieces.end) × (new ≡ old))
    ⊎ ((old.pieces.end ≤ length p.choices) × IsBegun p old new)

-- ---- a line is settled

-- One more job ended, at a line that was settled so. `was_made` says whether there was a guess: a
-- line that was run again had a wrong guess, or its job was given up.
abbrev pub counted : Settlement → Bool → Tally → Tally
counted Cancelled was_made t = record t { unused = t.unused + 1 }
counted Kept was_made t = record t { unused = t.unused + 1 }
counted TakenUp was_made t = record t { taken_up = t.taken_up + 1 }
counted Redone true t = record t { wrong = t.wrong + 1 }
counted Redone false t = record t { given_up = t.given_up + 1 }

-- one more job ended, without use or not
abbrev pub IsOneSpent : Bool → Tally → Tally → Type 0
IsOneSpent true t u = u ≡ record t { unused = t.unused + 1 }
IsOneSpent false t u = (u.jobs ≡ t.jobs) × (u.unused ≡ t.unused) × (spent u ≡ spent t + 1)

-- the next line, if it runs a text and the recording is what running its lines gives
abbrev pub OnNext : ProgressValue → (Line → Type 0) → Type 0
OnNext p P = (l : Line) → next_line p ≡ Some l → IsSome (text_now (edit_in p) l) → IsOwn p.recording → P l

-- One more job ended: without use if the next line is kept, and in another way if it is redone.
abbrev pub IsSpentOn : ProgressValue → Tally → Tally → Type 0
IsSpentOn p t u =
    (IsOneSpent true t u × OnNext p (λ l. (edit_in p l.0 ≡ None) × Holds l.1.notes (repaired_now p)))
    ⊎ (IsOneSpent false t u × OnNext p (λ l. IsStaleBy (edit_in p l.0) l.1.notes (repaired_now p)))

-- The attempt at the next line was taken and counted by how the line was settled with it, or there
-- was none.
abbrev pub IsCountedBy : ProgressValue → ProgressValue → ℕ → Rounds → Rounds → Type 0
IsCountedBy p q n old new =
    ((new.attempts.queue.items ≡ old.attempts.queue.items) × IsOther n old.attempts.queue.items
    × (new.tally ≡ old.tally))
    ⊎ ((a : Attempt) × (old.attempts.queue.items ≡ a ∷ new.attempts.queue.items) × (a.number ≡ n)
    × (how : Settlement) × IsOneSettled p a.run q how × (new.tally ≡ counted how (is_some a.run) old.tally))

-- the same, in the same piece
pub record IsCounted (p q : ProgressValue) (n : ℕ) (old new : Rounds) : Type 0 where
  pub pieces : new.pieces ≡ old.pieces
  pub by : IsCountedBy p q n old new

-- ---- all lines are settled

-- what the counts come to in the words of the settled lines
pub record IsTallied (cuts : List ℕ) (p : ProgressValue) (tally : Tally) : Type 0 where
  pub adds_up : tally.jobs ≡ spent tally
  pub jobs_are : IsCount (IsJob (edit_in p)) (in_pieces cuts (settled_now p)) tally.jobs
  pub unused_are : IsOwn p.recording
      → IsCount (IsUnused (edit_in p)) (in_pieces cuts (settled_now p)) tally.unused
