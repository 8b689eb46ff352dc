-- The script that a text becomes with more text after it.
use Rattle.std.specs.Prelude.{◌≡◌, ℕ, ◌+◌, ◌<◌, ◌≤◌, ⊤, None, List, [], ◌++◌, Ok, Err, codes, length}
use Rattle.std.specs.List.{AllByRecursion}
use Rattle.key_names.specs.declared.events.Event.{Event}
use Rattle.key_names.specs.declared.faults.FaultKind.TheVariants.{TooLong}
use Rattle.key_names.specs.declared.faults.ScriptFault.{ScriptFault}
use Rattle.key_names.specs.Texts.ScriptFaults.{◌>>=◌, Draft, has_orphan, nothing_after, parts, script_from, script_of_draft, script_of_lines}
use Rattle.event_script.specs.Tally.{fork_in}
use Rattle.event_script.specs.declared.progress.DraftView.{DraftView}
use Rattle.event_script.specs.declared.progress.ScriptProgress.{ScriptProgress}
use Rattle.event_script.specs.declared.progress.ScriptProgress.TheVariants.{Waits, Open, Ended, Faulty}

-- whatever follows the text, the script goes on from the draft `d`; `n` is the number of the next line
abbrev pub GoesOnFrom : List ℕ → Draft → ℕ → Type 0
GoesOnFrom text d n = (later : List ℕ) → script_of_lines (parts 10 (text ++ later)) ≡ script_from d n (parts 10 later)

-- if nothing follows the text, the text is the script of the draft `d`; if more text follows, line `n` has a fault
abbrev pub EndsWith : List ℕ → Draft → ℕ → Type 0
EndsWith text d n = (later : List ℕ) → script_of_lines (parts 10 (text ++ later))
    ≡ (nothing_after n (parts 10 later) >>= λ none. Ok (script_of_draft d))

-- `fault` is the text's first fault, whatever follows the text
abbrev pub FailsWith : List ℕ → ScriptFault → Type 0
FailsWith text fault = (later : List ℕ) → script_of_lines (parts 10 (text ++ later)) ≡ Err fault

-- The view has the draft's version, its number of CPUs, its number of finished blocks, and the events of its last
-- block. The view's `has_orphan` is true if and only if a forked caller has no block.
pub record IsViewOf (view : DraftView) (d : Draft) : Type 0 where
  pub version : view.version ≡ d.version
  pub cpus : view.cpus ≡ d.cpus
  pub blocks : view.blocks ≡ length d.done
  pub events : view.events.now ≡ d.events
  pub orphan : view.has_orphan ≡ has_orphan d

-- after `text` the script goes on from the draft that `view` shows, and the line `end` still fits
pub record IsOpen (text : List ℕ) (view : DraftView) : Type 0 where
  pub room : length text + 4 ≤ 16777216
  pub draft : Draft
  pub seen : IsViewOf view draft
  pub goes_on : GoesOnFrom text draft view.number

-- the script has ended with the last line of `text`, and `view` shows its draft
pub record IsEnded (text : List ℕ) (view : DraftView) : Type 0 where
  pub short : length text ≤ 16777216
  pub draft : Draft
  pub seen : IsViewOf view draft
  pub ends : EndsWith text draft view.number

-- `fault` is the first fault of `text`, whatever follows; it is `TooLong` if `text` exceeds 16,777,216 bytes
pub record IsFaulty (text : List ℕ) (fault : ScriptFault) : Type 0 where
  pub short : length text ≤ 16777216 → FailsWith text fault
  pub long : 16777216 < length text → fault ≡ record { line = 0; kind = TooLong }

-- the given progress is right for `text`, the text that was read so far
abbrev pub IsProgress : List ℕ → ScriptProgress → Type 0
IsProgress text Waits = ⊤
IsProgress text (Open view) = IsOpen text view
IsProgress text (Ended view) = IsEnded text view
IsProgress text (Faulty fault) = IsFaulty text fault

-- no event of the list forks a caller
abbrev pub ForkNone : List Event → Type 0
ForkNone events = AllByRecursion (λ event. fork_in event ≡ None) events

-- the draft has only the block of one caller, and no event in this block forks
pub record IsLone (d : Draft) : Type 0 where
  pub first : d.done ≡ []
  pub forks : ForkNone d.events

-- the line `end`, which is the last of a script
abbrev pub end_line : List ℕ
end_line = codes "end\n"

-- `d` has no finished block. `later` has the same version and number of CPUs, and its last block begins with the events
-- of the last block of `d`
pub record Extends (d later : Draft) : Type 0 where
  pub version : later.version ≡ d.version
  pub cpus : later.cpus ≡ d.cpus
  pub done : d.done ≡ []
  pub more : List Event
  pub events : later.events ≡ d.events ++ more
