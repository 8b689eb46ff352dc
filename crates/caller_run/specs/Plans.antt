-- All memory of a run, and the slots for the lines of its callers.
use Rattle.std.specs.Prelude.{◌≡◌, ℕ, ◌<◌, List, [], ◌∷◌, length, map, slice_set}
use Rattle.std.specs.List.{AllByRecursion}
use Rattle.key_names.specs.declared.events.Event.{Event}
use Rattle.key_names.specs.Lanes.Book.{list_at}
use Rattle.key_names.specs.Texts.ScriptGrammar.{Script}
use Rattle.key_names.specs.Transcripts.SeenLine.{SeenLine}
use Rattle.transcript_text.specs.Gathered.{Gathered}
use Rattle.caller_run.specs.declared.forking.plans.Plan.{Plan}
use Rattle.caller_run.specs.Forest.{forks}
use Rattle.caller_run.specs.ForkTree.{Layout}
use Rattle.caller_run.specs.Layouts.{layout}
use Rattle.caller_run.specs.RunningCallers.{IsNewBuffers, ArePrepared}

-- `a` is the new room (memory) of caller c: it has new buffers for c and for all callers that c forks
pub record IsNewRoom (callers : List (List Event)) (c : ℕ) (a : Layout) : Type 0 where
  pub is : a.caller ≡ c
  pub there : a.caller < length callers
  pub new : IsNewBuffers a.buffers (list_at callers a.caller)
  pub ready : ArePrepared callers a.kids (forks (list_at callers a.caller))

-- all callers have new buffers, and each caller has a slot
pub record IsPlanned (script : Script) (a : Layout) (slots : List Gathered) : Type 0 where
  pub root : IsNewRoom script.callers 0 a
  pub slots' : length slots ≡ length script.callers

-- the plan has all memory of a run of the script, still empty
abbrev pub IsPlanFor : Script → Plan → Type 0
IsPlanFor script plan = IsPlanned script (layout plan.root) plan.slots.items

-- the lines of each slot
abbrev pub lines_in : List Gathered → List (List SeenLine)
lines_in slots = map (λ c. c.lines) slots

-- the lines in the slots `t`, after the lines of each listed caller were put into that caller's slot
abbrev pub put_in : List (List SeenLine) → List (ℕ × List SeenLine) → List (List SeenLine)
put_in t [] = t
put_in t (x ∷ xs) = put_in (slice_set t x.0 x.1) xs

-- each of the listed callers has a slot: its number is below n
abbrev pub HaveSlots : ℕ → List (ℕ × List SeenLine) → Type 0
HaveSlots n recorded = AllByRecursion (λ x. x.0 < n) recorded
