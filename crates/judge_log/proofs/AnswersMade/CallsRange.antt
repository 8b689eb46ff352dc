-- If a caller's events are in range, the calls that group these events are in range.
use Rattle.std.proofs.Common.{ℕ, true, false, List, [], ◌∷◌, ◌++◌}
use Rattle.std.specs.Prelude.{if◌then◌else◌}
use Rattle.std.specs.List.{AllByRecursion}
use Rattle.key_names.specs.declared.events.Event.{Event}
use Rattle.key_names.specs.declared.events.Event.TheVariants.{Vread, Inside, State}
use Rattle.key_names.specs.Callers.Calls.{BoundAct, unbound, has_vread, calls_from, all_calls}
use Rattle.key_names.specs.Texts.ScriptGrammar.{InRange}
use Rattle.key_names.specs.Transcripts.SeenLine.{SeenLine}
use Rattle.judge_log.specs.Said.{StateInRange, CallInRange}

state_in_range : (version cpus : ℕ) (event : Event) → InRange version cpus event → StateInRange event
state_in_range version cpus (State number) range = range.1
state_in_range version cpus _ range = tt

in_range : (version cpus : ℕ) (waiting : List BoundAct) (events : List Event) (lines : List SeenLine) →
    AllByRecursion (InRange version cpus) events → AllByRecursion CallInRange (calls_from waiting events lines)
in_range version cpus waiting [] [] ranges = tt
in_range version cpus waiting [] (line ∷ lines) ranges = (tt, tt)
in_range version cpus waiting (event ∷ events) [] ranges = tt
in_range version cpus waiting (Vread len flags ∷ events) (line ∷ lines) ranges =
    (ranges.0.0, in_range version cpus [] events lines ranges.1)
in_range version cpus waiting (Inside point act ∷ events) (line ∷ lines) ranges =
    let bound : BoundAct = record { point = point; act = act; line = line } in
    let waits = in_range version cpus (waiting ++ bound ∷ []) events lines ranges.1 in
    let goes_on = in_range version cpus waiting events lines ranges.1 in
    elim (has_vread events) as (λ b. AllByRecursion CallInRange (if b then calls_from (waiting ++ bound ∷ []) events lines
    else unbound bound ∷ calls_from waiting events lines)) [ true ↦ waits | false ↦ (tt, goes_on) ]
in_range version cpus waiting (event ∷ events) (line ∷ lines) ranges =
    (state_in_range version cpus event ranges.0, in_range version cpus waiting events lines ranges.1)

pub all_in_range : (version cpus : ℕ) (callers : List (List Event)) (t : List (List SeenLine)) →
    AllByRecursion (AllByRecursion (InRange version cpus)) callers →
    AllByRecursion (AllByRecursion CallInRange) (all_calls callers t)
all_in_range version cpus [] t ranges = tt
all_in_range version cpus (events ∷ callers) [] ranges =
    (in_range version cpus [] events [] ranges.0, all_in_range version cpus callers [] ranges.1)
all_in_range version cpus (events ∷ callers) (lines ∷ t) ranges =
    (in_range version cpus [] events lines ranges.0, all_in_range version cpus callers t ranges.1)
