-- In a well-formed script, a caller's current vgetrandom state is always one of that caller's sixteen states.
use Rattle.std.proofs.Common.{ℕ, ◌<◌, List, []}
use Rattle.std.specs.Prelude.{⊤}
use Rattle.std.specs.List.{AllByRecursion}
use Rattle.key_names.specs.declared.events.Event.{Event}
use Rattle.key_names.specs.declared.events.Event.TheVariants.{State}
use Rattle.key_names.specs.Callers.Calls.{BoundAct, Call, alone, vread_call, unbound, ending, calls_of}
use Rattle.key_names.specs.Transcripts.SeenLine.{SeenLine}
use Rattle.key_names.specs.Texts.ScriptGrammar.{InRange}
use Rattle.key_names.specs.Callers.Meaning.{CallerState, caller_after}
use Rattle.key_names.proofs.Transcripts.CallLists.{of_calls}

abbrev pub CallInRange : ℕ → ℕ → Call → Type 0
CallInRange version cpus (alone event line) = InRange version cpus event
CallInRange version cpus (vread_call n flags line acts) = ⊤
CallInRange version cpus (unbound bound) = ⊤
CallInRange version cpus (ending line) = ⊤

pub calls_in_range : (version cpus : ℕ) (events : List Event) (lines : List SeenLine) →
    AllByRecursion (InRange version cpus) events → AllByRecursion (CallInRange version cpus) (calls_of events lines)
calls_in_range version cpus events lines =
    let Q : List BoundAct → List Event → List SeenLine → List Call → Type 0 = λ waiting es lines calls.
    AllByRecursion (InRange version cpus) es → AllByRecursion (CallInRange version cpus) calls in
    of_calls Q (record {
      over = λ waiting all. tt;
      ends = λ waiting line lines all. (tt, tt);
      cut = λ waiting event es all. tt;
      reads = λ waiting n flags es line lines calls rest all. (tt, rest all.1);
      binds = λ waiting point act es line lines calls rest all. rest all.1;
      leaves = λ waiting point act es line lines calls rest all. (tt, rest all.1);
      goes = λ waiting event es line lines calls rest all. (all.0, rest all.1);
    }) [] events lines

pub current_below : (version cpus : ℕ) (s : CallerState) (event : Event) → InRange version cpus event → s.current < 16 →
    (caller_after s event).current < 16
current_below version cpus s (State number) range below = range.1
current_below version cpus s _ range below = below
