-- In a lawful transcript, entries of vgetrandom states take a read as a key at most as often as lines have the read's
-- mark.
use Rattle.std.proofs.Common.{◌≡◌, ℕ, suc, ◌+◌, ◌≤◌, List, [], ◌∷◌, ◌++◌, refl, ap, arith}
use Rattle.key_names.specs.declared.events.Event.{Event}
use Rattle.key_names.specs.declared.events.Event.TheVariants.{At}
use Rattle.key_names.specs.declared.names.LaneId.{LaneId}
use Rattle.key_names.specs.declared.names.LaneId.TheVariants.{Cpu as CpuLane}
use Rattle.key_names.specs.declared.entries.VEntry.{VEntry}
use Rattle.key_names.specs.Lanes.Book.{Lists}
use Rattle.key_names.specs.Callers.Calls.{Setting, Call, alone, vread_call, unbound, ending, BoundAct, calls_of, all_calls}
use Rattle.key_names.specs.Callers.Effects.{effects_of}
use Rattle.key_names.specs.Callers.Forms.{Looked}
use Rattle.key_names.specs.Transcripts.SeenLine.{SeenLine}
use Rattle.key_names.specs.Callers.VreadSteps.{published_by}
use Rattle.key_names.specs.Kernel.BatchCopy.{serves_locally}
use Rattle.key_names.specs.Callers.Meaning.{CallerState, CallMeaning, event_entries, ByLocalCopy, ByVgetrandom, tries_local, LocalOrCall, current_state, Means}
use Rattle.key_names.specs.Transcripts.IsTranscript.{CallsMean, EachOfCall, EachLine, EachCaller, CallerMeans}
use Rattle.key_names.proofs.Vgetrandom.CallsKeep.{match_cases}
use Rattle.key_names.proofs.Vgetrandom.KeyTakes.{takes, copy_takes, ending_takes, call_takes, effect_takes}
use Rattle.key_names.proofs.Transcripts.CallLists.{act_of, of_calls}
use Rattle.key_names.proofs.Transcripts.TakenMarks.{mark_takes, lines_takes, total_takes, effects_within}

-- These functions count the marks of place `p` of `lane`.
module _ (lane : LaneId) (p : ℕ) where
  abbrev pub acts_marks : List BoundAct → ℕ
  acts_marks [] = 0
  acts_marks (bound ∷ acts) = mark_takes lane p bound.line.steps + acts_marks acts

  acts_append : (xs ys : List BoundAct) → acts_marks (xs ++ ys) ≡ acts_marks xs + acts_marks ys
  acts_append [] ys = omega arith
  acts_append (x ∷ xs) ys = omega (arith, acts_append xs ys)

  -- how many marks of place `p` the lines of a call have
  abbrev pub call_marks : Call → ℕ
  call_marks (alone event line) = mark_takes lane p line.steps
  call_marks (vread_call n flags line acts) = mark_takes lane p line.steps + acts_marks acts
  call_marks (unbound bound) = mark_takes lane p bound.line.steps
  call_marks (ending line) = mark_takes lane p line.steps

  abbrev pub calls_marks : List Call → ℕ
  calls_marks [] = 0
  calls_marks (call ∷ calls) = call_marks call + calls_marks calls

  -- the calls of a caller have at most as many marks of place `p` as the caller's lines and the waiting acts together
  abbrev MarksWithin : List BoundAct → List Event → List SeenLine → List Call → Type 0
  MarksWithin waiting es lines calls = calls_marks calls ≤ acts_marks waiting + lines_takes lane p lines

  pub calls_within : (events : List Event) (lines : List SeenLine) →
      calls_marks (calls_of events lines) ≤ lines_takes lane p lines
  calls_within events lines = omega (
    arith,
    of_calls MarksWithin (record {
      over = λ waiting. omega arith;
      ends = λ waiting line lines. omega arith;
      cut = λ waiting event es. omega arith;
      reads = λ waiting n flags es line lines calls rest. omega arith;
      binds = λ waiting point act es line lines calls rest. omega (arith, acts_append waiting (act_of point act line ∷ []));
      leaves = λ waiting point act es line lines calls rest. omega arith;
      goes = λ waiting event es line lines calls rest. omega arith;
    }) [] events lines,
  )

  abbrev pub all_calls_marks : List (List Call) → ℕ
  all_calls_marks [] = 0
  all_calls_marks (calls ∷ callers) = calls_marks calls + all_calls_marks callers

  pub all_marks_within : (callers : List (List Event)) (t : List (List SeenLine)) →
      all_calls_marks (all_calls callers t) ≤ total_takes lane p t
  all_marks_within [] t = omega arith
  all_marks_within (events ∷ callers) [] = omega (arith, calls_within events [], all_marks_within callers [])
  all_marks_within (events ∷ callers) (lines ∷ t) = omega (arith, calls_within events lines, all_marks_within callers t)

-- These functions count how often the read at place `p` of CPU `c` is taken as a key.
module _ (c p : ℕ) where
  abbrev pub own_line : Call → SeenLine
  own_line (alone event line) = line
  own_line (vread_call n flags line acts) = line
  own_line (unbound bound) = bound.line
  own_line (ending line) = line

  pub event_takes : (event : Event) → takes c p (event_entries event) ≡ 0
  event_takes (At moment) = refl
  event_takes _ = refl

  abbrev pub caller_takes : List CallMeaning → ℕ
  caller_takes [] = 0
  caller_takes (m ∷ ms) = takes c p m.entries + caller_takes ms

  none_taken : (es none : List VEntry) (n : ℕ) → es ≡ none → takes c p none ≡ 0 → takes c p es ≤ n
  none_taken es none n is zero_is = let e : takes c p es ≡ takes c p none = ap (takes c p) is in omega arith

  pub vgetrandom_within : (lists : Lists) (n flags : ℕ) (acts : List BoundAct) (line : SeenLine) (m : CallMeaning) →
      effects_of lists line.steps ≡ m.own.effects →
      (by : ByVgetrandom n flags acts m) →
      takes c p m.entries + ending_takes c p by.outcome.ending ≤ mark_takes (CpuLane c) p line.steps
  vgetrandom_within lists n flags acts line m is by =
      let a : takes c p m.entries ≡ takes c p by.outcome.entries = ap (takes c p) by.entries in
      let b : takes c p by.outcome.entries + ending_takes c p by.outcome.ending ≤ effect_takes c p m.own.effects =
      call_takes c p m.before.setting n flags (current_state m.before)
      by.steps by.outcome m.own.effects by.is_call by.shows in
      let d : effect_takes c p (effects_of lists line.steps) ≡ effect_takes c p m.own.effects = ap (effect_takes c p) is in
      let e : effect_takes c p (effects_of lists line.steps) ≤ mark_takes (CpuLane c) p line.steps =
      effects_within c p lists line.steps in omega arith

  -- a call takes the read as a key at most as often as its own line has the read's mark
  pub call_within : (lists : Lists) (call : Call) (m : CallMeaning) →
      EachOfCall (λ line m. effects_of lists line.steps ≡ m.effects) call m → Means call m →
      takes c p m.entries ≤ mark_takes (CpuLane c) p (own_line call).steps
  call_within lists (alone event line) m effects means = none_taken m.entries (event_entries event)
      (mark_takes (CpuLane c) p line.steps) means.entries (event_takes event)
  call_within lists (vread_call n flags line acts) m effects means =
      match_cases (Looked (LocalOrCall n flags acts m) m.own.effects) (ByVgetrandom n flags acts m)
      (takes c p m.entries ≤ mark_takes (CpuLane c) p line.steps) (tries_local n flags acts)
      (λ tries looked. match_cases (ByLocalCopy n looked.1 m) (ByVgetrandom n flags acts m)
      (takes c p m.entries ≤ mark_takes (CpuLane c) p line.steps)
      (serves_locally (published_by looked.0) (current_state m.before) n)
      (λ serves by. none_taken m.entries _ (mark_takes (CpuLane c) p line.steps) by.entries
      (copy_takes c p (current_state m.before) 0 n))
      (λ not_served by. omega (arith, vgetrandom_within lists n flags acts line m effects.0 by)) looked.3)
      (λ no by. omega (arith, vgetrandom_within lists n flags acts line m effects.0 by))
      means.done_by
  call_within lists (unbound bound) m effects means = none_taken m.entries [] (mark_takes (CpuLane c) p bound.line.steps)
      means.entries refl
  call_within lists (ending line) m effects means = none_taken m.entries [] (mark_takes (CpuLane c) p line.steps) means.entries refl

  -- a call takes the read as a key at most as often as all its lines have the read's mark
  pub call_within_all : (lists : Lists) (call : Call) (m : CallMeaning) →
      EachOfCall (λ line m. effects_of lists line.steps ≡ m.effects) call m → Means call m →
      takes c p m.entries ≤ call_marks (CpuLane c) p call
  call_within_all lists (alone event line) m effects means = call_within lists (alone event line) m effects means
  call_within_all lists (vread_call n flags line acts) m effects means =
      omega (arith, call_within lists (vread_call n flags line acts) m effects means)
  call_within_all lists (unbound bound) m effects means = call_within lists (unbound bound) m effects means
  call_within_all lists (ending line) m effects means = call_within lists (ending line) m effects means

  pub caller_within : (lists : Lists) (s : CallerState) (calls : List Call) (ms : List CallMeaning) →
      EachLine (λ line m. effects_of lists line.steps ≡ m.effects) calls ms → CallsMean s calls ms →
      caller_takes ms ≤ calls_marks (CpuLane c) p calls
  caller_within lists s [] [] effects mean = omega arith
  caller_within lists s [] (m ∷ ms) effects mean = absurd mean
  caller_within lists s (call ∷ calls) [] effects mean = absurd mean
  caller_within lists s (call ∷ calls) (m ∷ ms) effects mean =
      omega (arith, call_within_all lists call m effects.0 mean.1, caller_within lists m.after calls ms effects.1 mean.2)

  abbrev pub all_takes : List (List CallMeaning) → ℕ
  all_takes [] = 0
  all_takes (ms ∷ mss) = caller_takes ms + all_takes mss

  -- all callers together take the read as a key at most as often as all lines have the read's mark
  pub callers_within : (lists : Lists) (settings : ℕ → Setting) (i : ℕ) (callers : List (List Call))
      (mss : List (List CallMeaning)) →
      EachCaller (λ i calls ms. CallerMeans lists (settings i) calls ms) i callers mss →
      all_takes mss ≤ all_calls_marks (CpuLane c) p callers
  callers_within lists settings i [] [] each = omega arith
  callers_within lists settings i [] (ms ∷ mss) each = absurd each
  callers_within lists settings i (calls ∷ callers) [] each = absurd each
  callers_within lists settings i (calls ∷ callers) (ms ∷ mss) each =
      omega (
        arith,
        caller_within lists _ calls ms each.0.effects each.0.follows,
        callers_within lists settings (suc i) callers mss each.1,
      )
