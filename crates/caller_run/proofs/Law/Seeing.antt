-- Each event preserves `Seen`, the bound on the generations of a caller's vgetrandom states.
use Rattle.std.proofs.Common.{◌≡◌, ℕ, ◌≤◌, List, [], replicate, refl, sym, ◌∙◌, subst, arith}
use Rattle.std.proofs.lemmas.List.{length-set}
use Rattle.key_names.specs.declared.events.Event.{Event}
use Rattle.key_names.specs.declared.events.Event.TheVariants.{Vread, Drop, State}
use Rattle.key_names.specs.declared.names.Step.{Step}
use Rattle.key_names.specs.Callers.Calls as calls
use Rattle.key_names.specs.Callers.Meaning.{CallerState, caller_start, caller_after, with_state}
use Rattle.key_names.specs.Texts.ScriptGrammar.{InRange, event_word}
use Rattle.key_names.specs.Kernel.VgetrandomState.{VgetrandomState, wiped_state}
use Rattle.key_names.specs.Callers.VreadSteps.{published_by}
use Rattle.key_names.proofs.Lists.Each.{each_set, each_weaker}
use Rattle.lane_table.specs.declared.lanes.Lanes.{Lanes}
use Rattle.lane_table.specs.Calls.{view}
use Rattle.lane_table.specs.Hands.{HoldsLanes}
use Rattle.lane_table.specs.Advances.{floor}
use Rattle.rng_core.specs.Traces.{moment}
use Rattle.rng_core.specs.Makes.{setting_of}
use Rattle.rng_core.proofs.Hosting.{published_more}
use Rattle.std.proofs.lemmas.List.Elements.{recursion_from_All, All-replicate}
use Rattle.rng_core.proofs.Makings.{did_floor}
use Rattle.caller_run.proofs.Events.Callings.{no_count}
use Rattle.lane_table.proofs.Rule.Sights.{sees_up}
use Rattle.rng_core.specs.Acts.{Ask, ActOutcome}
use Rattle.caller_run.specs.Calling.{caller_at, conform, Seen, StatesConform, Called, StateRead}
use Rattle.caller_run.specs.NumberedSteps.{made_steps_of}
use Rattle.caller_run.specs.Says.{ShowsFit}
use Rattle.caller_run.specs.declared.making.caller.Caller.{Caller}
use Rattle.caller_run.specs.declared.output.reply.Reply.{Reply}

-- `Seen`, the bound on the generations of the vgetrandom states, holds at a caller's start
pub seen_start : (found : ℕ) (set : calls.Setting) → Seen found (caller_start set)
seen_start found set = let P : VgetrandomState → Type 0 =
    λ (st : VgetrandomState). st.generation ≤ published_by found in record {
      many = refl;
      current = omega arith;
      published = recursion_from_All P (replicate 16 wiped_state) (All-replicate P 16 wiped_state (omega arith));
    }

-- if `Seen` holds for the generation a, it holds for each larger generation b
pub seen_up : (a b : ℕ) (s : CallerState) → a ≤ b → Seen a s → Seen b s
seen_up a b s le k = record {
  many = k.many;
  current = k.current;
  published = each_weaker (λ (st : VgetrandomState). st.generation ≤ published_by a)
      (λ st. st.generation ≤ published_by b) s.states
      (λ st low. let up = published_more a b le in omega arith) k.published;
}

-- if the current state is replaced by one with a generation that may be published, `Seen` still holds
pub seen_with : (found : ℕ) (s : CallerState) (st : VgetrandomState) → st.generation ≤ published_by found →
    Seen found s →
    Seen found (with_state s st)
seen_with found s st low k = record {
  many = length-set s.states s.current st ∙ k.many;
  current = k.current;
  published = each_set (λ (t : VgetrandomState). t.generation ≤ published_by found) s.states s.current st k.published
      low;
}

-- if an event changes a caller by itself (`caller_after`), `Seen` still holds
pub seen_after : (version cpus found : ℕ) (s : CallerState) (event : Event) → InRange version cpus event →
    Seen found s →
    Seen found (caller_after s event)
seen_after version cpus found s Drop range k = seen_with found s wiped_state (omega arith) k
seen_after version cpus found s (State number) range k =
    record { many = k.many; current = range.1; published = k.published }
seen_after version cpus found s event range k = record { many = k.many; current = k.current; published = k.published }

-- The call of any event preserves `Seen`

-- the facts that still hold after the call of `event`; c is the caller before the call, and d after it
pub record Kept (t : Lanes) (event : Event) (c d : Caller) (said : Reply) : Type 0 where
  pub has : HoldsLanes t d.set.caller [] d.pass
  pub set : d.set ≡ c.set
  pub states : StatesConform c → StatesConform d
  pub shows : ShowsFit (event_word event) said.shows

module _ {t : Lanes} {event : Event} {c d : Caller} {said : Reply} {served : List ℕ} {steps : List Step} where
  pub same_conform : Called t event c d said served steps → conform d ≡ conform c
  same_conform k = (λ i. caller_at (setting_of (k.set i)) (k.states i).value)

  pub called_kept : Called t event c d said served steps → Kept t event c d said
  called_kept k = record {
    has = k.has;
    set = k.set;
    states = λ s. subst (Seen (floor (view d.pass))) (sym (same_conform k))
        (seen_up (floor (view c.pass)) (floor (view d.pass)) (conform c)
        (did_floor c.set (moment c.pass []) (moment d.pass steps) k.does) s);
    shows = k.shows;
  }

pub read_kept : {t : Lanes} {n flags : ℕ} {c d : Caller} {said : Reply} {served : List ℕ} {steps : List Step}
    {asks : List Ask}
    {zs : List ActOutcome} → StateRead t n flags c d said served steps asks zs → Kept t (Vread n flags) c d said
read_kept {t = t} {c = c} {d = d} {said = said} k = record {
  has = k.has;
  set = k.set;
  states = λ s. subst (Seen (floor (view d.pass))) (sym k.conforms)
      (seen_with (floor (view d.pass)) (conform c) k.left k.published
      (seen_up (floor (view c.pass)) (floor (view d.pass)) (conform c)
      (sees_up (view d.pass) (floor (view c.pass)) (floor (view d.pass)) (made_steps_of k.done.numbered_steps)
      k.done.ran.sees) s));
  shows = no_count _ said.shows (λ same. cc) k.shows;
}
