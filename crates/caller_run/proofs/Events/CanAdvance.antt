-- After each event a caller fulfils the preconditions of its next event.
use Rattle.std.proofs.Common.{◌≡◌, ℕ, ◌+◌, ◌<◌, ◌≤◌, ◌^◌, List, [], ◌∷◌, sym, ap, ◌∙◌, subst, arith}
use Rattle.std.proofs.lemmas.List.Sums.{sum_by-cons}
use Rattle.key_names.specs.declared.events.Event.{Event}
use Rattle.key_names.specs.declared.events.Event.TheVariants.{At, On, Hw}
use Rattle.key_names.specs.Callers.Calls.{setting_after}
use Rattle.key_names.specs.Callers.Calls as calls
use Rattle.key_names.specs.Callers.Meaning.{CallerState, caller_after}
use Rattle.key_names.specs.Texts.ScriptGrammar.{InRange, FewActs}
use Rattle.key_names.proofs.Transcripts.Settings.{setting_moves}
use Rattle.lane_table.specs.declared.lanes.Lanes.{Lanes}
use Rattle.lane_table.specs.declared.lanes.Pass.{Pass}
use Rattle.lane_table.specs.Calls.{view}
use Rattle.lane_table.specs.Hands.{HoldsLanes}
use Rattle.lane_table.specs.Advances.{floor}
use Rattle.rng_core.specs.declared.setting.Setting.{Setting}
use Rattle.rng_core.specs.declared.vdso.acts.Bound.{Bound}
use Rattle.transcript_text.specs.Gathered.{Gathered}
use Rattle.rng_core.specs.Traces.{moment}
use Rattle.rng_core.specs.Makes.{setting_of}
use Rattle.caller_run.specs.declared.making.caller.Caller.{Caller}
use Rattle.caller_run.specs.declared.output.logs.Log.{Log}
use Rattle.caller_run.specs.Calling.{conform, Seen, StatesConform}
use Rattle.caller_run.specs.Says.{most_shown}
use Rattle.caller_run.specs.Standing.{read_inside, CanAdvanceWith, CanAdvance}
use Rattle.caller_run.proofs.Law.Seeing.{seen_after}
use Rattle.caller_run.proofs.Planning.LogFills.{Fills}

-- the setting has a CPU of the table, and a moment below 2^40
record Fits (cpus : ℕ) (set : calls.Setting) : Type 0 where
  cpu : set.cpu < cpus
  moment : set.now < 2 ^ 40

fits_after : (version cpus : ℕ) (set : calls.Setting) (event : Event) → InRange version cpus event → Fits cpus set →
    Fits cpus (setting_after set event)
fits_after version cpus set (At moment) range f = record { cpu = f.cpu; moment = range }
fits_after version cpus set (On cpu) range f = record { cpu = range; moment = f.moment }
fits_after version cpus set (Hw bytes) range f = record { cpu = f.cpu; moment = f.moment }
fits_after version cpus set event range f = f

-- `d` is the caller just after the event's call, and `e` is the caller after `go_on` has counted the event and changed
-- the setting and the states
abbrev pub GoesOn : Event → Caller → Caller → Type 0
GoesOn event d e = record {
  conform : conform e ≡ caller_after (conform d) event;
  caller : e.set.caller ≡ d.set.caller;
  event : e.set.event ≡ d.set.event + 1;
  pass : e.pass ≡ d.pass;
}

pub first_can : {t : Lanes} {c : Caller} {log : Log} {served inside : ℕ} {event : Event} {rest : List Event} →
    CanAdvance t c log served inside (event ∷ rest) → CanAdvance t c log served inside (event ∷ [])
first_can {event = event} {rest = rest} can = let g = can.goes in record {
  goes = record {
    ready = g.ready;
    states = g.states;
    range = (g.range.0, (g.range.1.0, tt));
    numbers = (let a = g.numbers in omega arith);
    at = g.at;
    line_room = (let a = g.line_room in omega arith);
    step_room = (let a = g.step_room in omega arith);
    byte_room = (let a = g.byte_room in omega (
      arith,
      sum_by-cons most_shown event rest,
      sum_by-cons most_shown event [],
    ));
    longest = (g.longest.0, tt);
    wanted = (let a = g.wanted in omega (arith, sum_by-cons read_inside event rest, sum_by-cons read_inside event []));
    few = (g.few.0, (g.few.1.0, tt));
    fresh = g.fresh;
    recorded = g.recorded;
  };
  act_room = can.act_room;
}

-- suppose that the caller made an event, and that its lines grew. The caller is c before the event, d after the event's
-- call, and e when it goes on
module _ {t : Lanes} {event : Event} {c e : Caller} {before after : Gathered} {acts left : List Bound}
    {served inside : ℕ}
    {rest : List Event} (d : Caller) where
  pub can_next : d.set ≡ c.set → HoldsLanes t d.set.caller [] d.pass → StatesConform d → GoesOn event d e →
      Fills event before after acts left →
      CanAdvanceWith t c before acts served inside (event ∷ rest) → CanAdvanceWith t e after left served inside rest
  can_next set has states on fills g =
      let fits : Fits t.cpus (setting_of e.set) =
      subst (Fits t.cpus) (sym (ap (λ (s : CallerState). s.setting) on.conform ∙ setting_moves (conform d) event
      ∙ ap (λ (s : Setting). setting_after (setting_of s) event) set))
      (fits_after g.range.0 t.cpus (setting_of c.set) event g.range.1.0
      (record { cpu = g.ready.cpu; moment = g.ready.moment })) in
      let same = ap (λ (s : Setting). s.event) set in
      record {
        ready = record {
          has = subst (λ (n : ℕ). HoldsLanes t n [] e.pass) (sym on.caller)
              (subst (λ (p : Pass). HoldsLanes t d.set.caller [] p) (sym on.pass) has);
          cpu = fits.cpu;
          moment = fits.moment;
        };
        states = subst (λ (p : Pass). Seen (floor (view p)) (conform e)) (sym on.pass)
            (subst (Seen (floor (view d.pass))) (sym on.conform)
            (seen_after g.range.0 t.cpus (floor (view d.pass)) (conform d) event g.range.1.0 states));
        range = (g.range.0, g.range.1.1);
        numbers = (let a = g.numbers in let b = on.event in omega arith);
        at = (let a = g.at in let b = on.event in let l = fills.lines in omega arith);
        line_room = (let a = g.line_room in let b = fills.line_room in omega arith);
        step_room = (let a = g.step_room in let b = fills.step_room in omega arith);
        byte_room = (let a = g.byte_room in let b = fills.byte_room in
            omega (arith, sum_by-cons most_shown event rest));
        longest = g.longest.1;
        wanted = (let a = g.wanted in let b = fills.wanted in omega (arith, sum_by-cons read_inside event rest));
        few = subst (λ (n : ℕ). (n ≤ 8) × FewActs n rest) (sym fills.many) g.few.1;
        fresh = fills.fresh;
        recorded = fills.recorded;
      }
