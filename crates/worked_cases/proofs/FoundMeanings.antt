-- Computes the meanings of a caller's calls (effects, answers and data) from the caller's lines and the lanes' lists.
-- The result is none if no meaning is found for a call.
use Rattle.std.proofs.Common.{◌≡◌, ℕ, Bool, true, false, Option, Some, None, List, [], ◌∷◌, refl, sym, ◌∙◌, ap, subst}
use Rattle.std.specs.Prelude.{MatchBool}
use Rattle.key_names.specs.declared.events.Event.{Event}
use Rattle.key_names.specs.declared.events.Event.TheVariants.{Reseed}
use Rattle.key_names.specs.declared.events.Answer.TheVariants.{Ok as Done}
use Rattle.key_names.specs.declared.events.InsideAct.{InsideAct}
use Rattle.key_names.specs.declared.events.InsideAct.TheVariants.{Wipe as WipeAct, Vread as VreadAct}
use Rattle.key_names.specs.declared.events.InsideAct.TheVariants.{Reseed as ReseedAct}
use Rattle.key_names.specs.Callers.Calls.{Setting, Call, alone, vread_call, unbound, ending, BoundAct}
use Rattle.key_names.specs.Callers.Effects.{Effect, effects_of, looked}
use Rattle.key_names.specs.Callers.Forms.{Looked}
use Rattle.key_names.specs.Callers.Answers.{answer_of, shown_of, system_answer, served_bytes}
use Rattle.key_names.specs.Lanes.Book.{Lists}
use Rattle.key_names.specs.Transcripts.SeenLine.{SeenLine, no_data, bytes_or_none}
use Rattle.key_names.specs.Kernel.BatchCopy.{copy_bytes, copy_entries, state_after_copy, serves_locally}
use Rattle.key_names.specs.Kernel.Vgetrandom.{IsCall}
use Rattle.key_names.specs.Callers.VreadSteps.{NeverFall, looks_of, WipesConform, PointReached, points_of, first_points}
use Rattle.key_names.specs.Callers.VreadSteps.{second_points, is_wiped, is_reached, ending_answer, ending_shown, published_by}
use Rattle.key_names.specs.Callers.Meaning.{CallerState, LineMeaning, CallMeaning, Means, ByVgetrandom, ByLocalCopy}
use Rattle.key_names.specs.Callers.Meaning.{LocalOrCall, ActMeans, ActsMean, unused_line, tries_local, current_state}
use Rattle.key_names.specs.Callers.Meaning.{with_state, caller_after, event_entries}
use Rattle.key_names.specs.Transcripts.IsTranscript.{EachOfCall, EachAct, EachLine, CallsMean}
use Rattle.worked_cases.proofs.Decided.{found, found_by, found_both, same_bool, at_most, each}
use Rattle.worked_cases.proofs.FoundForms.{no_steps, form_found, end_form, system_call_found}
use Rattle.worked_cases.proofs.FoundVreads.{HostFound, vgetrandom_found}

-- the meaning `m` has the effects of the line's steps
abbrev pub After : Lists → SeenLine → LineMeaning → Type 0
After lists line m = effects_of lists line.steps ≡ m.effects

-- `m` is a meaning of `call`; in `m` the caller has the state `before` when the call begins
pub record CallFound (lists : Lists) (before : CallerState) (call : Call) : Type 0 where
  pub m : CallMeaning
  pub begins : m.before ≡ before
  pub means : Means call m
  pub effects : EachOfCall (After lists) call m

abbrev alone_found : (lists : Lists) (before : CallerState) (event : Event) (line : SeenLine) →
    Option (CallFound lists before (alone event line))
alone_found lists before event line =
    let effects = effects_of lists line.steps in
    found_by (λ form. record {
      m = record {
        own = record { effects = effects; answer = answer_of event effects; shown = shown_of event effects };
        acts = [];
        entries = event_entries event;
        before = before;
        after = caller_after before event;
      };
      begins = refl;
      means = record { form = form; answer = refl; shown = refl; no_acts = refl; entries = refl; after = refl };
      effects = refl;
    }) (form_found before.setting event effects)

abbrev ending_found : (lists : Lists) (before : CallerState) (line : SeenLine) →
    Option (CallFound lists before (ending line))
ending_found lists before line =
    let effects = effects_of lists line.steps in
    found_by (λ form. record {
      m = record {
        own = record { effects = effects; answer = Done; shown = no_data };
        acts = [];
        entries = [];
        before = before;
        after = before;
      };
      begins = refl;
      means = record { form = form; answer = refl; shown = refl; no_acts = refl; entries = refl; after = refl };
      effects = refl;
    }) (end_form effects)

abbrev unbound_found : (lists : Lists) (before : CallerState) (bound : BoundAct) →
    Option (CallFound lists before (unbound bound))
unbound_found lists before bound = found_by (λ none. record {
  m = record { own = unused_line; acts = []; entries = []; before = before; after = before };
  begins = refl;
  means = record { own = refl; no_acts = refl; entries = refl; after = refl };
  effects = none;
}) (no_steps (effects_of lists bound.line.steps))

-- ---- the acts of a vread

pub record ActFound (lists : Lists) (set : Setting) (act : InsideAct) (line : SeenLine) : Type 0 where
  pub m : LineMeaning
  pub means : ActMeans set act m
  pub effects : After lists line m

abbrev act_found : (lists : Lists) (set : Setting) (act : InsideAct) (line : SeenLine) →
    Option (ActFound lists set act line)
act_found lists set WipeAct line = found_by (λ none. record {
  m = record { effects = []; answer = Done; shown = no_data };
  means = refl;
  effects = none;
}) (no_steps (effects_of lists line.steps))
act_found lists set (VreadAct n) line =
    let effects = effects_of lists line.steps in
    found_by (λ form. record {
      m = record { effects = effects; answer = system_answer 0 effects; shown = bytes_or_none (served_bytes effects) };
      means = (form, refl, refl);
      effects = refl;
    }) (system_call_found set n 0 effects)
act_found lists set ReseedAct line =
    let effects = effects_of lists line.steps in
    found_by (λ form. record {
      m = record { effects = effects; answer = answer_of Reseed effects; shown = shown_of Reseed effects };
      means = (form, refl, refl);
      effects = refl;
    }) (form_found set Reseed effects)

pub record BoundFound (lists : Lists) (set : Setting) (reached : Bool) (bound : BoundAct) : Type 0 where
  pub m : LineMeaning
  pub means : MatchBool reached (ActMeans set bound.act m) (m ≡ unused_line)
  pub effects : After lists bound.line m

abbrev bound_found : (lists : Lists) (set : Setting) (reached : Bool) (bound : BoundAct) →
    Option (BoundFound lists set reached bound)
bound_found lists set true bound =
    found_by (λ a. record { m = a.m; means = a.means; effects = a.effects }) (act_found lists set bound.act bound.line)
bound_found lists set false bound =
    found_by (λ none. record { m = unused_line; means = refl; effects = none })
    (no_steps (effects_of lists bound.line.steps))

pub record ActsFound (lists : Lists) (set : Setting) (reached : BoundAct → Bool) (acts : List BoundAct) : Type 0 where
  pub ms : List LineMeaning
  pub means : ActsMean set reached acts ms
  pub effects : EachAct (After lists) acts ms

abbrev acts_found : (lists : Lists) (set : Setting) (reached : BoundAct → Bool) (acts : List BoundAct) →
    Option (ActsFound lists set reached acts)
acts_found lists set reached [] = Some (record { ms = []; means = tt; effects = tt })
acts_found lists set reached (bound ∷ acts) = found_both (λ b a. record {
  ms = b.m ∷ a.ms;
  means = (b.means, a.means);
  effects = (b.effects, a.effects);
}) (bound_found lists set (reached bound) bound) (acts_found lists set reached acts)

-- ---- A `vread` with its acts

abbrev wipes_found : (acts : List BoundAct) (points : List PointReached) → Option (WipesConform acts points)
wipes_found acts points = found_both (λ f s. record { first = f; second = s })
    (found (each (λ r. same_bool r.wiped (is_wiped acts r.point)) (first_points points)))
    (found (each (λ r. same_bool r.wiped false) (second_points points)))

abbrev never_fall : (looks : List ℕ) → Option (NeverFall looks)
never_fall [] = Some tt
never_fall (a ∷ []) = Some tt
never_fall (a ∷ b ∷ rest) = found_both (λ p q. (p, q)) (found (at_most a b)) (never_fall (b ∷ rest))

-- `m` is a meaning of a `vread` that was done in the way `DoneBy`: by a copy from the batch, or by a vgetrandom call
pub record WayFound (lists : Lists) (before : CallerState) (acts : List BoundAct) (line : SeenLine)
    (DoneBy : CallMeaning → Type 0) : Type 0 where
  pub m : CallMeaning
  pub begins : m.before ≡ before
  pub own_effects : After lists line m.own
  pub act_effects : EachAct (After lists) acts m.acts
  pub done_by : DoneBy m

abbrev by_vgetrandom : (lists : Lists) (before : CallerState) (n flags : ℕ) (acts : List BoundAct) (line : SeenLine) →
    Option (WayFound lists before acts line (ByVgetrandom n flags acts))
by_vgetrandom lists before n flags acts line =
    by_host (vgetrandom_found before.setting n flags (is_wiped acts) (current_state before) (effects_of lists line.steps))
  where
    by_host : Option (HostFound before.setting (IsCall n flags (current_state before)) (effects_of lists line.steps))
        → Option (WayFound lists before acts line (ByVgetrandom n flags acts))
    by_host None = None
    by_host (Some h) = found_both (λ wipes a. record {
      m = record {
        own = record {
          effects = effects_of lists line.steps;
          answer = ending_answer h.outcome.ending;
          shown =
              ending_shown h.outcome.ending;
        };
        acts = a.ms;
        entries = h.outcome.entries;
        before = before;
        after = with_state before h.outcome.state;
      };
      begins = refl;
      own_effects = refl;
      act_effects = a.effects;
      done_by = record {
        steps = h.steps;
        outcome = h.outcome;
        is_call = h.leads;
        shows = h.shows;
        wipes = wipes;
        inside = a.means;
        answer = refl;
        shown = refl;
        entries = refl;
        after = refl;
      };
    }) (wipes_found acts (points_of h.steps)) (acts_found lists before.setting (is_reached (points_of h.steps)) acts)

-- `effects` begin with a look, and `rest` are the effects after it
pub record LookFound (effects : List Effect) : Type 0 where
  pub look : ℕ
  pub rest : List Effect
  pub is : effects ≡ looked look ∷ rest

abbrev first_look : (effects : List Effect) → Option (LookFound effects)
first_look (looked g ∷ rest) = Some (record { look = g; rest = rest; is = refl })
first_look _ = None

abbrev by_local_copy : (lists : Lists) (before : CallerState) (n : ℕ) (acts : List BoundAct) (line : SeenLine)
    (rest : List Effect) →
    Option (WayFound lists before acts line (ByLocalCopy n rest))
by_local_copy lists before n [] line rest = found_by (λ none. record {
  m = record {
    own = record {
      effects = effects_of lists line.steps;
      answer = Done;
      shown = bytes_or_none (copy_bytes (current_state before) 0 n);
    };
    acts = [];
    entries = copy_entries (current_state before) 0 n;
    before = before;
    after = with_state before (state_after_copy (current_state before) 0 n);
  };
  begins = refl;
  own_effects = refl;
  act_effects = tt;
  done_by = record { no_more = none; answer = refl; shown = refl; no_acts = refl; entries = refl; after = refl };
}) (no_steps rest)
by_local_copy lists before n (act ∷ acts) line rest = None

abbrev way_by_test : {lists : Lists} {before : CallerState} {acts : List BoundAct} {line : SeenLine}
    {P Q : CallMeaning → Type 0}
    (b : Bool) → Option (WayFound lists before acts line P) → Option (WayFound lists before acts line Q) →
    Option (WayFound lists before acts line (λ m. MatchBool b (P m) (Q m)))
way_by_test true p q = p
way_by_test false p q = q

pub served_test : (lists : Lists) (before : CallerState) (n flags : ℕ) (acts : List BoundAct) (line : SeenLine)
    (l : LookFound (effects_of lists line.steps))
    (w : WayFound lists before acts line (λ m. MatchBool (serves_locally (published_by l.look) (current_state before) n)
    (ByLocalCopy n l.rest m) (ByVgetrandom n flags acts m))) →
    Looked (LocalOrCall n flags acts w.m) w.m.own.effects
served_test lists before n flags acts line l w = (
  l.look,
  l.rest,
  sym w.own_effects ∙ l.is,
  (let same = ap (λ (s : CallerState). serves_locally (published_by l.look) (current_state s) n) (sym w.begins) in
      subst (λ (b : Bool). MatchBool b (ByLocalCopy n l.rest w.m) (ByVgetrandom n flags acts w.m)) same w.done_by),
)

abbrev looked_way : (lists : Lists) (before : CallerState) (n flags : ℕ) (acts : List BoundAct) (line : SeenLine) →
    Option (LookFound (effects_of lists line.steps)) →
    Option (WayFound lists before acts line (λ m. Looked (LocalOrCall n flags acts m) m.own.effects))
looked_way lists before n flags acts line None = None
looked_way lists before n flags acts line (Some l) = found_by (λ w. record {
  m = w.m;
  begins = w.begins;
  own_effects = w.own_effects;
  act_effects = w.act_effects;
  done_by = served_test lists before n flags acts line l w;
}) (way_by_test (serves_locally (published_by l.look) (current_state before) n)
    (by_local_copy lists before n acts line l.rest) (by_vgetrandom lists before n flags acts line))

abbrev vread_found : (lists : Lists) (before : CallerState) (n flags : ℕ) (line : SeenLine) (acts : List BoundAct) →
    Option (CallFound lists before (vread_call n flags line acts))
vread_found lists before n flags line acts = by_way (way_by_test (tries_local n flags acts)
    (looked_way lists before n flags acts line (first_look (effects_of lists line.steps)))
    (by_vgetrandom lists before n flags acts line))
  where
    by_way : Option (WayFound lists before acts line (λ m. MatchBool (tries_local n flags acts)
        (Looked (LocalOrCall n flags acts m) m.own.effects) (ByVgetrandom n flags acts m))) →
        Option (CallFound lists before (vread_call n flags line acts))
    by_way None = None
    by_way (Some w) = found_by (λ looks. record {
      m = w.m;
      begins = w.begins;
      means = record { looks = looks; done_by = w.done_by };
      effects = (w.own_effects, w.act_effects);
    }) (never_fall (looks_of w.m.own.effects))

-- ---- all calls of a caller

abbrev call_found : (lists : Lists) (before : CallerState) (call : Call) → Option (CallFound lists before call)
call_found lists before (alone event line) = alone_found lists before event line
call_found lists before (vread_call len flags line acts) = vread_found lists before len flags line acts
call_found lists before (unbound bound) = unbound_found lists before bound
call_found lists before (ending line) = ending_found lists before line

pub record CallsFound (lists : Lists) (before : CallerState) (calls : List Call) : Type 0 where
  pub ms : List CallMeaning
  pub follows : CallsMean before calls ms
  pub effects : EachLine (After lists) calls ms

abbrev pub calls_found : (lists : Lists) (before : CallerState) (calls : List Call) →
    Option (CallsFound lists before calls)
calls_found lists before [] = Some (record { ms = []; follows = tt; effects = tt })
calls_found lists before (call ∷ calls) = go_on (λ s. calls_found lists s calls) (call_found lists before call)
  where
    go_on : ((s : CallerState) → Option (CallsFound lists s calls)) → Option (CallFound lists before call) →
        Option (CallsFound lists before (call ∷ calls))
    go_on later None = None
    go_on later (Some f) = found_by (λ r. record {
      ms = f.m ∷ r.ms;
      follows = (f.begins, f.means, r.follows);
      effects = (f.effects, r.effects);
    }) (later f.m.after)
