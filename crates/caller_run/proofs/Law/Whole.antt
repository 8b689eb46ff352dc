-- The calls of all callers of a script, from the start of a table to its end, make a lawful transcript of the script.
use Rattle.std.proofs.Common.{◌≡◌, ℕ, suc, ◌+◌, ◌-◌, ◌<◌, ◌≤◌, List, [], ◌∷◌, ◌++◌, length, map, refl, sym, ap, ◌∙◌, subst, arith, inl, inr, Some}
use Rattle.std.specs.Prelude.{slice_get}
use Rattle.std.specs.List.{AllByRecursion, range_with_len}
use Rattle.std.proofs.lemmas.List.{length-map}
use Rattle.std.proofs.lemmas.List.FromFn.{length-range_with_len}
use Rattle.std.proofs.lemmas.Option.{slice_get_within}
use Rattle.key_names.specs.declared.entries.CpuEntry.{CpuEntry}
use Rattle.key_names.specs.declared.events.Event.{Event}
use Rattle.key_names.specs.declared.names.LaneId.{LaneId}
use Rattle.key_names.specs.declared.names.Step.{Step}
use Rattle.key_names.specs.Lanes.BaseList.{base_after}
use Rattle.key_names.specs.Lanes.Book.{Book, Visit, lists_of, list_at}
use Rattle.key_names.specs.Callers.Calls.{Setting, Call, calls_of, all_calls, alone, vread_call, unbound, ending, BoundAct}
use Rattle.key_names.specs.Callers.Effects.{effects_of, Effect, effect_at, effect_of}
use Rattle.key_names.specs.Callers.History.{ancestors_steps, calls_steps, orders_from, caller_orders, stamps_of, LooksConform}
use Rattle.key_names.specs.Callers.Meaning.{CallMeaning, caller_start, LineMeaning}
use Rattle.key_names.specs.Lanes.Samples.{LawfulSamples, fast_before, visits_of}
use Rattle.key_names.specs.Texts.ScriptGrammar.{Script, WellFormed}
use Rattle.key_names.specs.Transcripts.SeenLine.{SeenLine}
use Rattle.key_names.specs.Transcripts.IsTranscript.{EachCaller, EachLine, CallsMean, CallerMeans, LinesFit, state_lists, start_setting, Rises, VisitsAre, all_marks, lane_marks, PlacesConform, FormsConform, IsTranscriptBy, EachAct, EachOfCall}
use Rattle.base_gen.specs.BaseValue.{BaseValue}
use Rattle.key_names.proofs.History.CallerOrders.{long_ancestors}
use Rattle.lane_table.specs.declared.view.View.{View}
use Rattle.lane_table.specs.Meaning.{replay}
use Rattle.lane_table.specs.WorldRule.{known_of}
use Rattle.lane_table.specs.Steps.{Grows}
use Rattle.lane_table.specs.Calls.{Ended}
use Rattle.lane_table.specs.Advances.{MadeStep, looked, visited, step_of, stamps_in, floor, Climbs}
use Rattle.lane_table.specs.BookLists.{StateLists, book_of, book_lists}
use Rattle.lane_table.specs.BookLaws.{ClosedLanes, Continues}
use Rattle.lane_table.proofs.Book.BookEnds.{ended_lanes, ended_lawful}
use Rattle.lane_table.proofs.Book.BookMarks.{MarksVisit}
use Rattle.lane_table.proofs.Book.BookMeans.{lanes_replay}
use Rattle.lane_table.proofs.Rule.Floors.{generation_begun}
use Rattle.key_names.specs.Callers.LineSamples.{SamplesConform}
use Rattle.rng_core.specs.SampleEffects.{fast_in}
use Rattle.caller_run.specs.Done.{CallsMeant}
use Rattle.caller_run.specs.Items.{steps_of}
use Rattle.caller_run.specs.Laws.{Run, HasRun, IsOneOf, lines_of_all, RanAll, LawfulRuns}
use Rattle.caller_run.proofs.Law.Marks.{all_visit, all_visits, all_places}
use Rattle.caller_run.proofs.Planning.Ancestors.{Path, path_more, starts_so, has_path}
use Rattle.caller_run.proofs.Orders.CallWeights.{calls_lines}
use Rattle.caller_run.proofs.Orders.ItemSteps.{same_steps}
use Rattle.caller_run.proofs.Law.Looks.{looks_conform}
use Rattle.caller_run.proofs.Planning.Parents.{each_of}
use Rattle.key_names.proofs.Samples.Lines.{apart}
use Rattle.key_names.proofs.Samples.SampleLaw.{samples_lawful}
use Rattle.lane_table.proofs.Book.BookSamples.{OfLane, cpu_visited, fast_met}
use Rattle.key_names.specs.declared.names.LaneId.TheVariants.{Pool as PoolLane, Base as BaseLane, Cpu as CpuLane}
use Rattle.key_names.specs.declared.names.Step.TheVariants.{Look, Visit as Marked}

-- if stamps fulfil `Climbs`, they fulfil `Rises`
pub climbs_rise : (low high : ℕ) (stamps : List ℕ) → Climbs low stamps high → Rises stamps
climbs_rise low high [] c = tt
climbs_rise low high (a ∷ []) c = tt
climbs_rise low high (a ∷ b ∷ stamps) c = (c.1.0, climbs_rise a high (b ∷ stamps) c.1)

-- the effect at a place of a lane does not depend on the lists of the callers' vgetrandom states

effect_same : (lanes : ℕ) (w : View) (callers : StateLists) (lane : LaneId) (place : ℕ) →
    effect_at (book_lists lanes (known_of w) []) lane place ≡ effect_at (book_lists lanes (known_of w) callers) lane place
effect_same lanes w callers PoolLane place = refl
effect_same lanes w callers BaseLane place = refl
effect_same lanes w callers (CpuLane c) place = refl

pub effects_same : (lanes : ℕ) (w : View) (callers : StateLists) (steps : List Step) →
    effects_of (book_lists lanes (known_of w) []) steps ≡ effects_of (book_lists lanes (known_of w) callers) steps
effects_same lanes w callers [] = refl
effects_same lanes w callers (Look g ∷ steps) = ap
    (λ (l : List Effect). effect_of (book_lists lanes (known_of w) []) (Look g) ∷ l)
    (effects_same lanes w callers steps)
effects_same lanes w callers (Marked mark ∷ steps) =
    (λ i. effect_same lanes w callers mark.lane mark.place i ∷ effects_same lanes w callers steps i)

module _ (P Q : SeenLine → LineMeaning → Type 0) (weaker : (line : SeenLine) (m : LineMeaning) → P line m → Q line m)
  where
    acts_weaker : (acts : List BoundAct) (ms : List LineMeaning) → EachAct P acts ms → EachAct Q acts ms
    acts_weaker [] [] all = tt
    acts_weaker [] (m ∷ ms) all = absurd all
    acts_weaker (bound ∷ acts) [] all = absurd all
    acts_weaker (bound ∷ acts) (m ∷ ms) all = (weaker bound.line m all.0, acts_weaker acts ms all.1)

    call_weaker : (call : Call) (m : CallMeaning) → EachOfCall P call m → EachOfCall Q call m
    call_weaker (alone event line) m all = weaker line m.own all
    call_weaker (vread_call len flags line acts) m all = (weaker line m.own all.0, acts_weaker acts m.acts all.1)
    call_weaker (unbound bound) m all = weaker bound.line m.own all
    call_weaker (ending line) m all = weaker line m.own all

    pub lines_weaker : (calls : List Call) (ms : List CallMeaning) → EachLine P calls ms → EachLine Q calls ms
    lines_weaker [] [] all = tt
    lines_weaker [] (m ∷ ms) all = absurd all
    lines_weaker (call ∷ calls) [] all = absurd all
    lines_weaker (call ∷ calls) (m ∷ ms) all = (call_weaker call m all.0, lines_weaker calls ms all.1)

stamps_are : (made_steps : List MadeStep) → stamps_of (map step_of made_steps) ≡ stamps_in made_steps
stamps_are [] = refl
stamps_are (looked g ∷ made_steps) = stamps_are made_steps
stamps_are (visited mark e ∷ made_steps) = ap (λ (l : List ℕ). mark.stamp ∷ l) (stamps_are made_steps)

long_calls : (k : ℕ) (callers : List (List Event)) (runs : List Run) → EachCaller HasRun k callers runs →
    length (all_calls callers (lines_of_all runs)) ≡ length callers
long_calls k [] [] each = refl
long_calls k [] (r ∷ rs) each = absurd each
long_calls k (es ∷ callers) [] each = absurd each
long_calls k (es ∷ callers) (r ∷ rs) each = ap suc (long_calls (suc k) callers rs each.1)

numbers_low : (k : ℕ) (es : List (List Event)) (rs : List Run) → EachCaller HasRun k es rs → (r : Run) →
    IsOneOf r rs → r.begun.caller < k + length es
numbers_low k [] [] each r here = absurd here
numbers_low k [] (q ∷ rs) each r here = absurd each
numbers_low k (events ∷ es) [] each r here = absurd here
numbers_low k (events ∷ es) (q ∷ rs) each r (inl same) =
    let e = each.0.own in let f = ap (λ (x : Run). x.begun.caller) same in omega arith
numbers_low k (events ∷ es) (q ∷ rs) each r (inr rest) =
    let low = numbers_low (suc k) es rs each.1 r rest in omega arith

module _ (script : Script) (runs : List Run) (w : View) (ok : WellFormed script) (ran : RanAll script runs w) where
  abbrev t : List (List SeenLine)
  t = lines_of_all runs

  abbrev callers : List (List Call)
  callers = all_calls script.callers t

  abbrev lanes : ℕ
  lanes = length w.lanes

  low : 2 ≤ lanes
  low = let e = ran.wide in omega arith

  ended : Ended lanes w
  ended = subst (λ (n : ℕ). Ended n w) (sym ran.wide) ran.ended

  closed : ClosedLanes lanes (known_of w)
  closed = ended_lanes w [] low ended

  abbrev Here : List Run → Type 0
  Here rs = (r : Run) → IsOneOf r rs → IsOneOf r runs

  grown : (r : Run) → IsOneOf r runs → Grows r.end w
  grown r here = each_of (λ r. Grows r.end w) r runs ran.known here

  as_long : (r : Run) → IsOneOf r runs → lanes ≡ length r.end.lanes
  as_long r here = each_of (λ r. length w.lanes ≡ length r.end.lanes) r runs ran.sized here

  continues : (r : Run) → IsOneOf r runs → Continues lanes r.end (known_of w)
  continues r here = record {
    long = sym (as_long r here);
    begins = λ lane near. grown r here lane (let e = as_long r here in omega arith);
    closed = closed;
  }

  pub meant : (c : ℕ) (events : List Event) (r : Run) (has : HasRun c events r) → IsOneOf r runs →
      CallsMeant (book_lists lanes (known_of w) []) (caller_start r.begun.set) (calls_of events r.lines)
      has.ended.reached
  meant c events r has here = has.ended.done.meant lanes (known_of w) [] (continues r here)

  abbrev meanings_from : (k : ℕ) (es : List (List Event)) (rs : List Run) → EachCaller HasRun k es rs → Here rs →
      List (List CallMeaning)
  meanings_from k [] rs each sub = []
  meanings_from k (events ∷ es) [] each sub = []
  meanings_from k (events ∷ es) (r ∷ rs) each sub =
      (meant k events r each.0 (sub r (inl refl))).meanings
      ∷ meanings_from (suc k) es rs each.1 (λ q is. sub q (inr is))

  abbrev meanings : List (List CallMeaning)
  meanings = meanings_from 0 script.callers runs ran.each (λ r is. is)

  abbrev states : StateLists
  states = map state_lists meanings

  abbrev book : Book
  book = book_of lanes (known_of w) states

  abbrev reseeds : ℕ
  reseeds = (base_after (lists_of book).base).generation

  -- The lines of each caller fit its events, and have the forms, answers and data of its calls

  lines_fit : (k : ℕ) (es : List (List Event)) (rs : List Run) → EachCaller HasRun k es rs →
      EachCaller (λ c events lines. LinesFit c 0 events lines) k es (lines_of_all rs)
  lines_fit k [] [] each = tt
  lines_fit k [] (r ∷ rs) each = absurd each
  lines_fit k (events ∷ es) [] each = absurd each
  lines_fit k (events ∷ es) (r ∷ rs) each =
      (subst (λ (c : ℕ). LinesFit c 0 events r.lines) each.0.own each.0.ended.fit, lines_fit (suc k) es rs each.1)

  starts : (k : ℕ) (r : Run) → IsOneOf r runs → r.begun.caller ≡ k → k < length script.callers →
      start_setting callers k ≡ r.begun.set
  starts k r here own near =
      ap (start_setting callers) (sym own)
      ∙ starts_so script runs w ok ran.each ran.began ran.sized ran.known r here
      (let e = long_calls 0 script.callers runs ran.each in omega arith)

  callers_mean : (k : ℕ) (es : List (List Event)) (rs : List Run) (each : EachCaller HasRun k es rs) (sub : Here rs) →
      k + length es ≤ length script.callers →
      EachCaller (λ c calls ms. CallerMeans (lists_of book) (start_setting callers c) calls ms) k
      (all_calls es (lines_of_all rs)) (meanings_from k es rs each sub)
  callers_mean k [] [] each sub within = tt
  callers_mean k [] (r ∷ rs) each sub within = absurd each
  callers_mean k (events ∷ es) [] each sub within = absurd each
  callers_mean k (events ∷ es) (r ∷ rs) each sub within =
      let m = meant k events r each.0 (sub r (inl refl)) in (
        record {
          follows = subst (λ (set : Setting). CallsMean (caller_start set) (calls_of events r.lines) m.meanings)
              (sym (starts k r (sub r (inl refl)) each.0.own (omega arith))) m.means;
          effects = lines_weaker (λ line m. effects_of (book_lists lanes (known_of w) []) line.steps ≡ m.effects)
              (λ line m. effects_of (lists_of book) line.steps ≡ m.effects)
              (λ line m is. sym (effects_same lanes w states line.steps) ∙ is) (calls_of events r.lines) m.meanings
              m.effects;
        },
        callers_mean (suc k) es rs each.1 (λ q is. sub q (inr is)) (omega arith),
      )

  answers_are : (k : ℕ) (es : List (List Event)) (rs : List Run) (each : EachCaller HasRun k es rs) (sub : Here rs) →
      EachCaller (λ c calls ms. EachLine (λ line m. line.answer ≡ m.answer) calls ms) k
      (all_calls es (lines_of_all rs)) (meanings_from k es rs each sub)
  answers_are k [] [] each sub = tt
  answers_are k [] (r ∷ rs) each sub = absurd each
  answers_are k (events ∷ es) [] each sub = absurd each
  answers_are k (events ∷ es) (r ∷ rs) each sub =
      ((meant k events r each.0 (sub r (inl refl))).answers, answers_are (suc k) es rs each.1 (λ q is. sub q (inr is)))

  data_are : (k : ℕ) (es : List (List Event)) (rs : List Run) (each : EachCaller HasRun k es rs) (sub : Here rs) →
      EachCaller (λ c calls ms. EachLine (λ line m. line.shown ≡ m.shown) calls ms) k
      (all_calls es (lines_of_all rs)) (meanings_from k es rs each sub)
  data_are k [] [] each sub = tt
  data_are k [] (r ∷ rs) each sub = absurd each
  data_are k (events ∷ es) [] each sub = absurd each
  data_are k (events ∷ es) (r ∷ rs) each sub =
      ((meant k events r each.0 (sub r (inl refl))).shown, data_are (suc k) es rs each.1 (λ q is. sub q (inr is)))

  -- The order of each caller's steps, after those of its ancestors

  path_whole : (c : ℕ) (events : List Event) (r : Run) → HasRun c events r → IsOneOf r runs → (before : List Step) →
      Path w r.begun.view before → Path w r.end (before ++ calls_steps (calls_of events r.lines))
  path_whole c events r has here before path =
      let done = has.ended.done in
      subst (λ (l : List Step). Path w r.end (before ++ l)) (ap steps_of done.order ∙ same_steps (calls_of events
      r.lines))
      (path_more w r.begun.view r.end r.begun.caller _ done.numbered_steps before done.ran (as_long r here)
      (grown r here) path)

  module _ (P : List Step → Type 0)
      (holds : (r : Run) → IsOneOf r runs → floor r.end ≤ reseeds → (steps : List Step) → Path w r.end steps →
      P steps)
      (most : (c : ℕ) (events : List Event) (r : Run) → HasRun c events r → IsOneOf r runs → floor r.end ≤ reseeds)
    where
      orders_hold : (k : ℕ) (es : List (List Event)) (rs : List Run) → EachCaller HasRun k es rs → Here rs →
          (ancestors : List (List Step)) → length ancestors ≡ length es →
          ((i : ℕ) (r : Run) → IsOneOf r rs → r.begun.caller ≡ k + i → Path w r.begun.view (list_at ancestors i)) →
          AllByRecursion P (orders_from ancestors (all_calls es (lines_of_all rs)))
      orders_hold k [] [] each sub ancestors long at = tt
      orders_hold k [] (r ∷ rs) each sub ancestors long at = absurd each
      orders_hold k (events ∷ es) [] each sub ancestors long at = absurd each
      orders_hold k (events ∷ es) (r ∷ rs) each sub [] long at = absurd (omega arith)
      orders_hold k (events ∷ es) (r ∷ rs) each sub (before ∷ ancestors) long at =
          let here = sub r (inl refl) in (
            holds r here (most k events r each.0 here) (before ++ calls_steps (calls_of events r.lines))
                (path_whole k events r each.0 here before (at 0 r (inl refl) (let e = each.0.own in omega arith))),
            orders_hold (suc k) es rs each.1 (λ q is. sub q (inr is)) ancestors (omega arith)
                (λ i q is own. at (suc i) q (inr is) (omega arith)),
          )

      all_orders : AllByRecursion P (caller_orders callers)
      all_orders =
          let n = length callers in let long = long_calls 0 script.callers runs ran.each in
          orders_hold 0 script.callers runs ran.each (λ r is. is) (ancestors_steps callers n)
          (long_ancestors callers n ∙ long)
          (λ i r here own. elim_within i r here own)
        where
          elim_within : (i : ℕ) (r : Run) → IsOneOf r runs → r.begun.caller ≡ 0 + i →
              Path w r.begun.view (list_at (ancestors_steps callers (length callers)) i)
          elim_within i r here own =
              let near = numbers_low 0 script.callers runs ran.each r here in
              let long = long_calls 0 script.callers runs ran.each in
              subst (λ (k : ℕ). Path w r.begun.view (list_at (ancestors_steps callers (length callers)) k))
              (let q : r.begun.caller ≡ i = omega arith in q)
              (has_path script runs w ok ran.each ran.began ran.sized ran.known (length callers) r here (omega arith))

  reached : (replay (known_of w 1)).base.generation ≡ reseeds
  reached = ap (λ (b : BaseValue). b.generation) (lanes_replay lanes (known_of w) states closed).base

  below_reseeds : (c : ℕ) (events : List Event) (r : Run) → HasRun c events r → IsOneOf r runs → floor r.end ≤ reseeds
  below_reseeds c events r has here =
      let up = generation_begun (known_of r.end 1) (known_of w 1)
      (grown r here 1 (let e = as_long r here in let two = low in omega arith)) in
      let s = has.seen in let e = reached in omega arith

  rise : AllByRecursion (λ order. Rises (stamps_of order)) (caller_orders callers)
  rise = all_orders (λ order. Rises (stamps_of order))
      (λ r here most steps c. subst (λ (l : List Step). Rises (stamps_of l)) c.steps_are
      (subst Rises (sym (stamps_are c.made_steps)) (climbs_rise c.first r.end.stamp (stamps_in c.made_steps) c.climbs)))
      below_reseeds

  seen : AllByRecursion (λ order. LooksConform reseeds [] (effects_of (lists_of book) order)) (caller_orders callers)
  seen = all_orders (λ order. LooksConform reseeds [] (effects_of (lists_of book) order))
      (λ r here most steps c. subst (λ (l : List Step). LooksConform reseeds [] (effects_of (lists_of book) l)) c.steps_are
      (looks_conform w states closed c.made_steps 0 (floor r.end) reseeds [] c.known c.sees (omega arith) most))
      below_reseeds

  -- The marks of all lines are the marks of the book's visits, and the samples of each line match their definition

  visit : AllByRecursion (MarksVisit lanes (known_of w)) (all_marks t)
  visit = all_visit w 0 script.callers runs ran.each ran.sized ran.known

  visits : VisitsAre book (all_marks t)
  visits = all_visits w t states low ended visit ran.placed ran.made

  places : (lane : LaneId) → PlacesConform (lane_marks lane (all_marks t))
  places = all_places w t states low ended visit ran.placed ran.made

  -- a CPU's fast pool before a visit is the same in the book and in the lanes
  fast_is : (c place : ℕ) (v : Visit CpuEntry) → slice_get (visits_of book c) place ≡ Some v →
      fast_before (visits_of book c) place ≡ fast_in (known_of w) c place
  fast_is c place v at =
      let x : OfLane lanes (known_of w) states c place v = cpu_visited lanes (known_of w) states closed c place v at in
      let within = slice_get_within (known_of w (c + 2)) place x.visited.visit x.visited.conforms in
      fast_met lanes (known_of w) states closed c place x.below (omega arith)

  abbrev Sampled : SeenLine → Type 0
  Sampled line = SamplesConform (fast_in (known_of w)) (effects_of (lists_of book) line.steps)

  sampled : (k : ℕ) (es : List (List Event)) (rs : List Run) → EachCaller HasRun k es rs → Here rs →
      AllByRecursion (AllByRecursion Sampled) (lines_of_all rs)
  sampled k [] [] each sub = tt
  sampled k [] (r ∷ rs) each sub = absurd each
  sampled k (events ∷ es) [] each sub = absurd each
  sampled k (events ∷ es) (r ∷ rs) each sub = (
    calls_lines Sampled r.begun.caller events r.lines each.0.ended.fit
        (each.0.ended.done.samples lanes (known_of w) states (continues r (sub r (inl refl)))),
    sampled (suc k) es rs each.1 (λ q is. sub q (inr is)),
  )

  samples : LawfulSamples book
  samples =
      samples_lawful t book (fast_in (known_of w)) fast_is
      (apart script.callers t (lines_fit 0 script.callers runs ran.each)) visits places
      (sampled 0 script.callers runs ran.each (λ r is. is))

  forms : FormsConform script t book meanings
  forms = record {
    cpus = length-map (range_with_len 0 (lanes - 2)) _ ∙ length-range_with_len 0 (lanes - 2)
        ∙ (let e = ran.wide in omega arith);
    visits = visits;
    callers = callers_mean 0 script.callers runs ran.each (λ r is. is) (omega arith);
    states = refl;
    lanes = ended_lawful w states low ended;
    samples = samples;
  }

  transcript : IsTranscriptBy script t book meanings
  transcript = record {
    lines = lines_fit 0 script.callers runs ran.each;
    marks = record { lanes = places; callers = rise };
    forms = forms;
    answers = answers_are 0 script.callers runs ran.each (λ r is. is);
    shown = data_are 0 script.callers runs ran.each (λ r is. is);
    looks = seen;
  }

  pub lawful_runs : LawfulRuns script t w
  lawful_runs = record {
    meanings = meanings;
    transcript = subst (λ (n : ℕ). IsTranscriptBy script t (book_of n (known_of w) states) meanings) ran.wide
        transcript;
  }
