-- The lines of a lawful transcript print the bytes of named spans, and no byte of a key twice.
use Rattle.std.proofs.Common.{◌≡◌, ℕ, suc, ◌+◌, ◌≤◌, ◌<◌, Bool, true, false, List, [], ◌∷◌, ◌++◌, inl, inr, refl, sym, subst, ap, ◌∙◌, arith, Some, length, take, append_assoc, append-nil}
use Rattle.std.specs.Prelude.{◌==◌, map, slice_get, if◌then◌else◌}
use Rattle.std.specs.List.{AllByRecursion, list_any}
use Rattle.std.proofs.lemmas.Bool.{eq-eqb}
use Rattle.std.proofs.lemmas.List.{length-append}
use Rattle.key_names.specs.declared.events.Event.{Event}
use Rattle.key_names.specs.declared.names.LaneId.TheVariants.{Cpu as CpuLane}
use Rattle.key_names.specs.declared.entries.VEntry.{VEntry}
use Rattle.key_names.specs.Lanes.Book.{Lists, lists_of, state_list}
use Rattle.key_names.specs.Callers.Calls.{Setting, Call, alone, vread_call, unbound, ending, BoundAct, all_calls}
use Rattle.key_names.specs.Callers.Effects.{effects_of}
use Rattle.key_names.specs.Callers.Forms.{Looked}
use Rattle.key_names.specs.Kernel.BatchCopy.{serves_locally}
use Rattle.key_names.specs.Transcripts.SeenLine.{SeenLine, bytes_in}
use Rattle.key_names.specs.Texts.ScriptGrammar.{InRange}
use Rattle.key_names.specs.Kernel.Vgetrandom.{by_system}
use Rattle.key_names.specs.Callers.VreadSteps.{is_reached, points_of, published_by, ending_shown, last_place, system_line_shown}
use Rattle.key_names.specs.Callers.Meaning.{CallerState, CallMeaning, LineMeaning, ByLocalCopy, ByVgetrandom, LocalOrCall, current_state, tries_local, VreadMeans, Means}
use Rattle.key_names.specs.Transcripts.IsTranscript.{CallsMean, CallerMeans, EachAct, EachCaller, EachLine, EachOfCall, entries_of_state, script_calls, start_setting}
use Rattle.key_names.specs.Keys.Uses.{is_rekeyed}
use Rattle.key_names.specs.Keys.ServedNamed.{VisitsServeNamed}
use Rattle.key_names.specs.Transcripts.PrintedBytes.{Origin, StateEntries, entries_of_call, call_lines, no_entries, LinesPrint, CallsPrint, CallersPrint, all_origins, TranscriptPrintsNamed}
use Rattle.key_names.proofs.Vgetrandom.AskedSystem.{asked_shown}
use Rattle.key_names.proofs.Vgetrandom.CallsKeep.{match_cases}
use Rattle.key_names.proofs.Transcripts.CallTakes as marks
use Rattle.key_names.proofs.Vgetrandom.KeyTakes.{takes, place_takes, ending_takes}
use Rattle.key_names.proofs.Values.PrintedLines.{Prints, prints_none, prints_entries, prints_visit, alone_prints, acts_print, EffectsAre, ShownIs}
use Rattle.key_names.proofs.Values.PrintedOnce.{once_disjoint}
use Rattle.key_names.proofs.Values.PrintedTimes.{printed_once}
use Rattle.key_names.proofs.Script.ScriptStates.{CallInRange, calls_in_range, current_below}
use Rattle.key_names.proofs.Values.ServedNamed.{lawful_serves_named}
use Rattle.key_names.proofs.Transcripts.TakenOnce.{any_caller, any_of_states}
use Rattle.key_names.proofs.Transcripts.TranscriptBooks.{HasStates, all_states, later_states, own_list}
use Rattle.key_names.proofs.Transcripts.TranscriptLaws.{transcript_is_lawful, one_call_mark}
use Rattle.key_names.proofs.Vgetrandom.VreadEnds.{VreadEnd, showed_none, showed_batch, asked_system, VreadsNamed}
use Rattle.key_names.proofs.Values.VreadsNamed.{each_named}

module _ (lists : Lists) (named : VisitsServeNamed lists) (caller : ℕ) where
  abbrev EffectsOf : SeenLine → LineMeaning → Type 0
  EffectsOf = EffectsAre lists named

  abbrev ShownOf : SeenLine → LineMeaning → Type 0
  ShownOf = ShownIs lists named

  -- for each read that some vgetrandom state takes as a key: the call's lines have the read's mark at most as often as
  -- the call's entries take the read
  abbrev IsQuiet : Call → CallMeaning → Type 0
  IsQuiet call m = (c p : ℕ) → is_rekeyed lists c p ≡ true → marks.call_marks (CpuLane c) p call ≤ takes c p m.entries

  own_is : (m : CallMeaning) (k : ℕ) → m.before.current ≡ k → (if m.before.current == k then m.entries else []) ≡ m.entries
  own_is m k same = go (m.before.current == k) (eq-eqb m.before.current k same)
    where
      go : (b : Bool) → b ≡ true → (if b then m.entries else []) ≡ m.entries
      go true is = refl
      go false is = cc

  -- a vread's own line prints the bytes of named spans
  vread_prints : (before : List CallMeaning) (n flags : ℕ) (line : SeenLine) (acts : List BoundAct) (m : CallMeaning)
      (post : List VEntry) → state_list lists caller m.before.current
      ≡ (entries_of_state m.before.current before ++ m.entries) ++ post →
      effects_of lists line.steps ≡ m.own.effects → line.shown ≡ m.own.shown → IsQuiet (vread_call n flags line acts) m →
      VreadEnd lists caller m.before.current (entries_of_state m.before.current before) n flags acts m →
      Prints lists (entries_of_call caller before m) line
  vread_prints before n flags line acts m post is effects shown quiet (showed_none none) =
      prints_none lists (entries_of_call caller before m) line (ap bytes_in (shown ∙ none))
  vread_prints before n flags line acts m post is effects shown quiet (showed_batch out bytes last) =
      let front : List VEntry = entries_of_state m.before.current before in
      let cut : (front ++ m.entries) ++ post ≡ ((front ++ last.earlier) ++ last.last) ++ post =
      ap (λ es. (front ++ es) ++ post) last.entries_are
      ∙ ap (λ es. es ++ post) (sym (append_assoc front last.earlier last.last)) in
      let len : length (front ++ last.earlier) ≡ length front + length last.earlier = length-append front last.earlier in
      let all : length m.entries ≡ length last.earlier + length last.last =
      ap (λ (es : List VEntry). length es) last.entries_are ∙ length-append last.earlier last.last in
      prints_entries lists (entries_of_call caller before m) line (front ++ last.earlier) last.last post out (is ∙ cut)
      (omega arith) (omega arith) (shown ∙ bytes) last.bytes_are
  vread_prints before n flags line acts m post is effects shown quiet (asked_system by answer ends) =
      let own = entries_of_call caller before m in
      let inferred : line.shown ≡ system_line_shown answer = shown ∙ by.shown ∙ ap ending_shown ends in
      elim (asked_shown answer m.before.setting n flags (current_state m.before) by.steps by.outcome m.own.effects ends
      by.is_call by.shows) [
        | inl none ↦ prints_none lists own line (ap bytes_in (inferred ∙ none))
        | inr a ↦ prints_visit lists named own line m.own.effects effects (inferred ∙ a.shown) (λ c p taken.
            let free : ending_takes c p by.outcome.ending ≡ ending_takes c p (by_system answer) =
            ap (ending_takes c p) ends in
            let le = marks.vgetrandom_within c p lists n flags acts line m effects by in
            let few = quiet c p taken in
            let place = a.place c p in
            ap (λ ds. place_takes c p (last_place ds)) effects ∙ omega arith)
      ]

  none_inside : (own : StateEntries) (acts : List BoundAct) (ms : List LineMeaning) → ms ≡ [] →
      EachAct EffectsOf acts ms →
      (oss : List (List Origin)) × LinesPrint lists own (map (λ (bound : BoundAct). bound.line) acts) oss
  none_inside own [] ms none effects = ([], tt)
  none_inside own (bound ∷ acts) [] none effects = absurd effects
  none_inside own (bound ∷ acts) (m ∷ ms) none effects = cc

  -- the lines of the acts inside a vread print the bytes of named spans
  inside_print : (own : StateEntries) (n flags : ℕ) (line : SeenLine) (acts : List BoundAct) (m : CallMeaning) →
      EachOfCall EffectsOf (vread_call n flags line acts) m → EachOfCall ShownOf (vread_call n flags line acts) m →
      VreadMeans n flags acts m →
      ((c p : ℕ) → is_rekeyed lists c p ≡ true → marks.acts_marks (CpuLane c) p acts ≡ 0) →
      (oss : List (List Origin)) × LinesPrint lists own (map (λ (bound : BoundAct). bound.line) acts) oss
  inside_print own n flags line acts m effects shown means untaken =
      let Printed : Type 0 = (oss : List (List Origin)) × LinesPrint lists own
      (map (λ (bound : BoundAct). bound.line) acts) oss in
      match_cases (Looked (LocalOrCall n flags acts m) m.own.effects) (ByVgetrandom n flags acts m) Printed
      (tries_local n flags acts)
      (λ tries looked. match_cases (ByLocalCopy n looked.1 m) (ByVgetrandom n flags acts m) Printed
      (serves_locally (published_by looked.0) (current_state m.before) n)
      (λ serves by. none_inside own acts m.acts by.no_acts effects.1)
      (λ not_served by. by_call by) looked.3)
      (λ no by. by_call by) means.done_by
    where
      by_call : ByVgetrandom n flags acts m →
          (oss : List (List Origin)) × LinesPrint lists own (map (λ (bound : BoundAct). bound.line) acts) oss
      by_call by = acts_print lists named own m.before.setting (is_reached (points_of by.steps)) acts m.acts effects.1
          shown.1 by.inside untaken

  -- the lines of a call print the bytes of named spans
  call_prints : (before : List CallMeaning) (call : Call) (m : CallMeaning) (post : List VEntry) →
      state_list lists caller m.before.current ≡ (entries_of_state m.before.current before ++ m.entries) ++ post →
      EachOfCall EffectsOf call m → EachOfCall ShownOf call m → Means call m → IsQuiet call m →
      ((n flags : ℕ) (line : SeenLine) (acts : List BoundAct) → call ≡ vread_call n flags line acts →
      VreadEnd lists caller m.before.current (entries_of_state m.before.current before) n flags acts m) →
      (oss : List (List Origin)) × LinesPrint lists (entries_of_call caller before m) (call_lines call) oss
  call_prints before (alone event line) m post is effects shown means quiet ends =
      let first = alone_prints lists named (entries_of_call caller before m) event line m effects shown
      (λ c p taken. omega (arith, quiet c p taken, ap (takes c p) means.entries, marks.event_takes c p event)) means in
      (first.0 ∷ [], (first.1, tt))
  call_prints before (vread_call n flags line acts) m post is effects shown means quiet ends =
      let own = entries_of_call caller before m in
      let first = vread_prints before n flags line acts m post is effects.0 shown.0 quiet (ends n flags line acts refl) in
      let rest : (oss : List (List Origin)) × LinesPrint lists (no_entries own)
      (map (λ (bound : BoundAct). bound.line) acts) oss =
      inside_print (no_entries own) n flags line acts m effects shown means
      (λ c p taken. omega (
        arith,
        quiet c p taken,
        marks.call_within c p lists (vread_call n flags line acts) m effects means,
      )) in
      (first.0 ∷ rest.0, (first.1, rest.1))
  call_prints before (unbound bound) m post is effects shown means quiet ends =
      let first = prints_none lists (entries_of_call caller before m) bound.line
      (ap bytes_in (shown ∙ ap (λ (m : LineMeaning). m.shown) means.own)) in
      (first.0 ∷ [], (first.1, tt))
  call_prints before (ending line) m post is effects shown means quiet ends =
      let first = prints_none lists (entries_of_call caller before m) line (ap bytes_in (shown ∙ means.shown)) in
      (first.0 ∷ [], (first.1, tt))

  -- if the number of the current state is below 16 before a call, it is below 16 after the call
  stays : (version cpus : ℕ) (call : Call) (m : CallMeaning) → CallInRange version cpus call → Means call m →
      m.before.current < 16 → m.after.current < 16
  stays version cpus (alone event line) m range means below =
      subst (λ (s : CallerState). s.current < 16) (sym means.after) (current_below version cpus m.before event range below)
  stays version cpus (vread_call n flags line acts) m range means below =
      match_cases (Looked (LocalOrCall n flags acts m) m.own.effects) (ByVgetrandom n flags acts m) (m.after.current < 16)
      (tries_local n flags acts)
      (λ tries looked. match_cases (ByLocalCopy n looked.1 m) (ByVgetrandom n flags acts m) (m.after.current < 16)
      (serves_locally (published_by looked.0) (current_state m.before) n)
      (λ serves by. subst (λ (s : CallerState). s.current < 16) (sym by.after) below)
      (λ not_served by. subst (λ (s : CallerState). s.current < 16) (sym by.after) below) looked.3)
      (λ no by. subst (λ (s : CallerState). s.current < 16) (sym by.after) below) means.done_by
  stays version cpus (unbound bound) m range means below =
      subst (λ (s : CallerState). s.current < 16) (sym means.after) below
  stays version cpus (ending line) m range means below =
      subst (λ (s : CallerState). s.current < 16) (sym means.after) below

  entries_append : (k : ℕ) (xs ys : List CallMeaning) →
      entries_of_state k (xs ++ ys) ≡ entries_of_state k xs ++ entries_of_state k ys
  entries_append k [] ys = refl
  entries_append k (m ∷ xs) ys =
      let own : List VEntry = if m.before.current == k then m.entries else [] in
      ap (λ es. own ++ es) (entries_append k xs ys)
      ∙ sym (append_assoc own (entries_of_state k xs) (entries_of_state k ys))

  -- VreadEnd holds for each vread of these calls, if the calls come after calls with the meanings `before`
  abbrev EndsAfter : List CallMeaning → List Call → List CallMeaning → Type 0
  EndsAfter before calls ms = (k j n flags : ℕ) (line : SeenLine) (acts : List BoundAct) (m : CallMeaning) → k < 16 →
      m.before.current ≡ k → slice_get calls j ≡ Some (vread_call n flags line acts) → slice_get ms j ≡ Some m →
      VreadEnd lists caller k (entries_of_state k (before ++ take j ms)) n flags acts m

  abbrev AllQuiet : List Call → List CallMeaning → Type 0
  AllQuiet calls ms = (c p : ℕ) → is_rekeyed lists c p ≡ true →
      marks.calls_marks (CpuLane c) p calls ≤ marks.caller_takes c p ms

  calls_print : (version cpus : ℕ) (s : CallerState) (before : List CallMeaning) (calls : List Call)
      (ms : List CallMeaning) → s.current < 16 → AllByRecursion (CallInRange version cpus) calls →
      EachLine EffectsOf calls ms → EachLine ShownOf calls ms → CallsMean s calls ms → AllQuiet calls ms →
      EndsAfter before calls ms →
      ((k : ℕ) → k < 16 → state_list lists caller k ≡ entries_of_state k (before ++ ms)) →
      (oss : List (List (List Origin))) × CallsPrint lists caller before calls ms oss
  calls_print version cpus s before [] [] below range effects shown mean quiet ends are = ([], tt)
  calls_print version cpus s before [] (m ∷ ms) below range effects shown mean quiet ends are = absurd mean
  calls_print version cpus s before (call ∷ calls) [] below range effects shown mean quiet ends are = absurd mean
  calls_print version cpus s before (call ∷ calls) (m ∷ ms) below range effects shown mean quiet ends are =
      let k : ℕ = m.before.current in
      let here : m.before.current < 16 = subst (λ (v : CallerState). v.current < 16) (sym mean.0) below in
      let own : List VEntry = if m.before.current == k then m.entries else [] in
      let is : state_list lists caller k ≡ (entries_of_state k before ++ m.entries) ++ entries_of_state k ms =
      are k here ∙ entries_append k before (m ∷ ms)
      ∙ ap (λ es. entries_of_state k before ++ (es ++ entries_of_state k ms)) (own_is m k refl)
      ∙ sym (append_assoc (entries_of_state k before) m.entries (entries_of_state k ms)) in
      let first = call_prints before call m (entries_of_state k ms) is effects.0 shown.0 mean.1
      (λ c p taken. omega (arith, quiet c p taken, marks.caller_within c p lists m.after calls ms effects.1 mean.2))
      (λ n flags line acts asked. subst (λ xs. VreadEnd lists caller k (entries_of_state k xs) n flags acts m)
      (append-nil before) (ends k 0 n flags line acts m here refl (ap Some asked) refl)) in
      let rest = calls_print version cpus m.after (before ++ m ∷ []) calls ms
      (stays version cpus call m range.0 mean.1 here) range.1 effects.1 shown.1 mean.2
      (λ c p taken. omega (arith, quiet c p taken, marks.call_within_all c p lists call m effects.0 mean.1))
      (λ i j n flags line acts v low same asked at.
      subst (λ xs. VreadEnd lists caller i (entries_of_state i xs) n flags acts v)
      (sym (append_assoc before (m ∷ []) (take j ms))) (ends i (suc j) n flags line acts v low same asked at))
      (λ i low. are i low ∙ ap (entries_of_state i) (sym (append_assoc before (m ∷ []) ms))) in
      (first.0 ∷ rest.0, (first.1, rest.1))

all_in_range : (version cpus : ℕ) (callers : List (List Event)) (t : List (List SeenLine)) →
    AllByRecursion (AllByRecursion (InRange version cpus)) callers →
    AllByRecursion (AllByRecursion (CallInRange version cpus)) (all_calls callers t)
all_in_range version cpus [] t all = tt
all_in_range version cpus (events ∷ callers) [] all =
    (calls_in_range version cpus events [] all.0, all_in_range version cpus callers [] all.1)
all_in_range version cpus (events ∷ callers) (lines ∷ t) all =
    (calls_in_range version cpus events lines all.0, all_in_range version cpus callers t all.1)

module _ (lists : Lists) (named : VisitsServeNamed lists) (settings : ℕ → Setting) (version cpus : ℕ) where
  callers_print : (c : ℕ) (callers : List (List Call)) (mss : List (List CallMeaning)) →
      AllByRecursion (AllByRecursion (CallInRange version cpus)) callers →
      EachCaller (λ c calls ms. CallerMeans lists (settings c) calls ms) c callers mss →
      EachCaller (λ c calls ms. EachLine (ShownIs lists named) calls ms) c callers mss →
      EachCaller (λ c calls ms. VreadsNamed lists c calls ms) c callers mss →
      ((d p : ℕ) → is_rekeyed lists d p ≡ true →
      marks.all_calls_marks (CpuLane d) p callers ≤ marks.all_takes d p mss) →
      HasStates lists c mss →
      (oss : List (List (List (List Origin)))) × CallersPrint lists c callers mss oss
  callers_print c [] [] range each shown ends quiet has = ([], tt)
  callers_print c [] (ms ∷ mss) range each shown ends quiet has = absurd each
  callers_print c (calls ∷ callers) [] range each shown ends quiet has = absurd each
  callers_print c (calls ∷ callers) (ms ∷ mss) range each shown ends quiet has =
      let first = calls_print lists named c version cpus _ [] calls ms (omega arith) range.0 each.0.effects shown.0
      each.0.follows
      (λ d p taken. omega (arith, quiet d p taken, marks.callers_within d p lists settings (suc c) callers mss each.1))
      ends.0
      (own_list lists c ms mss has) in
      let rest = callers_print (suc c) callers mss range.1 each.1 shown.1 ends.1
      (λ d p taken. omega (
        arith,
        quiet d p taken,
        marks.caller_within d p lists _ calls ms each.0.effects each.0.follows,
      ))
      (later_states lists c ms mss has) in
      (first.0 ∷ rest.0, (first.1, rest.1))

pub transcript_prints_named : TranscriptPrintsNamed
transcript_prints_named script t book ms ok is =
    let lists : Lists = lists_of book in
    let callers : List (List Call) = script_calls script t in
    let settings : ℕ → Setting = start_setting callers in
    let has : HasStates lists 0 ms = all_states lists ms is.forms.states in
    let lawful = transcript_is_lawful script t book ms is in
    let taken : (c p : ℕ) → is_rekeyed lists c p ≡ true →
    marks.all_calls_marks (CpuLane c) p callers ≤ marks.all_takes c p ms =
    λ c p rekeyed. omega (
      arith,
      one_call_mark (CpuLane c) p script t is.marks,
      any_caller c p ms (sym (ap (λ xs. list_any (any_of_states c p) xs) is.forms.states) ∙ rekeyed),
    ) in
    let prints = callers_print lists (lawful_serves_named lists is.forms.lanes) settings script.version script.cpus 0
    callers ms (all_in_range script.version script.cpus script.callers t ok.ranges) is.forms.callers is.shown
    (each_named lists settings lawful.states 0 callers ms has is.forms.callers) taken has in
    record {
      origins = prints.0;
      lines = prints.1;
      apart = once_disjoint lists lawful.lanes.forward lawful.states (all_origins prints.0)
          (printed_once lists callers ms prints.0 (λ lane p. one_call_mark lane p script t is.marks) prints.1);
    }
