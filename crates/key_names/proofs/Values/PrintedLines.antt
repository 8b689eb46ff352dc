-- A line prints the bytes of named spans. These are the spans that the line's last visit serves, or spans that entries
-- in a vgetrandom state's list serve.
use Rattle.std.proofs.Common.{◌≡◌, ℕ, ◌+◌, ◌≤◌, ◌⊎◌, Bool, true, false, List, [], ◌∷◌, ◌++◌, inl, inr, refl, sym, ap, ◌∙◌, arith, Some, None, Option, length, take, append_assoc, append-nil}
use Rattle.std.specs.Prelude.{map, slice_get}
use Rattle.std.specs.List.{range_with_len}
use Rattle.std.proofs.lemmas.Bool.{eq-eqb}
use Rattle.std.proofs.lemmas.List.{length-append}
use Rattle.std.proofs.lemmas.List.Sums.{fold-append}
use Rattle.key_names.specs.declared.names.LaneId.{LaneId}
use Rattle.key_names.specs.declared.names.LaneId.TheVariants.{Pool as PoolLane, Base as BaseLane, Cpu as CpuLane}
use Rattle.key_names.specs.declared.names.Step.{Step}
use Rattle.key_names.specs.declared.names.Step.TheVariants.{Look, Visit as Marked}
use Rattle.key_names.specs.declared.entries.PoolEntry.{PoolEntry}
use Rattle.key_names.specs.declared.entries.BaseEntry.{BaseEntry}
use Rattle.key_names.specs.declared.entries.CpuEntry.{CpuEntry}
use Rattle.key_names.specs.declared.entries.VEntry.{VEntry}
use Rattle.key_names.specs.declared.events.Event.{Event}
use Rattle.key_names.specs.declared.events.Event.TheVariants.{Bits, Read, Kread, Dread, Uread, Int8, Int16, Int32, Int64}
use Rattle.key_names.specs.declared.events.InsideAct.{InsideAct}
use Rattle.key_names.specs.declared.events.InsideAct.TheVariants.{Wipe as WipeAct, Vread as VreadAct, Reseed as ReseedAct}
use Rattle.key_names.specs.Callers.Answers.{effect_bytes, served_bytes, shown_of, bits_read}
use Rattle.key_names.specs.Lanes.Book.{Lists, cpu_list, state_list}
use Rattle.key_names.specs.Callers.Calls.{Setting, BoundAct}
use Rattle.key_names.specs.Callers.Effects.{Effect, looked, at_pool, at_base, at_cpu, nothing_there, effect_or, effect_at, effects_of, pool_visit, base_visit, cpu_visit}
use Rattle.key_names.specs.Callers.Meaning.{CallMeaning, LineMeaning, AloneMeans, ActMeans, ActsMean, unused_line}
use Rattle.key_names.specs.Transcripts.SeenLine.{SeenLine, bytes_in, bytes_or_none}
use Rattle.key_names.specs.Transcripts.IsTranscript.{EachAct}
use Rattle.key_names.specs.Lanes.StateList.{state_step, state_start, state_after}
use Rattle.key_names.specs.Keys.Uses.{is_rekeyed, uses_from, state_uses_at}
use Rattle.key_names.specs.Callers.VreadSteps.{last_place}
use Rattle.key_names.specs.Keys.ServedNamed.{served_in, uses_or, base_place_uses, cpu_place_uses, place_uses, VisitsServeNamed}
use Rattle.key_names.specs.Transcripts.PrintedBytes.{Origin, at_state, origin_uses, origins_uses, last_origin, StateEntries, state_origins, no_entries, by_none, by_visit, by_entries, LinePrints, LinesPrint}
use Rattle.key_names.proofs.Vgetrandom.CallsKeep.{match_cases}
use Rattle.key_names.proofs.Values.HeldBytes.{entry_after, front_of}
use Rattle.key_names.proofs.Vgetrandom.KeyTakes.{place_takes, last_takes}
use Rattle.key_names.proofs.Transcripts.TakenMarks.{mark_takes, effects_within}
use Rattle.key_names.proofs.Transcripts.CallTakes.{acts_marks}

pub bytes_of_some : (bs : List ℕ) → bytes_in (bytes_or_none bs) ≡ bs
bytes_of_some [] = refl
bytes_of_some (b ∷ bs) = refl

module _ (lists : Lists) where
  -- `LinePrints` holds for the line with some list of entries
  abbrev pub Prints : StateEntries → SeenLine → Type 0
  Prints own line = (os : List Origin) × LinePrints lists own line os

  pub prints_none : (own : StateEntries) (line : SeenLine) → bytes_in line.shown ≡ [] → Prints own line
  prints_none own line none = ([], record { by = by_none refl; shown = none })

  -- the entries `es`, which follow `front` in a state's list, have the same uses whether computed place by place or
  -- along the list
  entries_use : (caller k : ℕ) (front es post : List VEntry) →
      state_list lists caller k ≡ (front ++ es) ++ post →
      origins_uses lists (map (at_state caller k) (range_with_len (length front) (length es)))
      ≡ uses_from state_uses_at (state_step caller k) (state_after caller k front) es
  entries_use caller k front [] post is = refl
  entries_use caller k front (e ∷ es) post is =
      let all : List VEntry = state_list lists caller k in
      let cut : all ≡ (front ++ e ∷ []) ++ (es ++ post) =
      is ∙ append_assoc front (e ∷ es) post ∙ sym (append_assoc front (e ∷ []) (es ++ post)) in
      let there : slice_get all (length front) ≡ Some e = entry_after all front e (es ++ post) cut in
      let before : take (length front) all ≡ front = front_of all front e (es ++ post) cut in
      let one : origin_uses lists (at_state caller k (length front))
      ≡ state_uses_at (state_after caller k front) e =
      ap (λ o. uses_or (state_uses_at (state_after caller k (take (length front) all))) o) there
      ∙ ap (λ xs. state_uses_at (state_after caller k xs) e) before in
      let len : length (front ++ e ∷ []) ≡ length front + 1 = length-append front (e ∷ []) in
      let next : state_after caller k (front ++ e ∷ []) ≡ state_step caller k (state_after caller k front) e =
      fold-append (state_step caller k) state_start front (e ∷ []) in
      let rest = entries_use caller k (front ++ e ∷ []) es post
      (cut ∙ sym (append_assoc (front ++ e ∷ []) es post)) in
      ap (λ us. us ++ origins_uses lists (map (at_state caller k) (range_with_len (length front + 1) (length es)))) one
      ∙ ap (λ us. state_uses_at (state_after caller k front) e ++ us)
      (ap (λ n. origins_uses lists (map (at_state caller k) (range_with_len n (length es)))) (sym len) ∙ rest
      ∙ ap (λ s. uses_from state_uses_at (state_step caller k) s es) next)

  -- if a line shows the bytes that some of its own entries serve, then `Prints` holds for the line
  pub prints_entries : (own : StateEntries) (line : SeenLine) (front es post : List VEntry) (out : List ℕ) →
      state_list lists own.caller own.state ≡ (front ++ es) ++ post → own.from ≤ length front →
      length front + length es ≤ own.from + own.count → line.shown ≡ bytes_or_none out →
      out ≡ served_in lists (uses_from state_uses_at (state_step own.caller own.state)
      (state_after own.caller own.state front) es) → Prints own line
  prints_entries own line front es post out is above below shown bytes = (
    state_origins (record own { from = length front; count = length es }),
    record {
      by = by_entries (length front) (length es) above below refl;
      shown = ap bytes_in shown ∙ bytes_of_some out ∙ bytes
          ∙ ap (served_in lists) (sym (entries_use own.caller own.state front es post is));
    },
  )

  -- if the last effect is a CPU's visit, no vgetrandom state takes that visit's read as its key
  abbrev pub IsFree : List Effect → Type 0
  IsFree effects = (c p : ℕ) → is_rekeyed lists c p ≡ true → place_takes c p (last_place effects) ≡ 0

  -- the line has no mark of a read that a vgetrandom state takes as its key, so IsFree holds for the line's effects
  abbrev pub IsUntaken : SeenLine → Type 0
  IsUntaken line = (c p : ℕ) → is_rekeyed lists c p ≡ true → mark_takes (CpuLane c) p line.steps ≡ 0

  pub untaken_free : (line : SeenLine) → IsUntaken line → IsFree (effects_of lists line.steps)
  untaken_free line none c p taken =
      omega (arith, last_takes c p (effects_of lists line.steps), effects_within c p lists line.steps, none c p taken)

module _ (lists : Lists) (named : VisitsServeNamed lists) where
  pool_place : (place : ℕ) (o : Option PoolEntry) →
      effect_bytes (effect_or (λ e. at_pool (pool_visit lists place e)) o) ≡ []
  pool_place place None = refl
  pool_place place (Some e) = refl

  base_place : (place : ℕ) (o : Option BaseEntry) → slice_get lists.base place ≡ o →
      effect_bytes (effect_or (λ e. at_base (base_visit lists place e)) o)
      ≡ served_in lists (uses_or (base_place_uses lists place) o)
  base_place place None is = refl
  base_place place (Some e) is = named.base place e is

  not_taken : (c p : ℕ) (b : Bool) → is_rekeyed lists c p ≡ b →
      (is_rekeyed lists c p ≡ true → place_takes c p (Some (record { cpu = c; place = p })) ≡ 0) →
      is_rekeyed lists c p ≡ false
  not_taken c p true is free =
      let none : place_takes c p (Some (record { cpu = c; place = p })) ≡ 0 = free is in
      let one : place_takes c p (Some (record { cpu = c; place = p })) ≡ 1 =
      rw (eq-eqb c c refl, eq-eqb p p refl) refl in
      absurd (omega arith)
  not_taken c p false is free = is

  cpu_place : (c place : ℕ) (o : Option CpuEntry) → slice_get (cpu_list lists c) place ≡ o →
      IsFree lists (effect_or (λ e. at_cpu (cpu_visit lists c place e)) o ∷ []) →
      effect_bytes (effect_or (λ e. at_cpu (cpu_visit lists c place e)) o)
      ≡ served_in lists (uses_or (cpu_place_uses lists c place) o)
  cpu_place c place None is free = refl
  cpu_place c place (Some e) is free =
      named.cpus c place e is (not_taken c place (is_rekeyed lists c place) refl (free c place))

  place_named : (lane : LaneId) (place : ℕ) → IsFree lists (effect_at lists lane place ∷ []) →
      effect_bytes (effect_at lists lane place) ≡ served_in lists (place_uses lists lane place)
  place_named PoolLane place free = pool_place place (slice_get lists.pool place)
  place_named BaseLane place free = base_place place (slice_get lists.base place) refl
  place_named (CpuLane c) place free = cpu_place c place (slice_get (cpu_list lists c) place) refl free

  -- `steps` serve the bytes of the named spans of their last visit, unless a vgetrandom state takes this visit's read
  -- as its key
  served_named : (steps : List Step) → IsFree lists (effects_of lists steps) →
      served_bytes (effects_of lists steps) ≡ served_in lists (origins_uses lists (last_origin steps))
  served_named [] free = refl
  served_named (Look g ∷ []) free = refl
  served_named (Marked mark ∷ []) free = place_named mark.lane mark.place free
      ∙ ap (served_in lists) (sym (append-nil (place_uses lists mark.lane mark.place)))
  served_named (Look g ∷ next ∷ steps) free = served_named (next ∷ steps) free
  served_named (Marked mark ∷ next ∷ steps) free = served_named (next ∷ steps) free

  -- let a line show the bytes that its last visit serves, and let no vgetrandom state take this visit's read as its
  -- key. Then `Prints` holds for the line
  pub prints_visit : (own : StateEntries) (line : SeenLine) (effects : List Effect) → effects_of lists line.steps ≡ effects →
      line.shown ≡ bytes_or_none (served_bytes effects) → IsFree lists (effects_of lists line.steps) → Prints lists own line
  prints_visit own line effects is shown free = (
    last_origin line.steps,
    record {
      by = by_visit refl;
      shown = ap bytes_in shown ∙ bytes_of_some (served_bytes effects) ∙ ap served_bytes (sym is)
          ∙ served_named line.steps free;
    },
  )

  bits_none : (effects : List Effect) → bytes_in (bits_read effects) ≡ []
  bits_none [] = refl
  bits_none (looked g ∷ effects) = refl
  bits_none (at_pool v ∷ []) = refl
  bits_none (at_pool v ∷ d ∷ effects) = refl
  bits_none (at_base v ∷ effects) = refl
  bits_none (at_cpu v ∷ effects) = refl
  bits_none (nothing_there ∷ effects) = refl

  shown_cases : (event : Event) (effects : List Effect) →
      (bytes_in (shown_of event effects) ≡ []) ⊎ (shown_of event effects ≡ bytes_or_none (served_bytes effects))
  shown_cases Bits effects = inl (bits_none effects)
  shown_cases (Read n flags) effects = inr refl
  shown_cases (Kread n) effects = inr refl
  shown_cases (Dread n flag) effects = inr refl
  shown_cases (Uread n) effects = inr refl
  shown_cases Int8 effects = inr refl
  shown_cases Int16 effects = inr refl
  shown_cases Int32 effects = inr refl
  shown_cases Int64 effects = inr refl
  shown_cases _ effects = inl refl

  -- if an event is a call by itself, its line prints the bytes of named spans
  pub alone_prints : (own : StateEntries) (event : Event) (line : SeenLine) (m : CallMeaning) →
      effects_of lists line.steps ≡ m.own.effects → line.shown ≡ m.own.shown → IsUntaken lists line →
      AloneMeans event m → Prints lists own line
  alone_prints own event line m effects shown untaken means = elim (shown_cases event m.own.effects) [
    | inl none ↦ prints_none lists own line (ap bytes_in (shown ∙ means.shown) ∙ none)
    | inr bytes ↦ prints_visit own line m.own.effects effects (shown ∙ means.shown ∙ bytes)
        (untaken_free lists line untaken)
  ]

  -- if an act was done inside a vread, the act's line prints the bytes of named spans
  act_prints : (own : StateEntries) (set : Setting) (act : InsideAct) (line : SeenLine) (m : LineMeaning) →
      effects_of lists line.steps ≡ m.effects → line.shown ≡ m.shown → IsUntaken lists line →
      ActMeans set act m → Prints lists own line
  act_prints own set WipeAct line m effects shown untaken means =
      prints_none lists own line (ap bytes_in (shown ∙ ap (λ (m : LineMeaning). m.shown) means))
  act_prints own set (VreadAct n) line m effects shown untaken means =
      prints_visit own line m.effects effects (shown ∙ means.2) (untaken_free lists line untaken)
  act_prints own set ReseedAct line m effects shown untaken means =
      prints_none lists own line (ap bytes_in (shown ∙ means.2))

  abbrev pub EffectsAre : SeenLine → LineMeaning → Type 0
  EffectsAre line m = effects_of lists line.steps ≡ m.effects

  abbrev pub ShownIs : SeenLine → LineMeaning → Type 0
  ShownIs line m = line.shown ≡ m.shown

  abbrev act_lines : List BoundAct → List SeenLine
  act_lines acts = map (λ (bound : BoundAct). bound.line) acts

  -- the lines of the acts inside a vread print the bytes of named spans
  pub acts_print : (own : StateEntries) (set : Setting) (reached : BoundAct → Bool) (acts : List BoundAct)
      (ms : List LineMeaning) → EachAct EffectsAre acts ms → EachAct ShownIs acts ms → ActsMean set reached acts ms →
      ((c p : ℕ) → is_rekeyed lists c p ≡ true → acts_marks (CpuLane c) p acts ≡ 0) →
      (oss : List (List Origin)) × LinesPrint lists own (act_lines acts) oss
  acts_print own set reached [] ms effects shown mean untaken = ([], tt)
  acts_print own set reached (bound ∷ acts) [] effects shown mean untaken = absurd mean
  acts_print own set reached (bound ∷ acts) (m ∷ ms) effects shown mean untaken =
      let first : Prints lists own bound.line =
      match_cases (ActMeans set bound.act m) (m ≡ unused_line) (Prints lists own bound.line) (reached bound)
      (λ done means. act_prints own set bound.act bound.line m effects.0 shown.0
      (λ c p taken. omega (arith, untaken c p taken)) means)
      (λ left unused. prints_none lists own bound.line
      (ap bytes_in (shown.0 ∙ ap (λ (m : LineMeaning). m.shown) unused))) mean.0 in
      let rest = acts_print (no_entries own) set reached acts ms effects.1 shown.1 mean.1
      (λ c p taken. omega (arith, untaken c p taken)) in
      (first.0 ∷ rest.0, (first.1, rest.1))
