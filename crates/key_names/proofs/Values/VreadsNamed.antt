-- If the batch served a vread, the vread's line shows the bytes of named spans. The entries of the last attempt serve
-- these spans.
use Rattle.std.proofs.Common.{◌≡◌, ℕ, zero, suc, ◌<◌, ◌≤◌, Bool, true, false, List, [], ◌∷◌, ◌++◌, refl, sym, subst, ap, ◌∙◌, arith, length, take, append_assoc}
use Rattle.std.specs.Prelude.{◌==◌, not, ⊤, if◌then◌else◌}
use Rattle.std.specs.List.{fold}
use Rattle.std.proofs.Math.Seq.{take-append_seam}
use Rattle.std.proofs.lemmas.Bool.{eqb-true, eq-eqb}
use Rattle.std.proofs.lemmas.List.Sums.{fold-append}
use Rattle.key_names.specs.declared.entries.VEntry.{VEntry}
use Rattle.key_names.specs.Lanes.Book.{Lists, cpu_list, state_list}
use Rattle.key_names.specs.Callers.Calls.{Setting, Call, alone, vread_call, unbound, ending, BoundAct}
use Rattle.key_names.specs.Callers.Effects.{Effect, effects_of}
use Rattle.key_names.specs.Callers.Forms.{Looked}
use Rattle.key_names.specs.Lanes.StateList.{NamedState, state_start, state_after, LawfulStateList}
use Rattle.key_names.specs.Keys.LiveMaterial.{StateBytes, state_bytes_start, state_bytes_step}
use Rattle.key_names.specs.Transcripts.SeenLine.{no_data, bytes_or_none}
use Rattle.key_names.specs.Kernel.VgetrandomState.{VgetrandomState}
use Rattle.key_names.specs.Kernel.BatchCopy.{serves_locally, copy_bytes}
use Rattle.key_names.specs.Kernel.Vgetrandom.{SystemAnswer, Ending, no_bytes, by_batch, by_system}
use Rattle.key_names.specs.Callers.VreadSteps.{published_by, NeverFall, looks_of, ending_shown}
use Rattle.key_names.specs.Callers.Meaning.{CallerState, caller_start, CallMeaning, current_state, ByLocalCopy, ByVgetrandom, tries_local, LocalOrCall, VreadMeans, Means}
use Rattle.key_names.specs.Transcripts.IsTranscript.{CallsMean, EachOfCall, EachLine, entries_of_state, CallerMeans}
use Rattle.key_names.specs.Transcripts.StatesReplayed.{state_number}
use Rattle.std.proofs.Common.{Some, append-nil}
use Rattle.std.specs.Prelude.{slice_get}
use Rattle.std.specs.Option.{option_map_or}
use Rattle.key_names.specs.Lanes.Book.{LawfulStates}
use Rattle.key_names.specs.Transcripts.SeenLine.{SeenLine}
use Rattle.key_names.specs.Keys.ServedNamed.{served_in}
use Rattle.key_names.specs.Lanes.StateList.{state_step}
use Rattle.key_names.specs.Keys.Uses.{state_uses_at, uses_from}
use Rattle.key_names.specs.Transcripts.IsTranscript.{EachCaller}
use Rattle.key_names.proofs.Vgetrandom.VreadEnds.{VreadEnd, VreadsNamed}
use Rattle.key_names.proofs.Vgetrandom.VreadEnds as spec
use Rattle.key_names.proofs.Transcripts.TranscriptBooks.{HasStates, later_states, own_list}
use Rattle.key_names.proofs.Vgetrandom.CallsKeep.{match_cases, some_bytes}
use Rattle.key_names.proofs.Values.HeldBytes.{StateFront, state_front_more}
use Rattle.key_names.proofs.Transcripts.GoodSteps.{good_after}
use Rattle.key_names.proofs.Transcripts.KeyVisits.{AllThere}
use Rattle.key_names.proofs.Values.Named.{every_front}
use Rattle.key_names.proofs.Values.StateNamed.{StateNamed, state_named}
use Rattle.key_names.proofs.Vgetrandom.StatesReplay as replay
use Rattle.key_names.proofs.Values.BatchNamed as batch
use Rattle.key_names.proofs.Transcripts.TranscriptReplays as walk

module _ (lists : Lists) (caller k : ℕ) (below : k < 16) where
  abbrev Both : Type 0
  Both = replay.Both lists caller k

  abbrev after : Both → List VEntry → Both
  after = replay.after lists caller k

  abbrev Holds : Both → VgetrandomState → Type 0
  Holds = replay.Holds lists caller k

  -- how a vread ended. Its line shows no data, the bytes that its last entries serve, or the answer of a system call
  pub data VreadEnds (n flags : ℕ) (acts : List BoundAct) (x : Both) (m : CallMeaning) : Type 0 where
    showed_none : m.own.shown ≡ no_data → VreadEnds n flags acts x m
    showed_batch : (out : List ℕ) → m.own.shown ≡ bytes_or_none out → batch.LastServes lists caller k x m.entries out →
        VreadEnds n flags acts x m
    asked_system : (by : ByVgetrandom n flags acts m) (answer : SystemAnswer) → by.outcome.ending ≡ by_system answer →
        VreadEnds n flags acts x m

  vgetrandom_ends : (x : Both) (n flags : ℕ) (acts : List BoundAct) (m : CallMeaning) →
      Holds x (current_state m.before) → AllThere lists m.own.effects → NeverFall (looks_of m.own.effects) →
      batch.Fronts lists caller k x m.entries → ByVgetrandom n flags acts m → VreadEnds n flags acts x m
  vgetrandom_ends x n flags acts m h there rising fronts by = go by.outcome.ending refl
    where
      own : batch.Fronts lists caller k x by.outcome.entries
      own = let P : List VEntry → Type 0 = λ es. batch.Fronts lists caller k x es in subst P by.entries fronts

      go : (e : Ending) → by.outcome.ending ≡ e → VreadEnds n flags acts x m
      go no_bytes is = showed_none (by.shown ∙ ap ending_shown is)
      go (by_batch out) is =
          let P : List VEntry → Type 0 = λ es. batch.LastServes lists caller k x es out in
          showed_batch out (by.shown ∙ ap ending_shown is) (subst P (sym by.entries)
          (batch.call_named lists caller k n flags x (current_state m.before) by.steps by.outcome
          (good_after lists m.before.setting by.steps m.own.effects there rising by.shows) by.is_call h own out is))
      go (by_system answer) is = asked_system by answer is

  local_ends : (x : Both) (n flags look : ℕ) (acts : List BoundAct) (rest : List Effect) (m : CallMeaning) → 1 ≤ n →
      Holds x (current_state m.before) → batch.Fronts lists caller k x m.entries →
      serves_locally (published_by look) (current_state m.before) n ≡ true → ByLocalCopy n rest m →
      VreadEnds n flags acts x m
  local_ends x n flags look acts rest m some b fronts serves by =
      let s : VgetrandomState = current_state m.before in
      let g : ℕ = published_by look in
      let ready : 1 ≤ g = some_bytes g (walk.not_true lists caller k below (g == 0)
      (walk.and_left lists caller k below (not (g == 0)) _ serves)) in
      let current : g ≡ s.generation = eqb-true g s.generation (walk.and_left lists caller k below (g == s.generation) _
      (walk.and_right lists caller k below (not (g == 0)) _ serves)) in
      let known : 1 ≤ s.generation = omega arith in
      showed_batch (copy_bytes s 0 n) by.shown (record {
        earlier = [];
        last = m.entries;
        entries_are = refl;
        bytes_are = batch.copy_named lists caller k x s 0 n some b known (fronts [] m.entries refl)
            ∙ ap (batch.bytes_of lists caller k x) (sym by.entries);
      })

  vread_ends : (x : Both) (n flags : ℕ) (acts : List BoundAct) (m : CallMeaning) →
      Holds x (current_state m.before) → AllThere lists m.own.effects → batch.Fronts lists caller k x m.entries →
      VreadMeans n flags acts m → VreadEnds n flags acts x m
  vread_ends x n flags acts m h there fronts means =
      match_cases (Looked (LocalOrCall n flags acts m) m.own.effects) (ByVgetrandom n flags acts m)
      (VreadEnds n flags acts x m) (tries_local n flags acts)
      (λ tries looked. match_cases (ByLocalCopy n looked.1 m) (ByVgetrandom n flags acts m) (VreadEnds n flags acts x m)
      (serves_locally (published_by looked.0) (current_state m.before) n)
      (λ serves by. local_ends x n flags looked.0 acts looked.1 m
      (walk.wants_bytes lists caller k below n flags acts tries) h fronts serves by)
      (λ not_served by. vgetrandom_ends x n flags acts m h there means.looks fronts by) looked.3)
      (λ no by. vgetrandom_ends x n flags acts m h there means.looks fronts by)
      means.done_by

  -- if the call is a vread on state `k`, VreadEnds holds for the vread, and `x` is the replay of the entries before the
  -- vread
  abbrev pub CallEnds : Both → Call → CallMeaning → Type 0
  CallEnds x (alone event line) m = ⊤
  CallEnds x (vread_call n flags line acts) m = m.before.current ≡ k → VreadEnds n flags acts x m
  CallEnds x (unbound bound) m = ⊤
  CallEnds x (ending line) m = ⊤

  abbrev own_entries : CallMeaning → List VEntry
  own_entries m = if m.before.current == k then m.entries else []

  abbrev pub EachEnds : Both → List Call → List CallMeaning → Type 0
  EachEnds x [] ms = ⊤
  EachEnds x (call ∷ calls) [] = ⊤
  EachEnds x (call ∷ calls) (m ∷ ms) = CallEnds x call m × EachEnds (after x (own_entries m)) calls ms

  own_is : (m : CallMeaning) → m.before.current ≡ k → own_entries m ≡ m.entries
  own_is m same = go (m.before.current == k) (eq-eqb m.before.current k same)
    where
      go : (b : Bool) → b ≡ true → (if b then m.entries else []) ≡ m.entries
      go true is = refl
      go false is = cc

  fronts_first : (x : Both) (xs ys : List VEntry) → batch.Fronts lists caller k x (xs ++ ys) →
      batch.Fronts lists caller k x xs
  fronts_first x xs ys fronts pre post is =
      fronts pre (post ++ ys) (ap (λ zs. zs ++ ys) is ∙ append_assoc pre post ys)

  call_ends : (x : Both) (call : Call) (m : CallMeaning) → Holds x (state_number k m.before) →
      EachOfCall (λ line m. effects_of lists line.steps ≡ m.effects) call m → Means call m →
      batch.Fronts lists caller k x (own_entries m) → CallEnds x call m
  call_ends x (alone event line) m h effects means fronts = tt
  call_ends x (vread_call n flags line acts) m h effects means fronts = λ same.
      let P : List VEntry → Type 0 = λ es. batch.Fronts lists caller k x es in
      vread_ends x n flags acts m (walk.current_holds lists caller k below x m same h)
      (walk.there_in lists caller k below line m.own effects.0) (subst P (own_is m same) fronts) means
  call_ends x (unbound bound) m h effects means fronts = tt
  call_ends x (ending line) m h effects means fronts = tt

  calls_end : (x : Both) (s : CallerState) (calls : List Call) (ms : List CallMeaning) →
      length s.states ≡ 16 → Holds x (state_number k s) →
      EachLine (λ line m. effects_of lists line.steps ≡ m.effects) calls ms → CallsMean s calls ms →
      batch.Fronts lists caller k x (entries_of_state k ms) → EachEnds x calls ms
  calls_end x s [] ms len h effects mean fronts = tt
  calls_end x s (call ∷ calls) [] len h effects mean fronts = tt
  calls_end x s (call ∷ calls) (m ∷ ms) len h effects mean fronts =
      let P : CallerState → Type 0 = λ v. Holds x (state_number k v) in
      let before : Holds x (state_number k m.before) = subst P (sym mean.0) h in
      let leaves : walk.Leaves lists caller k below x m = walk.call_leaves lists caller k below x call m
      (ap (λ (v : CallerState). length v.states) mean.0 ∙ len) before effects.0 mean.1 in (
        call_ends x call m before effects.0 mean.1 (fronts_first x (own_entries m) (entries_of_state k ms) fronts),
        calls_end (after x (own_entries m)) m.after calls ms leaves.length_is leaves.holds effects.1 mean.2
            (batch.fronts_after lists caller k x (own_entries m) (entries_of_state k ms) fronts),
      )

  abbrev start : Both
  start = record { named = state_start; bytes = state_bytes_start }

  -- if the list of state k is lawful, the names match the replay after each prefix of the list (`NamesTell`)
  pub front_tells : LawfulStateList (cpu_list lists) caller k (state_list lists caller k) → (pre post : List VEntry) →
      state_list lists caller k ≡ pre ++ post → batch.NamesTell lists caller k (after start pre)
  front_tells lawful pre post is =
      let es : List VEntry = state_list lists caller k in
      let cut : take (length pre) es ≡ pre = ap (take (length pre)) is ∙ take-append_seam pre post in
      let N : List VEntry → Type 0 = λ xs. StateNamed lists caller k xs in
      let names : StateNamed lists caller k pre = subst N cut (state_named lists caller k (length pre)) in
      let R : List VEntry → Type 0 = λ xs. StateFront lists caller k xs in
      let rests : StateFront lists caller k pre = subst R cut
      (every_front R es [] es refl (λ name is. cc) (state_front_more lists caller k lawful) (length pre)) in
      let named = walk.named_is lists caller k below start pre in
      let bytes = walk.bytes_is lists caller k below start pre in
      let inferred : batch.NamesTell lists caller k
      (record { named = state_after caller k pre; bytes = fold (state_bytes_step lists) state_bytes_start pre }) =
      record {
        key = λ name at. names name at ∙ sym (walk.bytes_key lists state_bytes_start pre);
        rest = rests;
      } in
      let P : NamedState → Type 0 = λ t. batch.NamesTell lists caller k
      (record { named = t; bytes = fold (state_bytes_step lists) state_bytes_start pre }) in
      let Q : StateBytes → Type 0 = λ b. batch.NamesTell lists caller k
      (record { named = (after start pre).named; bytes = b }) in
      subst Q (sym bytes) (subst P (sym named) inferred)

  pub vreads_end : (setting : Setting) (calls : List Call) (ms : List CallMeaning) → CallerMeans lists setting calls ms →
      LawfulStateList (cpu_list lists) caller k (state_list lists caller k) →
      state_list lists caller k ≡ entries_of_state k ms → EachEnds start calls ms
  vreads_end setting calls ms means lawful is =
      calls_end start (caller_start setting) calls ms refl (walk.start_holds lists caller k below setting) means.effects
      means.follows (λ pre post cut. front_tells lawful pre post (is ∙ cut))

  named_end : (n flags : ℕ) (acts : List BoundAct) (front : List VEntry) (m : CallMeaning) →
      VreadEnds n flags acts (after start front) m → VreadEnd lists caller k front n flags acts m
  named_end n flags acts front m (showed_none none) = spec.showed_none none
  named_end n flags acts front m (showed_batch out shown last) = spec.showed_batch out shown (record {
    earlier = last.earlier;
    last = last.last;
    entries_are = last.entries_are;
    bytes_are = last.bytes_are
        ∙ ap (λ (y : Both). batch.bytes_of lists caller k y last.last)
        (sym (fold-append (replay.step lists caller k) start front last.earlier))
        ∙ ap (λ t. served_in lists (uses_from state_uses_at (state_step caller k) t last.last))
        (walk.named_is lists caller k below start (front ++ last.earlier));
  })
  named_end n flags acts front m (asked_system by answer is) = spec.asked_system by answer is

  -- VreadEnds holds for the vread at place j of the calls
  vread_at : (j : ℕ) (front : List VEntry) (calls : List Call) (ms : List CallMeaning) →
      EachEnds (after start front) calls ms → (n flags : ℕ) (line : SeenLine) (acts : List BoundAct)
      (m : CallMeaning) → m.before.current ≡ k → slice_get calls j ≡ Some (vread_call n flags line acts) →
      slice_get ms j ≡ Some m →
      VreadEnd lists caller k (front ++ entries_of_state k (take j ms)) n flags acts m
  vread_at j front [] ms each n flags line acts m same is at = cc
  vread_at j front (call ∷ calls) [] each n flags line acts m same is at = cc
  vread_at zero front (call ∷ calls) (c ∷ ms) each n flags line acts m same is at =
      let own : c ≡ m = ap (λ o. option_map_or (λ (x : CallMeaning). x) o m) at in
      let asked : call ≡ vread_call n flags line acts = ap (λ o. option_map_or (λ (x : Call). x) o call) is in
      let P : Call → Type 0 = λ x. CallEnds (after start front) x c in
      let Q : CallMeaning → Type 0 = λ x. CallEnds (after start front) (vread_call n flags line acts) x in
      let F : List VEntry → Type 0 = λ es. VreadEnd lists caller k es n flags acts m in
      subst F (sym (append-nil front)) (named_end n flags acts front m (subst Q own (subst P asked each.0) same))
  vread_at (suc j) front (call ∷ calls) (c ∷ ms) each n flags line acts m same is at =
      let P : Both → Type 0 = λ x. EachEnds x calls ms in
      let F : List VEntry → Type 0 = λ es. VreadEnd lists caller k es n flags acts m in
      subst F (append_assoc front (own_entries c) (entries_of_state k (take j ms)))
      (vread_at j (front ++ own_entries c) calls ms
      (subst P (sym (fold-append (replay.step lists caller k) start front (own_entries c))) each.1)
      n flags line acts m same is at)

  pub vread_named : (setting : Setting) (calls : List Call) (ms : List CallMeaning) → CallerMeans lists setting calls ms →
      LawfulStateList (cpu_list lists) caller k (state_list lists caller k) →
      state_list lists caller k ≡ entries_of_state k ms →
      (j n flags : ℕ) (line : SeenLine) (acts : List BoundAct)
      (m : CallMeaning) → m.before.current ≡ k → slice_get calls j ≡ Some (vread_call n flags line acts) →
      slice_get ms j ≡ Some m →
      VreadEnd lists caller k (entries_of_state k (take j ms)) n flags acts m
  vread_named setting calls ms means lawful is j n flags line acts m same asked at =
      vread_at j [] calls ms (vreads_end setting calls ms means lawful is) n flags line acts m same asked at

pub each_named : (lists : Lists) (settings : ℕ → Setting) → LawfulStates lists → (c : ℕ) (callers : List (List Call))
    (mss : List (List CallMeaning)) → HasStates lists c mss →
    EachCaller (λ c calls ms. CallerMeans lists (settings c) calls ms) c callers mss →
    EachCaller (λ c calls ms. VreadsNamed lists c calls ms) c callers mss
each_named lists settings lawful c [] [] has each = tt
each_named lists settings lawful c [] (ms ∷ mss) has each = absurd each
each_named lists settings lawful c (calls ∷ callers) [] has each = absurd each
each_named lists settings lawful c (calls ∷ callers) (ms ∷ mss) has each = (
  λ k j n flags line acts m below same asked at. vread_named lists c k below (settings c) calls ms each.0
      (lawful.states c k) (own_list lists c ms mss has k below) j n flags line acts m same asked at,
  each_named lists settings lawful (suc c) callers mss (later_states lists c ms mss has) each.1,
)
