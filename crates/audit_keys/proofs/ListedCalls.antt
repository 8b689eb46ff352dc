-- For any meanings of the calls, `all_over` pairs each entry of a vgetrandom state with the end (line and stamp) of the
-- call that made the entry.
use Rattle.std.proofs.Common.{◌≡◌, ℕ, suc, ◌+◌, ◌<◌, ◌≤◌, List, [], ◌∷◌, ◌++◌, map, length, refl, sym, ap, ◌∙◌, arith}
use Rattle.std.specs.Prelude.{◌==◌, if◌then◌else◌}
use Rattle.std.specs.List.{range_with_len}
use Rattle.std.proofs.lemmas.List.{map-append}
use Rattle.std.proofs.lemmas.Simd.{map-map}
use Rattle.key_names.specs.declared.entries.VEntry.{VEntry}
use Rattle.key_names.specs.Lanes.Book.{Lists}
use Rattle.key_names.specs.Callers.Calls.{Setting, Call}
use Rattle.key_names.specs.Transcripts.IsTranscript.{CallsMean, CallerMeans, EachLine, EachCaller}
use Rattle.key_names.specs.Callers.Meaning.{CallerState, CallMeaning, caller_start}
use Rattle.audit_keys.specs.declared.entry.CallEnd.{CallEnd}
use Rattle.audit_keys.specs.declared.entry.StateEntry.{StateEntry}
use Rattle.audit_keys.specs.Callers.{Outlines, first_outlines, outlines_after, entries_left, left_in}
use Rattle.audit_keys.specs.Ends.{end_of}
use Rattle.audit_keys.specs.Stamps.{over_at, start_stamp}
use Rattle.audit_keys.specs.Stamped.{left_by, list_over, caller_over, all_over}
use Rattle.audit_keys.specs.ListedEnds.{AreListedEnds, all_ends, all_ends_in, ends_in, ends_of_state, state_ends}
use Rattle.audit_keys.proofs.CallersLeave.{Goes, HasEffects, Conforms, at_start, call_goes, map_same, conforms_at}

ends_by : (i : ℕ) (end : CallEnd) (es : List VEntry) → ends_in (left_by i end es) ≡ map (λ e. end) es
ends_by i end [] = refl
ends_by i end (e ∷ es) = ap (λ x. end ∷ x) (ends_by i end es)

ends_go : (lists : Lists) (k i before : ℕ) (o : Outlines) (c : CallerState) (calls : List Call) (ms : List CallMeaning) →
    Conforms o c → CallsMean c calls ms → EachLine (HasEffects lists) calls ms →
    ends_in (list_over k o i before calls) ≡ ends_of_state k before calls ms
ends_go lists k i before o c [] ms st means effects = refl
ends_go lists k i before o c (call ∷ calls) [] st means effects = absurd means
ends_go lists k i before o c (call ∷ calls) (m ∷ ms) st means effects =
    let here : Conforms o m.before = conforms_at o c m.before (sym means.0) st in
    let one : Goes o call m = call_goes lists o call m here means.1 effects.0 in
    let end : CallEnd = end_of before call in
    let rest : List StateEntry = list_over k (outlines_after o call) (i + 1) (over_at before call) calls in
    let more = ends_go lists k (i + 1) (over_at before call) (outlines_after o call) m.after calls ms one.conforms means.2
    effects.1 in
    let first : left_in k o call ≡ (if m.before.current == k then m.entries else []) =
    ap (λ j. if j == k then entries_left o call else []) here.current
    ∙ ap (λ es. if m.before.current == k then es else []) one.entries in
    map-append (λ (e : StateEntry). e.end) (left_by i end (left_in k o call)) rest
    ∙ ap (λ es. es ++ ends_in rest)
    (ends_by i end (left_in k o call) ∙ ap (λ (es : List VEntry). map (λ e. end) es) first)
    ∙ ap (λ es. map (λ e. end) (if m.before.current == k then m.entries else []) ++ es) more

ends_caller : (lists : Lists) (setting : Setting) (start : ℕ) (calls : List Call) (ms : List CallMeaning) →
    CallerMeans lists setting calls ms → map ends_in (caller_over start calls) ≡ state_ends start calls ms
ends_caller lists setting start calls ms means =
    map-map ends_in (λ k. list_over k first_outlines 0 start calls) (range_with_len 0 16)
    ∙ map_same (λ k. ends_in (list_over k first_outlines 0 start calls)) (λ k. ends_of_state k start calls ms)
    (range_with_len 0 16)
    (λ k. ends_go lists k 0 start first_outlines (caller_start setting) calls ms (at_start setting) means.follows
    means.effects)

module _ (lists : Lists) (settings : ℕ → Setting) (starts others : ℕ → ℕ) where
  ends_all : (c : ℕ) (callers : List (List Call)) (mss : List (List CallMeaning)) →
      ((d : ℕ) → c ≤ d → d < c + length callers → starts d ≡ others d) →
      EachCaller (λ c calls ms. CallerMeans lists (settings c) calls ms) c callers mss →
      all_ends_in (all_over starts c callers) ≡ all_ends others c callers mss
  ends_all c [] mss same each = refl
  ends_all c (calls ∷ callers) [] same each = absurd each
  ends_all c (calls ∷ callers) (ms ∷ mss) same each =
      let one : map ends_in (caller_over (starts c) calls) ≡ state_ends (others c) calls ms =
      ends_caller lists (settings c) (starts c) calls ms each.0
      ∙ ap (λ s. state_ends s calls ms) (same c (omega arith) (omega arith)) in
      let more = ends_all (suc c) callers mss (λ d low high. same d (omega arith) (omega arith)) each.1 in
      λ i. one i ∷ more i

pub ends_are_listed : (starts : ℕ → ℕ) (callers : List (List Call)) (entries : List (List (List StateEntry))) →
    entries ≡ all_over starts 0 callers → ((c : ℕ) → c < length callers → starts c ≡ start_stamp callers c) →
    AreListedEnds callers entries
ends_are_listed starts callers entries is same lists settings mss each =
    ap all_ends_in is
    ∙ ends_all lists settings starts (start_stamp callers) 0 callers mss (λ c low high. same c (omega arith)) each
