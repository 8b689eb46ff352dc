-- A cut at a stamp, or after a call, keeps the first calls of each caller. The cut book has exactly the entries that
-- these calls left. Lines without answers and data (bare lines) give the same cuts and ends.
use Rattle.std.proofs.Common.{◌≡◌, ℕ, zero, suc, ◌+◌, ◌<◌, ◌≤◌, List, [], ◌∷◌, ◌++◌, length, map, inl, inr, refl, sym, subst, ap, ◌∙◌, arith}
use Rattle.std.specs.Prelude.{◌==◌, if◌then◌else◌, nat_le, take}
use Rattle.std.specs.List.{range_with_len}
use Rattle.std.proofs.lemmas.List.{append_cancel_right, length-map}
use Rattle.key_names.specs.declared.names.Step.{Step}
use Rattle.key_names.specs.Lanes.Book.{Lists, list_at}
use Rattle.key_names.specs.Callers.CallerOrders.{start_of}
use Rattle.key_names.specs.declared.entries.VEntry.{VEntry}
use Rattle.key_names.specs.Callers.Calls.{BoundAct, Call, Setting, alone, vread_call, unbound, ending}
use Rattle.key_names.specs.Callers.History.{calls_steps}
use Rattle.key_names.specs.Transcripts.IsTranscript.{CallerMeans, EachCaller, script_calls, state_lists}
use Rattle.key_names.specs.Callers.Meaning.{CallMeaning}
use Rattle.key_names.specs.Transcripts.SameSteps.{bare}
use Rattle.key_names.specs.Transcripts.SeenLine.{SeenLine}
use Rattle.key_names.specs.Texts.ScriptGrammar.{Script}
use Rattle.key_names.proofs.History.CallerOrders.{order_is_start_and_own}
use Rattle.key_names.proofs.Transcripts.TranscriptBooks.{lt_or_le}
use Rattle.key_names.proofs.Unique.BareLines.{bare_act, bare_all, bare_call, bare_steps, bare_calls_steps, bare_orders}
use Rattle.key_names.proofs.Lists.ListFacts.{list_beyond}
use Rattle.audit_keys.specs.Moments.{first_calls}
use Rattle.audit_keys.proofs.UseMoments.{calls_front, lines_front}
use Rattle.audit_keys.specs.Callers.{lists_left}
use Rattle.audit_keys.specs.declared.entry.CallEnd.{CallEnd}
use Rattle.audit_keys.specs.declared.entry.Cut.{Cut}
use Rattle.audit_keys.specs.declared.entry.Cut.TheVariants.{Stamp as ByStamp, Call as ByCall}
use Rattle.audit_keys.specs.declared.entry.StateEntry.{StateEntry}
use Rattle.audit_keys.specs.declared.line_ends.LineEnd.{LineEnd}
use Rattle.audit_keys.specs.StateCut.{AreCut, all_lists_by, calls_by, lists_made}
use Rattle.audit_keys.specs.Ends.{end_of}
use Rattle.audit_keys.specs.LineEnds.{act_ends, all_line_ends, call_ends, line_ends, line_of_call, listed_lines}
use Rattle.audit_keys.specs.Stamps.{latest_of, made_by, over_at, start_stamp}
use Rattle.audit_keys.specs.ListedEnds.{all_ends, ends_of_state, state_ends, listed_ends}
use Rattle.audit_keys.proofs.CallersLeave.{calls_leave, map_same}
use Rattle.std.specs.Global.{Vec}
use Rattle.key_audit.specs.Live.{calls_cut}

-- ---- the entries that the first calls of each caller left

module _ (lists : Lists) (settings : ℕ → Setting) (cuts : ℕ → Cut) (starts made : ℕ → ℕ) where
  -- the entries that the calls kept by `cuts` left for the vgetrandom states are the entries in the meanings of these
  -- calls
  made_mean : (c : ℕ) (callers : List (List Call)) (mss : List (List CallMeaning)) →
      ((j : ℕ) → made (c + j) ≡ calls_by (cuts (c + j)) (starts (c + j)) (list_at callers j)) →
      EachCaller (λ c calls ms. CallerMeans lists (settings c) calls ms) c callers mss →
      lists_made cuts starts c callers ≡ map state_lists (first_calls made c mss)
  made_mean c [] [] is each = refl
  made_mean c [] (ms ∷ mss) is each = absurd each
  made_mean c (calls ∷ callers) [] is each = absurd each
  made_mean c (calls ∷ callers) (ms ∷ mss) is each =
      let here : made c ≡ calls_by (cuts c) (starts c) calls =
      (let p : c + 0 ≡ c = omega arith in subst (λ k. made k ≡ calls_by (cuts k) (starts k) calls) p (is 0)) in
      let first : lists_left (take (calls_by (cuts c) (starts c) calls) calls) ≡ state_lists (take (made c) ms) =
      ap (λ n. lists_left (take n calls)) (sym here)
      ∙ calls_leave lists (settings c) (take (made c) calls) (take (made c) ms) (record {
        follows = calls_front _ (made c) calls ms each.0.follows;
        effects = lines_front _ (made c) calls ms each.0.effects;
      }) in
      let rest : lists_made cuts starts (suc c) callers ≡ map state_lists (first_calls made (suc c) mss) =
      made_mean (suc c) callers mss
      (λ j. (let p : c + suc j ≡ suc c + j = omega arith in
      subst (λ k. made k ≡ calls_by (cuts k) (starts k) (list_at callers j)) p (is (suc j)))) each.1 in
      λ i. first i ∷ rest i

pub cut_states : (lists : Lists) (settings : ℕ → Setting) (callers : List (List Call)) (mss : List (List CallMeaning))
    (states : List (Vec (Vec StateEntry))) →
    EachCaller (λ c calls ms. CallerMeans lists (settings c) calls ms) 0 callers mss → AreCut callers states →
    (cuts : ℕ → Cut) → all_lists_by cuts 0 states ≡ map state_lists (first_calls (calls_cut cuts callers) 0 mss)
cut_states lists settings callers mss states each cut cuts =
    cut cuts
    ∙ made_mean lists settings cuts (start_stamp callers) (calls_cut cuts callers) 0 callers mss
    (λ j. ap (λ k. calls_by (cuts (0 + j)) (start_stamp callers (0 + j)) (list_at callers k))
    (let p : 0 + j ≡ j = omega arith in p)) each

-- ---- cuts of bare lines (without answers and data)

made_alike : (stamp before : ℕ) (cs : List Call) → made_by stamp before (map bare_call cs) ≡ made_by stamp before cs
made_alike stamp before [] = refl
made_alike stamp before (c ∷ cs) =
    (λ i. if nat_le (latest_of before (bare_steps c i)) stamp
    then suc (made_by stamp (latest_of before (bare_steps c i)) (map bare_call cs)) else 0)
    ∙ ap (λ (n : ℕ). if nat_le (over_at before c) stamp then suc n else 0) (made_alike stamp (over_at before c) cs)

bare_at : (callers : List (List Call)) (c : ℕ) →
    list_at (map (map bare_call) callers) c ≡ map bare_call (list_at callers c)
bare_at [] c = refl
bare_at (cs ∷ callers) zero = refl
bare_at (cs ∷ callers) (suc c) = bare_at callers c

starts_alike : (callers : List (List Call)) (c : ℕ) → c < length callers →
    start_of (map (map bare_call) callers) c ≡ start_of callers c
starts_alike callers c lt =
    let bares : List (List Call) = map (map bare_call) callers in
    let own : calls_steps (list_at bares c) ≡ calls_steps (list_at callers c) =
    ap calls_steps (bare_at callers c) ∙ bare_calls_steps (list_at callers c) in
    append_cancel_right (start_of bares c) (start_of callers c) (calls_steps (list_at callers c))
    (ap (λ (steps : List Step). start_of bares c ++ steps) (sym own)
    ∙ sym (order_is_start_and_own bares c (let long = length-map callers (map bare_call) in omega arith))
    ∙ ap (λ (orders : List (List Step)). list_at orders c) (bare_orders callers)
    ∙ order_is_start_and_own callers c lt)

start_alike : (stamp : ℕ) (callers : List (List Call)) (c : ℕ) →
    made_by stamp (start_stamp (map (map bare_call) callers) c) (list_at callers c)
    ≡ made_by stamp (start_stamp callers c) (list_at callers c)
start_alike stamp callers c = elim (lt_or_le c (length callers)) [
  | inl lt ↦ ap (λ (steps : List Step). made_by stamp (latest_of 0 steps) (list_at callers c))
      (starts_alike callers c lt)
  | inr le ↦ ap (λ (cs : List Call). made_by stamp (start_stamp (map (map bare_call) callers) c) cs)
      (list_beyond callers c le)
      ∙ sym (ap (λ (cs : List Call). made_by stamp (start_stamp callers c) cs) (list_beyond callers c le))
]

-- a cut keeps as many calls of caller `c` for the bare lines as for the lines themselves
cut_alike : (cut : Cut) (callers : List (List Call)) (c : ℕ) →
    calls_by cut (start_stamp (map (map bare_call) callers) c) (list_at (map (map bare_call) callers) c)
    ≡ calls_by cut (start_stamp callers c) (list_at callers c)
cut_alike (ByCall n) callers c = refl
cut_alike (ByStamp stamp) callers c =
    ap (λ (cs : List Call). made_by stamp (start_stamp (map (map bare_call) callers) c) cs) (bare_at callers c)
    ∙ made_alike stamp (start_stamp (map (map bare_call) callers) c) (list_at callers c)
    ∙ start_alike stamp callers c

pub cut_bare : (cuts : ℕ → Cut) (script : Script) (t : List (List SeenLine)) →
    calls_cut cuts (script_calls script (map (map bare) t)) ≡ calls_cut cuts (script_calls script t)
cut_bare cuts script t =
    ap (λ (callers : List (List Call)). calls_cut cuts callers) (bare_all script.callers t)
    ∙ (λ i c. cut_alike (cuts c) (script_calls script t) c i)

-- ---- the ends of calls are the same for bare lines

end_alike : (before : ℕ) (call : Call) → end_of before (bare_call call) ≡ end_of before call
end_alike before (alone event line) = refl
end_alike before (vread_call n flags line acts) =
    ap (λ (steps : List Step). record { stamp = latest_of before steps; caller = line.caller; event = line.event })
    (bare_steps (vread_call n flags line acts))
end_alike before (unbound bound) = refl
end_alike before (ending line) = refl

over_alike : (before : ℕ) (call : Call) → over_at before (bare_call call) ≡ over_at before call
over_alike before call = ap (latest_of before) (bare_steps call)

state_alike : (k before : ℕ) (cs : List Call) (ms : List CallMeaning) →
    ends_of_state k before (map bare_call cs) ms ≡ ends_of_state k before cs ms
state_alike k before [] ms = refl
state_alike k before (call ∷ cs) [] = refl
state_alike k before (call ∷ cs) (m ∷ ms) =
    let own : List VEntry = if m.before.current == k then m.entries else [] in
    (λ i. map (λ (e : VEntry). end_alike before call i) own
    ++ ends_of_state k (over_alike before call i) (map bare_call cs) ms)
    ∙ ap (λ (es : List CallEnd). map (λ (e : VEntry). end_of before call) own ++ es)
    (state_alike k (over_at before call) cs ms)

ends_alike : (starts others : ℕ → ℕ) (c : ℕ) (callers : List (List Call)) (mss : List (List CallMeaning)) →
    ((d : ℕ) → c ≤ d → d < c + length callers → starts d ≡ others d) →
    all_ends starts c (map (map bare_call) callers) mss ≡ all_ends others c callers mss
ends_alike starts others c [] mss same = refl
ends_alike starts others c (cs ∷ callers) [] same = refl
ends_alike starts others c (cs ∷ callers) (ms ∷ mss) same =
    let one : state_ends (starts c) (map bare_call cs) ms ≡ state_ends (others c) cs ms =
    map_same (λ k. ends_of_state k (starts c) (map bare_call cs) ms) (λ k. ends_of_state k (starts c) cs ms)
    (range_with_len 0 16) (λ k. state_alike k (starts c) cs ms)
    ∙ ap (λ s. state_ends s cs ms) (same c (omega arith) (omega arith)) in
    let more = ends_alike starts others (suc c) callers mss (λ d low high. same d (omega arith) (omega arith)) in
    λ i. one i ∷ more i

starts_same : (callers : List (List Call)) (c : ℕ) → c < length callers →
    start_stamp (map (map bare_call) callers) c ≡ start_stamp callers c
starts_same callers c lt = ap (latest_of 0) (starts_alike callers c lt)

pub ends_bare : (script : Script) (t : List (List SeenLine)) (mss : List (List CallMeaning)) →
    listed_ends (script_calls script (map (map bare) t)) mss ≡ listed_ends (script_calls script t) mss
ends_bare script t mss =
    let callers : List (List Call) = script_calls script t in
    ap (λ (cs : List (List Call)). listed_ends cs mss) (bare_all script.callers t)
    ∙ ends_alike (start_stamp (map (map bare_call) callers)) (start_stamp callers) 0 callers mss
    (λ c low high. starts_same callers c (omega arith))

-- ---- the ends of lines are the same for bare lines

acts_alike : (i stamp : ℕ) (acts : List BoundAct) → act_ends i stamp (map bare_act acts) ≡ act_ends i stamp acts
acts_alike i stamp [] = refl
acts_alike i stamp (act ∷ acts) = ap (λ (es : List LineEnd). line_of_call i stamp act.line ∷ es) (acts_alike i stamp acts)

call_alike : (i stamp : ℕ) (call : Call) → call_ends i stamp (bare_call call) ≡ call_ends i stamp call
call_alike i stamp (alone event line) = refl
call_alike i stamp (vread_call n flags line acts) =
    ap (λ (es : List LineEnd). es ++ line_of_call i stamp line ∷ []) (acts_alike i stamp acts)
call_alike i stamp (unbound bound) = refl
call_alike i stamp (ending line) = refl

lines_alike : (n before : ℕ) (cs : List Call) → line_ends n before (map bare_call cs) ≡ line_ends n before cs
lines_alike n before [] = refl
lines_alike n before (call ∷ cs) =
    (λ i. call_ends n (over_alike before call i) (bare_call call)
    ++ line_ends (n + 1) (over_alike before call i) (map bare_call cs))
    ∙ (λ i. call_alike n (over_at before call) call i ++ lines_alike (n + 1) (over_at before call) cs i)

all_lines_alike : (starts others : ℕ → ℕ) (c : ℕ) (callers : List (List Call)) →
    ((d : ℕ) → c ≤ d → d < c + length callers → starts d ≡ others d) →
    all_line_ends starts c (map (map bare_call) callers) ≡ all_line_ends others c callers
all_lines_alike starts others c [] same = refl
all_lines_alike starts others c (cs ∷ callers) same =
    let one : line_ends 0 (starts c) (map bare_call cs) ≡ line_ends 0 (others c) cs =
    lines_alike 0 (starts c) cs ∙ ap (λ s. line_ends 0 s cs) (same c (omega arith) (omega arith)) in
    let more = all_lines_alike starts others (suc c) callers (λ d low high. same d (omega arith) (omega arith)) in
    λ i. one i ∷ more i

pub lines_bare : (script : Script) (t : List (List SeenLine)) →
    listed_lines (script_calls script (map (map bare) t)) ≡ listed_lines (script_calls script t)
lines_bare script t =
    let callers : List (List Call) = script_calls script t in
    ap listed_lines (bare_all script.callers t)
    ∙ all_lines_alike (start_stamp (map (map bare_call) callers)) (start_stamp callers) 0 callers
    (λ c low high. starts_same callers c (omega arith))
