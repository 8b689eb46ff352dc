-- If calls have lawful meanings, the steps of each call match a form of the call, and the visits of a vread have the
-- inferred entries.
use Rattle.std.proofs.Common.{◌≡◌, ℕ, zero, suc, ◌+◌, ◌<◌, ◌⊎◌, inl, inr, Bool, true, false, List, [], ◌∷◌, length, refl, sym, subst, ap, ◌∙◌, arith}
use Rattle.std.specs.Prelude.{MatchBool, ⊤}
use Rattle.std.specs.List.{AllByRecursion}
use Rattle.key_names.specs.declared.events.Event.{Event}
use Rattle.key_names.specs.Lanes.Book.{Book, Lists, LawfulLanes, lists_of, list_at}
use Rattle.key_names.specs.Callers.Calls.{Setting, Call, alone, vread_call, unbound, ending, BoundAct, setting_after, setting_after_call}
use Rattle.key_names.specs.Callers.Effects.{Effect, effects_of}
use Rattle.key_names.specs.Callers.Forms.{Form, EndForm, Looked}
use Rattle.key_names.specs.Kernel.BatchCopy.{serves_locally}
use Rattle.key_names.specs.Callers.VreadSteps.{published_by, is_reached, points_of}
use Rattle.key_names.specs.Texts.ScriptGrammar.{Script}
use Rattle.key_names.specs.Transcripts.SeenLine.{SeenLine}
use Rattle.key_names.specs.Callers.Meaning.{CallerState, caller_start, current_state, LineMeaning, CallMeaning}
use Rattle.key_names.specs.Callers.Meaning.{unused_line, ActMeans, ActsMean, Means, AloneMeans, VreadMeans}
use Rattle.key_names.specs.Callers.Meaning.{ByLocalCopy, ByVgetrandom, LocalOrCall, tries_local}
use Rattle.key_names.specs.Transcripts.IsTranscript.{EachAct, EachOfCall, EachLine, EachCaller, CallsMean, CallerMeans}
use Rattle.key_names.specs.Transcripts.IsTranscript.{script_calls, start_setting}
use Rattle.key_names.proofs.Transcripts.Settings.{setting_moves}
use Rattle.judge_lines.specs.LaneFacts.{AllFit, facts_of}
use Rattle.judge_lines.specs.Laws.{ActForm}
use Rattle.judge_lines.proofs.ActLines.{lists_fit, act_form}
use Rattle.judge_vread.proofs.VreadInferred.{vread_inferred}
use Rattle.judge_log.specs.Filled.{VreadFills}
use Rattle.judge_log.specs.Gathered.{AllMean}

module _ (lists : Lists) where
  abbrev effects : SeenLine → List Effect
  effects line = effects_of lists line.steps

  -- the act's steps match a form of the act, or the act is not done and has no steps
  abbrev pub ActDone : Setting → BoundAct → Type 0
  ActDone set bound = ActForm set bound.act (effects bound.line) ⊎ (effects bound.line ≡ [])

  abbrev pub CallForm : Setting → Call → Type 0
  CallForm set (alone event line) = Form set event (effects line)
  CallForm set (vread_call n flags line acts) = VreadFills lists set n (effects line) × AllByRecursion (ActDone set) acts
  CallForm set (unbound bound) = effects bound.line ≡ []
  CallForm set (ending line) = EndForm (effects line)

  abbrev pub CallsForm : Setting → List Call → Type 0
  CallsForm set [] = ⊤
  CallsForm set (call ∷ calls) = CallForm set call × CallsForm (setting_after_call set call) calls

  -- for each caller, the steps of each call match a form of the call
  abbrev pub AllCallsForm : List (List Call) → Type 0
  AllCallsForm callers = (c : ℕ) → c < length callers → CallsForm (start_setting callers c) (list_at callers c)

module _ (lists : Lists) (lawful : LawfulLanes lists) where
  abbrev After : SeenLine → LineMeaning → Type 0
  After line m = effects lists line ≡ m.effects

  fits : (line : SeenLine) → AllFit (facts_of lists) (effects lists line)
  fits line = lists_fit lists lawful.forward line.steps

  act_done : (set : Setting) (bound : BoundAct) (m : LineMeaning) (b : Bool) → After bound.line m →
      MatchBool b (ActMeans set bound.act m) (m ≡ unused_line) → ActDone lists set bound
  act_done set bound m true following means =
      let P : List Effect → Type 0 = λ ds. ActForm set bound.act ds in
      inl (subst P (sym following) (act_form set bound.act m means))
  act_done set bound m false following unused = inr (following ∙ ap (λ (x : LineMeaning). x.effects) unused)

  acts_done : (set : Setting) (reached : BoundAct → Bool) (acts : List BoundAct) (ms : List LineMeaning) →
      EachAct After acts ms → ActsMean set reached acts ms → AllByRecursion (ActDone lists set) acts
  acts_done set reached [] ms following means = tt
  acts_done set reached (bound ∷ acts) [] following means = absurd means
  acts_done set reached (bound ∷ acts) (m ∷ ms) following means = (
    act_done set bound m (reached bound) following.0 means.0,
    acts_done set reached acts ms following.1 means.1,
  )

  no_acts_done : (set : Setting) (acts : List BoundAct) (ms : List LineMeaning) → EachAct After acts ms → ms ≡ [] →
      AllByRecursion (ActDone lists set) acts
  no_acts_done set [] ms following none = tt
  no_acts_done set (bound ∷ acts) [] following none = absurd following
  no_acts_done set (bound ∷ acts) (m ∷ ms) following none = absurd (cc none)

  -- the steps of each act inside a vread match a form of the act, or there are none; the vread keeps the caller's
  -- setting
  record VreadLeft (acts : List BoundAct) (m : CallMeaning) : Type 0 where
    done : AllByRecursion (ActDone lists m.before.setting) acts
    setting : m.after.setting ≡ m.before.setting

  called : (n flags : ℕ) (acts : List BoundAct) (m : CallMeaning) → EachAct After acts m.acts →
      ByVgetrandom n flags acts m → VreadLeft acts m
  called n flags acts m following k = record {
    done = acts_done m.before.setting (is_reached (points_of k.steps)) acts m.acts following k.inside;
    setting = ap (λ (s : CallerState). s.setting) k.after;
  }

  copied : (n : ℕ) (rest : List Effect) (acts : List BoundAct) (m : CallMeaning) → EachAct After acts m.acts →
      ByLocalCopy n rest m → VreadLeft acts m
  copied n rest acts m following k = record {
    done = no_acts_done m.before.setting acts m.acts following k.no_acts;
    setting = ap (λ (s : CallerState). s.setting) k.after;
  }

  vread_left : (n flags : ℕ) (acts : List BoundAct) (m : CallMeaning) → EachAct After acts m.acts →
      VreadMeans n flags acts m → VreadLeft acts m
  vread_left n flags acts m following v = go (tries_local n flags acts) v.done_by
    where
      after_look : (rest : List Effect) (b : Bool) → MatchBool b (ByLocalCopy n rest m) (ByVgetrandom n flags acts m) →
          VreadLeft acts m
      after_look rest true k = copied n rest acts m following k
      after_look rest false k = called n flags acts m following k

      go : (b : Bool) → MatchBool b (Looked (LocalOrCall n flags acts m) m.own.effects) (ByVgetrandom n flags acts m) →
          VreadLeft acts m
      go true (g, rest, is, k) = after_look rest (serves_locally (published_by g) (current_state m.before) n) k
      go false k = called n flags acts m following k

  -- the steps of `call` match a form of the call, and the setting after it is the one that the definition gives
  record CallDone (set : Setting) (call : Call) (m : CallMeaning) : Type 0 where
    form : CallForm lists set call
    leaves : m.after.setting ≡ setting_after_call set call

  alone_done : (set : Setting) (event : Event) (line : SeenLine) (m : CallMeaning) → m.before.setting ≡ set →
      After line m.own → AloneMeans event m → CallDone set (alone event line) m
  alone_done set event line m is following a =
      let F : Setting → Type 0 = λ s. Form s event m.own.effects in
      let G : List Effect → Type 0 = λ ds. Form set event ds in
      record {
        form = subst G (sym following) (subst F is a.form);
        leaves = ap (λ (s : CallerState). s.setting) a.after ∙ setting_moves m.before event
            ∙ ap (λ s. setting_after s event) is;
      }

  vread_done : (set : Setting) (n flags : ℕ) (line : SeenLine) (acts : List BoundAct) (m : CallMeaning) →
      m.before.setting ≡ set → After line m.own → VreadMeans n flags acts m → VreadLeft acts m →
      CallDone set (vread_call n flags line acts) m
  vread_done set n flags line acts m is following v left =
      let P : List Effect → Type 0 = λ ds. AllFit (facts_of lists) ds in
      let Q : List Effect → Type 0 = λ ds. VreadFills lists m.before.setting n ds in
      let own : VreadFills lists m.before.setting n (effects lists line) =
      subst Q (sym following) (vread_inferred (facts_of lists) n flags acts m v (subst P following (fits line))) in
      let R : Setting → Type 0 =
      λ s. VreadFills lists s n (effects lists line) × AllByRecursion (ActDone lists s) acts in
      record { form = subst R is (own, left.done); leaves = left.setting ∙ is }

  call_done : (set : Setting) (call : Call) (m : CallMeaning) → m.before.setting ≡ set → EachOfCall After call m →
      Means call m → CallDone set call m
  call_done set (alone event line) m is following a = alone_done set event line m is following a
  call_done set (vread_call n flags line acts) m is following v =
      vread_done set n flags line acts m is following.0 v (vread_left n flags acts m following.1 v)
  call_done set (unbound bound) m is following u = record {
    form = following ∙ ap (λ (x : LineMeaning). x.effects) u.own;
    leaves = ap (λ (s : CallerState). s.setting) u.after ∙ is;
  }
  call_done set (ending line) m is following e = record {
    form = (let P : List Effect → Type 0 = λ ds. EndForm ds in subst P (sym following) e.form);
    leaves = ap (λ (s : CallerState). s.setting) e.after ∙ is;
  }

  calls_form : (s : CallerState) (set : Setting) (calls : List Call) (ms : List CallMeaning) → s.setting ≡ set →
      EachLine After calls ms → CallsMean s calls ms → CallsForm lists set calls
  calls_form s set [] ms is following means = tt
  calls_form s set (call ∷ calls) [] is following means = absurd means
  calls_form s set (call ∷ calls) (m ∷ ms) is following (before, means, rest) =
      let from : m.before.setting ≡ set = ap (λ (x : CallerState). x.setting) before ∙ is in
      let done : CallDone set call m = call_done set call m from following.0 means in
      (done.form, calls_form m.after (setting_after_call set call) calls ms done.leaves following.1 rest)

  pub caller_form : (set : Setting) (calls : List Call) (ms : List CallMeaning) → CallerMeans lists set calls ms →
      CallsForm lists set calls
  caller_form set calls ms means = calls_form (caller_start set) set calls ms refl means.effects means.follows

-- if P holds of each caller, with the caller's elements of `xs` and `ys`, then P holds of caller `n`, with its element
-- of `xs` and some `y`
each_caller_at : {A B : Type 0} (P : ℕ → List A → B → Type 0) (c : ℕ) (xs : List (List A)) (ys : List B) →
    EachCaller P c xs ys → (i n : ℕ) → i < length xs → c + i ≡ n → (y : B) × P n (list_at xs i) y
each_caller_at P c [] ys each i n lt at = absurd (omega arith)
each_caller_at P c (x ∷ xs) [] each i n lt at = absurd each
each_caller_at P c (x ∷ xs) (y ∷ ys) each zero n lt at =
    let is : c ≡ n = omega arith in let Q : ℕ → Type 0 = λ k. P k x y in (y, subst Q is each.0)
each_caller_at P c (x ∷ xs) (y ∷ ys) each (suc i) n lt at =
    each_caller_at P (suc c) xs ys each.1 i n (omega arith) (omega arith)

pub all_forms : (script : Script) (t : List (List SeenLine)) (book : Book) (ms : List (List CallMeaning)) →
    AllMean script t book ms → LawfulLanes (lists_of book) → AllCallsForm (lists_of book) (script_calls script t)
all_forms script t book ms means lawful c lt =
    let here = each_caller_at
    (λ c calls ms. CallerMeans (lists_of book) (start_setting (script_calls script t) c) calls ms) 0
    (script_calls script t) ms means c c lt (omega arith) in
    caller_form (lists_of book) lawful (start_setting (script_calls script t) c) (list_at (script_calls script t) c)
    here.0 here.1
