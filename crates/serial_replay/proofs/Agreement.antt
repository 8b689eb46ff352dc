-- The clauses on answers and data hold exactly if each line agrees with the answer and data that were made from its
-- steps.
use Rattle.std.proofs.Common.{◌≡◌, ℕ, zero, suc, ◌+◌, ◌<◌, Option, Some, List, [], ◌∷◌, length, sym, subst, ap, ◌∙◌, arith}
use Rattle.std.specs.Prelude.{◌↔◌, ⊤, slice_get}
use Rattle.std.specs.List.{AllByRecursion}
use Rattle.key_names.specs.declared.events.Event.{Event}
use Rattle.key_names.specs.Lanes.Book.{list_at}
use Rattle.key_names.specs.Callers.Calls.{Call, alone, vread_call, unbound, ending, BoundAct, calls_of, all_calls}
use Rattle.key_names.specs.Callers.Meaning.{LineMeaning, CallMeaning}
use Rattle.key_names.specs.Texts.ScriptGrammar.{Script}
use Rattle.key_names.specs.Transcripts.SeenLine.{SeenLine}
use Rattle.key_names.specs.Transcripts.IsTranscript.{LinesFit, HasLines, EachCaller, EachAct, EachOfCall, EachLine, script_calls}
use Rattle.key_names.specs.Transcripts.IsTranscript.{AnswersConform, DataConform}
use Rattle.key_names.proofs.Unique.UniqueMeanings.{OfCall}
use Rattle.key_names.proofs.Unique.UniqueLines.{Covers, calls_cover}
use Rattle.judge_log.specs.declared.said.MadeLine.{MadeLine}
use Rattle.judge_log.specs.Said.{shown_by, NotedAt, SaysIt, itself}
use Rattle.serial_replay.specs.Agreement.{Agrees, AllAgree, SameAnswer, SameShown}
use Rattle.serial_replay.specs.Remade.{said_of_caller}

pub some_one : {X : Type 0} (o : Option X) (a b : X) → o ≡ Some a → o ≡ Some b → a ≡ b
some_one o a b p q = cc

-- each line of each caller has the property `Is` for the caller's number; the first caller has the number `c`
abbrev pub AllAre : (ℕ → SeenLine → Type 0) → ℕ → List (List SeenLine) → Type 0
AllAre Is c [] = ⊤
AllAre Is c (lines ∷ t) = AllByRecursion (Is c) lines × AllAre Is (suc c) t

-- `means_same`: a line with the property `Is` has the answer (or data) of its meaning exactly if the line agrees with
-- its note
module _ {Noted : Type 0} (IsNoted : ℕ → ℕ → MadeLine → Noted → Type 0) (Same : SeenLine → Noted → Type 0)
    (Means : SeenLine → LineMeaning → Type 0) (Is : ℕ → SeenLine → Type 0)
    (means_same : (c : ℕ) (notes : List Noted) (line : SeenLine) (m : LineMeaning) → Is c line →
    (s : SaysIt (NotedAt (IsNoted c) notes) line m) → Means line m ↔ Same line s.is.note)
  where
    module _ (c : ℕ) (notes : List Noted) where
      abbrev At : ℕ → MadeLine → Type 0
      At = NotedAt (IsNoted c) notes

      abbrev Agree : SeenLine → Type 0
      Agree line = Agrees Same notes line

      line_both : (line : SeenLine) (m : LineMeaning) → Is c line → SaysIt At line m → Means line m ↔ Agree line
      line_both line m is s = (
        (λ h. record { one = s.is.note; is = s.is.is; same = (means_same c notes line m is s).0 h }),
        (λ a. (means_same c notes line m is s).1
            (subst (Same line) (some_one (slice_get notes line.event) a.one s.is.note a.is s.is.is) a.same)),
      )

      acts_both : (acts : List BoundAct) (ms : List LineMeaning) → AllByRecursion (λ bound. Is c bound.line) acts →
          EachAct (SaysIt At) acts ms → EachAct Means acts ms ↔ AllByRecursion (λ bound. Agree bound.line) acts
      acts_both [] [] is s = ((λ h. tt), (λ h. tt))
      acts_both [] (m ∷ ms) is s = absurd s
      acts_both (bound ∷ acts) [] is s = absurd s
      acts_both (bound ∷ acts) (m ∷ ms) is s =
          let here : Means bound.line m ↔ Agree bound.line = line_both bound.line m is.0 s.0 in
          let rest : EachAct Means acts ms ↔ AllByRecursion (λ bound. Agree bound.line) acts = acts_both acts ms is.1 s.1 in
          ((λ h. (here.0 h.0, rest.0 h.1)), (λ h. (here.1 h.0, rest.1 h.1)))

      call_both : (call : Call) (m : CallMeaning) → OfCall (Is c) call → EachOfCall (SaysIt At) call m →
          EachOfCall Means call m ↔ OfCall Agree call
      call_both (alone event line) m is s = line_both line m.own is s
      call_both (vread_call n flags line acts) m is s =
          let here : Means line m.own ↔ Agree line = line_both line m.own is.0 s.0 in
          let rest : EachAct Means acts m.acts ↔ AllByRecursion (λ bound. Agree bound.line) acts = acts_both acts m.acts is.1 s.1 in
          ((λ h. (here.0 h.0, rest.0 h.1)), (λ h. (here.1 h.0, rest.1 h.1)))
      call_both (unbound bound) m is s = line_both bound.line m.own is s
      call_both (ending line) m is s = line_both line m.own is s

      calls_both : (calls : List Call) (ms : List CallMeaning) → AllByRecursion (OfCall (Is c)) calls →
          EachLine (SaysIt At) calls ms → EachLine Means calls ms ↔ AllByRecursion (OfCall Agree) calls
      calls_both [] [] is s = ((λ h. tt), (λ h. tt))
      calls_both [] (m ∷ ms) is s = absurd s
      calls_both (call ∷ calls) [] is s = absurd s
      calls_both (call ∷ calls) (m ∷ ms) is s =
          let here : EachOfCall Means call m ↔ OfCall Agree call = call_both call m is.0 s.0 in
          let rest : EachLine Means calls ms ↔ AllByRecursion (OfCall Agree) calls = calls_both calls ms is.1 s.1 in
          ((λ h. (here.0 h.0, rest.0 h.1)), (λ h. (here.1 h.0, rest.1 h.1)))

    module _ (notes : ℕ → List Noted) where
      abbrev Said_by : ℕ → List Call → List CallMeaning → Type 0
      Said_by c calls ms = EachLine (SaysIt (NotedAt (IsNoted c) (notes c))) calls ms

      abbrev Means_by : ℕ → List Call → List CallMeaning → Type 0
      Means_by c calls ms = EachLine Means calls ms

      abbrev From : ℕ → List (List SeenLine) → Type 0
      From c t = (d : ℕ) → d < length t → AllByRecursion (Agrees Same (notes (c + d))) (list_at t d)

      callers_both : (c : ℕ) (ess : List (List Event)) (t : List (List SeenLine)) (mss : List (List CallMeaning)) →
          EachCaller (λ c events lines. LinesFit c 0 events lines) c ess t → AllAre Is c t →
          EachCaller Said_by c (all_calls ess t) mss → EachCaller Means_by c (all_calls ess t) mss ↔ From c t
      callers_both c [] [] [] fit is says = ((λ h d low. absurd (omega arith)), (λ h. tt))
      callers_both c [] [] (ms ∷ mss) fit is says = absurd says
      callers_both c [] (lines ∷ t) mss fit is says = absurd fit
      callers_both c (es ∷ ess) [] mss fit is says = absurd fit
      callers_both c (es ∷ ess) (lines ∷ t) [] fit is says = absurd says
      callers_both c (es ∷ ess) (lines ∷ t) (ms ∷ mss) fit is says =
          let A : SeenLine → Type 0 = Agrees Same (notes c) in
          let cover : Covers A A [] lines (calls_of es lines) = calls_cover A A c es lines fit.0 in
          let are : AllByRecursion (OfCall (Is c)) (calls_of es lines) =
          (calls_cover (Is c) (Is c) c es lines fit.0).to_calls tt is.0 in
          let here : EachLine Means (calls_of es lines) ms ↔ AllByRecursion (OfCall A) (calls_of es lines) =
          calls_both c (notes c) (calls_of es lines) ms are says.0 in
          let rest : EachCaller Means_by (suc c) (all_calls ess t) mss ↔ From (suc c) t =
          callers_both (suc c) ess t mss fit.1 is.1 says.1 in (
            (λ h. first ((cover.to_lines (here.0 h.0)).1) (rest.0 h.1)),
            (λ h. (
              here.1 (cover.to_calls tt (subst (λ n. AllByRecursion (Agrees Same (notes n)) lines) (omega arith)
                  (h 0 (omega arith)))),
              rest.1 (λ d low. subst (λ n. AllByRecursion (Agrees Same (notes n)) (list_at t d)) (omega arith)
                  (h (suc d) (omega arith))),
            )),
          )
        where
          first : AllByRecursion (Agrees Same (notes c)) lines → From (suc c) t → From c (lines ∷ t)
          first here rest zero low =
              subst (λ n. AllByRecursion (Agrees Same (notes n)) lines) (omega arith) here
          first here rest (suc d) low =
              subst (λ n. AllByRecursion (Agrees Same (notes n)) (list_at t d)) (omega arith) (rest d (omega arith))

    -- `Means` holds of each line of the transcript `t` with its meaning exactly if each line agrees with its note in
    -- `notes`
    pub all_both : (script : Script) (t : List (List SeenLine)) (mss : List (List CallMeaning)) (notes : List (List Noted)) →
        HasLines script t → AllAre Is 0 t →
        EachCaller (λ c calls ms. EachLine (SaysIt (said_of_caller IsNoted notes c)) calls ms) 0 (script_calls script t) mss →
        EachCaller (λ c calls ms. EachLine Means calls ms) 0 (script_calls script t) mss ↔ AllAgree Same notes t
    all_both script t mss notes lines is says =
        let both = callers_both (list_at notes) 0 script.callers t mss lines is says in (
          (λ h d low. subst (λ n. AllByRecursion (Agrees Same (list_at notes n)) (list_at t d)) (omega arith) (both.0 h d low)),
          (λ h. both.1 (λ d low. subst (λ n. AllByRecursion (Agrees Same (list_at notes n)) (list_at t d)) (omega arith)
              (h d low))),
        )

-- ---- notes that hold a line's whole answer and data

abbrev pub Any : ℕ → SeenLine → Type 0
Any c line = ⊤

any_lines : (lines : List SeenLine) → AllByRecursion (λ line. ⊤) lines
any_lines [] = tt
any_lines (line ∷ lines) = (tt, any_lines lines)

pub all_any : (c : ℕ) (t : List (List SeenLine)) → AllAre Any c t
all_any c [] = tt
all_any c (lines ∷ t) = (any_lines lines, all_any (suc c) t)

module _ (script : Script) (t : List (List SeenLine)) (mss : List (List CallMeaning)) (saids : List (List MadeLine))
    (lines : HasLines script t)
    (says : EachCaller (λ c calls ms. EachLine (SaysIt (said_of_caller itself saids c)) calls ms) 0 (script_calls script t) mss) where
  pub answers_both : AnswersConform script t mss ↔ AllAgree SameAnswer saids t
  answers_both = all_both itself SameAnswer (λ line m. line.answer ≡ m.answer) Any
      (λ c said line m is s.
      let one : m.answer ≡ s.is.note.answer = s.answer ∙ ap (λ (x : MadeLine). x.answer) (sym s.is.noted) in
      ((λ e. e ∙ one), (λ e. e ∙ sym one)))
      script t mss saids lines (all_any 0 t) says

  pub data_both : DataConform script t mss ↔ AllAgree SameShown saids t
  data_both = all_both itself SameShown (λ line m. line.shown ≡ m.shown) Any
      (λ c said line m is s.
      let one : m.shown ≡ shown_by s.is.note.shows = s.shown ∙ ap (λ (x : MadeLine). shown_by x.shows) (sym s.is.noted) in
      ((λ e. e ∙ one), (λ e. e ∙ sym one)))
      script t mss saids lines (all_any 0 t) says
