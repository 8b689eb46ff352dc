-- If callers have a lawful meaning, the visits of each line have the entries that are inferred from the line's steps.
use Rattle.std.proofs.Common.{◌≡◌, inl, inr, List, [], ◌∷◌, sym, subst}
use Rattle.std.specs.List.{AllByRecursion}
use Rattle.key_names.specs.Lanes.Book.{Book, Lists, LawfulLanes, lists_of, list_at}
use Rattle.key_names.specs.Callers.Calls.{Setting, Call, alone, vread_call, unbound, ending, BoundAct, setting_after_call}
use Rattle.key_names.specs.Callers.Effects.{Effect, effects_of}
use Rattle.key_names.specs.Callers.LineSamples.{SamplesConform}
use Rattle.key_names.specs.Texts.ScriptGrammar.{Script}
use Rattle.key_names.specs.Transcripts.SeenLine.{SeenLine}
use Rattle.key_names.specs.Callers.Meaning.{CallMeaning}
use Rattle.key_names.specs.Transcripts.IsTranscript.{HasLines, script_calls, start_setting}
use Rattle.key_names.proofs.Unique.UniqueMeanings.{OfCall}
use Rattle.judge_lines.specs.LaneFacts.{LaneFacts, AllFit, facts_of}
use Rattle.judge_lines.specs.Inferred.{Telling, LineFills, act_telling, silent}
use Rattle.judge_lines.proofs.ActLines.{lists_fit, act_inferred}
use Rattle.judge_lines.proofs.InferredEvents.{form_inferred, end_inferred}
use Rattle.judge_log.specs.Filled.{ActFills, CallFills, CallsFill, AllCallsFill}
use Rattle.judge_log.specs.Gathered.{AllMean}
use Rattle.judge_log.proofs.Tables.CallForms.{ActDone, CallForm, CallsForm, all_forms}
use Rattle.judge_log.proofs.Tables.CallLines.{to_calls}

module _ (lists : Lists) (lawful : LawfulLanes lists) where
  abbrev c : LaneFacts
  c = facts_of lists

  abbrev effects : SeenLine → List Effect
  effects line = effects_of lists line.steps

  abbrev Conforms : SeenLine → Type 0
  Conforms line = SamplesConform c.fast (effects line)

  fits : (line : SeenLine) → AllFit c (effects line)
  fits line = lists_fit lists lawful.forward line.steps

  -- a line without effects has no visits, so each of its visits has the inferred entry
  none_fills : (set : Setting) (t : Telling) (line : SeenLine) → effects line ≡ [] → LineFills c set t (effects line)
  none_fills set t line none = let P : List Effect → Type 0 = λ ds. LineFills c set t ds in subst P (sym none) tt

  act_fills : (set : Setting) (bound : BoundAct) → ActDone lists set bound → ActFills lists set bound
  act_fills set bound (inl form) = act_inferred c set bound.act (effects bound.line) form (fits bound.line)
  act_fills set bound (inr none) = none_fills set (act_telling bound.act) bound.line none

  acts_fill : (set : Setting) (acts : List BoundAct) → AllByRecursion (ActDone lists set) acts →
      AllByRecursion (ActFills lists set) acts
  acts_fill set [] done = tt
  acts_fill set (bound ∷ acts) done = (act_fills set bound done.0, acts_fill set acts done.1)

  call_fills : (set : Setting) (call : Call) → OfCall Conforms call → CallForm lists set call → CallFills lists set call
  call_fills set (alone event line) conforms form = form_inferred c set event (effects line) form (fits line) conforms
  call_fills set (vread_call n flags line acts) conforms form = (form.0, acts_fill set acts form.1)
  call_fills set (unbound bound) conforms form = none_fills set silent bound.line form
  call_fills set (ending line) conforms form = end_inferred c set (effects line) form

  calls_fill : (set : Setting) (calls : List Call) → AllByRecursion (OfCall Conforms) calls →
      CallsForm lists set calls → CallsFill lists set calls
  calls_fill set [] conforms form = tt
  calls_fill set (call ∷ calls) conforms form =
      (call_fills set call conforms.0 form.0, calls_fill (setting_after_call set call) calls conforms.1 form.1)

-- if all callers have a lawful meaning and the samples of each line are lawful, each visit has the inferred entry
pub all_inferred : (script : Script) (t : List (List SeenLine)) (book : Book) (ms : List (List CallMeaning)) →
    HasLines script t → AllMean script t book ms → LawfulLanes (lists_of book) →
    AllByRecursion (AllByRecursion (λ line. SamplesConform (facts_of (lists_of book)).fast
    (effects_of (lists_of book) line.steps))) t →
    AllCallsFill (lists_of book) (script_calls script t)
all_inferred script t book ms lines means lawful conforms c lt =
    let lists = lists_of book in
    calls_fill lists lawful (start_setting (script_calls script t) c) (list_at (script_calls script t) c)
    (to_calls (λ line. SamplesConform (facts_of lists).fast (effects_of lists line.steps)) script.callers t lines conforms c)
    (all_forms script t book ms means lawful c lt)
