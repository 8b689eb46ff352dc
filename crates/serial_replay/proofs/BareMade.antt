-- A bare line is a line without its answer and data. If lists, answers and data were made from bare lines, and are
-- right for these, they are also right for the full lines.
use Rattle.std.proofs.Common.{◌≡◌, ℕ, suc, List, [], ◌∷◌, map, sym, subst, ap, ◌∙◌}
use Rattle.std.specs.Prelude.{Result, Ok, Err, IfOk}
use Rattle.key_names.specs.Texts.TranscriptGrammar.{StepFits, LineFits}
use Rattle.std.specs.List.{AllByRecursion}
use Rattle.std.proofs.lemmas.List.{length-map}
use Rattle.key_names.specs.declared.names.Step.{Step}
use Rattle.key_names.specs.Lanes.BaseList.{base_after}
use Rattle.key_names.specs.Lanes.Book.{Book, lists_of}
use Rattle.key_names.specs.Callers.Calls.{Call, alone, vread_call, unbound, ending, BoundAct}
use Rattle.key_names.specs.Callers.Effects.{effects_of}
use Rattle.key_names.specs.Callers.History.{LooksConform, caller_orders}
use Rattle.key_names.specs.Callers.Meaning.{LineMeaning, CallMeaning}
use Rattle.key_names.specs.Texts.ScriptGrammar.{Script}
use Rattle.key_names.specs.Transcripts.SeenLine.{SeenLine}
use Rattle.key_names.specs.Transcripts.SameSteps.{bare, SameSteps}
use Rattle.key_names.specs.Transcripts.IsTranscript.{EachCaller, EachAct, EachOfCall, EachLine, script_calls, SeenConforms}
use Rattle.key_names.specs.Transcripts.IsTranscript.{FirstFails}
use Rattle.judge_lines.specs.Clauses.{clause_of}
use Rattle.judge_lines.specs.declared.clause.Clause.{Clause}
use Rattle.judge_lines.specs.declared.clause.Clause.TheVariants.{Lines, Marks, Forms}
use Rattle.key_names.proofs.Unique.BareLines.{bare_act, bare_call, bare_all}
use Rattle.key_names.proofs.Unique.BareMeanings.{steps_make_the_book}
use Rattle.judge_lines.proofs.BareConforms.{lines_both, marks_both, orders_both, same_bare}
use Rattle.judge_log.specs.declared.said.MadeLine.{MadeLine}
use Rattle.judge_log.specs.Said.{SaysIt}
use Rattle.serial_replay.specs.declared.remake.Made.{Made}
use Rattle.serial_replay.specs.declared.remake.Remade.{Remade}
use Rattle.serial_replay.specs.declared.remake.Remade.TheVariants.{Made as MadeAll, No}
use Rattle.serial_replay.specs.Remade.{said_of_caller, made_by, StepsFit, IsEarly, AllMade, IsRemade}

module _ (at : ℕ → MadeLine → Type 0) where
  line_says : (line : SeenLine) (m : LineMeaning) → SaysIt at (bare line) m → SaysIt at line m
  line_says line m s = record { one = s.one; is = s.is; answer = s.answer; shown = s.shown }

  acts_say : (acts : List BoundAct) (ms : List LineMeaning) → EachAct (SaysIt at) (map bare_act acts) ms →
      EachAct (SaysIt at) acts ms
  acts_say [] [] all = tt
  acts_say [] (m ∷ ms) all = absurd all
  acts_say (bound ∷ acts) [] all = absurd all
  acts_say (bound ∷ acts) (m ∷ ms) all = (line_says bound.line m all.0, acts_say acts ms all.1)

  call_says : (call : Call) (m : CallMeaning) → EachOfCall (SaysIt at) (bare_call call) m → EachOfCall (SaysIt at) call m
  call_says (alone event line) m s = line_says line m.own s
  call_says (vread_call n flags line acts) m s = (line_says line m.own s.0, acts_say acts m.acts s.1)
  call_says (unbound bound) m s = line_says bound.line m.own s
  call_says (ending line) m s = line_says line m.own s

  calls_say : (calls : List Call) (ms : List CallMeaning) → EachLine (SaysIt at) (map bare_call calls) ms →
      EachLine (SaysIt at) calls ms
  calls_say [] [] all = tt
  calls_say [] (m ∷ ms) all = absurd all
  calls_say (call ∷ calls) [] all = absurd all
  calls_say (call ∷ calls) (m ∷ ms) all = (call_says call m all.0, calls_say calls ms all.1)

callers_say : (saids : ℕ → ℕ → MadeLine → Type 0) (c : ℕ) (callers : List (List Call)) (mss : List (List CallMeaning)) →
    EachCaller (λ c calls ms. EachLine (SaysIt (saids c)) calls ms) c (map (map bare_call) callers) mss →
    EachCaller (λ c calls ms. EachLine (SaysIt (saids c)) calls ms) c callers mss
callers_say saids c [] [] all = tt
callers_say saids c [] (ms ∷ mss) all = absurd all
callers_say saids c (calls ∷ callers) [] all = absurd all
callers_say saids c (calls ∷ callers) (ms ∷ mss) all =
    (calls_say (saids c) calls ms all.0, callers_say saids (suc c) callers mss all.1)

-- let `t` and `u` have the same steps, and let the books `one` and `other` be equal. The looks of `t` are lawful in
-- `one` exactly if the looks of `u` are lawful in `other`
pub same_looks : (script : Script) (t u : List (List SeenLine)) → SameSteps t u → (one other : Book) → one ≡ other →
    SeenConforms script t (lists_of one) ≡ SeenConforms script u (lists_of other)
same_looks script t u same one other books =
    let P : List (List Step) → Book → Type 0 = λ orders book.
    AllByRecursion (λ order. LooksConform (base_after (lists_of book).base).generation [] (effects_of (lists_of book) order))
    orders in
    let orders : caller_orders (script_calls script t) ≡ caller_orders (script_calls script u) =
    sym (orders_both script t) ∙ ap (λ v. caller_orders (script_calls script v)) same ∙ orders_both script u in
    λ i. P (orders i) (books i)

module _ (script : Script) (t : List (List SeenLine)) where
  abbrev bares : List (List SeenLine)
  bares = map (map bare) t

  fails_both : (clause : Clause) → IsEarly clause → FirstFails script bares (clause_of clause) →
      FirstFails script t (clause_of clause)
  fails_both Lines early f = λ has. f ((lines_both script t).1 has)
  fails_both Marks early f = ((lines_both script t).0 f.0, (λ conform. f.1 ((marks_both script t).1 conform)))
  fails_both Forms early f = (
    (lines_both script t).0 f.0,
    (marks_both script t).0 f.1,
    (λ made. f.2 (steps_make_the_book script t bares (sym (same_bare t)) made).0),
  )
  fails_both clause early f = absurd early

  pub all_made : {Noted : Type 0} (IsNoted : ℕ → ℕ → MadeLine → Noted → Type 0) (m : Made Noted) →
      AllMade IsNoted script bares m → AllMade IsNoted script t m
  all_made IsNoted m a =
      let other = steps_make_the_book script bares t (same_bare t) a.made in
      let saids : ℕ → ℕ → MadeLine → Type 0 = said_of_caller IsNoted (made_by m) in
      let says : EachCaller (λ c calls ms. EachLine (SaysIt (saids c)) calls ms) 0 (script_calls script t) a.made.meanings =
      callers_say saids 0 (script_calls script t) a.made.meanings
      (subst (λ (calls : List (List Call)).
      EachCaller (λ c calls ms. EachLine (SaysIt (saids c)) calls ms) 0 calls a.made.meanings)
      (bare_all script.callers t) a.says) in
      let looks : SeenConforms script bares (lists_of a.made.book) ≡ SeenConforms script t (lists_of other.0.book) =
      same_looks script bares t (same_bare t) a.made.book other.0.book (sym other.1) in
      record {
        made = other.0;
        long = a.long ∙ length-map t (map bare);
        says = subst (λ mss. EachCaller (λ c calls ms. EachLine (SaysIt (saids c)) calls ms) 0 (script_calls script t) mss)
            (sym other.2) says;
        looks = (
          (λ h. subst (λ (X : Type 0). X) looks (a.looks.0 h)),
          (λ h. a.looks.1 (subst (λ (X : Type 0). X) (sym looks) h)),
        );
      }

  pub remade_of_bare : {Noted : Type 0} (IsNoted : ℕ → ℕ → MadeLine → Noted → Type 0) (r : Remade Noted) →
      IsRemade IsNoted script bares r → IsRemade IsNoted script t r
  remade_of_bare IsNoted (MadeAll m) a = all_made IsNoted m a
  remade_of_bare IsNoted (No clause) f = record { early = f.early; fails = fails_both clause f.early f.fails }

line_steps : (lines : List SeenLine) → AllByRecursion LineFits lines →
    AllByRecursion (λ (line : SeenLine). AllByRecursion StepFits line.steps) (map bare lines)
line_steps [] fit = tt
line_steps (line ∷ lines) fit = (fit.0.steps, line_steps lines fit.1)

pub steps_fit : (t : List (List SeenLine)) → AllByRecursion (AllByRecursion LineFits) t → StepsFit (map (map bare) t)
steps_fit [] fit = tt
steps_fit (lines ∷ t) fit = (line_steps lines fit.0, steps_fit t fit.1)

pub if_ok : {A E : Type 0} (P Q : A → Type 0) → ((a : A) → P a → Q a) → (r : Result A E) → IfOk r P → IfOk r Q
if_ok P Q f (Ok a) h = f a h
if_ok P Q f (Err e) h = tt
