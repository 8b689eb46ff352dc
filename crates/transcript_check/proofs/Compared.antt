-- Each line is compared with the answer and data that were made for the line's event. All lines agree exactly if the
-- clauses on answers and data hold.
use Rattle.std.proofs.Common.{◌≡◌, ℕ, zero, suc, ◌+◌, ◌≤◌, Some, List, [], ◌∷◌, length, refl, sym, subst, ap, ◌∙◌, arith}
use Rattle.std.specs.Prelude.{◌↔◌, IsTrue, slice_get}
use Rattle.std.specs.List.{AllByRecursion}
use Rattle.key_names.specs.declared.events.Event.{Event}
use Rattle.key_names.specs.Lanes.Book.{list_at}
use Rattle.key_names.specs.Transcripts.IsTranscript.{LinesFit, EachCaller, HasLines, AnswersConform, DataConform, script_calls, EachLine}
use Rattle.key_names.specs.Callers.Meaning.{CallMeaning}
use Rattle.key_names.specs.Transcripts.SeenLine.{SeenLine}
use Rattle.key_names.specs.Texts.ScriptGrammar.{Script}
use Rattle.std.proofs.lemmas.Option.{same_Some}
use Rattle.judge_log.specs.Said.{SaysIt}
use Rattle.serial_replay.specs.Agreement.{AllAgree}
use Rattle.serial_replay.specs.Remade.{said_of_caller}
use Rattle.serial_replay.proofs.Agreement.{AllAre, all_both}
use Rattle.transcript_check.specs.declared.compare.Same.{Same}
use Rattle.transcript_check.specs.Compared.{IsCompared}

-- ---- a caller's list has no line past its last one, and a caller that does not exist has no lines

pub none_after : {X : Type 0} (xs : List X) (n : ℕ) (x : X) → length xs ≤ n → slice_get xs n ≡ Some x → ⊥
none_after [] n x high is = cc
none_after (y ∷ xs) zero x high is = absurd (omega arith)
none_after (y ∷ xs) (suc n) x high is = none_after xs n x (omega arith) is

pub none_of_another : {X : Type 0} (t : List (List X)) (c n : ℕ) (x : X) → length t ≤ c →
    slice_get (list_at t c) n ≡ Some x → ⊥
none_of_another [] c n x high is = none_after [] n x (omega arith) is
none_of_another (xs ∷ t) zero n x high is = absurd (omega arith)
none_of_another (xs ∷ t) (suc c) n x high is = none_of_another t c n x (omega arith) is

-- ---- each line is in the list of its caller, at the number of its event

abbrev Placed : List (List SeenLine) → ℕ → SeenLine → Type 0
Placed t c line = slice_get (list_at t c) line.event ≡ Some line

first_placed : (n : ℕ) (all : List SeenLine) (line : SeenLine) → line.event ≡ n → slice_get all (n + 0) ≡ Some line →
    slice_get all line.event ≡ Some line
first_placed n all line at is = ap (slice_get all) (omega (arith, at)) ∙ is

lines_placed : (c n : ℕ) (es : List Event) (lines all : List SeenLine) → LinesFit c n es lines →
    ((k : ℕ) (line : SeenLine) → slice_get lines k ≡ Some line → slice_get all (n + k) ≡ Some line) →
    AllByRecursion (λ line. slice_get all line.event ≡ Some line) lines
lines_placed c n [] [] all fit among = tt
lines_placed c n [] (line ∷ []) all fit among = (first_placed n all line fit.event (among 0 line refl), tt)
lines_placed c n [] (line ∷ more ∷ lines) all fit among = absurd fit
lines_placed c n (e ∷ es) [] all fit among = tt
lines_placed c n (e ∷ es) (line ∷ lines) all fit among = (
  first_placed n all line fit.0.event (among 0 line refl),
  lines_placed c (suc n) es lines all fit.1 (λ k more is. ap (slice_get all) (omega arith) ∙ among (suc k) more is),
)

callers_placed : (t : List (List SeenLine)) (c : ℕ) (ess : List (List Event)) (rest : List (List SeenLine)) →
    EachCaller (λ c events lines. LinesFit c 0 events lines) c ess rest →
    ((d : ℕ) → list_at rest d ≡ list_at t (c + d)) → AllAre (Placed t) c rest
callers_placed t c [] [] fit among = tt
callers_placed t c [] (lines ∷ rest) fit among = absurd fit
callers_placed t c (es ∷ ess) [] fit among = tt
callers_placed t c (es ∷ ess) (lines ∷ rest) fit among = (
  subst (λ (all : List SeenLine). AllByRecursion (λ line. slice_get all line.event ≡ Some line) lines)
      (among 0 ∙ ap (list_at t) (omega arith)) (lines_placed c 0 es lines lines fit.0 (λ k line is. ap (slice_get lines) (omega arith) ∙ is)),
  callers_placed t (suc c) ess rest fit.1 (λ d. among (suc d) ∙ ap (list_at t) (omega arith)),
)

-- ---- the clause on answers holds exactly if each note records that the line's answer agrees; likewise for data

abbrev pub AnswerSame : SeenLine → Same → Type 0
AnswerSame line same = IsTrue same.answer

abbrev pub DataSame : SeenLine → Same → Type 0
DataSame line same = IsTrue same.shown

module _ (script : Script) (t : List (List SeenLine)) (mss : List (List CallMeaning)) (notes : List (List Same))
    (lines : HasLines script t)
    (says : EachCaller (λ c calls ms. EachLine (SaysIt (said_of_caller (IsCompared t) notes c)) calls ms) 0 (script_calls script t)
    mss) where
  placed : AllAre (Placed t) 0 t
  placed = callers_placed t 0 script.callers t lines (λ d. ap (list_at t) (omega arith))

  pub answers_same : AnswersConform script t mss ↔ AllAgree AnswerSame notes t
  answers_same = all_both (IsCompared t) AnswerSame (λ line m. line.answer ≡ m.answer) (Placed t)
      (λ c ns line m is s. (
        (λ e. s.is.noted.answer.1 (λ other found.
            ap (λ (l : SeenLine). l.answer) (same_Some other line (sym found ∙ is)) ∙ e ∙ s.answer)),
        (λ h. s.is.noted.answer.0 h line is ∙ sym s.answer),
      ))
      script t mss notes lines placed says

  pub data_same : DataConform script t mss ↔ AllAgree DataSame notes t
  data_same = all_both (IsCompared t) DataSame (λ line m. line.shown ≡ m.shown) (Placed t)
      (λ c ns line m is s. (
        (λ e. s.is.noted.shown.1 (λ other found.
            ap (λ (l : SeenLine). l.shown) (same_Some other line (sym found ∙ is)) ∙ e ∙ s.shown)),
        (λ h. s.is.noted.shown.0 h line is ∙ sym s.shown),
      ))
      script t mss notes lines placed says
