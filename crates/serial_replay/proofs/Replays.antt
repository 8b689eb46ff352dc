-- The lines that a replay writes are a lawful transcript. No other lawful transcript has the same steps.
use Rattle.std.proofs.Common.{◌≡◌, ℕ, zero, suc, ◌<◌, Option, Some, None, List, [], ◌∷◌, length, map, refl, sym, subst, ap, ◌∙◌, arith}
use Rattle.std.specs.Prelude.{slice_get, IsTrue}
use Rattle.std.specs.List.{AllByRecursion}
use Rattle.key_names.specs.Lanes.Book.{list_at}
use Rattle.key_names.specs.Texts.ScriptGrammar.{Script}
use Rattle.key_names.specs.Transcripts.SeenLine.{SeenLine}
use Rattle.key_names.specs.Transcripts.SameSteps.{bare, SameSteps}
use Rattle.key_names.specs.Transcripts.IsTranscript.{MadeBook, AnswersConform, DataConform, IsTranscript}
use Rattle.key_names.specs.Transcripts.IsTranscript.{looks_clause}
use Rattle.key_names.proofs.Unique.UniqueBook.{book_is_unique}
use Rattle.judge_lines.specs.Clauses.{clause_of}
use Rattle.judge_lines.specs.declared.clause.Clause.{Clause}
use Rattle.judge_lines.specs.declared.clause.Clause.TheVariants.{Lines, Marks, Forms}
use Rattle.judge_log.specs.declared.said.MadeLine.{MadeLine}
use Rattle.judge_log.specs.Said.{shown_by, itself}
use Rattle.serial_replay.specs.declared.remake.Made.{Made}
use Rattle.serial_replay.specs.Agreement.{Agrees, SameAnswer, SameShown, AllAgree}
use Rattle.serial_replay.specs.Remade.{AllMade, FailsEarly, made_by}
use Rattle.serial_replay.specs.Replayed.{IsTheTranscript, StepsFail}
use Rattle.serial_replay.specs.Written.{said_of, lines_said, said_into, MayShow}
use Rattle.serial_replay.proofs.Agreement.{some_one, answers_both, data_both}
use Rattle.serial_replay.proofs.BareMade.{all_made}

-- a line written with another answer and other data has the same steps as the given line

bare_of : (line : SeenLine) (o : Option MadeLine) → bare line ≡ bare (said_of line o)
bare_of line None = refl
bare_of line (Some s) = refl

bare_lines : (said : List MadeLine) (lines : List SeenLine) → map bare lines ≡ map bare (lines_said said lines)
bare_lines said [] = refl
bare_lines said (line ∷ lines) = λ i. bare_of line (slice_get said line.event) i ∷ bare_lines said lines i

pub same_steps : (saids : List (List MadeLine)) (t : List (List SeenLine)) → SameSteps t (said_into saids t)
same_steps [] [] = refl
same_steps (said ∷ saids) [] = refl
same_steps [] (lines ∷ t) = ap (λ (u : List (List SeenLine)). map bare lines ∷ u) (same_steps [] t)
same_steps (said ∷ saids) (lines ∷ t) = λ i. bare_lines said lines i ∷ same_steps saids t i

-- the written lines agree with the answers and data in `said`

module _ (Same : SeenLine → MadeLine → Type 0) (fits : (line : SeenLine) (s : MadeLine) → Same (said_of line (Some s)) s) where
  of_same : (said : List MadeLine) (line : SeenLine) (o : Option MadeLine) → slice_get said line.event ≡ o →
      Agrees MayShow said line → Agrees Same said (said_of line o)
  of_same said line None is a = let e = a.is in cc
  of_same said line (Some s) is a = record { one = s; is = is; same = fits line s }

  lines_agree : (said : List MadeLine) (lines : List SeenLine) → AllByRecursion (Agrees MayShow said) lines →
      AllByRecursion (Agrees Same said) (lines_said said lines)
  lines_agree said [] all = tt
  lines_agree said (line ∷ lines) all =
      (of_same said line (slice_get said line.event) refl all.0, lines_agree said lines all.1)

  all_agree : (saids : List (List MadeLine)) (t : List (List SeenLine)) → length saids ≡ length t → AllAgree MayShow saids t →
      AllAgree Same saids (said_into saids t)
  all_agree saids [] long all c low = absurd (omega arith)
  all_agree [] (lines ∷ t) long all c low = absurd (omega arith)
  all_agree (said ∷ saids) (lines ∷ t) long all zero low = lines_agree said lines (all 0 (omega arith))
  all_agree (said ∷ saids) (lines ∷ t) long all (suc c) low =
      all_agree saids t (omega arith) (λ d lower. all (suc d) (omega arith)) c (omega arith)

-- if lines `u` and `v` have the same steps, and agree with the same answer and data, they are equal

same_line : (said : List MadeLine) (u v : SeenLine) → bare u ≡ bare v → Agrees SameAnswer said u → Agrees SameAnswer said v →
    Agrees SameShown said u → Agrees SameShown said v → u ≡ v
same_line said u v e a b x y =
    let event : u.event ≡ v.event = ap (λ (l : SeenLine). l.event) e in
    let one : a.one ≡ b.one = some_one (slice_get said v.event) a.one b.one (ap (slice_get said) (sym event) ∙ a.is) b.is in
    let two : x.one ≡ y.one = some_one (slice_get said v.event) x.one y.one (ap (slice_get said) (sym event) ∙ x.is) y.is in
    let answer : u.answer ≡ v.answer = a.same ∙ ap (λ (s : MadeLine). s.answer) one ∙ sym b.same in
    let shown : u.shown ≡ v.shown = x.same ∙ ap (λ (s : MadeLine). shown_by s.shows) two ∙ sym y.same in
    λ i. record {
      caller = (e i).caller;
      event = (e i).event;
      word = (e i).word;
      answer = answer i;
      steps = (e i).steps;
      shown = shown i;
    }

same_lines : (said : List MadeLine) (us vs : List SeenLine) → map bare us ≡ map bare vs →
    AllByRecursion (Agrees SameAnswer said) us → AllByRecursion (Agrees SameAnswer said) vs →
    AllByRecursion (Agrees SameShown said) us → AllByRecursion (Agrees SameShown said) vs → us ≡ vs
same_lines said [] [] e a b x y = refl
same_lines said [] (v ∷ vs) e a b x y = cc
same_lines said (u ∷ us) [] e a b x y = cc
same_lines said (u ∷ us) (v ∷ vs) e a b x y =
    let first : bare u ≡ bare v = cc in let rest : map bare us ≡ map bare vs = cc in
    λ i. same_line said u v first a.0 b.0 x.0 y.0 i ∷ same_lines said us vs rest a.1 b.1 x.1 y.1 i

same_callers : (saids : ℕ → List MadeLine) (us vs : List (List SeenLine)) → SameSteps us vs →
    ((c : ℕ) → c < length us → AllByRecursion (Agrees SameAnswer (saids c)) (list_at us c)) →
    ((c : ℕ) → c < length vs → AllByRecursion (Agrees SameAnswer (saids c)) (list_at vs c)) →
    ((c : ℕ) → c < length us → AllByRecursion (Agrees SameShown (saids c)) (list_at us c)) →
    ((c : ℕ) → c < length vs → AllByRecursion (Agrees SameShown (saids c)) (list_at vs c)) → us ≡ vs
same_callers saids [] [] e a b x y = refl
same_callers saids [] (v ∷ vs) e a b x y = cc
same_callers saids (u ∷ us) [] e a b x y = cc
same_callers saids (u ∷ us) (v ∷ vs) e a b x y =
    let first : map bare u ≡ map bare v = cc in let rest : SameSteps us vs = cc in
    let one : u ≡ v =
    same_lines (saids 0) u v first (a 0 (omega arith)) (b 0 (omega arith)) (x 0 (omega arith)) (y 0 (omega arith)) in
    let more : us ≡ vs = same_callers (λ c. saids (suc c)) us vs rest (λ c low. a (suc c) (omega arith))
    (λ c low. b (suc c) (omega arith)) (λ c low. x (suc c) (omega arith)) (λ c low. y (suc c) (omega arith)) in
    λ i. one i ∷ more i

-- the book that a lawful transcript's steps make
abbrev pub lawful_book : (script : Script) (t : List (List SeenLine)) → IsTranscript script t → MadeBook script t
lawful_book script t is = record {
  book = is.0;
  meanings = is.1;
  lines = is.2.lines;
  marks = is.2.marks;
  forms = is.2.forms;
}

module _ (script : Script) (t : List (List SeenLine)) (m : Made MadeLine) (of : AllMade itself script (map (map bare) t) m) where
  -- if the made answers and data `m` are right for a transcript, they are right for each transcript `v` with the same
  -- steps
  made_for : (v : List (List SeenLine)) → SameSteps t v → AllMade itself script v m
  made_for v same = all_made script v itself m (subst (λ (u : List (List SeenLine)). AllMade itself script u m) same of)

  -- if `v` is a lawful transcript with the same steps, all its lines agree with the made answers and data `m`
  module _ (v : List (List SeenLine)) (same : SameSteps t v) (is : IsTranscript script v) where
    a : AllMade itself script v m
    a = made_for v same

    one : is.1 ≡ a.made.meanings
    one = (book_is_unique script v (lawful_book script v is) a.made).1

    pub answers_agree : AllAgree SameAnswer (made_by m) v
    answers_agree = (answers_both script v a.made.meanings (made_by m) a.made.lines a.says).0
        (subst (AnswersConform script v) one is.2.answers)

    pub data_agree : AllAgree SameShown (made_by m) v
    data_agree = (data_both script v a.made.meanings (made_by m) a.made.lines a.says).0
        (subst (DataConform script v) one is.2.shown)

  pub is_the_transcript : length (made_by m) ≡ length t → AllAgree MayShow (made_by m) t → IsTrue m.looks_conform →
      IsTheTranscript script t (said_into (made_by m) t)
  is_the_transcript long kinds conform =
      let u : List (List SeenLine) = said_into (made_by m) t in
      let same : SameSteps t u = same_steps (made_by m) t in
      let a : AllMade itself script u m = made_for u same in
      let answers : AllAgree SameAnswer (made_by m) u = all_agree SameAnswer (λ line s. refl) (made_by m) t long kinds in
      let shown : AllAgree SameShown (made_by m) u = all_agree SameShown (λ line s. refl) (made_by m) t long kinds in record {
        same = same;
        lawful = (
          a.made.book,
          a.made.meanings,
          record {
            lines = a.made.lines;
            marks = a.made.marks;
            forms = a.made.forms;
            answers = (answers_both script u a.made.meanings (made_by m) a.made.lines a.says).1 answers;
            shown = (data_both script u a.made.meanings (made_by m) a.made.lines a.says).1 shown;
            looks = a.looks.0 conform;
          },
        );
        only = λ v alike is.
            same_callers (list_at (made_by m)) v u (sym alike ∙ same) (answers_agree v alike is) answers (data_agree v alike is)
            shown;
      }

-- if a clause before the answers (lines, marks or forms) is the first that fails, it stops the replay
pub early_stops : (script : Script) (t : List (List SeenLine)) (clause : Clause) → FailsEarly script t clause →
    StepsFail script t (clause_of clause)
early_stops script t Lines f = f.fails
early_stops script t Marks f = f.fails
early_stops script t Forms f = f.fails
early_stops script t clause f = absurd f.early

-- if some look is not lawful, the clause on looks stops the replay
pub looks_stop : (script : Script) (t : List (List SeenLine)) (m : Made MadeLine) → AllMade itself script t m →
    (IsTrue m.looks_conform → ⊥) → StepsFail script t looks_clause
looks_stop script t m a fall = (a.made, (λ conform. fall (a.looks.1 conform)))
