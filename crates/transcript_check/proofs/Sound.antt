-- The verdict of a check is right: it follows from the answers, data and lists that were made from the transcript's
-- steps.
use Rattle.std.proofs.Common.{◌≡◌, ℕ, ◌≤◌, List, [], ◌∷◌, max, refl, subst, ap, arith}
use Rattle.std.specs.Prelude.{◌↔◌, IsTrue}
use Rattle.key_names.specs.Lanes.BaseList.{base_after}
use Rattle.key_names.specs.Lanes.Book.{Book, lists_of}
use Rattle.key_names.specs.Callers.Effects.{Effect, looked, at_pool, at_base, at_cpu, nothing_there, effects_of}
use Rattle.key_names.specs.Callers.History.{LooksConform, caller_orders}
use Rattle.key_names.specs.Callers.CallerOrders.{LooksFrom}
use Rattle.key_names.specs.Transcripts.IsTranscript.{IsTranscript, IsTranscriptBy, FirstFails}
use Rattle.key_names.specs.Transcripts.IsTranscript.{answers_clause, data_clause, looks_clause}
use Rattle.key_names.specs.Transcripts.IsTranscript.{AnswersConform, DataConform, script_calls}
use Rattle.key_names.specs.Callers.Meaning.{CallMeaning}
use Rattle.key_names.specs.Texts.ScriptGrammar.{Script, WellFormed}
use Rattle.key_names.specs.Transcripts.SeenLine.{SeenLine}
use Rattle.key_names.specs.Callers.VreadSteps.{NeverFall, looks_of}
use Rattle.key_names.proofs.Lists.Each.{each_weaker}
use Rattle.key_names.proofs.Uses.BookUses.{lawful_is_disjoint}
use Rattle.key_names.proofs.History.CallerOrders.{looks_are_counted}
use Rattle.key_names.proofs.Values.PrintedNamed.{transcript_prints_named}
use Rattle.key_names.proofs.Transcripts.TranscriptLaws.{transcript_is_lawful}
use Rattle.key_names.proofs.Unique.UniqueBook.{first_fail_is_unique}
use Rattle.judge_lines.specs.Clauses.{clause_of}
use Rattle.judge_lines.specs.declared.clause.Clause.{Clause}
use Rattle.serial_replay.specs.declared.remake.Made.{Made}
use Rattle.serial_replay.specs.Agreement.{AllAgree}
use Rattle.serial_replay.specs.Remade.{AllMade, made_by}
use Rattle.serial_replay.proofs.Clauses.{same_clause}
use Rattle.transcript_check.specs.declared.check.Verdict.{Verdict}
use Rattle.transcript_check.specs.declared.check.Verdict.TheVariants.{Yes, No}
use Rattle.transcript_check.specs.declared.compare.Same.{Same}
use Rattle.transcript_check.specs.Compared.{IsCompared}
use Rattle.transcript_check.specs.Judged.{IsSound, IsJudged}
use Rattle.transcript_check.proofs.Compared.{AnswerSame, DataSame, answers_same, data_same}

-- if each look of a caller finds at least the generation that the caller has seen before it, the looks never fall

lower : (a b : ℕ) (xs : List ℕ) → a ≤ b → NeverFall (b ∷ xs) → NeverFall (a ∷ xs)
lower a b [] le h = tt
lower a b (x ∷ xs) le h = (let first : b ≤ x = h.0 in omega arith, h.1)

never_from : (reseeds seen : ℕ) (effects : List Effect) → LooksFrom reseeds seen effects → NeverFall (seen ∷ looks_of effects)
never_from reseeds seen [] h = tt
never_from reseeds seen (looked g ∷ effects) h =
    let le : seen ≤ g = h.0.0 in
    let same : max seen g ≡ g = omega arith in
    (le, subst (λ n. NeverFall (n ∷ looks_of effects)) same (never_from reseeds (max seen g) effects h.1))
never_from reseeds seen (at_pool v ∷ effects) h = never_from reseeds seen effects h.1
never_from reseeds seen (at_base v ∷ effects) h =
    lower seen (max seen v.after.generation) (looks_of effects) (omega arith)
    (never_from reseeds (max seen v.after.generation) effects h.1)
never_from reseeds seen (at_cpu v ∷ effects) h =
    lower seen (max seen v.after.generation) (looks_of effects) (omega arith)
    (never_from reseeds (max seen v.after.generation) effects h.1)
never_from reseeds seen (nothing_there ∷ effects) h = never_from reseeds seen effects h.1

after_first : (a : ℕ) (xs : List ℕ) → NeverFall (a ∷ xs) → NeverFall xs
after_first a [] h = tt
after_first a (x ∷ xs) h = h.1

looks_rise : (reseeds : ℕ) (effects : List Effect) → LooksConform reseeds [] effects → NeverFall (looks_of effects)
looks_rise reseeds effects h = after_first 0 (looks_of effects)
    (never_from reseeds 0 effects ((looks_are_counted reseeds [] effects).0 h))

module _ (script : Script) (t : List (List SeenLine)) (well : WellFormed script) where
  -- a lawful transcript has all that `IsSound` states: a disjoint book, bytes of named keys, and looks that never fall
  pub lawful_is_sound : (book : Book) (meanings : List (List CallMeaning)) → IsTranscriptBy script t book meanings →
      IsSound script t
  lawful_is_sound book meanings lawful = record {
    book = book;
    meanings = meanings;
    lawful = lawful;
    disjoint = lawful_is_disjoint (lists_of book) (transcript_is_lawful script t book meanings lawful);
    printed = transcript_prints_named script t book meanings well lawful;
    rising = each_weaker
        (λ order. LooksConform (base_after (lists_of book).base).generation [] (effects_of (lists_of book) order))
        (λ order. NeverFall (looks_of (effects_of (lists_of book) order)))
        (caller_orders (script_calls script t))
        (λ order h. looks_rise (base_after (lists_of book).base).generation (effects_of (lists_of book) order) h)
        lawful.looks;
  }

  module _ (m : Made Same) (a : AllMade (IsCompared t) script t m) where
    abbrev ComparedAnswer : Type 0
    ComparedAnswer = AllAgree AnswerSame (made_by m) t

    abbrev ComparedData : Type 0
    ComparedData = AllAgree DataSame (made_by m) t

    answers : AnswersConform script t a.made.meanings ↔ ComparedAnswer
    answers = answers_same script t a.made.meanings (made_by m) a.made.lines a.says

    shown : DataConform script t a.made.meanings ↔ ComparedData
    shown = data_same script t a.made.meanings (made_by m) a.made.lines a.says

    pub other_answers : (ComparedAnswer → ⊥) → FirstFails script t answers_clause
    other_answers differ = (a.made, (λ conform. differ (answers.0 conform)))

    pub other_data : ComparedAnswer → (ComparedData → ⊥) → FirstFails script t data_clause
    other_data same differ = (a.made, answers.1 same, (λ conform. differ (shown.0 conform)))

    pub other_looks : ComparedAnswer → ComparedData → (IsTrue m.looks_conform → ⊥) → FirstFails script t looks_clause
    other_looks same same' fall = (a.made, answers.1 same, shown.1 same', (λ conform. fall (a.looks.1 conform)))

    pub all_same : ComparedAnswer → ComparedData → IsTrue m.looks_conform → IsSound script t
    all_same same same' conform = lawful_is_sound a.made.book a.made.meanings (record {
      lines = a.made.lines;
      marks = a.made.marks;
      forms = a.made.forms;
      answers = answers.1 same;
      shown = shown.1 same';
      looks = a.looks.0 conform;
    })

-- ---- at most one verdict is right for a transcript

pub yes_of : (script : Script) (t : List (List SeenLine)) (v : Verdict) → IsJudged script t v → IsTranscript script t → v ≡ Yes
yes_of script t Yes j is = refl
yes_of script t (No clause) j is = absurd ((first_fail_is_unique script t (clause_of clause) j).1 is)

pub no_of : (script : Script) (t : List (List SeenLine)) (v : Verdict) (clause : Clause) → IsJudged script t v →
    FirstFails script t (clause_of clause) → v ≡ No clause
no_of script t Yes clause j f =
    absurd ((first_fail_is_unique script t (clause_of clause) f).1 (j.book, j.meanings, j.lawful))
no_of script t (No other) clause j f =
    ap No (same_clause other clause ((first_fail_is_unique script t (clause_of other) j).0 (clause_of clause) f))
