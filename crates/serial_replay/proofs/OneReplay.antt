-- A replay has one result: at most one clause can stop it. If some lawful transcript has the steps of `t`, no clause
-- stops the replay of `t`.
use Rattle.std.proofs.Common.{◌≡◌, ◌⊎◌, List, inl, inr, refl, sym, subst, ap, ◌∙◌}
use Rattle.key_names.specs.Texts.ScriptGrammar.{Script}
use Rattle.key_names.specs.Transcripts.SeenLine.{SeenLine}
use Rattle.key_names.specs.Transcripts.SameSteps.{SameSteps}
use Rattle.key_names.specs.Transcripts.IsTranscript.{IsTranscript, MadeBook, FirstFails, Clause}
use Rattle.key_names.specs.Transcripts.IsTranscript.{lines_clause, marks_clause, forms_clause, answers_clause, data_clause, looks_clause}
use Rattle.key_names.proofs.Unique.BareMeanings.{steps_make_the_book}
use Rattle.key_names.proofs.Unique.UniqueBook.{book_is_unique, first_fail_is_unique}
use Rattle.judge_lines.specs.Clauses.{clause_of}
use Rattle.judge_lines.specs.declared.clause.Clause as judged
use Rattle.serial_replay.specs.declared.replay.Replayed.{Replayed}
use Rattle.serial_replay.specs.declared.replay.Replayed.TheVariants.{Made, No}
use Rattle.serial_replay.specs.Replayed.{IsReplay, StepsFail}
use Rattle.serial_replay.proofs.BareMade.{same_looks}
use Rattle.serial_replay.proofs.Clauses.{same_clause}
use Rattle.serial_replay.proofs.Replays.{lawful_book}

module _ (script : Script) (t : List (List SeenLine)) where
  -- if the clause `c` stops a replay, `c` is the first that fails, or the steps make a book
  before_book : (c : Clause) → StepsFail script t c → FirstFails script t c ⊎ MadeBook script t
  before_book lines_clause f = inl f
  before_book marks_clause f = inl f
  before_book forms_clause f = inl f
  before_book answers_clause f = absurd f
  before_book data_clause f = absurd f
  before_book looks_clause f = inr f.0

  -- if the steps make a book and the clause `c` stops the replay, `c` is the clause on looks
  at_looks : (c : Clause) → MadeBook script t → StepsFail script t c → c ≡ looks_clause
  at_looks lines_clause made f = absurd (f made.lines)
  at_looks marks_clause made f = absurd (f.1 made.marks)
  at_looks forms_clause made f = absurd (f.2 made)
  at_looks answers_clause made f = absurd f
  at_looks data_clause made f = absurd f
  at_looks looks_clause made f = refl

  one_stops : (c d : Clause) → StepsFail script t c → StepsFail script t d → c ≡ d
  one_stops c d f g = elim (before_book c f) [
    | inr made ↦ at_looks c made f ∙ sym (at_looks d made g)
    | inl first ↦ elim (before_book d g) [
      | inr made ↦ at_looks c made f ∙ sym (at_looks d made g)
      | inl other ↦ (first_fail_is_unique script t c first).0 d other
    ]
  ]

  none_stops : (u : List (List SeenLine)) → SameSteps t u → IsTranscript script u → (c : Clause) → StepsFail script t c → ⊥
  none_stops u same is c f =
      fails.1 (subst (λ (X : Type 0). X) (sym (same_looks script t u same fails.0.book is.0 one)) is.2.looks)
    where
      made : (made : MadeBook script t) × (made.book ≡ is.0)
      made = let m = steps_make_the_book script u t (sym same) (lawful_book script u is) in (m.0, m.1)

      fails : StepsFail script t looks_clause
      fails = subst (StepsFail script t) (at_looks c made.0 f) f

      one : fails.0.book ≡ is.0
      one = (book_is_unique script t fails.0 made.0).0 ∙ made.1

pub made_of : (script : Script) (t : List (List SeenLine)) (r : Replayed) (u : List (List SeenLine)) → IsReplay script t r →
    SameSteps t u → IsTranscript script u → r ≡ Made u
made_of script t (Made v) u j same is = ap Made (sym (j.only u same is))
made_of script t (No clause) u j same is = absurd (none_stops script t u same is (clause_of clause) j)

pub no_of : (script : Script) (t : List (List SeenLine)) (r : Replayed) (clause : judged.Clause) → IsReplay script t r →
    StepsFail script t (clause_of clause) → r ≡ No clause
no_of script t (Made u) clause j f = absurd (none_stops script t u j.same j.lawful (clause_of clause) f)
no_of script t (No other) clause j f =
    ap No (same_clause other clause (one_stops script t (clause_of other) (clause_of clause) j f))
