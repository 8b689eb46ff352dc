-- Each clause of the code has a clause of the definitions. Two clauses of the code that have the same one are equal.
use Rattle.std.proofs.Common.{◌≡◌, refl, sym, ap, ◌∙◌}
use Rattle.key_names.specs.Transcripts.IsTranscript as laws
use Rattle.judge_lines.specs.Clauses.{clause_of}
use Rattle.judge_lines.specs.declared.clause.Clause.{Clause}
use Rattle.judge_lines.specs.declared.clause.Clause.TheVariants.{Lines, Marks, Forms, Answers, Data, Looks}

abbrev judged_as : laws.Clause → Clause
judged_as laws.lines_clause = Lines
judged_as laws.marks_clause = Marks
judged_as laws.forms_clause = Forms
judged_as laws.answers_clause = Answers
judged_as laws.data_clause = Data
judged_as laws.looks_clause = Looks

itself_again : (clause : Clause) → judged_as (clause_of clause) ≡ clause
itself_again Lines = refl
itself_again Marks = refl
itself_again Forms = refl
itself_again Answers = refl
itself_again Data = refl
itself_again Looks = refl

pub same_clause : (one other : Clause) → clause_of one ≡ clause_of other → one ≡ other
same_clause one other is = sym (itself_again one) ∙ ap judged_as is ∙ itself_again other
