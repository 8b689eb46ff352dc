-- The clauses that the code names, as clauses of the definitions in `key_names`.
use Rattle.key_names.specs.Transcripts.IsTranscript as laws
use Rattle.judge_lines.specs.declared.clause.Clause.{Clause}
use Rattle.judge_lines.specs.declared.clause.Clause.TheVariants.{Lines, Marks, Forms, Answers, Data, Looks}

abbrev pub clause_of : Clause → laws.Clause
clause_of Lines = laws.lines_clause
clause_of Marks = laws.marks_clause
clause_of Forms = laws.forms_clause
clause_of Answers = laws.answers_clause
clause_of Data = laws.data_clause
clause_of Looks = laws.looks_clause
