-- The result of judging a transcript: its kept book, or the first clause that it fails.
use Rattle.std.specs.Prelude.{List}
use Rattle.key_names.specs.Transcripts.IsTranscript.{FirstFails, script_calls}
use Rattle.key_names.specs.Transcripts.SeenLine.{SeenLine}
use Rattle.key_names.specs.Texts.ScriptGrammar.{Script}
use Rattle.judge_lines.specs.Clauses.{clause_of}
use Rattle.transcript_check.specs.Judged.{IsSound}
use Rattle.key_audit.specs.Kept.{KeepsBook}
use Rattle.key_audit.specs.declared.book.AuditedBook.{AuditedBook}
use Rattle.key_audit.specs.declared.book.AuditedBook.TheVariants.{Lawful, Unlawful}
use Rattle.key_audit.specs.declared.book.KeptBook.{KeptBook}

-- the transcript is lawful, and `kept` is its kept book
pub record KeepsLawful (script : Script) (t : List (List SeenLine)) (kept : KeptBook) : Type 0 where
  pub sound : IsSound script t
  pub keeps : KeepsBook kept t (script_calls script t) sound.book sound.meanings

abbrev pub IsAudited : Script → List (List SeenLine) → AuditedBook → Type 0
IsAudited script t (Lawful kept) = KeepsLawful script t kept
IsAudited script t (Unlawful clause) = FirstFails script t (clause_of clause)
