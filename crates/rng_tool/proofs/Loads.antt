-- A transcript has at most one verdict (lawful, or the clause that fails first), and the line of a load states it.
use Rattle.std.proofs.Common.{ℕ, ◌≡◌, List, length, ap, subst, ◌∙◌}
use Rattle.std.specs.List.{sum_by}
use Rattle.key_names.specs.Transcripts.SeenLine.{SeenLine, bytes_shown}
use Rattle.key_names.specs.Texts.ScriptGrammar.{Script}
use Rattle.key_names.specs.Texts.TranscriptGrammar.{all_lines}
use Rattle.event_script.specs.LoadScript.{load_script}
use Rattle.transcript_check.specs.Judged.{IsJudged, IsSound}
use Rattle.transcript_check.specs.declared.check.Verdict.{Verdict}
use Rattle.transcript_check.specs.declared.check.Verdict.TheVariants.{Yes, No}
use Rattle.transcript_check.proofs.Sound.{no_of, yes_of}
use Rattle.rng_tool.specs.LoadOutcome.{LoadOf, load_line}

pub same_verdict : (script : Script) (t : List (List SeenLine)) (v w : Verdict) → IsJudged script t v →
    IsJudged script t w → v ≡ w
same_verdict script t v Yes j k = yes_of script t v j (k.book, k.meanings, k.lawful)
same_verdict script t v (No clause) j k = no_of script t v clause j k

pub load_of : (start callers events : ℕ) (script : Script) (t : List (List SeenLine)) (line : List ℕ) →
    script ≡ load_script start callers events → IsSound script t →
    line ≡ load_line callers (sum_by length script.callers) (length (bytes_shown (all_lines t))) Yes →
    LoadOf start callers events line
load_of start callers events script t line same sound emitted = record {
  lines = t;
  run = subst (λ (s : Script). IsSound s t) same sound;
  emitted = emitted
      ∙ ap (λ (s : Script). load_line callers (sum_by length s.callers) (length (bytes_shown (all_lines t))) Yes) same;
}
