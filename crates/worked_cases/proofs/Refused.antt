-- If a clause is the first that fails for a script's text and a transcript's text, then the transcript is not lawful
-- for the script.
use Rattle.std.proofs.Common.{◌≡◌, List, Result, Ok, subst}
use Rattle.key_names.specs.Transcripts.SeenLine.{SeenLine}
use Rattle.key_names.specs.Texts.ScriptGrammar.{Script}
use Rattle.key_names.specs.declared.faults.ScriptFault.{ScriptFault}
use Rattle.key_names.specs.Transcripts.IsTranscript.{IsTranscript}
use Rattle.key_names.specs.Texts.ScriptFaults.{script_of}
use Rattle.key_names.proofs.Script.ScriptTexts.{script_again}
use Rattle.key_names.proofs.Unique.UniqueBook.{first_fail_is_unique}
use Rattle.transcript_text.proofs.FirstFaults.{one_transcript}
use Rattle.worked_cases.specs.Refusal.{FailsIsRefused}

same_ok : (a b : Script) (r : Result Script ScriptFault) → r ≡ Ok a → r ≡ Ok b → a ≡ b
same_ok a b r p q = cc

pub fails_is_refused : FailsIsRefused
fails_is_refused clause input output f l =
    let script : l.script ≡ f.script =
    same_ok l.script f.script (script_of input) (script_again input l.script l.script_is)
    (script_again input f.script f.script_is) in
    let lines : l.lines ≡ f.lines = one_transcript output l.lines f.lines l.lines_are f.lines_are in
    let lawful : IsTranscript f.script l.lines = subst (λ (s : Script). IsTranscript s l.lines) script l.lawful in
    (first_fail_is_unique f.script f.lines clause f.fails).1
    (subst (λ (t : List (List SeenLine)). IsTranscript f.script t) lines lawful)
