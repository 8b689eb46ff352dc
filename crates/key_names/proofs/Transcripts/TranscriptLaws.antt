-- The book of a lawful transcript is lawful, and so disjoint and erased.
use Rattle.std.proofs.Common.{◌≡◌, ℕ, ◌≤◌, List, sym, ap, ◌∙◌, arith, Some}
use Rattle.std.specs.Prelude.{map}
use Rattle.key_names.specs.declared.names.LaneId.{LaneId}
use Rattle.key_names.specs.declared.names.LaneId.TheVariants.{Cpu as CpuLane}
use Rattle.key_names.specs.Lanes.StateList.{rekey_at}
use Rattle.key_names.specs.Lanes.Book.{Book, lists_of, list_at, StatePlace, rekey_in}
use Rattle.key_names.specs.Transcripts.SeenLine.{SeenLine}
use Rattle.key_names.specs.Callers.Meaning.{CallMeaning}
use Rattle.key_names.specs.Texts.ScriptGrammar.{Script}
use Rattle.key_names.specs.Transcripts.IsTranscript.{MarksConform, IsTranscriptBy, state_lists, start_setting, script_calls}
use Rattle.key_names.specs.Transcripts.TranscriptBook.{TranscriptIsLawful}
use Rattle.key_names.proofs.Transcripts.TranscriptBooks.{states_lawful}
use Rattle.key_names.proofs.Transcripts.TakenMarks.{one_mark}
use Rattle.key_names.proofs.Transcripts.CallTakes.{all_takes, callers_within, all_calls_marks, all_marks_within}
use Rattle.key_names.proofs.Transcripts.TakenOnce.{one_entry}

-- all calls together have at most one mark for place `p` of `lane`
pub one_call_mark : (lane : LaneId) (p : ℕ) (script : Script) (t : List (List SeenLine)) → MarksConform script t →
    all_calls_marks lane p (script_calls script t) ≤ 1
one_call_mark lane p script t conform =
    omega (arith, all_marks_within lane p script.callers t, one_mark lane p t (conform.lanes lane))

one_taker : (script : Script) (t : List (List SeenLine)) (book : Book) (ms : List (List CallMeaning)) →
    IsTranscriptBy script t book ms →
    (a b : StatePlace) (read : ℕ × ℕ) → rekey_in (lists_of book) a ≡ Some read →
    rekey_in (lists_of book) b ≡ Some read → a ≡ b
one_taker script t book ms is a b read p q =
    let within : all_takes read.0 read.1 ms ≤ all_calls_marks (CpuLane read.0) read.1 (script_calls script t) =
    callers_within read.0 read.1 (lists_of book) (start_setting (script_calls script t))
    0 (script_calls script t) ms is.forms.callers in
    let one : all_calls_marks (CpuLane read.0) read.1 (script_calls script t) ≤ 1 =
    one_call_mark (CpuLane read.0) read.1 script t is.marks in
    let x : rekey_at (list_at (list_at (map state_lists ms) a.caller) a.state) a.place ≡ Some (read.0, read.1) =
    sym (ap (λ lists. rekey_at (list_at (list_at lists a.caller) a.state) a.place) is.forms.states) ∙ p in
    let y : rekey_at (list_at (list_at (map state_lists ms) b.caller) b.state) b.place ≡ Some (read.0, read.1) =
    sym (ap (λ lists. rekey_at (list_at (list_at lists b.caller) b.state) b.place) is.forms.states) ∙ q in
    let same = one_entry read.0 read.1 ms (omega arith) a.caller b.caller a.state b.state a.place b.place x y in
    λ i. record { caller = same.0 i; state = same.1 i; place = same.2 i }

pub transcript_is_lawful : TranscriptIsLawful
transcript_is_lawful script t book ms is = record {
  lanes = is.forms.lanes;
  states = record {
    states = states_lawful book (start_setting (script_calls script t)) (script_calls script t)
        ms is.forms.callers is.forms.states;
    one_taker = one_taker script t book ms is;
  };
}
