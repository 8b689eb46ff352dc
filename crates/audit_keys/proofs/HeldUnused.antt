-- Each list of a book is a beginning of itself. So by `BeginningsHoldUnused` no held key, and no held rest of a batch,
-- was used.
use Rattle.std.proofs.Common.{[], sym}
use Rattle.std.proofs.lemmas.List.{append-nil}
use Rattle.key_names.specs.Lanes.Book.{Lists, lists_of, cpu_list, state_list, LawfulStates}
use Rattle.key_names.proofs.Transcripts.TranscriptLaws.{transcript_is_lawful}
use Rattle.audit_keys.specs.HeldUnused.{BooksHoldUnused, TranscriptsHoldUnused}
use Rattle.audit_keys.specs.Moments.{AreBeginnings}
use Rattle.audit_keys.proofs.Beginnings.{hold_unused, beginnings_hold_unused}

-- each list of `lists` is a beginning of itself
all_of : (lists : Lists) → LawfulStates lists → AreBeginnings lists lists
all_of lists states = record {
  base = ([], sym (append-nil lists.base));
  cpus = λ c. ([], sym (append-nil (cpu_list lists c)));
  states = λ caller state. ([], sym (append-nil (state_list lists caller state)));
  ends = λ caller state. (states.states caller state).ends;
}

pub books_hold_unused : BooksHoldUnused
books_hold_unused lists lawful = beginnings_hold_unused lists lists lawful (all_of lists lawful.states)

pub transcripts_hold_unused : TranscriptsHoldUnused
transcripts_hold_unused script t book ms is =
    let lawful = transcript_is_lawful script t book ms is in
    hold_unused (lists_of book) (lists_of book) lawful.lanes.forward lawful.states
    (all_of (lists_of book) lawful.states)
