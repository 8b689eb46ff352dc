-- The end of a caller's call, and the line that shows it.
use Rattle.std.specs.Prelude.{ℕ}
use Rattle.key_names.specs.Callers.Calls.{Call, alone, vread_call, unbound, ending}
use Rattle.key_names.specs.Transcripts.SeenLine.{SeenLine}
use Rattle.audit_keys.specs.declared.entry.CallEnd.{CallEnd}
use Rattle.audit_keys.specs.Stamps.{over_at}

-- the line of a call; if the call is a vread with acts, this is the vread's own line
abbrev pub own_line : Call → SeenLine
own_line (alone event line) = line
own_line (vread_call n flags line acts) = line
own_line (unbound bound) = bound.line
own_line (ending line) = line

-- the end of a call; `before` is the stamp of the caller's last visit before the call
abbrev pub end_of : ℕ → Call → CallEnd
end_of before call = record {
  stamp = over_at before call;
  caller = (own_line call).caller;
  event = (own_line call).event;
}
