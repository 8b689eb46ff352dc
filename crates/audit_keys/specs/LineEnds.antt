-- The call of each line of a caller, and the stamp when that call was over.
use Rattle.std.specs.Prelude.{ℕ, suc, ◌+◌, ◌≡◌, List, [], ◌∷◌, ◌++◌, map}
use Rattle.std.specs.Global.{Vec}
use Rattle.key_names.specs.Callers.Calls.{BoundAct, Call, alone, vread_call, unbound, ending}
use Rattle.key_names.specs.Transcripts.SeenLine.{SeenLine}
use Rattle.audit_keys.specs.declared.line_ends.LineEnd.{LineEnd}
use Rattle.audit_keys.specs.Stamps.{over_at, start_stamp}

-- the end of a line: its call has the number `call`, and was over at `stamp`
abbrev pub line_of_call : ℕ → ℕ → SeenLine → LineEnd
line_of_call call stamp line = record { event = line.event; call = call; stamp = stamp }

abbrev pub act_ends : ℕ → ℕ → List BoundAct → List LineEnd
act_ends call stamp acts = map (λ bound. line_of_call call stamp bound.line) acts

-- the ends of all lines of a call; the lines of the acts inside a vread are lines of the vread's call
abbrev pub call_ends : ℕ → ℕ → Call → List LineEnd
call_ends i stamp (alone event line) = line_of_call i stamp line ∷ []
call_ends i stamp (vread_call n flags line acts) = act_ends i stamp acts ++ line_of_call i stamp line ∷ []
call_ends i stamp (unbound bound) = line_of_call i stamp bound.line ∷ []
call_ends i stamp (ending line) = line_of_call i stamp line ∷ []

-- the ends of the lines of several calls; `i` is the number of the first call, and `before` is the stamp of the last
-- visit before these calls
abbrev pub line_ends : ℕ → ℕ → List Call → List LineEnd
line_ends i before [] = []
line_ends i before (call ∷ calls) =
    call_ends i (over_at before call) call ++ line_ends (i + 1) (over_at before call) calls

-- the ends of the lines of all callers; `starts` gives the stamp of the last visit before a caller's calls, and `c` is
-- the number of the first caller
abbrev pub all_line_ends : (ℕ → ℕ) → ℕ → List (List Call) → List (List LineEnd)
all_line_ends starts c [] = []
all_line_ends starts c (calls ∷ callers) = line_ends 0 (starts c) calls ∷ all_line_ends starts (suc c) callers

abbrev pub lines_in : List (Vec LineEnd) → List (List LineEnd)
lines_in lines = map (λ list. list.items) lines

-- the lines of each caller, each with its call and the stamp when that call was over
abbrev pub listed_lines : List (List Call) → List (List LineEnd)
listed_lines callers = all_line_ends (start_stamp callers) 0 callers

abbrev pub AreLineEnds : List (List Call) → List (Vec LineEnd) → Type 0
AreLineEnds callers lines = lines_in lines ≡ listed_lines callers
