-- The bytes that a transcript prints: each line shows the bytes of named spans of keystream, and no two lines show the
-- same byte of a key.
use Rattle.std.specs.Prelude.{ℕ, ◌+◌, ◌≡◌, ◌≤◌, ⊤, suc, List, [], ◌∷◌, ◌++◌, length, take, map, slice_get}
use Rattle.std.specs.List.{flat_map, range_with_len}
use Rattle.key_names.specs.declared.names.LaneId.{LaneId}
use Rattle.key_names.specs.declared.names.Step.{Step}
use Rattle.key_names.specs.declared.names.Step.TheVariants.{Look, Visit as Marked}
use Rattle.key_names.specs.Lanes.Book.{Book, Lists, lists_of, state_list}
use Rattle.key_names.specs.Callers.Calls.{Call, alone, vread_call, unbound, ending, BoundAct}
use Rattle.key_names.specs.Transcripts.SeenLine.{SeenLine, bytes_in}
use Rattle.key_names.specs.Texts.ScriptGrammar.{Script, WellFormed}
use Rattle.key_names.specs.Keys.ServedNamed.{served_in, uses_or, place_uses}
use Rattle.key_names.specs.Lanes.StateList.{state_after}
use Rattle.key_names.specs.Keys.Uses.{Use, Disjoint, state_uses_at}
use Rattle.key_names.specs.Callers.Meaning.{CallMeaning}
use Rattle.key_names.specs.Transcripts.IsTranscript.{IsTranscriptBy, entries_of_state, script_calls}

-- an entry that serves bytes, given by its place in a lane or in the list of a caller's vgetrandom state
pub data Origin : Type 0 where
  at_lane : LaneId → ℕ → Origin
  at_state : ℕ → ℕ → ℕ → Origin

-- the uses of keys' bytes by the entry that an origin gives
abbrev pub origin_uses : Lists → Origin → List Use
origin_uses lists (at_lane lane place) = place_uses lists lane place
origin_uses lists (at_state caller state place) =
    let es = state_list lists caller state in
    uses_or (state_uses_at (state_after caller state (take place es))) (slice_get es place)

-- the uses of keys' bytes by several entries, one after another
abbrev pub origins_uses : Lists → List Origin → List Use
origins_uses lists origins = flat_map (origin_uses lists) origins

-- the entry of the last step, if this step is a visit
abbrev pub last_origin : List Step → List Origin
last_origin [] = []
last_origin (Look g ∷ []) = []
last_origin (Marked mark ∷ []) = at_lane mark.lane mark.place ∷ []
last_origin (step ∷ next ∷ steps) = last_origin (next ∷ steps)

-- consecutive entries of a vgetrandom state's list: `count` entries from place `from` on
pub record StateEntries : Type 0 where
  pub caller : ℕ
  pub state : ℕ
  pub from : ℕ
  pub count : ℕ

abbrev pub state_origins : StateEntries → List Origin
state_origins es = map (at_state es.caller es.state) (range_with_len es.from es.count)

-- the entries of a caller's call, given the meanings of its earlier calls
abbrev pub entries_of_call : ℕ → List CallMeaning → CallMeaning → StateEntries
entries_of_call caller before m = record {
  caller = caller;
  state = m.before.current;
  from = length (entries_of_state m.before.current before);
  count = length m.entries;
}

abbrev pub no_entries : StateEntries → StateEntries
no_entries es = record es { count = 0 }

-- the entries whose bytes a line prints: no entry, the entry of the line's last step if this step is a visit, or some
-- of `own`. The line's call appended the entries `own` to a state's list
pub data PrintsBy (own : StateEntries) (steps : List Step) (origins : List Origin) : Type 0 where
  by_none : origins ≡ [] → PrintsBy own steps origins
  by_visit : origins ≡ last_origin steps → PrintsBy own steps origins
  by_entries : (from count : ℕ) → own.from ≤ from → from + count ≤ own.from + own.count →
      origins ≡ state_origins (record own { from = from; count = count }) → PrintsBy own steps origins

-- the line shows the bytes of the spans that these entries serve. The bytes of a span follow from the value of the
-- span's key
pub record LinePrints (lists : Lists) (own : StateEntries) (line : SeenLine) (origins : List Origin) : Type 0 where
  pub by : PrintsBy own line.steps origins
  pub shown : bytes_in line.shown ≡ served_in lists (origins_uses lists origins)

-- the lines of a call: its own line first, and then those of the acts inside it
abbrev pub call_lines : Call → List SeenLine
call_lines (alone event line) = line ∷ []
call_lines (vread_call len flags line acts) = line ∷ map (λ (bound : BoundAct). bound.line) acts
call_lines (unbound bound) = bound.line ∷ []
call_lines (ending line) = line ∷ []

-- LinePrints holds for each line of a call. Only the first line, the call's own, may print bytes of the call's entries
abbrev pub LinesPrint : Lists → StateEntries → List SeenLine → List (List Origin) → Type 0
LinesPrint lists own [] [] = ⊤
LinesPrint lists own (line ∷ lines) (os ∷ oss) = LinePrints lists own line os × LinesPrint lists (no_entries own) lines oss
LinesPrint lists own _ _ = ⊥

-- LinesPrint holds for each call of a caller, after calls with the meanings `before`
abbrev pub CallsPrint : Lists → ℕ → List CallMeaning → List Call → List CallMeaning → List (List (List Origin)) → Type 0
CallsPrint lists caller before [] [] [] = ⊤
CallsPrint lists caller before (call ∷ calls) (m ∷ ms) (os ∷ oss) =
    LinesPrint lists (entries_of_call caller before m) (call_lines call) os
    × CallsPrint lists caller (before ++ m ∷ []) calls ms oss
CallsPrint lists caller before _ _ _ = ⊥

-- CallsPrint holds for each caller; c is the number of the first caller
abbrev pub CallersPrint : Lists → ℕ → List (List Call) → List (List CallMeaning) → List (List (List (List Origin))) →
    Type 0
CallersPrint lists c [] [] [] = ⊤
CallersPrint lists c (calls ∷ callers) (ms ∷ mss) (os ∷ oss) =
    CallsPrint lists c [] calls ms os × CallersPrint lists (suc c) callers mss oss
CallersPrint lists c _ _ _ = ⊥

-- the entries whose bytes are printed, for all lines of all callers
abbrev pub all_origins : List (List (List (List Origin))) → List Origin
all_origins oss = flat_map (flat_map (flat_map (λ os. os))) oss

-- each line shows the bytes of the spans that its own entries serve, and no two of these entries use the same byte of a
-- key. So no byte of a key is shown twice
pub record PrintsNamed (script : Script) (t : List (List SeenLine)) (book : Book) (ms : List (List CallMeaning)) :
    Type 0 where
  -- the entries for each line of each call of each caller
  pub origins : List (List (List (List Origin)))
  pub lines : CallersPrint (lists_of book) 0 (script_calls script t) ms origins
  pub apart : Disjoint (origins_uses (lists_of book) (all_origins origins))

-- a lawful transcript of a well-formed script prints the bytes of named spans, and none of these bytes twice
abbrev pub TranscriptPrintsNamed : Type 0
TranscriptPrintsNamed = (script : Script) (t : List (List SeenLine)) (book : Book) (ms : List (List CallMeaning)) →
    WellFormed script → IsTranscriptBy script t book ms → PrintsNamed script t book ms
