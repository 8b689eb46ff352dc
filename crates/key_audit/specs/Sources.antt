-- The keys and the extractions that a line's bytes come from.
use Rattle.std.specs.Prelude.{ℕ, ◌≡◌, ◌↔◌, Bool, true, false, not, ◌&&◌, Option, Some, None, List, [], ◌∷◌, ◌++◌, codes, map}
use Rattle.std.specs.Prelude.{filter, length, option_and_then, reverse, slice_get, take, IsTrue}
use Rattle.std.specs.Fmt.{decimal}
use Rattle.std.specs.List.{flat_map, list_any}
use Rattle.key_names.specs.declared.entries.PoolEntry.{PoolEntry}
use Rattle.key_names.specs.declared.entries.PoolEntry.TheVariants.{Mix, Input, Bits, Extract}
use Rattle.key_names.specs.declared.events.Event.{Event}
use Rattle.key_names.specs.declared.events.Event.TheVariants.{Bits as BitsEvent, Credit}
use Rattle.key_names.specs.declared.names.KeyName.{KeyName}
use Rattle.key_names.specs.declared.names.KeyName.TheVariants.{Root, Base, Cpu, Call, Vdso}
use Rattle.key_names.specs.declared.names.LaneId.TheVariants.{Pool as PoolLane}
use Rattle.key_names.specs.Lanes.Book.{Book, Visit, entries_of}
use Rattle.key_names.specs.Lanes.PoolList.{pool_after}
use Rattle.key_names.specs.Texts.ScriptGrammar.{Script}
use Rattle.audit_keys.specs.declared.used.Origin.TheVariants.{Lane}
use Rattle.audit_keys.specs.declared.moments.LineOf.{LineOf}
use Rattle.audit_keys.specs.contracts.moments.LineOfPartialEq.TheImpl.{ghosts as same_lines}
use Rattle.audit_keys.specs.declared.moments.Moments.{Moments}
use Rattle.audit_keys.specs.declared.rows.Fate.{Fate}
use Rattle.audit_keys.specs.declared.rows.Fate.TheVariants.{Became, Served, GivenUp, Held}
use Rattle.audit_keys.specs.declared.rows.KeyRow.{KeyRow}
use Rattle.key_audit.specs.declared.edges.Edge.{Edge}
use Rattle.key_audit.specs.Edges.{IsReached, edges_of, turned}
use Rattle.key_audit.specs.Texts.{entry_text, moment_at, name_text, rows_text}

-- ---- the keys that a line's bytes come from

-- whether bytes with this fate were served for `line`
abbrev pub is_served_for : Moments → LineOf → Fate → Bool
is_served_for moments line (Served by) = same_lines.eq (moment_at moments by).line line
is_served_for moments line (Became key) = false
is_served_for moments line (GivenUp by) = false
is_served_for moments line Held = false

abbrev pub serves : Moments → LineOf → KeyRow → Bool
serves moments line row = list_any (λ piece. is_served_for moments line piece.fate) row.pieces.items

-- for each row that has bytes served for `line`, the row's key
abbrev pub serving : Moments → LineOf → List KeyRow → List KeyName
serving moments line rows = map (λ row. row.key) (filter (serves moments line) rows)

-- the edges turned round: if bytes of one key's keystream became another key, an edge leads from the second key to the
-- first
abbrev pub edges_back : List KeyRow → List Edge
edges_back rows = map turned (reverse (edges_of rows))

-- ---- the extractions that made the roots

abbrev pub event_at : Script → ℕ → ℕ → Option Event
event_at script caller event = option_and_then (λ events. slice_get events event) (slice_get script.callers caller)

-- whether an event hands a sample to the pool; all events do so except those that ask for bits or credit bits
abbrev pub hands_sample : Option Event → Bool
hands_sample None = false
hands_sample (Some BitsEvent) = false
hands_sample (Some (Credit bits)) = false
hands_sample (Some _) = true

abbrev pub is_extraction : PoolEntry → Bool
is_extraction (Mix text bits) = false
is_extraction (Input word kind code value now) = false
is_extraction Bits = false
is_extraction (Extract hw base_place) = true

-- whether the visit `v` of the pool was made for a sample
abbrev pub is_sample : Script → Visit PoolEntry → Bool
is_sample script v = not (is_extraction v.entry) && hands_sample (event_at script v.who.caller v.who.event)

-- how many visits of the pool before `place` were made for a sample
abbrev pub samples_before : Script → Book → ℕ → ℕ
samples_before script book place = length (filter (is_sample script) (take place book.pool))

-- how many bits the pool had before the entry at `place`; 0 if the pool has no entry there
abbrev pub bits_at : List PoolEntry → ℕ → Option PoolEntry → ℕ
bits_at pool place None = 0
bits_at pool place (Some entry) = (pool_after (take place pool)).bits

abbrev pub bits_before : Book → ℕ → ℕ
bits_before book place = bits_at (entries_of book.pool) place (slice_get (entries_of book.pool) place)

abbrev pub root_text : Moments → ℕ → List ℕ
root_text moments place =
    codes "extraction " ++ name_text (Root place) ++ codes " " ++ entry_text moments (Lane PoolLane place)

abbrev pub counts_text : ℕ → ℕ → List ℕ
counts_text samples bits = codes " samples " ++ decimal samples ++ codes " bits " ++ decimal bits ++ 10 ∷ []

-- the output line of the extraction that made a root, with the counts of samples and bits before the extraction; empty
-- for a key of another kind
abbrev pub extraction_text : Moments → (ℕ → ℕ) → (ℕ → ℕ) → KeyName → List ℕ
extraction_text moments samples bits (Root place) =
    root_text moments place ++ counts_text (samples place) (bits place)
extraction_text moments samples bits (Base place) = []
extraction_text moments samples bits (Cpu c place) = []
extraction_text moments samples bits (Call lane place) = []
extraction_text moments samples bits (Vdso caller state n) = []

-- ---- the output of `line C.E`

-- the output has the rows of the keys that a line's bytes come from, from the key made last to the key made first. Then
-- it has the extraction of each root among these keys
pub record TellsSources (moments : Moments) (rows : List KeyRow) (line : LineOf) (samples bits : ℕ → ℕ)
    (output : List ℕ) : Type 0 where
  -- `is_source` is whether bytes of a key's keystream were served for the line, or became a key that is itself a source
  pub is_source : KeyName → Bool
  pub sources : (key : KeyName) → IsTrue (is_source key) ↔ IsReached (edges_back rows) (serving moments line rows) key
  pub text : output ≡ rows_text moments (filter (λ row. is_source row.key) (reverse rows))
      ++ flat_map (λ row. extraction_text moments samples bits row.key)
      (filter (λ row. is_source row.key) (reverse rows))
