-- The keys, and the unserved rests of batches, that are in memory after a stamp or after a line.
use Rattle.std.specs.Prelude.{ℕ, ◌≡◌, Bool, true, false, Option, Some, None, List, [], ◌∷◌, ◌++◌, codes, filter, length, map}
use Rattle.std.specs.Prelude.{option_map, slice_get, if◌then◌else◌, ◌==◌}
use Rattle.std.specs.List.{flat_map}
use Rattle.key_names.specs.declared.names.KeyName.{KeyName}
use Rattle.key_names.specs.Lanes.Book.{Book, Lists, list_at, lists_of}
use Rattle.key_names.specs.Callers.Calls.{Call}
use Rattle.key_names.specs.Keys.LiveMaterial.{base_key, cpu_batch, cpu_key, live_key, live_rest, state_batch, state_key}
use Rattle.key_names.specs.Callers.Meaning.{CallMeaning}
use Rattle.audit_keys.specs.Moments.{book_at}
use Rattle.audit_keys.specs.declared.entry.Cut.{Cut}
use Rattle.audit_keys.specs.declared.entry.Cut.TheVariants.{Stamp as ByStamp, Call as ByCall}
use Rattle.audit_keys.specs.declared.line_ends.LineEnd.{LineEnd}
use Rattle.audit_keys.specs.StateCut.{calls_by}
use Rattle.audit_keys.specs.Stamps.{start_stamp}
use Rattle.audit_keys.specs.declared.held.BatchHolder.{BatchHolder}
use Rattle.audit_keys.specs.declared.held.BatchHolder.TheVariants.{Cpu as CpuBatch, State as StateBatch}
use Rattle.audit_keys.specs.declared.held.HeldMaterial.{HeldMaterial}
use Rattle.audit_keys.specs.declared.held.HeldKey.{HeldKey}
use Rattle.audit_keys.specs.declared.held.HeldRest.{HeldRest}
use Rattle.audit_keys.specs.declared.held.KeyHolder.TheVariants.{Base, Cpu, State}
use Rattle.audit_keys.specs.declared.lives.Holder.TheVariants.{Cpu as InCpu, State as InState}
use Rattle.audit_keys.specs.declared.moments.LineOf.{LineOf}
use Rattle.audit_keys.specs.declared.moments.Moments.{Moments}
use Rattle.audit_keys.specs.declared.rows.Fate.{Fate}
use Rattle.audit_keys.specs.declared.rows.Fate.TheVariants.{Became, Served, GivenUp, Held as HeldFate}
use Rattle.audit_keys.specs.declared.rows.KeyRow.{KeyRow}
use Rattle.audit_keys.specs.Held.{held_key, held_rest}
use Rattle.audit_keys.specs.Rests.{widths}
use Rattle.audit_keys.specs.Listed.{listed_below}
use Rattle.key_audit.specs.declared.until.Until.{Until}
use Rattle.key_audit.specs.declared.until.Until.TheVariants.{Stamp as ToStamp, Call as ToCall}
use Rattle.key_audit.specs.Texts.{holder_text, key_text, name_text, piece_text, span_text}

-- ---- a book that is cut at a moment

-- the cut of the calls of caller `c`. It is after call number `call` if `c` is the caller `caller`, and otherwise at
-- `stamp`
abbrev pub cut_at : Until → ℕ → Cut
cut_at (ToStamp stamp) c = ByStamp stamp
cut_at (ToCall stamp caller call) c = if caller == c then ByCall call else ByStamp stamp

abbrev pub until_stamp : Until → ℕ
until_stamp (ToStamp stamp) = stamp
until_stamp (ToCall stamp caller call) = stamp

-- how many calls of caller `c` the cut `cuts c` keeps
abbrev pub calls_cut : (ℕ → Cut) → List (List Call) → ℕ → ℕ
calls_cut cuts callers c = calls_by (cuts c) (start_stamp callers c) (list_at callers c)

-- the lists of the book cut at `until`: the entries of each lane's visits up to the stamp, and the entries that the
-- calls kept by the cut left for each vgetrandom state
abbrev pub lists_until : Until → List (List Call) → Book → List (List CallMeaning) → Lists
lists_until until callers book ms = lists_of (book_at (until_stamp until) (calls_cut (cut_at until) callers) book ms)

-- the lists of the book cut at `stamp`. A caller's call is kept if it was over by `stamp`
abbrev pub lists_at_stamp : ℕ → List (List Call) → Book → List (List CallMeaning) → Lists
lists_at_stamp stamp callers book ms = lists_until (ToStamp stamp) callers book ms

-- the lists of the book cut after `line`. The calls of the line's caller are kept up to the line's call. The calls of
-- any other caller are kept if they were over by `end.stamp`, the stamp when the line's call was over
abbrev pub lists_after : LineOf → LineEnd → List (List Call) → Book → List (List CallMeaning) → Lists
lists_after line end callers book ms = lists_until (ToCall end.stamp line.caller end.call) callers book ms

-- the keys in memory: those of the base, of each CPU, and of each vgetrandom state of each caller
abbrev pub live_keys : Lists → List HeldKey
live_keys lists =
    held_key Base (live_key lists base_key)
    ++ listed_below (length lists.cpus) (λ c. held_key (Cpu c) (live_key lists (cpu_key c)))
    ++ listed_below (length lists.callers) (λ caller. listed_below (length (list_at lists.callers caller))
    (λ state. held_key (State (record { caller = caller; state = state })) (live_key lists (state_key caller state))))

-- the unserved rests in memory that have bytes: the rests of each CPU's batch for each width, and of each vgetrandom
-- state's batch
abbrev pub live_rests : Lists → List HeldRest
live_rests lists =
    listed_below (length lists.cpus)
    (λ c. flat_map (λ width. held_rest (CpuBatch c width) (live_rest lists (cpu_batch c width))) widths)
    ++ listed_below (length lists.callers) (λ caller. listed_below (length (list_at lists.callers caller))
    (λ state. held_rest (StateBatch (record { caller = caller; state = state }))
    (live_rest lists (state_batch caller state))))

pub record IsHeld (lists : Lists) (held : HeldMaterial) : Type 0 where
  pub keys : held.keys.items ≡ live_keys lists
  pub rests : held.rests.items ≡ live_rests lists

-- ---- the output lines of the keys and rests in memory

abbrev pub became_key : Fate → Bool
became_key (Became key) = true
became_key (Served by) = false
became_key (GivenUp by) = false
became_key HeldFate = false

-- an output line: `word`, and then the row of a key, with only those of its pieces that became keys
abbrev pub kept_line : List ℕ → Moments → KeyRow → List ℕ
kept_line word moments row =
    word ++ key_text moments row
    ++ flat_map (piece_text moments) (filter (λ piece. became_key piece.fate) row.pieces.items) ++ 10 ∷ []

-- the output line of a held key, made from the key's row; empty if the key has no row
abbrev pub held_line : Moments → Option KeyRow → List ℕ
held_line moments None = []
held_line moments (Some row) = kept_line (codes "held ") moments row

abbrev pub held_lines : Moments → List KeyRow → List ℕ → List ℕ
held_lines moments rows numbers = flat_map (λ n. held_line moments (slice_get rows n)) numbers

abbrev pub batch_holder_text : BatchHolder → List ℕ
batch_holder_text (CpuBatch cpu width) = holder_text (InCpu cpu)
batch_holder_text (StateBatch of) = holder_text (InState of)

abbrev pub rest_line : HeldRest → List ℕ
rest_line rest = codes "rest " ++ name_text rest.span.key ++ codes " " ++ batch_holder_text rest.holder ++ codes " "
    ++ span_text rest.span ++ 10 ∷ []

-- the name of the key that row number `n` describes
abbrev pub name_at : List KeyRow → ℕ → Option KeyName
name_at rows n = option_map (λ row. row.key) (slice_get rows n)

-- `numbers` lists, for each of the held `keys` in order, the number of the key's row
abbrev pub AreRowsOf : List KeyRow → List HeldKey → List ℕ → Type 0
AreRowsOf rows keys numbers = map (name_at rows) numbers ≡ map (λ held. Some held.key) keys
