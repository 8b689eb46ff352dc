-- The texts of names, entries and rows.
use Rattle.std.specs.Prelude.{ℕ, Option, Some, None, List, [], ◌∷◌, ◌++◌, codes, unwrap_or}
use Rattle.std.specs.Fmt.{decimal}
use Rattle.std.specs.List.{flat_map}
use Rattle.key_names.specs.declared.names.KeyName.{KeyName}
use Rattle.key_names.specs.declared.names.KeyName.TheVariants.{Root, Base, Cpu, Call, Vdso}
use Rattle.key_names.specs.declared.names.LaneId.{LaneId}
use Rattle.key_names.specs.declared.names.LaneId.TheVariants.{Pool as PoolLane, Base as BaseLane, Cpu as CpuLane}
use Rattle.key_names.specs.declared.names.Span.{Span}
use Rattle.audit_keys.specs.declared.used.Origin.{Origin}
use Rattle.audit_keys.specs.declared.used.Origin.TheVariants.{Lane, State}
use Rattle.audit_keys.specs.declared.lives.Holder.{Holder}
use Rattle.audit_keys.specs.declared.lives.Holder.TheVariants.{Base as InBase, Cpu as InCpu, State as InState, Read as InRead}
use Rattle.audit_keys.specs.declared.moments.LineOf.{LineOf}
use Rattle.audit_keys.specs.declared.moments.Moment.{Moment}
use Rattle.audit_keys.specs.declared.moments.Moments.{Moments}
use Rattle.audit_keys.specs.declared.rows.Fate.{Fate}
use Rattle.audit_keys.specs.declared.rows.Fate.TheVariants.{Became, Served, GivenUp, Held}
use Rattle.audit_keys.specs.declared.rows.KeyPiece.{KeyPiece}
use Rattle.audit_keys.specs.declared.rows.KeyRow.{KeyRow}
use Rattle.audit_keys.specs.MadeOrder.{moment_at as moment_listed}

-- ---- the moments of entries

abbrev pub no_moment : Moment
no_moment = record { stamp = 0; line = record { caller = 0; event = 0 } }

-- the moment of the entry `at`, or the stamp 0 and the line 0.0 if `moments` has no moment for it
abbrev pub moment_at : Moments → Origin → Moment
moment_at moments at = unwrap_or (moment_listed moments at) no_moment

-- ---- the texts of names, entries and rows

abbrev pub call_text : LaneId → ℕ → List ℕ
call_text PoolLane place = codes "Call(Pool," ++ decimal place ++ codes ")"
call_text BaseLane place = codes "Call(Base," ++ decimal place ++ codes ")"
call_text (CpuLane c) place = codes "Call(Cpu(" ++ decimal c ++ codes ")," ++ decimal place ++ codes ")"

abbrev pub name_text : KeyName → List ℕ
name_text (Root place) = codes "Root(" ++ decimal place ++ codes ")"
name_text (Base place) = codes "Base(" ++ decimal place ++ codes ")"
name_text (Cpu c place) = codes "Cpu(" ++ decimal c ++ codes "," ++ decimal place ++ codes ")"
name_text (Call lane place) = call_text lane place
name_text (Vdso caller state n) =
    codes "Vdso(" ++ decimal caller ++ codes "," ++ decimal state ++ codes "," ++ decimal n ++ codes ")"

abbrev pub holder_text : Holder → List ℕ
holder_text InBase = codes "base"
holder_text (InCpu c) = codes "cpu" ++ decimal c
holder_text (InState of) = codes "state" ++ decimal of.caller ++ codes "." ++ decimal of.state
holder_text InRead = codes "call"

abbrev pub line_text : LineOf → List ℕ
line_text line = decimal line.caller ++ codes "." ++ decimal line.event

abbrev pub origin_text : Origin → List ℕ
origin_text (Lane PoolLane place) = codes "p:" ++ decimal place
origin_text (Lane BaseLane place) = codes "b:" ++ decimal place
origin_text (Lane (CpuLane c) place) = codes "c" ++ decimal c ++ codes ":" ++ decimal place
origin_text (State caller state place) =
    codes "v" ++ decimal caller ++ codes "." ++ decimal state ++ codes ":" ++ decimal place

-- an entry with its stamp. `entry_text` also has the line that left the entry
abbrev pub at_text : Origin → Moment → List ℕ
at_text at moment = origin_text at ++ codes "@" ++ decimal moment.stamp

abbrev pub entry_text : Moments → Origin → List ℕ
entry_text moments at = at_text at (moment_at moments at) ++ codes " " ++ line_text (moment_at moments at).line

abbrev pub span_text : Span → List ℕ
span_text span = decimal span.from ++ codes "+" ++ decimal span.len

abbrev pub fate_text : Moments → Fate → List ℕ
fate_text moments (Became key) = codes "=" ++ name_text key
fate_text moments (Served by) = codes ">" ++ line_text (moment_at moments by).line
fate_text moments (GivenUp by) = codes "!" ++ at_text by (moment_at moments by)
fate_text moments Held = codes "?"

abbrev pub piece_text : Moments → KeyPiece → List ℕ
piece_text moments piece = codes " " ++ span_text piece.span ++ fate_text moments piece.fate

abbrev pub end_text : Moments → Option Origin → List ℕ
end_text moments None = codes " held"
end_text moments (Some by) = codes " " ++ entry_text moments by

-- a row up to its pieces: the key, its holder, and the entries that made and ended the key
abbrev pub key_text : Moments → KeyRow → List ℕ
key_text moments row = name_text row.key ++ codes " " ++ holder_text row.holder ++ codes " "
    ++ entry_text moments row.made ++ end_text moments row.ended

abbrev pub row_text : Moments → KeyRow → List ℕ
row_text moments row = key_text moments row ++ flat_map (piece_text moments) row.pieces.items ++ 10 ∷ []

abbrev pub rows_text : Moments → List KeyRow → List ℕ
rows_text moments rows = flat_map (row_text moments) rows
