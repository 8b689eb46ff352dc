-- The row of a key: the key's holder, the entries that made and ended the key, and the fates of its bytes.
use Rattle.std.specs.Prelude.{◌≡◌, List, ◌++◌, map, filter}
use Rattle.std.specs.Prelude.{slice_get, option_map, IsPermutation}
use Rattle.std.specs.List.Sorted.{IsNonDecreasingBy}
use Rattle.key_names.specs.declared.names.KeyName.{KeyName}
use Rattle.key_names.specs.contracts.names.KeyNamePartialEq.TheImpl.{ghosts as names}
use Rattle.audit_keys.specs.declared.used.Used.{Used}
use Rattle.audit_keys.specs.declared.used.Origin.{Origin}
use Rattle.audit_keys.specs.declared.used.Purpose.{Purpose}
use Rattle.audit_keys.specs.declared.used.Purpose.TheVariants.{Kept, Served}
use Rattle.audit_keys.specs.declared.lives.Birth.{Birth}
use Rattle.audit_keys.specs.declared.lives.Ending.{Ending}
use Rattle.audit_keys.specs.declared.lives.GivenUp.{GivenUp}
use Rattle.audit_keys.specs.declared.held.HeldRest.{HeldRest}
use Rattle.audit_keys.specs.declared.listed.ListedKeys.{ListedKeys}
use Rattle.audit_keys.specs.declared.rows.Fate.{Fate}
use Rattle.audit_keys.specs.declared.rows.Fate.TheVariants.{Became, Served as ServedAt, GivenUp as GivenUpAt, Held}
use Rattle.audit_keys.specs.declared.rows.KeyPiece.{KeyPiece}
use Rattle.audit_keys.specs.declared.rows.KeyRow.{KeyRow}

-- the fate of bytes that the entry `by` used for this purpose
abbrev pub fate_of : Origin → Purpose → Fate
fate_of by (Kept name) = Became name
fate_of by Served = ServedAt by

abbrev pub used_piece : Used → KeyPiece
used_piece used = record { span = used.span; fate = fate_of used.by used.purpose }

abbrev pub given_up_piece : GivenUp → KeyPiece
given_up_piece rest = record { span = rest.span; fate = GivenUpAt rest.by }

abbrev pub held_piece : HeldRest → KeyPiece
held_piece rest = record { span = rest.span; fate = Held }

-- the uses of all keys, then the rests of batches that were given up, and then the rests that are held
abbrev pub all_pieces : ListedKeys → List KeyPiece
all_pieces listed = map used_piece listed.uses.items ++ map given_up_piece listed.lives.given_up.items
    ++ map held_piece listed.held.rests.items

abbrev pub pieces_of : KeyName → List KeyPiece → List KeyPiece
pieces_of key pieces = filter (λ piece. names.eq piece.span.key key) pieces

abbrev pub endings_of : KeyName → List Ending → List Ending
endings_of key endings = filter (λ ending. names.eq ending.key key) endings

abbrev pub birth_of : KeyRow → Birth
birth_of row = record { key = row.key; holder = row.holder; by = row.made }

-- `row` is right: it has the ending and the pieces of its key. `pieces` and `endings` are the pieces and endings of all
-- keys
pub record IsRow (pieces : List KeyPiece) (endings : List Ending) (row : KeyRow) : Type 0 where
  -- the entry that ended the key, if one did
  pub ended_by : row.ended ≡ option_map (λ ending. ending.by) (slice_get (endings_of row.key endings) 0)
  -- the row's pieces are those of its key, each once
  pub all_of : IsPermutation (pieces_of row.key pieces) row.pieces.items
  -- the row's pieces are in the order of their first bytes
  pub ordered : IsNonDecreasingBy (λ piece. piece.span.from) row.pieces.items
