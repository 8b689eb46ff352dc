-- The keys and bytes that can be computed from what is in memory (keys, and unserved rests of batches): keys that are
-- made later, and bytes of later lines.
use Rattle.std.specs.Prelude.{ℕ, Bool, false, not, ◌&&◌, ◌||◌, ◌↔◌, ◌≡◌, Option, Some, None, List, [], ◌∷◌, ◌++◌, codes}
use Rattle.std.specs.Prelude.{filter, nat_le, nat_lt, ◌-◌, if◌then◌else◌, Contains, IsTrue, IsPermutation, IsSortedByKey}
use Rattle.std.specs.List.{flat_map, list_any}
use Rattle.std.specs.List.Sorted.{IsStableByKey}
use Rattle.key_names.specs.declared.names.KeyName.{KeyName}
use Rattle.key_names.specs.contracts.names.KeyNamePartialEq.TheImpl.{ghosts as names}
use Rattle.audit_keys.specs.declared.held.HeldRest.{HeldRest}
use Rattle.audit_keys.specs.declared.moments.LineOf.{LineOf}
use Rattle.audit_keys.specs.contracts.moments.LineOfOrd.TheImpl.{ghosts as lines}
use Rattle.audit_keys.specs.contracts.moments.LineOfPartialEq.TheImpl.{ghosts as same_lines}
use Rattle.audit_keys.specs.declared.moments.Moments.{Moments}
use Rattle.audit_keys.specs.declared.rows.Fate.{Fate}
use Rattle.audit_keys.specs.declared.rows.Fate.TheVariants.{Became, Served, GivenUp, Held}
use Rattle.audit_keys.specs.declared.rows.KeyPiece.{KeyPiece}
use Rattle.audit_keys.specs.declared.rows.KeyRow.{KeyRow}
use Rattle.key_audit.specs.Edges.{IsReached, edges_of}
use Rattle.key_audit.specs.Live.{kept_line}
use Rattle.key_audit.specs.Texts.{line_text, moment_at, name_text, span_text}
use Rattle.key_audit.specs.declared.reach.Copied.{Copied}

-- ---- keys that can be computed

-- whether the first byte of `piece` is among the bytes of `rest`, the unserved rest of a batch
abbrev pub has_piece : HeldRest → KeyPiece → Bool
has_piece rest piece = names.eq rest.span.key piece.span.key
    && (nat_le rest.span.from piece.span.from && nat_lt (piece.span.from - rest.span.from) rest.span.len)

abbrev pub is_in_rest : List HeldRest → KeyPiece → Bool
is_in_rest rests piece = list_any (λ rest. has_piece rest piece) rests

-- if the bytes of `piece` became a key, and the first of these bytes is in one of `rests`: this key
abbrev pub rest_key : List HeldRest → KeyPiece → Fate → List KeyName
rest_key rests piece (Became key) = if is_in_rest rests piece then key ∷ [] else []
rest_key rests piece (Served by) = []
rest_key rests piece (GivenUp by) = []
rest_key rests piece Held = []

abbrev pub row_rest_keys : List HeldRest → KeyRow → List KeyName
row_rest_keys rests row = flat_map (λ piece. rest_key rests piece piece.fate) row.pieces.items

abbrev pub rest_keys : List HeldRest → List KeyRow → List KeyName
rest_keys rests rows = flat_map (row_rest_keys rests) rows

-- the output lines of the keys that can be computed and are not held, in the order of the rows
abbrev pub next_lines : Moments → (KeyName → Bool) → (KeyName → Bool) → List KeyRow → List ℕ
next_lines moments is_held is_known rows =
    flat_map (kept_line (codes "next ") moments) (filter (λ row. is_known row.key && not (is_held row.key)) rows)

-- ---- served bytes that can be computed

-- the bytes of `piece`, if an entry served them, with the line that left this entry
abbrev pub copied_at : Moments → KeyPiece → Fate → List Copied
copied_at moments piece (Served by) = record { line = (moment_at moments by).line; span = piece.span } ∷ []
copied_at moments piece (Became key) = []
copied_at moments piece (GivenUp by) = []
copied_at moments piece Held = []

-- the bytes of `piece`, if they were served, and if either their key can be computed or their first byte is in one of
-- `rests`
abbrev pub copied_piece : Moments → Bool → List HeldRest → KeyPiece → List Copied
copied_piece moments is_known rests piece =
    if is_known || is_in_rest rests piece then copied_at moments piece piece.fate else []

abbrev pub copied_row : Moments → (KeyName → Bool) → List HeldRest → KeyRow → List Copied
copied_row moments is_known rests row =
    flat_map (copied_piece moments (is_known row.key) rests) row.pieces.items

abbrev pub copied_bytes : Moments → (KeyName → Bool) → List HeldRest → List KeyRow → List Copied
copied_bytes moments is_known rests rows = flat_map (copied_row moments is_known rests) rows

-- ---- the output lines of served bytes

abbrev pub copied_text : Copied → List ℕ
copied_text one = codes " " ++ span_text one.span ++ codes "<" ++ name_text one.span.key

-- the line feed that ends the output line begun last, if one was begun
abbrev pub line_end : Option LineOf → List ℕ
line_end None = []
line_end (Some line) = 10 ∷ []

abbrev pub is_line : Option LineOf → LineOf → Bool
is_line None line = false
is_line (Some last) line = same_lines.eq last line

-- if `line` is not the line `last`: the end of the output line for `last`, and the beginning of the output line for
-- `line`
abbrev pub line_begin : Option LineOf → LineOf → List ℕ
line_begin last line = if is_line last line then [] else line_end last ++ codes "line " ++ line_text line

-- the text of served bytes; `last` is the line of the bytes before them, if there are any
abbrev pub lines_after : Option LineOf → List Copied → List ℕ
lines_after last [] = line_end last
lines_after last (one ∷ more) =
    line_begin last one.line ++ copied_text one ++ lines_after (Some one.line) more

abbrev pub copied_lines : List Copied → List ℕ
copied_lines copied = lines_after None copied

-- ---- the output for the keys and bytes that can be computed

-- the output has the lines of the keys and bytes that can be computed from the held keys `keys` and from `rests`, the
-- unserved rests of batches
pub record TellsReached (moments : Moments) (rows : List KeyRow) (keys : List KeyName) (rests : List HeldRest)
    (output : List ℕ) : Type 0 where
  -- `is_held` is whether a key is one of `keys`
  pub is_held : KeyName → Bool
  pub held : (key : KeyName) → IsTrue (is_held key) ↔ Contains keys key
  -- `is_known` is whether a key can be computed: the key is held, or bytes of a rest or of a known key's keystream
  -- became this key
  pub is_known : KeyName → Bool
  pub known : (key : KeyName) → IsTrue (is_known key) ↔ IsReached (edges_of rows) (keys ++ rest_keys rests rows) key
  -- `copied` has the served bytes that can be computed, line by line. Within a line, they are in the order of the rows
  pub copied : List Copied
  pub each : IsPermutation (copied_bytes moments is_known rests rows) copied
  pub ordered : IsSortedByKey (λ one. one.line) lines.cmp copied
  pub stable : IsStableByKey (λ one. one.line) lines.cmp (copied_bytes moments is_known rests rows) copied
  pub text : output ≡ next_lines moments is_held is_known rows ++ copied_lines copied
