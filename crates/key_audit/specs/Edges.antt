-- Edges between keys: if bytes of a key's keystream became another key, an edge leads from the first key to the second.
-- Following edges finds all keys that can be reached from given keys.
use Rattle.std.specs.Prelude.{◌≡◌, ◌⊎◌, Bool, true, false, List, [], ◌∷◌, Contains, IsTrue}
use Rattle.std.specs.List.{flat_map}
use Rattle.std.specs.BTreeSet.{BTreeSet, contains}
use Rattle.key_names.specs.declared.names.KeyName.{KeyName}
use Rattle.key_names.specs.contracts.names.KeyNameOrd.TheImpl.{ghosts as names}
use Rattle.audit_keys.specs.declared.rows.Fate.{Fate}
use Rattle.audit_keys.specs.declared.rows.Fate.TheVariants.{Became, Served, GivenUp, Held}
use Rattle.audit_keys.specs.declared.rows.KeyRow.{KeyRow}
use Rattle.key_audit.specs.declared.edges.Edge.{Edge}

-- ---- the edges of rows

-- if bytes of the keystream of `key` have the fate that they became a key: the edge from `key` to that key
abbrev pub fate_edges : KeyName → Fate → List Edge
fate_edges key (Became next) = record { from = key; to = next } ∷ []
fate_edges key (Served by) = []
fate_edges key (GivenUp by) = []
fate_edges key Held = []

abbrev pub row_edges : KeyRow → List Edge
row_edges row = flat_map (λ piece. fate_edges row.key piece.fate) row.pieces.items

abbrev pub edges_of : List KeyRow → List Edge
edges_of rows = flat_map row_edges rows

abbrev pub turned : Edge → Edge
turned edge = record { from = edge.to; to = edge.from }

-- a key is reached if it is in `start`, or if an edge leads to it from a reached key
pub data IsReached (edges : List Edge) (start : List KeyName) : KeyName → Type 0 where
  first : {key : KeyName} → Contains start key → IsReached edges start key
  along : {from to : KeyName} → IsReached edges start from → Contains edges (record { from = from; to = to }) →
      IsReached edges start to

-- ---- finding all reached keys by following edges

abbrev pub Has : BTreeSet KeyName → KeyName → Type 0
Has known key = IsTrue (contains names.cmp known key)

-- following `edge` changes the known keys from `old` to `new`: if `edge` begins at a known key, the key to which it
-- leads becomes known. `more` is whether that key was not known before
pub record Follows (edge : Edge) (old new : BTreeSet KeyName) (more : Bool) : Type 0 where
  pub stays : (key : KeyName) → Has old key → Has new key
  pub only : (key : KeyName) → Has new key → Has old key ⊎ ((edge.to ≡ key) × Has old edge.from)
  pub led : Has old edge.from → Has new edge.to
  pub none : more ≡ false → (key : KeyName) → Has new key → Has old key
  pub some : more ≡ true → (contains names.cmp old edge.to ≡ false) × Has new edge.to

-- following each edge that begins at a known key changes the known keys from `old` to `new`. `new` has the keys of
-- `old`, and otherwise only keys that are reached from them. `more` is whether `new` has a key that `old` lacks
pub record HasPassed (edges : List Edge) (old new : BTreeSet KeyName) (more : Bool) : Type 0 where
  pub stays : (key : KeyName) → Has old key → Has new key
  pub reached : (start : List KeyName) → ((key : KeyName) → Has old key → IsReached edges start key) →
      (key : KeyName) → Has new key → IsReached edges start key
  pub closed : more ≡ false → (edge : Edge) → Contains edges edge → Has new edge.from → Has new edge.to
  pub some : more ≡ true →
      (edge : Edge) × Contains edges edge × (contains names.cmp old edge.to ≡ false) × Has new edge.to
