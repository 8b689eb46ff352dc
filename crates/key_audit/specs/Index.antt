-- An index that finds a key's row by the key's name.
use Rattle.std.specs.Prelude.{ℕ, ◌≡◌, ◌<◌, List, Some, IsSome}
use Rattle.std.specs.BTreeMap.{BTreeMap, get}
use Rattle.key_names.specs.declared.names.KeyName.{KeyName}
use Rattle.key_names.specs.contracts.names.KeyNameOrd.TheImpl.{ghosts as names}
use Rattle.audit_keys.specs.declared.rows.KeyRow.{KeyRow}
use Rattle.key_audit.specs.Live.{name_at}

-- `numbers` has a number for each key of the first `n` rows. If a key has a number, the row at that number is the row
-- of this key
pub record IsIndexTo (n : ℕ) (rows : List KeyRow) (numbers : BTreeMap KeyName ℕ) : Type 0 where
  pub named : (key : KeyName) (m : ℕ) → get names.cmp numbers key ≡ Some m → name_at rows m ≡ Some key
  pub all : (key : KeyName) (m : ℕ) → m < n → name_at rows m ≡ Some key → IsSome (get names.cmp numbers key)
