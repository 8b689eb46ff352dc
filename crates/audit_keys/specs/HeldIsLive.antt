-- The keys in `book_tells` are the keys that the book's holders have after all entries. The same is true of the rests
-- of batches that have bytes and whose width fits into a byte.
use Rattle.std.specs.Prelude.{◌≡◌, ◌<◌, ⊤, Some, All, Contains}
use Rattle.key_names.specs.declared.names.KeyName.{KeyName}
use Rattle.key_names.specs.declared.names.Span.{Span}
use Rattle.key_names.specs.Lanes.Book.{Lists}
use Rattle.key_names.specs.Keys.LiveMaterial.{live_key, live_rest}
use Rattle.audit_keys.specs.declared.held.KeyHolder.{KeyHolder}
use Rattle.audit_keys.specs.declared.held.BatchHolder.{BatchHolder}
use Rattle.audit_keys.specs.declared.held.BatchHolder.TheVariants.{Cpu, State}
use Rattle.audit_keys.specs.Held.{key_holder, batch_holder}
use Rattle.audit_keys.specs.Listed.{book_tells}

-- the width of a batch fits into a byte
abbrev pub HasByteWidth : BatchHolder → Type 0
HasByteWidth (Cpu cpu width) = width < 256
HasByteWidth (State of) = ⊤

pub record HeldIsLive (lists : Lists) : Type 0 where
  pub keys_live : All (λ held. live_key lists (key_holder held.holder) ≡ Some held.key) (book_tells lists).keys
  pub all_keys : (holder : KeyHolder) (key : KeyName) → live_key lists (key_holder holder) ≡ Some key →
      Contains (book_tells lists).keys (record { holder = holder; key = key })
  -- the listed rests are live; a live rest is listed if it has bytes and its width fits into a byte
  pub rests_live : All (λ held. live_rest lists (batch_holder held.holder) ≡ Some held.span) (book_tells lists).rests
  pub all_rests : (holder : BatchHolder) (span : Span) → HasByteWidth holder → 0 < span.len →
      live_rest lists (batch_holder holder) ≡ Some span →
      Contains (book_tells lists).rests (record { holder = holder; span = span })

-- `HeldIsLive` is true of all lists
abbrev pub BooksTellLive : Type 0
BooksTellLive = (lists : Lists) → HeldIsLive lists
