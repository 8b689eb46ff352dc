-- If the code has the base's key before an entry, `key_after` gives the base's key after the entry.
use Rattle.std.proofs.Common.{◌≡◌, ◌+◌, ℕ, sym, ap, ◌∙◌, arith}
use Rattle.std.specs.Prelude.{Option}
use Rattle.key_names.specs.declared.names.KeyName.{KeyName}
use Rattle.key_names.specs.declared.entries.BaseEntry.{BaseEntry}
use Rattle.key_names.specs.Lanes.BaseList.{BaseState, base_step, base_key_after}

-- `s` is the base's state before the entry at `place`, and `key` is the key of `s`
pub record BaseConforms (s : BaseState) (place : ℕ) (key : Option KeyName) : Type 0 where
  pub place_is : s.place ≡ place
  pub key_is : s.key ≡ key

pub base_after_entry : (s : BaseState) (e : BaseEntry) (place : ℕ) (key key' : Option KeyName) → BaseConforms s place key →
    key' ≡ base_key_after place e key → BaseConforms (base_step s e) (place + 1) key'
base_after_entry s e place key key' h after = record {
  place_is = (let is : s.place ≡ place = h.place_is in omega arith);
  key_is = ap (λ n. base_key_after n e s.key) h.place_is ∙ ap (base_key_after place e) h.key_is ∙ sym after;
}
