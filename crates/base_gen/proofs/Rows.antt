-- For callers of the crate: `after_entry` changes the base in the same way as the definitions change the state of the
-- base's list.
use Rattle.std.proofs.Common.{◌≡◌, ℕ, Option, Some, None, List, [], ◌∷◌, ◌++◌, refl, ap, sym, ◌∙◌}
use Rattle.std.specs.Prelude.{if◌then◌else◌}
use Rattle.std.proofs.lemmas.List.Sums.{fold-append}
use Rattle.key_names.specs.declared.entries.PoolEntry.{PoolEntry}
use Rattle.key_names.specs.declared.entries.BaseEntry.{BaseEntry}
use Rattle.key_names.specs.Kernel.Keystream.{keystream}
use Rattle.key_names.specs.Lanes.PoolList.{root_value}
use Rattle.key_names.specs.Lanes.BaseList.{BaseState, root_of, base_erases, base_step, base_start, base_after}
use Rattle.key_names.specs.Keys.KeyInUse.{zero_key, root_value_or, base_value_step, base_value_after}
use Rattle.base_gen.specs.BaseValue.{key_in_use, after_entry, base_at, after_entries}

-- if the entry `e` names a root (the key from an extraction of the pool), `root` is the value of this root
abbrev pub HandsRoot : List PoolEntry → BaseEntry → List ℕ → Type 0
HandsRoot pool e root = (place : ℕ) → root_of e ≡ Some place → root ≡ root_value pool place

pub key_in_use-root : (pool : List PoolEntry) (named : Option ℕ) (root key : List ℕ) →
    ((place : ℕ) → named ≡ Some place → root ≡ root_value pool place) → key_in_use named root key ≡
    root_value_or pool named key
key_in_use-root pool None root key is = refl
key_in_use-root pool (Some place) root key is = is place refl

-- suppose that `root` is the root that `e` names. Then `e` changes the base with the state `s` and the key `value` into
-- the base with the state and the key after `e`
pub after_entry-base_at : (pool : List PoolEntry) (s : BaseState) (value root : List ℕ) (e : BaseEntry) →
    HandsRoot pool e root → after_entry e root (base_at s value) ≡
    base_at (base_step s e) (base_value_step pool value e)
after_entry-base_at pool s value root e is =
    ap (λ (used : List ℕ). base_at (base_step s e) (if base_erases e then keystream used 0 32 else used))
    (key_in_use-root pool (root_of e) root value is)

-- if `root` is the root that `e` names, then `e` changes the base after the entries `es` into the base after `es` and
-- `e`
pub after_entry-after_entries : (pool : List PoolEntry) (es : List BaseEntry) (e : BaseEntry) (root : List ℕ) →
    HandsRoot pool e root → after_entry e root (after_entries pool es) ≡ after_entries pool (es ++ e ∷ [])
after_entry-after_entries pool es e root is =
    after_entry-base_at pool (base_after es) (base_value_after pool es) root e is
    ∙ ap (λ (s : BaseState). base_at s (base_value_step pool (base_value_after pool es) e))
    (sym (fold-append base_step base_start es (e ∷ [])))
    ∙ ap (base_at (base_after (es ++ e ∷ []))) (sym (fold-append (base_value_step pool) zero_key es (e ∷ [])))
