-- If the number of one more row is inserted, the index stays correct. If the whole index is searched for a key, it
-- finds a row of this key.
use Rattle.std.proofs.Common.{◌≡◌, ◌<◌, ◌+◌, ◌⊎◌, ℕ, true, true≢false, List, inl, inr, refl, sym, ap, subst, ◌∙◌, arith, rules}
use Rattle.std.specs.Option.{is_some}
use Rattle.std.specs.Prelude.{Some, None, IsSome, IfSome, Option, ◌≢◌, length, map}
use Rattle.std.specs.BTreeMap.{BTreeMap, get, is_at, Updates}
use Rattle.std.specs.Cmp.{Equal-is}
use Rattle.std.specs.declared.cmp.Ordering.TheVariants.{Equal}
use Rattle.std.proofs.lemmas.Bool.{cases_Bool}
use Rattle.std.proofs.lemmas.List.{length-map}
use Rattle.std.proofs.lemmas.Option.{slice_get_within, slice_get-map, same_Some}
use Rattle.key_names.specs.declared.names.KeyName.{KeyName}
use Rattle.key_names.specs.contracts.names.KeyNameOrd.TheImpl.{ghosts as names}
use Rattle.audit_keys.specs.declared.rows.KeyRow.{KeyRow}
use Rattle.key_names.proofs.Transcripts.TranscriptBooks.{lt_or_le}
use Rattle.key_audit.specs.Index.{IsIndexTo}
use Rattle.key_audit.specs.Live.{name_at}

pub equal_names : (a b : KeyName) → names.cmp a b ≡ Equal → a ≡ b
equal_names a b e = search rules

pub found_name : (a b : KeyName) → is_at (names.cmp a) b ≡ true → a ≡ b
found_name a b e = equal_names a b ((Equal-is (names.cmp a b)).0 e)

named_within : (rows : List KeyRow) (n : ℕ) (key : KeyName) → name_at rows n ≡ Some key → n < length rows
named_within rows n key there =
    subst (λ len. n < len) (length-map rows (λ row. row.key))
    (slice_get_within (map (λ row. row.key) rows) n key (slice_get-map (λ row. row.key) rows n ∙ there))

module _ (rows : List KeyRow) (before after : BTreeMap KeyName ℕ) (n : ℕ) (key : KeyName)
    (there : name_at rows n ≡ Some key) (updates : Updates names.cmp before after key (Some n))
    (indexed : IsIndexTo n rows before) where
  -- if `key` is inserted with the number `n`, it has this number afterwards; any other key has the same number as
  -- before
  known : (k : KeyName) → (get names.cmp after k ≡ Some n) × (key ≡ k) ⊎ (get names.cmp after k ≡ get names.cmp before k)
  known k = elim (cases_Bool (is_at (names.cmp key) k)) [
    | inl same ↦ inl (updates.0 k ∙ rw same refl, found_name key k same)
    | inr other ↦ inr (updates.2 k other)
  ]

  named : (k : KeyName) (m : ℕ) → get names.cmp after k ≡ Some m → name_at rows m ≡ Some k
  named k m e = elim (known k) [
    | inl new ↦ subst (λ i. name_at rows i ≡ Some k) (same_Some n m (sym new.0 ∙ e)) (there ∙ ap Some new.1)
    | inr old ↦ indexed.named k m (sym old ∙ e)
  ]

  at_key : IsSome (get names.cmp after key)
  at_key = rw updates.1 refl

  all : (k : KeyName) (m : ℕ) → m < n + 1 → name_at rows m ≡ Some k → IsSome (get names.cmp after k)
  all k m low e = elim (lt_or_le m n) [
    | inl lower ↦ elim (known k) [
      | inl new ↦ rw new.0 refl
      | inr old ↦ rw old (indexed.all k m lower e)
    ]
    | inr last ↦
        let last_is : m ≡ n = omega (arith, low, last) in
        subst (λ name. IsSome (get names.cmp after name))
        (same_Some key k (sym there ∙ subst (λ i. name_at rows i ≡ Some k) last_is e)) at_key
  ]

  pub added : IsIndexTo (n + 1) rows after
  added = record { named = named; all = all }

module _ (rows : List KeyRow) (numbers : BTreeMap KeyName ℕ) (indexed : IsIndexTo (length rows) rows numbers)
    (key : KeyName) where
  pub found : (o : Option ℕ) → o ≡ get names.cmp numbers key → IfSome o (λ n. name_at rows n ≡ Some key)
  found None e = tt
  found (Some n) e = indexed.named key n (sym e)

  pub none : get names.cmp numbers key ≡ None → (n : ℕ) → name_at rows n ≢ Some key
  none e n there =
      let some = indexed.all key n (named_within rows n key there) there in
      absurd (true≢false (sym some ∙ ap is_some e))
