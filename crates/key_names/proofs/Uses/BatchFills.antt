-- Which bytes of keys the batches of a CPU hold, and which bytes their integers use.
use Rattle.std.proofs.Common.{◌≡◌, ℕ, suc, ◌+◌, ◌*◌, ◌≤◌, ◌<◌, false, [], ◌∷◌, ◌⊎◌, inl, inr, refl, sym, ap, ◌∙◌, arith, Some, None, Option}
use Rattle.std.specs.Prelude.{◌==◌, if◌then◌else◌}
use Rattle.std.proofs.lemmas.Bool.{eqb-true}
use Rattle.std.specs.Option.{option_map_or}
use Rattle.key_names.specs.declared.names.KeyName.{KeyName}
use Rattle.key_names.specs.Keys.Uses.{kept, served, use_of, IsUsed, Disjoint, batch_uses}
use Rattle.key_names.specs.Kernel.Batches.{Fill, one_more_served}
use Rattle.key_names.proofs.Uses.UseLists.{UsesByte, one_use, one_use_disjoint, choice_cases}

-- a batch of the CPU was filled with the key. Byte `q` of the key is in this batch, and was not served yet
pub record InBatch (fills : ℕ → Option Fill) (key : KeyName) (q : ℕ) : Type 0 where
  pub width : ℕ
  pub fill : Fill
  pub is : fills width ≡ Some fill
  pub key_is : fill.key ≡ Some key
  pub unserved : 32 + width * fill.count ≤ q

-- the batch of width w was filled with this key
pub record Filled (fills : ℕ → Option Fill) (w : ℕ) (key : KeyName) : Type 0 where
  pub fill : Fill
  pub is : fills w ≡ Some fill
  pub key_is : fill.key ≡ Some key

pub in_batch : (fills : ℕ → Option Fill) (k : KeyName) (q : ℕ) → (b : InBatch fills k q) → Filled fills b.width k
in_batch fills k q b = record { fill = b.fill; is = b.is; key_is = b.key_is }

-- if no batch has a fill, none was filled with a key
pub none_filled : (w : ℕ) (k : KeyName) → Filled (λ w. None) w k → ⊥
none_filled w k f = let e = f.is in cc

-- the fills after the batch of `width` was filled at `place` with the key `used`
abbrev pub filled_after : ℕ → ℕ → ℕ → Option KeyName → (ℕ → Option Fill) → ℕ → Option Fill
filled_after place width look used fills w =
    if w == width then Some (record { key = used; place = place; count = 1; look = look }) else fills w

pub filled_cases : (place width look : ℕ) (used : Option KeyName) (fills : ℕ → Option Fill) (w : ℕ) (f : Fill) →
    filled_after place width look used fills w ≡ Some f →
    ((w ≡ width) × (used ≡ f.key) × (1 ≡ f.count)) ⊎ (fills w ≡ Some f)
filled_cases place width look used fills w f is =
    elim (choice_cases (w == width) (Some (record { key = used; place = place; count = 1; look = look })) (fills w)
    (Some f) is) [
      | inl a ↦ inl (
        eqb-true w width a.0,
        ap (λ o. option_map_or (λ (x : Fill). x.key) o None) a.1,
        ap
            (λ o. option_map_or (λ (x : Fill). x.count) o 1) a.1,
      )
      | inr b ↦ inr b.1
    ]

-- the fills after the batch of `width` served one more integer
abbrev pub served_after : ℕ → (ℕ → Option Fill) → ℕ → Option Fill
served_after width fills w = if w == width then one_more_served (fills w) else fills w

-- let `f` be the fill of width `w` after one more integer of `width` was served. This is the fill before
pub record Before (width : ℕ) (fills : ℕ → Option Fill) (w : ℕ) (f : Fill) : Type 0 where
  pub fill : Fill
  pub is : fills w ≡ Some fill
  pub same_key : fill.key ≡ f.key
  pub counts : ((w ≡ width) × (f.count ≡ suc fill.count)) ⊎ (((w == width) ≡ false) × (f.count ≡ fill.count))

pub one_more_some : (o : Option Fill) (f : Fill) → one_more_served o ≡ Some f →
    (g : Fill) × (o ≡ Some g) × (g.key ≡ f.key) × (f.count ≡ suc g.count)
one_more_some None f e = cc
one_more_some (Some g) f e = (
  g,
  refl,
  ap (λ o. option_map_or (λ (x : Fill). x.key) o None) e,
  sym
      (ap (λ o. option_map_or (λ (x : Fill). x.count) o 0) e),
)

pub before_serving : (width : ℕ) (fills : ℕ → Option Fill) (w : ℕ) (f : Fill) → served_after width fills w ≡ Some f →
    Before width fills w f
before_serving width fills w f is =
    elim (choice_cases (w == width) (one_more_served (fills w)) (fills w) (Some f) is) [
      | inl a ↦ (let m = one_more_some (fills w) f a.1 in
          record { fill = m.0; is = m.1; same_key = m.2; counts = inl (eqb-true w width a.0, m.3) })
      | inr b ↦ record { fill = f; is = b.1; same_key = refl; counts = inr (b.0, refl) }
    ]

pub filled_before : (width : ℕ) (fills : ℕ → Option Fill) (w : ℕ) (k : KeyName) →
    Filled (served_after width fills) w k → Filled fills w k
filled_before width fills w k f = let m = before_serving width fills w f.fill f.is in
    record { fill = m.fill; is = m.is; key_is = m.same_key ∙ f.key_is }

-- the next integer of the batch of `width` uses byte q of key k
pub record Serves (fills : ℕ → Option Fill) (width : ℕ) (k : KeyName) (q : ℕ) : Type 0 where
  pub fill : Fill
  pub is : fills width ≡ Some fill
  pub key_is : fill.key ≡ Some k
  pub from : 32 + width * fill.count ≤ q
  pub below : q < 32 + width * fill.count + width

pub serves : (fills : ℕ → Option Fill) (width : ℕ) (k : KeyName) (q : ℕ) →
    IsUsed (batch_uses width (fills width)) k q → Serves fills width k q
serves fills width k q h = go (fills width) refl h
  where
    go : (o : Option Fill) → fills width ≡ o → IsUsed (batch_uses width o) k q → Serves fills width k q
    go None is h = absurd h
    go (Some fill) is h = let m : UsesByte fill.key (32 + width * fill.count) width k q =
        one_use served fill.key (32 + width * fill.count) width k q h in
        record { fill = fill; is = is; key_is = m.key_is; from = m.above; below = m.below }

pub batch_disjoint : (width : ℕ) (o : Option Fill) → Disjoint (batch_uses width o)
batch_disjoint width None = tt
batch_disjoint width (Some fill) = one_use_disjoint served fill.key _ _

pub same_fill : (fills : ℕ → Option Fill) (w : ℕ) (f g : Fill) → fills w ≡ Some f → fills w ≡ Some g → f.count ≡ g.count
same_fill fills w f g p q = ap (λ o. option_map_or (λ (x : Fill). x.count) o 0) (sym p ∙ q)

-- an integer that fills its batch uses only bytes of the key in use, all below 32 + `width`
pub fill_within : (key : KeyName) (width : ℕ) (k : KeyName) (q : ℕ) →
    IsUsed (use_of kept key 0 32 ∷ use_of served key 32 width ∷ []) k q →
    (key ≡ k) × (q < 32 + width)
fill_within key width k q (inl b) = (b.same_key, omega arith)
fill_within key width k q (inr (inl b)) = (b.same_key, omega arith)
fill_within key width k q (inr (inr none)) = absurd none
