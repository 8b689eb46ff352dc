-- Suppose that an outline matches a state. After a copy, a wipe or a new key, the new outline matches the new state,
-- and the outline and the state give the same entries.
use Rattle.std.proofs.Common.{◌≡◌, ℕ, zero, suc, ◌+◌, ◌-◌, ◌<◌, Bool, true, false, [], ◌++◌, refl, sym, ap, ◌∙◌, append_assoc, append-nil, arith}
use Rattle.std.specs.Prelude.{◌==◌, ◌/◌, ◌%◌, nat_le, if◌then◌else◌}
use Rattle.std.proofs.lemmas.Bool.{eqb-true, eq-eqb}
use Rattle.std.proofs.lemmas.Bool.Decides.{nat_tests}
use Rattle.key_names.specs.Kernel.VgetrandomState.{VgetrandomState, state_left}
use Rattle.key_names.specs.Kernel.BatchCopy.{has_left, whole_blocks, new_batch_bytes, state_of_same_batch, state_of_new_batch, state_after_copy, block_after_copy, serve_entry, refill_entries, copy_entries}
use Rattle.key_names.specs.Kernel.Vgetrandom.{wipe_entry}
use Rattle.key_names.specs.Callers.VreadSteps.{published_by}
use Rattle.audit_keys.specs.declared.outline.Outline.{Outline}
use Rattle.audit_keys.specs.Outline.{IsOutline, outlined}
use Rattle.audit_keys.specs.Left.{Left, left_more, with_served, met, refilled, copied}

-- ---- the generation in an outline ----

published_once : (f g : ℕ) → published_by f ≡ published_by g → f ≡ g
published_once zero zero e = refl
published_once zero (suc g) e = absurd (omega arith)
published_once (suc f) zero e = absurd (omega arith)
published_once (suc f) (suc g) e = omega arith

-- the published generations of two looks are equal exactly if the looks found the same generation
pub same_test : (f g : ℕ) → (published_by f == published_by g) ≡ (f == g)
same_test f g = go (published_by f == published_by g) (f == g) refl refl
  where
    go : (a b : Bool) → (published_by f == published_by g) ≡ a → (f == g) ≡ b → a ≡ b
    go true true p q = refl
    go false false p q = refl
    go true false p q =
        let e : (f == g) ≡ true = eq-eqb f g (published_once f g (eqb-true _ _ p)) in cc
    go false true p q =
        let e : (published_by f == published_by g) ≡ true = eq-eqb _ _ (ap published_by (eqb-true f g q)) in cc

pub sym_test : (a b : ℕ) → (a == b) ≡ (b == a)
sym_test a b = go (a == b) (b == a) refl refl
  where
    go : (x y : Bool) → (a == b) ≡ x → (b == a) ≡ y → x ≡ y
    go true true p q = refl
    go false false p q = refl
    go true false p q = let e : (b == a) ≡ true = eq-eqb b a (sym (eqb-true a b p)) in cc
    go false true p q = let e : (a == b) ≡ true = eq-eqb a b (sym (eqb-true b a q)) in cc

pub generation_test : (o : Outline) (s : VgetrandomState) (g : ℕ) → IsOutline o s →
    (s.generation == published_by g) ≡ (o.found == g)
generation_test o s g is = ap (λ x. x == published_by g) is.generation ∙ same_test o.found g

-- ---- a copy of bytes out of a state, by its outline ----

-- some state with the position `pos` in its batch
abbrev at : ℕ → VgetrandomState
at pos = record { batch = []; key = []; generation = 0; pos = pos; in_use = false }

pub same_entries : (o : Outline) (s : VgetrandomState) (c n : ℕ) → IsOutline o s →
    copy_entries (outlined o) c n ≡ copy_entries s c n
same_entries o s c n is = ap (λ pos. copy_entries (at pos) c n) (sym is.served)

pub same_block : (o : Outline) (s : VgetrandomState) (c n : ℕ) → IsOutline o s →
    block_after_copy (outlined o) c n ≡ block_after_copy s c n
same_block o s c n is = ap (λ pos. block_after_copy (at pos) c n) (sym is.served)

pub same_left : (o : Outline) (s : VgetrandomState) (n : ℕ) → IsOutline o s → has_left (outlined o) n ≡ has_left s n
same_left o s n is = ap (λ pos. has_left (at pos) n) (sym is.served)

abbrev copy_if : Bool → VgetrandomState → ℕ → ℕ → VgetrandomState
copy_if b s c n =
    if b then state_of_same_batch s n else state_of_new_batch s (c + whole_blocks s n) (new_batch_bytes s n)

generation_kept : (b : Bool) (s : VgetrandomState) (c n : ℕ) → (copy_if b s c n).generation ≡ s.generation
generation_kept true s c n = refl
generation_kept false s c n = refl

pos_after : (b : Bool) (s t : VgetrandomState) (c n : ℕ) → s.pos ≡ t.pos → (copy_if b s c n).pos ≡ (copy_if b t c n).pos
pos_after true s t c n e = ap (λ pos. pos + n) e
pos_after false s t c n e = ap (λ pos. (n - (96 - pos)) % 64) e

pub copy_outline : (l : Left) (s : VgetrandomState) (c n : ℕ) → IsOutline l.outline s →
    IsOutline (copied n c l).outline (state_after_copy s c n)
copy_outline l s c n is = record {
  generation = generation_kept (has_left s n) s c n ∙ is.generation;
  served = pos_after (has_left s n) s (outlined l.outline) c n is.served
      ∙ ap (λ b. (copy_if b (outlined l.outline) c n).pos) (sym (same_left l.outline s n is));
}

-- a copy of more bytes than the batch has left serves the rest of the batch, then blocks, and then part of a new batch
pub copied_beyond : (n c : ℕ) (l : Left) → has_left (outlined l.outline) n ≡ false → copied n c l
    ≡ refilled c ((n - (96 - l.outline.served)) / 64) ((n - (96 - l.outline.served)) % 64)
    (left_more (serve_entry l.outline.served (96 - l.outline.served)) l)
copied_beyond n c l beyond =
    let o = outlined l.outline in
    let front = serve_entry l.outline.served (96 - l.outline.served) in
    let following = refill_entries c (whole_blocks o n) (new_batch_bytes o n) in
    ap (λ b. with_served (copy_if b o c n).pos
    (left_more (if b then serve_entry l.outline.served n else front ++ following) l)) beyond
    ∙ ap (λ es. with_served (new_batch_bytes o n) (record l { entries = es }))
    (sym (append_assoc l.entries front following))

-- a copy of more bytes than the batch has left may be made in two steps: first the rest of the batch is served, and
-- then the batch is refilled
pub refilled_is : (n c served left whole last : ℕ) (l m new : Left) → served ≡ l.outline.served → left ≡ 96 - served →
    left < n → m ≡ left_more (serve_entry served left) l → whole ≡ (n - left) / 64 → last ≡ (n - left) % 64 →
    new ≡ refilled c whole last m → new ≡ copied n c l
refilled_is n c served left whole last l m new is left_is more m_is whole_is last_is new_is =
    let beyond : has_left (outlined l.outline) n ≡ false =
    (let low : 96 - l.outline.served < n = omega (arith, is, left_is, more) in
    let t : nat_le n (96 - l.outline.served) ≡ false = grind (arith, nat_tests) in t) in
    rw (new_is, m_is, whole_is, last_is, left_is, is) (sym (copied_beyond n c l beyond))

-- ---- a wipe of a state, by its outline ----

pub met_outline : (b w : Bool) (l : Left) (s : VgetrandomState) → b ≡ w → IsOutline l.outline s →
    IsOutline (met b l).outline (state_left w s)
met_outline true true l s e is = record { generation = refl; served = refl }
met_outline false false l s e is = is
met_outline true false l s e is = absurd cc
met_outline false true l s e is = absurd cc

pub met_entries : (b w : Bool) (l : Left) → b ≡ w → (met b l).entries ≡ l.entries ++ wipe_entry w
met_entries true true l e = refl
met_entries false false l e = sym (append-nil l.entries)
met_entries true false l e = absurd cc
met_entries false true l e = absurd cc
