-- Before each place of a CPU's list, the unserved rest of a batch is keystream of the key that was in use at the
-- batch's last fill.
use Rattle.std.proofs.Common.{◌≡◌, ℕ, suc, ◌+◌, ◌*◌, ◌/◌, ◌≤◌, ◌<◌, Bool, true, false, List, refl, sym, ap, ◌∙◌, subst, arith, Some, None, Option}
use Rattle.std.specs.Prelude.{⊤, ◌==◌, not, ◌||◌, nat_le, if◌then◌else◌}
use Rattle.std.proofs.lemmas.Bool.{eqb-true}
use Rattle.std.proofs.lemmas.Bool.Decides.{nat_tests}
use Rattle.key_names.specs.declared.names.KeyName.{KeyName}
use Rattle.key_names.specs.declared.entries.CpuEntry.{CpuEntry}
use Rattle.key_names.specs.declared.entries.CpuEntry.TheVariants.{Read, Int, Irq, Dump, Prepare, Online}
use Rattle.key_names.specs.Kernel.Keystream.{keystream}
use Rattle.key_names.specs.Kernel.Batches.{Fill, fills_after, one_more_served, must_fill, batch_step, batch_pos, with_zeros}
use Rattle.key_names.specs.Lanes.CpuList.{CpuState, CpuFits, cpu_key_in_use}
use Rattle.key_names.specs.Keys.KeyInUse.{cpu_used_at}
use Rattle.key_names.specs.Lanes.Book.{Lists}
use Rattle.int_batch.specs.BatchValue.{BatchValue, IsBatchOf, filled}
use Rattle.int_batch.proofs.Fills.{IsBatchOf-filled, IsBatchOf-after_serving}

some_room : (width : ℕ) → 1 ≤ width → width ≤ 96 → 0 < 96 / width
some_room width some within = grind arith

pub not_used_up : (look width : ℕ) (fill : Fill) → false ≡ must_fill look width (Some fill) → fill.count < 96 / width
not_used_up look width fill keeps = go (nat_le (96 / width) fill.count) refl
  where
    go : (b : Bool) → nat_le (96 / width) fill.count ≡ b → fill.count < 96 / width
    go true is = let p : false ≡ true = keeps ∙ ap (λ b. b || not (look == fill.look)) is in cc
    go false is = grind (arith, nat_tests)

-- `RestOf fill bytes`: `bytes` are those of a batch of CPU `c` after the fill `fill`, which used the key in use at the
-- fill's place
module _ (lists : Lists) (c width : ℕ) (some : 1 ≤ width) (within : width ≤ 96) where
  abbrev pub RestOf : Option Fill → List ℕ → Type 0
  RestOf None bytes = ⊤
  RestOf (Some fill) bytes =
      IsBatchOf width (cpu_used_at lists c fill.place) fill
      (record { bytes = bytes; position = fill.count; generation = fill.look })

  new_fill : (place look : ℕ) (name : Option KeyName) (used bytes : List ℕ) (o : Option Fill) →
      used ≡ cpu_used_at lists c place → RestOf o bytes → (b : Bool) →
      RestOf (if b then Some (record { key = name; place = place; count = 1; look = look }) else o)
      (if b then with_zeros 0 width (keystream used 32 96) else bytes)
  new_fill place look name used bytes o is rest false = rest
  new_fill place look name used bytes o is rest true =
      let none : Fill = record { key = name; place = place; count = 0; look = look } in
      let one : Fill = record { key = name; place = place; count = 1; look = look } in
      let start : width * 0 ≡ 0 = omega arith in
      let Q : ℕ → Type 0 = λ from. IsBatchOf width used one
      (record { bytes = with_zeros from width (keystream used 32 96); position = 1; generation = look }) in
      let P : List ℕ → Type 0 = λ key. IsBatchOf width key one
      (record { bytes = with_zeros 0 width (keystream used 32 96); position = 1; generation = look }) in
      subst P is (subst Q start
      (IsBatchOf-after_serving width used none (filled (keystream used 32 96) look)
      (IsBatchOf-filled width used none refl) (some_room width some within)))

  one_served : (o : Option Fill) (bytes : List ℕ) → ((fill : Fill) → o ≡ Some fill → fill.count < 96 / width) →
      RestOf o bytes → RestOf (one_more_served o) (with_zeros (batch_pos width o) width bytes)
  one_served None bytes room rest = tt
  one_served (Some fill) bytes room rest =
      let b : BatchValue = record { bytes = bytes; position = fill.count; generation = fill.look } in
      let key : List ℕ = cpu_used_at lists c fill.place in
      let next : fill.count + 1 ≡ suc fill.count = omega arith in
      let P : ℕ → Type 0 = λ n. IsBatchOf width key (record fill { count = suc fill.count })
      (record { bytes = with_zeros (width * fill.count) width bytes; position = n; generation = fill.look }) in
      subst P next (IsBatchOf-after_serving width key fill b rest (room fill refl))

  one_more : (look other : ℕ) (fills : ℕ → Option Fill) (bytes : List ℕ) →
      false ≡ must_fill look other (fills other) → RestOf (fills width) bytes → (b : Bool) → (width == other) ≡ b →
      RestOf (if b then one_more_served (fills width) else fills width)
      (if b then with_zeros (batch_pos width (fills width)) width bytes else bytes)
  one_more look other fills bytes keeps rest false is = rest
  one_more look other fills bytes keeps rest true is =
      let same : other ≡ width = sym (eqb-true width other is) in
      let P : ℕ → Type 0 = λ w. false ≡ must_fill look w (fills w) in
      one_served (fills width) bytes
      (λ fill filled. not_used_up look width fill (subst P same keeps ∙ ap (must_fill look width) filled)) rest

  -- if the entry `e` fits the state `s`, `RestOf` still holds after `e`
  pub rest_next : (s : CpuState) (e : CpuEntry) (used bytes : List ℕ) → used ≡ cpu_used_at lists c s.place →
      CpuFits s e → RestOf (s.fills width) bytes →
      RestOf (fills_after s.place e (cpu_key_in_use e s.key) s.fills width)
      (batch_step width used (s.fills width) bytes e)
  rest_next s (Read look refill taken) used bytes is fits rest = rest
  rest_next s (Int look refill other true) used bytes is fits rest =
      new_fill s.place look (cpu_key_in_use (Int look refill other true) s.key) used bytes (s.fills width) is rest
      (width == other)
  rest_next s (Int look refill other false) used bytes is fits rest =
      one_more look other s.fills bytes fits.fills rest (width == other) refl
  rest_next s (Irq v1 v2 now) used bytes is fits rest = rest
  rest_next s (Dump now) used bytes is fits rest = rest
  rest_next s Prepare used bytes is fits rest = tt
  rest_next s Online used bytes is fits rest = rest
