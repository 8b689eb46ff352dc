-- In lawful lists the served bytes of each batch are 0.
use Rattle.std.proofs.Common.{◌≡◌, ℕ, zero, suc, ◌+◌, ◌*◌, Bool, true, false, List, [], ◌∷◌, ◌++◌, refl, sym, subst, ap, ◌∙◌, arith, Some, None, Option, take, drop, replicate}
use Rattle.std.specs.Prelude.{◌==◌, if◌then◌else◌}
use Rattle.std.specs.List.{fold}
use Rattle.std.proofs.lemmas.Bool.{eqb-true}
use Rattle.key_names.specs.declared.entries.CpuEntry.{CpuEntry}
use Rattle.key_names.specs.declared.entries.CpuEntry.TheVariants.{Read, Int, Irq, Dump, Prepare, Online}
use Rattle.key_names.specs.declared.entries.VEntry.{VEntry}
use Rattle.key_names.specs.declared.entries.VEntry.TheVariants.{Rekey, Blocks, Refill, Serve, Wipe}
use Rattle.key_names.specs.Kernel.Keystream.{keystream}
use Rattle.key_names.specs.Lanes.LawfulList.{LawfulFrom}
use Rattle.key_names.specs.Kernel.Batches.{Fill, batch_pos, batch_step, with_zeros, must_fill, one_more_served, fills_after}
use Rattle.key_names.specs.Lanes.CpuList.{CpuState, CpuFits, CpuMayCome, cpu_step, cpu_key_in_use}
use Rattle.key_names.specs.Lanes.StateList.{NamedState, anything, StateMayCome, state_step}
use Rattle.key_names.specs.Keys.KeyInUse.{cpu_value_in_use}
use Rattle.key_names.specs.Keys.LiveMaterial.{CpuBytes, cpu_bytes_step, StateBytes, state_bytes_step}
use Rattle.key_names.specs.Lanes.Book.{Lists}

-- the first n bytes are 0
abbrev pub StartsZero : ℕ → List ℕ → Type 0
StartsZero n bytes = take n bytes ≡ replicate n 0

pub zeros_front : (n : ℕ) (rest : List ℕ) → StartsZero n (replicate n 0 ++ rest)
zeros_front zero rest = refl
zeros_front (suc n) rest = ap (λ xs. 0 ∷ xs) (zeros_front n rest)

zeros_both : (m n : ℕ) (rest : List ℕ) → StartsZero (m + n) (replicate m 0 ++ replicate n 0 ++ rest)
zeros_both zero n rest = let p : n ≡ zero + n = omega arith in
    let P : ℕ → Type 0 = λ x. StartsZero x (replicate n 0 ++ rest) in subst P p (zeros_front n rest)
zeros_both (suc m) n rest = let p : suc (m + n) ≡ suc m + n = omega arith in
    let P : ℕ → Type 0 = λ x. StartsZero x (0 ∷ (replicate m 0 ++ replicate n 0 ++ rest)) in
    subst P p (ap (λ xs. 0 ∷ xs) (zeros_both m n rest))

-- if the first `from` bytes are 0, and the next `len` become 0, the first `from + len` are 0
pub zeros_more : (from len : ℕ) (bytes : List ℕ) → StartsZero from bytes →
    StartsZero (from + len) (with_zeros from len bytes)
zeros_more from len bytes h = rw h (zeros_both from len (drop (from + len) bytes))

-- the served bytes of a batch are 0, and so are all bytes of a batch without a fill
pub record BatchOk (w : ℕ) (o : Option Fill) (bytes : List ℕ) : Type 0 where
  pub served : StartsZero (batch_pos w o) bytes
  pub dead : o ≡ None → bytes ≡ replicate 96 0

filled : (w width : ℕ) (fill : Fill) (o : Option Fill) (used bytes : List ℕ) → fill.count ≡ 1 → BatchOk w o bytes →
    (b : Bool) →
    BatchOk w (if b then Some fill else o) (if b then with_zeros 0 w (keystream used 32 96) else bytes)
filled w width fill o used bytes one ok false = ok
filled w width fill o used bytes one ok true = record {
  served = (let p : w ≡ w * fill.count = (let q : w ≡ w * 1 = omega arith in q ∙ ap (λ n. w * n) (sym one)) in
      let P : ℕ → Type 0 = λ n. StartsZero n (with_zeros 0 w (keystream used 32 96)) in
      subst P p (zeros_front w (drop (0 + w) (keystream used 32 96))));
  dead = λ e. cc;
}

served : (w look : ℕ) (o : Option Fill) (bytes : List ℕ) → false ≡ must_fill look w o → BatchOk w o bytes →
    BatchOk w (one_more_served o) (with_zeros (batch_pos w o) w bytes)
served w look None bytes fits ok = cc
served w look (Some fill) bytes fits ok = record {
  served = (let p : w * fill.count + w ≡ w * suc fill.count = omega arith in
      let P : ℕ → Type 0 = λ n. StartsZero n (with_zeros (w * fill.count) w bytes) in
      subst P p (zeros_more (w * fill.count) w bytes ok.served));
  dead = λ e. cc;
}

served_if : (w width look : ℕ) (fills : ℕ → Option Fill) (bytes : List ℕ) →
    false ≡ must_fill look width (fills width) → BatchOk w (fills w) bytes →
    (b : Bool) → (w == width) ≡ b →
    BatchOk w (if b then one_more_served (fills w) else fills w)
    (if b then with_zeros (batch_pos w (fills w)) w bytes else bytes)
served_if w width look fills bytes fits ok false is = ok
served_if w width look fills bytes fits ok true is =
    let same : width ≡ w = sym (eqb-true w width is) in
    let P : ℕ → Type 0 = λ x. false ≡ must_fill look x (fills x) in
    served w look (fills w) bytes (subst P same fits) ok

cpu_batch_step : (w : ℕ) (s : CpuState) (e : CpuEntry) (used bytes : List ℕ) → CpuFits s e →
    BatchOk w (s.fills w) bytes →
    BatchOk w (fills_after s.place e (cpu_key_in_use e s.key) s.fills w) (batch_step w used (s.fills w) bytes e)
cpu_batch_step w s (Read look refill taken) used bytes fits ok = ok
cpu_batch_step w s (Int look refill width true) used bytes fits ok =
    filled w width (record {
      key = cpu_key_in_use (Int look refill width true) s.key;
      place = s.place;
      count =
          1;
      look = look;
    }) (s.fills w) used bytes refl ok (w == width)
cpu_batch_step w s (Int look refill width false) used bytes fits ok =
    served_if w width look s.fills bytes fits.fills ok (w == width) refl
cpu_batch_step w s (Irq v1 v2 now) used bytes fits ok = ok
cpu_batch_step w s (Dump now) used bytes fits ok = ok
cpu_batch_step w s Prepare used bytes fits ok = record { served = refl; dead = λ e. refl }
cpu_batch_step w s Online used bytes fits ok = ok

-- if BatchOk holds for the batch of width w, it still holds after the entries of a lawful list of a CPU
pub cpu_batches_ok : (lists : Lists) (c w : ℕ) (s : CpuBytes) (es : List CpuEntry) →
    LawfulFrom (CpuMayCome lists.base c) (cpu_step lists.base c) s.named es → BatchOk w (s.named.fills w) (s.batch w) →
    BatchOk w ((fold (cpu_step lists.base c) s.named es).fills w) ((fold (cpu_bytes_step lists c) s es).batch w)
cpu_batches_ok lists c w s [] lawful ok = ok
cpu_batches_ok lists c w s (e ∷ es) lawful ok =
    cpu_batches_ok lists c w (cpu_bytes_step lists c s e) es lawful.1
    (cpu_batch_step w s.named e (cpu_value_in_use lists e s.value) (s.batch w) lawful.0.fits ok)

-- the served bytes of a state's batch are 0, unless a rekey or blocks still need a refill
abbrev pub StateOk : NamedState → List ℕ → Type 0
StateOk s bytes = s.expected ≡ anything → StartsZero s.pos bytes

state_batch_ok : (lists : Lists) (cpu_list : ℕ → List CpuEntry) (caller state : ℕ) (s : NamedState) (b : StateBytes)
    (e : VEntry) →
    StateMayCome cpu_list s e → StateOk s b.batch →
    StateOk (state_step caller state s e) (state_bytes_step lists b e).batch
state_batch_ok lists cpu_list caller state s b (Rekey cpu cpu_place) may ok any = cc
state_batch_ok lists cpu_list caller state s b (Blocks from count) may ok any = cc
state_batch_ok lists cpu_list caller state s b (Refill from) may ok any = refl
state_batch_ok lists cpu_list caller state s b (Serve pos len) may ok any =
    zeros_more pos len b.batch (let P : ℕ → Type 0 = λ n. StartsZero n b.batch in subst P (sym may.0.1) (ok may.0.0))
state_batch_ok lists cpu_list caller state s b Wipe may ok any = refl

pub state_batches_ok : (lists : Lists) (cpu_list : ℕ → List CpuEntry) (caller state : ℕ) (s : NamedState)
    (b : StateBytes) (es : List VEntry) →
    LawfulFrom (StateMayCome cpu_list) (state_step caller state) s es → StateOk s b.batch →
    StateOk (fold (state_step caller state) s es) (fold (state_bytes_step lists) b es).batch
state_batches_ok lists cpu_list caller state s b [] lawful ok = ok
state_batches_ok lists cpu_list caller state s b (e ∷ es) lawful ok =
    state_batches_ok lists cpu_list caller state (state_step caller state s e) (state_bytes_step lists b e) es lawful.1
    (state_batch_ok lists cpu_list caller state s b e lawful.0 ok)
