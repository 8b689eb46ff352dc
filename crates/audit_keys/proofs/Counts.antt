-- A list has at most one refill, or one integer from a batch, for each entry. So a count of refills or of integers
-- overflows 64 bits only if the list has 2^64 entries.
use Rattle.std.proofs.Common.{◌≤◌, ◌+◌, ◌^◌, ℕ, suc, Bool, true, false, List, [], ◌∷◌, Option, Some, None, ap, arith}
use Rattle.std.specs.Prelude.{unwrap_or, ◌==◌, if◌then◌else◌, Result, Ok, Err, OnErr}
use Rattle.std.specs.List.{fold}
use Rattle.key_names.specs.declared.entries.BaseEntry.{BaseEntry}
use Rattle.key_names.specs.declared.entries.CpuEntry.{CpuEntry}
use Rattle.key_names.specs.declared.entries.CpuEntry.TheVariants.{Read, Int, Irq, Dump, Prepare, Online}
use Rattle.key_names.specs.declared.entries.VEntry.{VEntry}
use Rattle.key_names.specs.declared.entries.VEntry.TheVariants.{Rekey, Blocks, Refill, Serve, Wipe}
use Rattle.key_names.specs.Kernel.Batches.{Fill, one_more_served}
use Rattle.key_names.specs.Lanes.CpuList.{CpuState, cpu_step, cpu_key_in_use}
use Rattle.key_names.specs.Lanes.StateList.{NamedState, state_step}
use Rattle.audit_keys.specs.declared.cpu_uses.CpuKeys.{CpuKeys}
use Rattle.audit_keys.specs.Fills.{fill_of, count_of, CpuConforms, IsCountedOut}
use Rattle.audit_keys.specs.StateKeys.{IsRefilledOut}

pub refills_below : (caller state : ℕ) (s : NamedState) (es : List VEntry) → s.refills ≤ s.place →
    (fold (state_step caller state) s es).refills ≤ (fold (state_step caller state) s es).place
refills_below caller state s [] h = h
refills_below caller state s (Rekey cpu cpu_place ∷ es) h =
    refills_below caller state (state_step caller state s (Rekey cpu cpu_place)) es (omega (arith, h))
refills_below caller state s (Blocks from count ∷ es) h =
    refills_below caller state (state_step caller state s (Blocks from count)) es (omega (arith, h))
refills_below caller state s (Refill from ∷ es) h =
    refills_below caller state (state_step caller state s (Refill from)) es (omega (arith, h))
refills_below caller state s (Serve pos len ∷ es) h =
    refills_below caller state (state_step caller state s (Serve pos len)) es (omega (arith, h))
refills_below caller state s (Wipe ∷ es) h =
    refills_below caller state (state_step caller state s Wipe) es (omega (arith, h))

pub refilled_out : (refills : ℕ) (e : VEntry) → IsRefilledOut refills e → 2 ^ 64 ≤ refills + 1
refilled_out refills (Refill from) out = out
refilled_out refills (Rekey cpu cpu_place) out = absurd out
refilled_out refills (Blocks from count) out = absurd out
refilled_out refills (Serve pos len) out = absurd out
refilled_out refills Wipe out = absurd out

abbrev pub AreCounted : ℕ → (ℕ → Option Fill) → Type 0
AreCounted place fills = (w : ℕ) → count_of (fill_of (fills w)) ≤ place

one_more : (o : Option Fill) (place : ℕ) → count_of (fill_of o) ≤ place →
    count_of (fill_of (one_more_served o)) ≤ suc place
one_more None place h = omega arith
one_more (Some fill) place h = omega (arith, h)

either : (b : Bool) (o p : Option Fill) (place : ℕ) → count_of (fill_of o) ≤ suc place →
    count_of (fill_of p) ≤ place → count_of (fill_of (if b then o else p)) ≤ suc place
either true o p place h k = h
either false o p place h k = omega (arith, k)

step_counts : (base : List BaseEntry) (c : ℕ) (s : CpuState) (e : CpuEntry) → AreCounted s.place s.fills →
    AreCounted (suc s.place) (cpu_step base c s e).fills
step_counts base c s (Read look refill taken) h w = (let low = h w in omega (arith, low))
step_counts base c s (Int look refill width true) h w = either (w == width)
    (Some (record {
      key = cpu_key_in_use (Int look refill width true) s.key;
      place = s.place;
      count = 1;
      look = look;
    })) (s.fills w) s.place (omega arith) (h w)
step_counts base c s (Int look refill width false) h w =
    either (w == width) (one_more_served (s.fills w)) (s.fills w) s.place (one_more (s.fills w) s.place (h w)) (h w)
step_counts base c s (Irq v1 v2 now) h w = (let low = h w in omega (arith, low))
step_counts base c s (Dump now) h w = (let low = h w in omega (arith, low))
step_counts base c s Prepare h w = omega arith
step_counts base c s Online h w = (let low = h w in omega (arith, low))

pub counts_below : (base : List BaseEntry) (c : ℕ) (s : CpuState) (es : List CpuEntry) → AreCounted s.place s.fills →
    AreCounted (fold (cpu_step base c) s es).place (fold (cpu_step base c) s es).fills
counts_below base c s [] h = h
counts_below base c s (e ∷ es) h = counts_below base c (cpu_step base c s e) es (step_counts base c s e h)

pub counted_out : (s : CpuState) (place : ℕ) (keys : CpuKeys) (e : CpuEntry) → CpuConforms s place keys →
    AreCounted s.place s.fills → IsCountedOut keys.fills e → 2 ^ 64 ≤ place + 1
counted_out s place keys (Read look refill taken) conforms counts out = absurd out
counted_out s place keys (Int look refill width true) conforms counts out = absurd out
counted_out s place keys (Int look refill width false) conforms counts out =
    let is = ap (λ o. count_of (unwrap_or o None)) (conforms.fills width out.0) in
    let low = counts width in
    let same = conforms.place_is in
    let high = out.1 in
    omega (arith, is, low, same, high)
counted_out s place keys (Irq v1 v2 now) conforms counts out = absurd out
counted_out s place keys (Dump now) conforms counts out = absurd out
counted_out s place keys Prepare conforms counts out = absurd out
counted_out s place keys Online conforms counts out = absurd out

pub on_err : {A E : Type 0} (r : Result A E) (P : Type 0) → P → OnErr r P
on_err (Ok x) P h = tt
on_err (Err e) P h = h
