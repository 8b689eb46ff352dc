-- Computes a proof that the effects of a line's steps are a form (an allowed pattern) of the line's event. The result
-- is none if no form is found.
use Rattle.std.proofs.Common.{◌≡◌, ℕ, Bool, true, false, Option, Some, None, List, [], ◌∷◌, refl, ◌==◌}
use Rattle.std.specs.Prelude.{not, ◌&&◌}
use Rattle.key_names.specs.declared.entries.Taken.{Taken}
use Rattle.key_names.specs.declared.entries.Taken.TheVariants.{User, Kernel}
use Rattle.key_names.specs.declared.entries.PoolEntry.{PoolEntry}
use Rattle.key_names.specs.declared.entries.PoolEntry.TheVariants.{Mix, Input as InputSample, Bits as ReadBits, Extract}
use Rattle.key_names.specs.declared.entries.BaseEntry.{BaseEntry}
use Rattle.key_names.specs.declared.entries.BaseEntry.TheVariants.{Early, Reseed as Reseeded, Tick as Ticked, Draw}
use Rattle.key_names.specs.declared.entries.BaseEntry.TheVariants.{Refill, End, Wait, Resume, Interrupt, Fork as Forked}
use Rattle.key_names.specs.declared.entries.BaseEntry.TheVariants.{Stall, Unstall}
use Rattle.key_names.specs.declared.entries.CpuEntry.{CpuEntry}
use Rattle.key_names.specs.declared.entries.CpuEntry.TheVariants.{Read as CpuRead, Int, Irq as IrqSample, Dump}
use Rattle.key_names.specs.declared.entries.CpuEntry.TheVariants.{Prepare as Prepared, Online as Onlined}
use Rattle.key_names.specs.declared.events.Event.{Event}
use Rattle.key_names.specs.declared.events.Event.TheVariants.{Device, Write, Add, Credit, Bits, Irq, Input}
use Rattle.key_names.specs.declared.events.Event.TheVariants.{Read, Vread, Kread, Dread, Uread, Int8, Int16, Int32}
use Rattle.key_names.specs.declared.events.Event.TheVariants.{Int64, Reseed, Tick, Fork, Inside, Prepare, Online}
use Rattle.key_names.specs.declared.events.Event.TheVariants.{Vmfork}
use Rattle.key_names.specs.Lanes.PoolList.{Crossing, crossing, ready, early, none}
use Rattle.key_names.specs.Kernel.Flags.{is_bad, is_nonblock, is_insecure}
use Rattle.key_names.specs.Callers.Calls.{Setting}
use Rattle.key_names.specs.Callers.Effects.{Effect, looked, at_pool, at_base, at_cpu}
use Rattle.key_names.specs.Callers.Forms.{Form, EndForm, Rooted, BaseOnly, Cross, DrawForm, PlainRead, RefilledRead}
use Rattle.key_names.specs.Callers.Forms.{CpuReadForm, Looked, ReadForm, WaitedInVain, Waited, LookedForm, SysForm, CreditForm}
use Rattle.key_names.specs.Callers.Forms.{PoolOnly, Stalled, DumpForm, IrqForm, CpuOnly, BatchForm, RefilledBatch, IntForm}
use Rattle.key_names.specs.Callers.Forms.{ReseedForm, VmforkForm, device_entry}
use Rattle.worked_cases.proofs.Decided.{found, found_by, found_both, found_three, found_pair, first_found, found_test}
use Rattle.worked_cases.proofs.Decided.{same_number, at_most}
use Rattle.worked_cases.proofs.SameEntries.{same_pool, same_base, same_cpu}

abbrev pub no_steps : (effects : List Effect) → Option (effects ≡ [])
no_steps [] = Some refl
no_steps (effect ∷ effects) = None

abbrev rooted : (set : Setting) (entry : ℕ → BaseEntry) (effects : List Effect) → Option (Rooted set entry effects)
rooted set entry (at_pool p ∷ at_base b ∷ []) =
    found_both (λ e n. record { pool = p; base = b; effects_are = refl; extracts = e; names = n })
    (same_pool p.entry (Extract set.hw b.place)) (same_base b.entry (entry p.place))
rooted set entry _ = None

abbrev base_only : (entry : BaseEntry) (effects : List Effect) → Option (BaseOnly entry effects)
base_only entry (at_base b ∷ []) = found_by (λ e. record { base = b; effects_are = refl; is = e })
    (same_base b.entry entry)
base_only entry _ = None

abbrev pool_only : (entry : PoolEntry) (effects : List Effect) → Option (PoolOnly entry effects)
pool_only entry (at_pool p ∷ []) = found_by (λ e. record { pool = p; effects_are = refl; is = e })
    (same_pool p.entry entry)
pool_only entry _ = None

abbrev cross_found : (set : Setting) (c : Crossing) (effects : List Effect) → Option (Cross set c effects)
cross_found set none effects = no_steps effects
cross_found set ready effects = rooted set (λ r. Reseeded r set.now) effects
cross_found set early effects = first_found (rooted set (λ r. Early (Some r)) effects) (base_only (Early None) effects)

abbrev draw_found : (set : Setting) (taken : Taken) (effects : List Effect) → Option (DrawForm set taken effects)
draw_found set taken effects = first_found (rooted set (λ r. Draw (Some r) taken) effects)
    (base_only (Draw None taken) effects)

abbrev plain_read : (set : Setting) (taken : Taken) (effects : List Effect) → Option (PlainRead set taken effects)
plain_read set taken (looked g ∷ at_cpu v ∷ []) =
    found_both (λ on e. record { look = g; cpu = v; effects_are = refl; on = on; reads = e })
    (found (same_number v.cpu set.cpu)) (same_cpu v.entry (CpuRead g None taken))
plain_read set taken _ = None

abbrev refilled_read : (set : Setting) (taken : Taken) (effects : List Effect) → Option (RefilledRead set taken effects)
refilled_read set taken (looked g ∷ at_base b ∷ at_cpu v ∷ []) =
    found_three (λ on r e. record { look = g; base = b; cpu = v; effects_are = refl; on = on; refills = r; reads = e })
    (found (same_number v.cpu set.cpu)) (same_base b.entry (Refill set.cpu v.place))
    (same_cpu v.entry (CpuRead g (Some b.place) taken))
refilled_read set taken _ = None

abbrev pub cpu_read : (set : Setting) (taken : Taken) (effects : List Effect) → Option (CpuReadForm set taken effects)
cpu_read set taken effects = first_found (plain_read set taken effects) (refilled_read set taken effects)

abbrev after_look : {P : ℕ → List Effect → Type 0} → ((g : ℕ) (rest : List Effect) → Option (P g rest)) →
    (effects : List Effect) → Option (Looked P effects)
after_look d (looked g ∷ rest) = found_by (λ p. (g, rest, refl, p)) (d g rest)
after_look d _ = None

abbrev read_found : (set : Setting) (taken : Taken) (g : ℕ) (rest : List Effect) → Option (ReadForm set taken g rest)
read_found set taken g rest =
    first_found (found_pair (found (same_number g 0)) (draw_found set taken rest)) (cpu_read set taken rest)

abbrev in_vain : (effects : List Effect) → Option (WaitedInVain effects)
in_vain (at_base w ∷ at_base i ∷ []) =
    found_both (λ p q. record { wait = w; interrupt = i; effects_are = refl; waits = p; interrupts = q })
    (same_base w.entry Wait) (same_base i.entry Interrupt)
in_vain _ = None

abbrev waited : (set : Setting) (n : ℕ) (effects : List Effect) → Option (Waited set n effects)
waited set n (at_base w ∷ at_base r ∷ rest) =
    found_three (λ p q c. record {
      wait = w;
      resume = r;
      rest = rest;
      effects_are = refl;
      waits = p;
      resumes = q;
      reads = c;
    })
    (same_base w.entry Wait) (same_base r.entry Resume)
    (found_test (n == 0) (no_steps rest) (cpu_read set (User n) rest))
waited set n _ = None

abbrev pub system_call_found : (set : Setting) (n flags : ℕ) (effects : List Effect) → Option (SysForm set n flags effects)
system_call_found set n flags effects = found_test (is_bad flags) (no_steps effects) (after_look looked_found effects)
  where
    looked_found : (g : ℕ) (rest : List Effect) → Option (LookedForm set n flags g rest)
    looked_found g rest = found_test (g == 0 && not (is_insecure flags))
        (found_test (is_nonblock flags) (no_steps rest) (first_found (in_vain rest) (waited set n rest)))
        (found_test (n == 0) (no_steps rest) (read_found set (User n) g rest))

abbrev credit_found : (set : Setting) (entry : PoolEntry) (effects : List Effect) → Option (CreditForm set entry effects)
credit_found set entry (at_pool p ∷ rest) =
    found_both (λ e c. record { pool = p; rest = rest; effects_are = refl; credits = e; crosses = c })
    (same_pool p.entry entry) (cross_found set (crossing p.before.bits p.after.bits) rest)
credit_found set entry _ = None

abbrev stalled : (child : ℕ) (effects : List Effect) → Option (Stalled child effects)
stalled child (at_base f ∷ at_base s ∷ at_base u ∷ []) =
    found_three (λ p q r. record {
      fork = f;
      stall = s;
      unstall = u;
      effects_are = refl;
      forks = p;
      stalls = q;
      unstalls = r;
    })
    (same_base f.entry (Forked child)) (same_base s.entry Stall) (same_base u.entry Unstall)
stalled child _ = None

-- the bytes that a `Mix` entry of the pool mixes, and the bits that it credits; none for any other entry
abbrev mix_of : PoolEntry → List ℕ × ℕ
mix_of (Mix text bits) = (text, bits)
mix_of _ = ([], 0)

abbrev mix_after : List Effect → List ℕ × ℕ
mix_after (at_pool p ∷ rest) = mix_of p.entry
mix_after _ = ([], 0)

abbrev dump_found : (set : Setting) (effects : List Effect) → Option (DumpForm set effects)
dump_found set (at_cpu d ∷ rest) =
    let mix = mix_after rest in
    found_three (λ on e m. record {
      dump = d;
      text = mix.0;
      bits = mix.1;
      rest = rest;
      effects_are = refl;
      on = on;
      dumps = e;
      mixes = m;
    })
    (found (same_number d.cpu set.cpu)) (same_cpu d.entry (Dump set.now))
    (credit_found set (Mix mix.0 mix.1) rest)
dump_found set _ = None

abbrev irq_found : (set : Setting) (v1 v2 : ℕ) (effects : List Effect) → Option (IrqForm set v1 v2 effects)
irq_found set v1 v2 (at_cpu s ∷ rest) =
    found_three (λ on e d. record { sample = s; rest = rest; effects_are = refl; on = on; samples = e; dumps = d })
    (found (same_number s.cpu set.cpu)) (same_cpu s.entry (IrqSample v1 v2 set.now))
    (first_found (no_steps rest) (dump_found set rest))
irq_found set v1 v2 _ = None

abbrev cpu_only : (cpu : ℕ) (entry : CpuEntry) (effects : List Effect) → Option (CpuOnly cpu entry effects)
cpu_only cpu entry (at_cpu v ∷ []) =
    found_both (λ on e. record { visit = v; effects_are = refl; on = on; is = e })
    (found (same_number v.cpu cpu)) (same_cpu v.entry entry)
cpu_only cpu entry _ = None

abbrev fills_of : CpuEntry → Bool
fills_of (Int look refill width filled) = filled
fills_of _ = false

abbrev batch_found : (set : Setting) (width : ℕ) (effects : List Effect) → Option (BatchForm set width effects)
batch_found set width (looked g ∷ at_cpu v ∷ []) =
    found_both (λ on e. record { look = g; cpu = v; filled = fills_of v.entry; effects_are = refl; on = on; serves = e })
    (found (same_number v.cpu set.cpu)) (same_cpu v.entry (Int g None width (fills_of v.entry)))
batch_found set width _ = None

abbrev refilled_batch : (set : Setting) (width : ℕ) (effects : List Effect) → Option (RefilledBatch set width effects)
refilled_batch set width (looked g ∷ at_base b ∷ at_cpu v ∷ []) =
    found_three (λ on r e. record { look = g; base = b; cpu = v; effects_are = refl; on = on; refills = r; serves = e })
    (found (same_number v.cpu set.cpu)) (same_base b.entry (Refill set.cpu v.place))
    (same_cpu v.entry (Int g (Some b.place) width true))
refilled_batch set width _ = None

abbrev int_found : (set : Setting) (width g : ℕ) (rest : List Effect) → Option (IntForm set width g rest)
int_found set width g rest = first_found
    (found_pair (found (same_number g 0)) (first_found (draw_found set (Kernel width) rest)
    (cpu_read set (Kernel width) rest)))
    (found_pair (found (at_most 1 g)) (first_found (batch_found set width rest) (refilled_batch set width rest)))

abbrev reseed_found : (set : Setting) (g : ℕ) (rest : List Effect) → Option (ReseedForm set g rest)
reseed_found set g rest = first_found
    (found_pair (found (same_number g 0)) (no_steps rest))
    (found_pair (found (at_most 1 g)) (rooted set (λ r. Reseeded r set.now) rest))

abbrev vmfork_found : (set : Setting) (word : ℕ) (text : List ℕ) (effects : List Effect) →
    Option (VmforkForm set word text effects)
vmfork_found set word text (at_pool p ∷ rest) =
    found_both (λ e r. record { pool = p; rest = rest; effects_are = refl; mixes = e; reseeds = r })
    (same_pool p.entry (device_entry word text)) (after_look (reseed_found set) rest)
vmfork_found set word text _ = None

-- a proof that `effects` are a form of `event`, or none
abbrev pub form_found : (set : Setting) (event : Event) (effects : List Effect) → Option (Form set event effects)
form_found set (Write text) effects = pool_only (Mix text 0) effects
form_found set (Device word text) effects = pool_only (device_entry word text) effects
form_found set Bits effects = pool_only ReadBits effects
form_found set (Add text bits) effects = credit_found set (Mix text bits) effects
form_found set (Credit bits) effects = credit_found set (Mix [] bits) effects
form_found set (Input word kind code value) effects = credit_found set (InputSample word kind code value set.now) effects
form_found set (Kread len) effects = found_test (len == 0) (no_steps effects)
    (after_look (read_found set (Kernel len)) effects)
form_found set (Uread len) effects = found_test (len == 0) (no_steps effects)
    (after_look (read_found set (User len)) effects)
form_found set (Read len flags) effects = system_call_found set len flags effects
form_found set (Dread len flag) effects = system_call_found set len flag effects
form_found set Int8 effects = after_look (int_found set 1) effects
form_found set Int16 effects = after_look (int_found set 2) effects
form_found set Int32 effects = after_look (int_found set 4) effects
form_found set Int64 effects = after_look (int_found set 8) effects
form_found set Reseed effects = after_look (reseed_found set) effects
form_found set Tick effects = first_found (base_only (Ticked set.now None) effects)
    (rooted set (λ r. Ticked set.now (Some r)) effects)
form_found set (Fork child) effects = first_found (base_only (Forked child) effects) (stalled child effects)
form_found set (Prepare cpu) effects = cpu_only cpu Prepared effects
form_found set (Online cpu) effects = cpu_only cpu Onlined effects
form_found set (Vmfork word text) effects = vmfork_found set word text effects
form_found set (Irq v1 v2) effects = irq_found set v1 v2 effects
form_found set (Vread len flags) effects = None
form_found set (Inside point act) effects = None
form_found set _ effects = no_steps effects

abbrev pub end_form : (effects : List Effect) → Option (EndForm effects)
end_form effects = base_only End effects
