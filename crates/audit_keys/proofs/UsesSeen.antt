-- A use that the code lists also has its entry. If the bytes were kept, it also has the name of the new key. Without
-- these two, the listed uses are the uses of `key_names`.
use Rattle.std.proofs.Common.{◌≡◌, ◌+◌, ◌*◌, ℕ, Bool, true, false, List, [], ◌∷◌, ◌++◌, Option, Some, None, refl, ap, ◌∙◌}
use Rattle.std.specs.Prelude.{nat_lt, if◌then◌else◌}
use Rattle.std.proofs.lemmas.List.{map-append}
use Rattle.key_names.specs.declared.names.LaneId.TheVariants.{Base as BaseLane, Cpu as CpuLane}
use Rattle.key_names.specs.declared.names.KeyName.{KeyName}
use Rattle.key_names.specs.declared.names.KeyName.TheVariants.{Base, Cpu, Call, Vdso}
use Rattle.key_names.specs.declared.entries.Taken.{Taken}
use Rattle.key_names.specs.declared.entries.Taken.TheVariants.{User, Kernel}
use Rattle.key_names.specs.declared.entries.BaseEntry.{BaseEntry}
use Rattle.key_names.specs.declared.entries.BaseEntry.TheVariants.{Early, Reseed, Tick, Draw, Refill as BaseRefill}
use Rattle.key_names.specs.declared.entries.BaseEntry.TheVariants.{Fork, End, Wait, Resume}
use Rattle.key_names.specs.declared.entries.BaseEntry.TheVariants.{Interrupt, Stall, Unstall}
use Rattle.key_names.specs.declared.entries.CpuEntry.{CpuEntry}
use Rattle.key_names.specs.declared.entries.CpuEntry.TheVariants.{Read, Int, Irq, Dump, Prepare, Online}
use Rattle.key_names.specs.declared.entries.VEntry.{VEntry}
use Rattle.key_names.specs.declared.entries.VEntry.TheVariants.{Rekey, Blocks, Refill, Serve, Wipe}
use Rattle.key_names.specs.Kernel.Batches.{Fill}
use Rattle.key_names.specs.Lanes.BaseList.{BaseState, base_start, base_step, base_key_in_use}
use Rattle.key_names.specs.Lanes.CpuList.{CpuState, cpu_start, cpu_step, cpu_key_in_use}
use Rattle.key_names.specs.Lanes.StateList.{NamedState, state_start, state_step}
use Rattle.key_names.specs.Keys.Uses.{Use, kept, use_of, uses_from, named_uses, read_uses, taken_uses, batch_uses}
use Rattle.key_names.specs.Keys.Uses.{base_uses_at, cpu_uses_at, state_uses_at}
use Rattle.audit_keys.specs.declared.state_uses.StateOf.{StateOf}
use Rattle.audit_keys.specs.declared.used.Origin.{Origin}
use Rattle.audit_keys.specs.declared.used.Origin.TheVariants.{Lane}
use Rattle.audit_keys.specs.declared.used.Used.{Used}
use Rattle.audit_keys.specs.ListedFrom.{listed_from}
use Rattle.audit_keys.specs.UsedAt.{kept_as, served_by, named_used, taken_used, read_used, batch_used, state_origin}
use Rattle.audit_keys.specs.UsedAt.{base_used_at, cpu_used_at, state_used_at}
use Rattle.audit_keys.specs.UsesSeen.{use_seen, uses_seen, AreSeenAsUses}

seen_from : {S E : Type 0} (used_at : S → E → List Used) (uses_at : S → E → List Use) (step : S → E → S) →
    ((s : S) (e : E) → uses_seen (used_at s e) ≡ uses_at s e) → (s : S) (es : List E) →
    uses_seen (listed_from used_at step s es) ≡ uses_from uses_at step s es
seen_from used_at uses_at step seen s [] = refl
seen_from used_at uses_at step seen s (e ∷ es) =
    map-append use_seen (used_at s e) (listed_from used_at step (step s e) es)
    ∙ ap (λ us. us ++ uses_seen (listed_from used_at step (step s e) es)) (seen s e)
    ∙ ap (λ us. uses_at s e ++ us) (seen_from used_at uses_at step seen (step s e) es)

named_seen : (key : Option KeyName) (used_of : KeyName → List Used) (uses_of : KeyName → List Use) →
    ((k : KeyName) → uses_seen (used_of k) ≡ uses_of k) → uses_seen (named_used key used_of) ≡ named_uses key uses_of
named_seen None used_of uses_of seen = refl
named_seen (Some key) used_of uses_of seen = seen key

seen_if : (b : Bool) (us vs : List Used) (us' vs' : List Use) → uses_seen us ≡ us' → uses_seen vs ≡ vs' →
    uses_seen (if b then us else vs) ≡ (if b then us' else vs')
seen_if true us vs us' vs' h k = h
seen_if false us vs us' vs' h k = k

one_seen_if : (b : Bool) (u v : Used) →
    uses_seen ((if b then u else v) ∷ []) ≡ (if b then use_seen u else use_seen v) ∷ []
one_seen_if true u v = refl
one_seen_if false u v = refl

taken_seen : (rekeys : Bool) (by : Origin) (key call : KeyName) (taken : Taken) →
    uses_seen (taken_used rekeys by key call taken) ≡ taken_uses rekeys key call taken
taken_seen rekeys by key call (Kernel n) = refl
taken_seen rekeys by key call (User n) =
    seen_if (nat_lt 32 n) (kept_as by key 32 call ∷ served_by by call 64 n ∷ [])
    ((if rekeys then kept_as by key 32 call else served_by by key 32 n) ∷ []) _ _ refl
    (one_seen_if rekeys (kept_as by key 32 call) (served_by by key 32 n))

read_seen : (rekeys : Bool) (by : Origin) (key next call : KeyName) (taken : Taken) →
    uses_seen (read_used rekeys by key next call taken) ≡ read_uses rekeys key call taken
read_seen rekeys by key next call taken = ap (λ us. use_of kept key 0 32 ∷ us) (taken_seen rekeys by key call taken)

base_seen_at : (s : BaseState) (e : BaseEntry) → uses_seen (base_used_at s e) ≡ base_uses_at s e
base_seen_at s (Draw root taken) = named_seen (base_key_in_use (Draw root taken) s.key)
    (λ key. read_used false (Lane BaseLane s.place) key (Base s.place) (Call BaseLane s.place) taken) _
    (λ key. read_seen false (Lane BaseLane s.place) key (Base s.place) (Call BaseLane s.place) taken)
base_seen_at s (BaseRefill cpu cpu_place) = named_seen s.key
    (λ key. kept_as (Lane BaseLane s.place) key 0 (Base s.place)
    ∷ kept_as (Lane BaseLane s.place) key 32 (Call BaseLane s.place) ∷ []) _ (λ key. refl)
base_seen_at s (Early root) = refl
base_seen_at s (Reseed root now) = refl
base_seen_at s (Tick now root) = refl
base_seen_at s (Fork child) = refl
base_seen_at s End = refl
base_seen_at s Wait = refl
base_seen_at s Resume = refl
base_seen_at s Interrupt = refl
base_seen_at s Stall = refl
base_seen_at s Unstall = refl

batch_seen : (by : Origin) (width : ℕ) (fill : Option Fill) →
    uses_seen (batch_used by width fill) ≡ batch_uses width fill
batch_seen by width None = refl
batch_seen by width (Some fill) = named_seen fill.key
    (λ key. served_by by key (32 + width * fill.count) width ∷ []) _ (λ key. refl)

cpu_seen_at : (c : ℕ) (rekeys : ℕ → Bool) (s : CpuState) (e : CpuEntry) →
    uses_seen (cpu_used_at c rekeys s e) ≡ cpu_uses_at c rekeys s e
cpu_seen_at c rekeys s (Read look refill taken) = named_seen (cpu_key_in_use (Read look refill taken) s.key)
    (λ key. read_used (rekeys s.place) (Lane (CpuLane c) s.place) key (Cpu c s.place) (Call (CpuLane c) s.place)
    taken) _
    (λ key. read_seen (rekeys s.place) (Lane (CpuLane c) s.place) key (Cpu c s.place) (Call (CpuLane c) s.place)
    taken)
cpu_seen_at c rekeys s (Int look refill width true) =
    named_seen (cpu_key_in_use (Int look refill width true) s.key)
    (λ key. kept_as (Lane (CpuLane c) s.place) key 0 (Cpu c s.place)
    ∷ served_by (Lane (CpuLane c) s.place) key 32 width ∷ []) _ (λ key. refl)
cpu_seen_at c rekeys s (Int look refill width false) =
    batch_seen (Lane (CpuLane c) s.place) width (s.fills width)
cpu_seen_at c rekeys s (Irq v1 v2 now) = refl
cpu_seen_at c rekeys s (Dump now) = refl
cpu_seen_at c rekeys s Prepare = refl
cpu_seen_at c rekeys s Online = refl

state_seen_at : (of : StateOf) (s : NamedState) (e : VEntry) → uses_seen (state_used_at of s e) ≡ state_uses_at s e
state_seen_at of s (Rekey cpu cpu_place) = refl
state_seen_at of s (Blocks from count) = named_seen s.key
    (λ key. served_by (state_origin of s.place) key (64 * from) (64 * count) ∷ []) _ (λ key. refl)
state_seen_at of s (Refill from) = named_seen s.key
    (λ key. kept_as (state_origin of s.place) key (64 * from + 96) (Vdso of.caller of.state s.refills) ∷ []) _
    (λ key. refl)
state_seen_at of s (Serve pos len) = named_seen s.batch_key
    (λ key. served_by (state_origin of s.place) key (64 * s.batch_from + pos) len ∷ []) _ (λ key. refl)
state_seen_at of s Wipe = refl

pub are_seen_as_uses : AreSeenAsUses
are_seen_as_uses = record {
  base = seen_from base_used_at base_uses_at base_step base_seen_at base_start;
  cpus = λ base c rekeys. seen_from (cpu_used_at c rekeys) (cpu_uses_at c rekeys) (cpu_step base c)
      (cpu_seen_at c rekeys) cpu_start;
  states = λ of. seen_from (state_used_at of) state_uses_at (state_step of.caller of.state) (state_seen_at of)
      state_start;
}
