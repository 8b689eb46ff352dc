-- The seen steps of a line (kinds, found generations and keys).
use Rattle.std.specs.Prelude.{ℕ, ◌≡◌, ◌^◌, ◌<◌, ◌≤◌, ◌==◌, ◌&&◌, ⊤, Bool, true, false, List, [], ◌∷◌, nat_le}
use Rattle.key_names.specs.declared.entries.BaseEntry.TheVariants.{Resume}
use Rattle.key_names.specs.declared.entries.CpuEntry.{CpuEntry}
use Rattle.key_names.specs.declared.entries.CpuEntry.TheVariants.{Read, Int, Irq, Dump, Prepare, Online}
use Rattle.key_names.specs.Keys.KeyInUse.{taken_bytes}
use Rattle.key_names.specs.Callers.Effects.{Effect, looked, at_pool, at_base, at_cpu, nothing_there, base_serves}
use Rattle.judge_lines.specs.declared.kind.Kind.{Kind}
use Rattle.judge_lines.specs.declared.kind.Kind.TheVariants.{Unready as UnreadyKind, Ready as ReadyKind, Pool as PoolKind}
use Rattle.judge_lines.specs.declared.kind.Kind.TheVariants.{Base as BaseKind, Resumed as ResumedKind, Cpu as CpuKind}
use Rattle.judge_lines.specs.declared.kind.Kind.TheVariants.{OtherCpu}
use Rattle.judge_lines.specs.Kinds.{base_kind}
use Rattle.judge_vread.specs.declared.seen.SeenStep.{SeenStep}
use Rattle.judge_vread.specs.declared.seen.SeenStep.TheVariants.{Unready, Ready, Pool, Base, Resumed, Cpu, Elsewhere}

abbrev pub seen_kind : SeenStep → Kind
seen_kind Unready = UnreadyKind
seen_kind (Ready g) = ReadyKind
seen_kind Pool = PoolKind
seen_kind (Base key) = BaseKind
seen_kind Resumed = ResumedKind
seen_kind (Cpu key) = CpuKind
seen_kind Elsewhere = OtherCpu

-- if the entry is a read, the visit serves the bytes that `key`, the key in use, gives; other visits may serve any
-- bytes
abbrev pub ServesBy : List ℕ → CpuEntry → List ℕ → Type 0
ServesBy key (Read look refill taken) serves = serves ≡ taken_bytes key taken
ServesBy key (Int look refill width filled) serves = ⊤
ServesBy key (Irq v1 v2 now) serves = ⊤
ServesBy key (Dump now) serves = ⊤
ServesBy key Prepare serves = ⊤
ServesBy key Online serves = ⊤

-- the seen step shows the look or visit in the effect; `cpu` is the caller's CPU
abbrev pub IsSeen : ℕ → SeenStep → Effect → Type 0
IsSeen cpu Unready (looked g) = g ≡ 0
IsSeen cpu (Ready found) (looked g) = (g ≡ found) × (1 ≤ found)
IsSeen cpu Pool (at_pool v) = ⊤
IsSeen cpu (Base key) (at_base v) = (base_kind v.entry ≡ BaseKind) × (v.serves ≡ base_serves key v.entry)
IsSeen cpu Resumed (at_base v) = (v.entry ≡ Resume) × (v.serves ≡ [])
IsSeen cpu (Cpu key) (at_cpu v) = (v.cpu ≡ cpu) × ServesBy key v.entry v.serves
IsSeen cpu Elsewhere (at_cpu v) = (v.cpu == cpu) ≡ false
IsSeen cpu Elsewhere nothing_there = ⊤
IsSeen _ _ _ = ⊥

abbrev pub AllSeen : ℕ → List SeenStep → List Effect → Type 0
AllSeen cpu [] [] = ⊤
AllSeen cpu (x ∷ seen) (d ∷ effects) = IsSeen cpu x d × AllSeen cpu seen effects
AllSeen cpu _ _ = ⊥

-- whether the found generations never fall from look to look; `last` is the generation before the first look
abbrev pub rises : ℕ → List SeenStep → Bool
rises last [] = true
rises last (Unready ∷ seen) = last == 0 && rises last seen
rises last (Ready found ∷ seen) = nat_le last found && rises found seen
rises last (Pool ∷ seen) = rises last seen
rises last (Base key ∷ seen) = rises last seen
rises last (Resumed ∷ seen) = rises last seen
rises last (Cpu key ∷ seen) = rises last seen
rises last (Elsewhere ∷ seen) = rises last seen

-- if the seen step is a look, it found a generation below 2^63, as in each transcript
abbrev pub LookFits : SeenStep → Type 0
LookFits Unready = ⊤
LookFits (Ready found) = found < 2 ^ 63
LookFits Pool = ⊤
LookFits (Base key) = ⊤
LookFits Resumed = ⊤
LookFits (Cpu key) = ⊤
LookFits Elsewhere = ⊤
