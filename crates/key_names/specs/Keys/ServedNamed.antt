-- Each visit of a lane serves the bytes of the spans that its entry serves. The named key of a span gives the span's
-- bytes.
use Rattle.std.specs.Prelude.{ℕ, ◌≡◌, false, Option, Some, None, List, [], ◌∷◌, ◌++◌, take, slice_get}
use Rattle.key_names.specs.declared.names.LaneId.{LaneId}
use Rattle.key_names.specs.declared.names.LaneId.TheVariants.{Pool as PoolLane, Base as BaseLane, Cpu as CpuLane}
use Rattle.key_names.specs.declared.names.Span.{Span}
use Rattle.key_names.specs.declared.entries.BaseEntry.{BaseEntry}
use Rattle.key_names.specs.declared.entries.CpuEntry.{CpuEntry}
use Rattle.key_names.specs.Kernel.Keystream.{keystream}
use Rattle.key_names.specs.Keys.KeyInUse.{value_of}
use Rattle.key_names.specs.Lanes.Book.{Lists, LawfulLanes, cpu_list}
use Rattle.key_names.specs.Lanes.BaseList.{base_after}
use Rattle.key_names.specs.Lanes.CpuList.{cpu_after}
use Rattle.key_names.specs.Callers.Effects.{base_visit, cpu_visit}
use Rattle.key_names.specs.Keys.Uses.{Use, Purpose, kept, served, base_uses_at, cpu_uses_at, is_rekeyed}

-- the bytes of a span, from the value of its named key
abbrev pub span_bytes : Lists → Span → List ℕ
span_bytes lists span = keystream (value_of lists span.key) span.from span.len

abbrev pub bytes_for : Purpose → List ℕ → List ℕ
bytes_for kept bytes = []
bytes_for served bytes = bytes

-- the bytes of the served spans among some uses, one after another
abbrev pub served_in : Lists → List Use → List ℕ
served_in lists [] = []
served_in lists (u ∷ us) = bytes_for u.purpose (span_bytes lists u.span) ++ served_in lists us

-- the uses of the entry at a place of the base, and of the entry at a place of a CPU
abbrev pub base_place_uses : Lists → ℕ → BaseEntry → List Use
base_place_uses lists place e = base_uses_at (base_after (take place lists.base)) e

abbrev pub cpu_place_uses : Lists → ℕ → ℕ → CpuEntry → List Use
cpu_place_uses lists c place e =
    cpu_uses_at c (is_rekeyed lists c) (cpu_after lists.base c (take place (cpu_list lists c))) e

-- each visit serves the bytes of its served spans. A read that a vgetrandom state takes as its key serves no caller
pub record VisitsServeNamed (lists : Lists) : Type 0 where
  pub base : (i : ℕ) (e : BaseEntry) → slice_get lists.base i ≡ Some e →
      (base_visit lists i e).serves ≡ served_in lists (base_place_uses lists i e)
  pub cpus : (c k : ℕ) (e : CpuEntry) → slice_get (cpu_list lists c) k ≡ Some e → is_rekeyed lists c k ≡ false →
      (cpu_visit lists c k e).serves ≡ served_in lists (cpu_place_uses lists c k e)

abbrev pub LawfulServesNamed : Type 0
LawfulServesNamed = (lists : Lists) → LawfulLanes lists → VisitsServeNamed lists

abbrev pub uses_or : {E : Type 0} → (E → List Use) → Option E → List Use
uses_or uses_of None = []
uses_or uses_of (Some e) = uses_of e

-- the uses of the entry at a place of a lane
abbrev pub place_uses : Lists → LaneId → ℕ → List Use
place_uses lists PoolLane place = []
place_uses lists BaseLane place = uses_or (base_place_uses lists place) (slice_get lists.base place)
place_uses lists (CpuLane c) place = uses_or (cpu_place_uses lists c place) (slice_get (cpu_list lists c) place)
