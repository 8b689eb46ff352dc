-- Whether entries name each other, determined from the kept data.
use Rattle.std.specs.Prelude.{ℕ, ◌≡◌, ⊤, Option, Some, None, List, slice_get, option_and_then}
use Rattle.key_names.specs.Lanes.BaseList.{root_of, refill_of}
use Rattle.key_names.specs.Lanes.CpuList.{base_refill_of}
use Rattle.judge_log.specs.declared.kept.KeptRoot.{KeptRoot}
use Rattle.judge_log.specs.declared.kept.KeptPool.{KeptPool}
use Rattle.judge_log.specs.declared.kept.KeptBase.{KeptBase}
use Rattle.judge_log.specs.declared.kept.KeptCpu.{KeptCpu}

abbrev pub root_named_in : List KeptBase → ℕ → Option ℕ
root_named_in base i = option_and_then (λ (k : KeptBase). root_of k.entry) (slice_get base i)

abbrev pub refill_named_in : List (List KeptCpu) → ℕ → ℕ → Option ℕ
refill_named_in cpus c k =
    option_and_then (λ lane. option_and_then (λ (kept : KeptCpu). base_refill_of kept.entry) (slice_get lane k))
    (slice_get cpus c)

abbrev pub AllExtractionsAnswered : List KeptPool → List KeptBase → Type 0
AllExtractionsAnswered pool base = (p : ℕ) (kept : KeptPool) (root : KeptRoot) → slice_get pool p ≡ Some kept →
    kept.root ≡ Some root → root_named_in base root.base_place ≡ Some p

-- if the base's visit at place `b` names an entry of a CPU, that entry names place `b` back
abbrev pub AnsweredBy : List (List KeptCpu) → ℕ → Option (ℕ × ℕ) → Type 0
AnsweredBy cpus b None = ⊤
AnsweredBy cpus b (Some named) = refill_named_in cpus named.0 named.1 ≡ Some b

abbrev pub AllRefillsAnswered : List KeptBase → List (List KeptCpu) → Type 0
AllRefillsAnswered base cpus =
    (b : ℕ) (kept : KeptBase) → slice_get base b ≡ Some kept → AnsweredBy cpus b (refill_of kept.entry)
