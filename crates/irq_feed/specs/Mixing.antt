-- The work of the worker: one interrupt for each sample, in order.
use Rattle.std.specs.Prelude.{◌≡◌, ℕ, suc, ◌<◌, ◌==◌, List, [], ◌∷◌, ◌++◌, map, length, if◌then◌else◌}
use Rattle.key_names.specs.declared.names.Step.{Step}
use Rattle.key_names.specs.declared.names.Step.TheVariants.{Look, Visit as Marked}
use Rattle.key_names.specs.declared.entries.CpuEntry.{CpuEntry}
use Rattle.key_names.specs.declared.entries.CpuEntry.TheVariants.{Read, Int, Irq, Dump, Prepare, Online}
use Rattle.key_names.specs.declared.events.Event.TheVariants.{Irq as IrqEvent}
use Rattle.key_names.specs.declared.events.Answer.TheVariants.{Ok as Done}
use Rattle.key_names.specs.Transcripts.SeenLine.{no_data}
use Rattle.key_names.specs.Callers.Effects.{Effect, looked, at_pool, at_base, at_cpu, nothing_there, effects_of}
use Rattle.lane_table.specs.declared.view.Visit.{Visit}
use Rattle.lane_table.specs.declared.view.View.{View}
use Rattle.lane_table.specs.LaneNumbers.{index_of}
use Rattle.lane_table.specs.WorldRule.{at}
use Rattle.lane_table.specs.Steps.{Grows}
use Rattle.lane_table.specs.BookLists.{StateLists, book_lists}
use Rattle.lane_table.specs.BookLaws.{Continues}
use Rattle.rng_core.specs.declared.setting.Setting.{Setting}
use Rattle.rng_core.specs.Traces.{knowing}
use Rattle.rng_core.specs.Makes.{MakesIn, IsOutcomeOf, setting_of}
use Rattle.rng_core.specs.SampleEffects.{Sampled}
use Rattle.irq_feed.specs.declared.samples.Sample.{Sample}

abbrev pub in_event : Setting → ℕ → Setting
in_event set event = record set { event = event }

-- going from the view `v` to the view `w`, the pass made one interrupt of the sample `x`, in the steps `steps`
pub record Interrupted (set : Setting) (event : ℕ) (x : Sample) (v w : View) : Type 0 where
  pub steps : List Step
  pub did : MakesIn (Sampled (IsOutcomeOf (setting_of set) (IrqEvent x.v1 x.v2) Done no_data)) (in_event set event)
      (knowing v []) (knowing w steps)

-- going from `v` to `w`, the pass made one interrupt for each sample, in order. The events are numbered from `event` on
abbrev pub Mixes : Setting → ℕ → List Sample → View → View → Type 0
Mixes set event [] v w = w ≡ v
Mixes set event (x ∷ xs) v w = (u : View) × Interrupted set event x v u × Mixes set (suc event) xs u w

-- The lanes after the interrupts

-- `irq_at`: the pair of CPU and entry if the entry is an interrupt, and no pair otherwise. `irqs_of`: these pairs for
-- all interrupts among a call's effects
abbrev pub irq_at : ℕ → CpuEntry → List (ℕ × CpuEntry)
irq_at cpu (Read look refill taken) = []
irq_at cpu (Int look refill width filled) = []
irq_at cpu (Irq v1 v2 now) = (cpu, Irq v1 v2 now) ∷ []
irq_at cpu (Dump now) = []
irq_at cpu Prepare = []
irq_at cpu Online = []

abbrev pub irqs_of : List Effect → List (ℕ × CpuEntry)
irqs_of [] = []
irqs_of (looked g ∷ effects) = irqs_of effects
irqs_of (at_pool visit ∷ effects) = irqs_of effects
irqs_of (at_base visit ∷ effects) = irqs_of effects
irqs_of (at_cpu visit ∷ effects) = irq_at visit.cpu visit.entry ++ irqs_of effects
irqs_of (nothing_there ∷ effects) = irqs_of effects

-- the places of the visits that some steps made in lane `lane`
abbrev pub places_of : ℕ → List Step → List ℕ
places_of lane [] = []
places_of lane (Look g ∷ steps) = places_of lane steps
places_of lane (Marked mark ∷ steps) =
    if index_of mark.lane == lane then mark.place ∷ places_of lane steps else places_of lane steps

-- the CPU and the entry of the interrupt of the sample `x`. The setting gives the CPU and the moment
abbrev pub irq_of : Setting → Sample → ℕ × CpuEntry
irq_of set x = (set.cpu, Irq x.v1 x.v2 set.now)

-- going from the view `v` to the view `w`, the pass made exactly the steps `steps`. In all lists of visits that
-- continue the lists of `w`, the interrupts among the steps are the interrupts of the samples `xs`, in order
pub record Put (set : Setting) (xs : List Sample) (v w : View) : Type 0 where
  pub steps : List Step
  pub all : (lane : ℕ) → lane < length v.lanes → (at lane w).places ≡ (at lane v).places ++ places_of lane steps
  pub irqs : (lanes : ℕ) (visits : ℕ → List Visit) (callers : StateLists) → Continues lanes w visits →
      irqs_of (effects_of (book_lists lanes visits callers) steps) ≡ map (irq_of set) xs
  pub sized : length w.lanes ≡ length v.lanes
  pub grows : Grows v w
