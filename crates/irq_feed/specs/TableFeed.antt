-- Feeders on a new table: the visits of the table's lanes at the end, and the numbers of samples, dumps and bits.
use Rattle.std.specs.Prelude.{◌≡◌, ◌<◌, ◌*◌, ◌/◌, ◌+◌, ◌++◌, ℕ, suc, min, List, [], ◌∷◌, length, map}
use Rattle.key_names.specs.declared.names.Step.{Step}
use Rattle.key_names.specs.declared.entries.CpuEntry.{CpuEntry}
use Rattle.key_names.specs.declared.entries.CpuEntry.TheVariants.{Read, Int, Irq, Dump, Prepare, Online}
use Rattle.key_names.specs.declared.events.Event.TheVariants.{Irq as IrqEvent}
use Rattle.key_names.specs.declared.events.Answer.TheVariants.{Ok as Done}
use Rattle.key_names.specs.Lanes.Samples.{LawfulSamples}
use Rattle.key_names.specs.Transcripts.SeenLine.{no_data}
use Rattle.key_names.specs.Lanes.PoolList.{pool_after}
use Rattle.key_names.specs.Callers.Effects.{effects_of}
use Rattle.key_names.specs.Lanes.Book.{Book, Lists, LawfulLanes, lists_of, cpu_list}
use Rattle.key_names.specs.Transcripts.IsTranscript.{MarkBy, VisitsAre, marks_from}
use Rattle.key_names.specs.Keys.Uses.{IsDisjoint}
use Rattle.lane_table.specs.Advances.{Climbs}
use Rattle.rng_core.specs.Makes.{IsOutcomeOf, setting_of}
use Rattle.rng_core.specs.Settings.{first_setting}
use Rattle.irq_feed.specs.declared.samples.Sample.{Sample}
use Rattle.irq_feed.specs.declared.table_feed.FeedSums.{FeedSums}
use Rattle.irq_feed.specs.Samples.{numbers, first_samples, of_feeder}

-- there is one call for each sample. The effects of the call's steps are the effects of one interrupt with the sample's
-- words
abbrev pub AreCalls : Lists → List Sample → List (List Step) → Type 0
AreCalls lists [] [] = Unit {0}
AreCalls lists [] (steps ∷ calls) = ⊥
AreCalls lists (x ∷ xs) [] = ⊥
AreCalls lists (x ∷ xs) (steps ∷ calls) =
    IsOutcomeOf (setting_of (first_setting 0)) (IrqEvent x.v1 x.v2) Done no_data (effects_of lists steps)
    × AreCalls lists xs calls

-- the marks of all visits that the calls made. The calls are the events `event`, `event + 1` and so on
abbrev pub marks_of : ℕ → List (List Step) → List MarkBy
marks_of event [] = []
marks_of event (steps ∷ calls) = marks_from 0 event 0 steps ++ marks_of (suc event) calls

-- `irqs_in`: the interrupts in a CPU's list. `dumps_in`: the number of dumps in the list
abbrev pub irq_here : CpuEntry → List CpuEntry
irq_here (Irq v1 v2 now) = Irq v1 v2 now ∷ []
irq_here (Read look refill taken) = []
irq_here (Int look refill width filled) = []
irq_here (Dump now) = []
irq_here Prepare = []
irq_here Online = []

abbrev pub irqs_in : List CpuEntry → List CpuEntry
irqs_in [] = []
irqs_in (e ∷ es) = irq_here e ++ irqs_in es

abbrev pub dump_here : CpuEntry → ℕ
dump_here (Dump now) = 1
dump_here (Irq v1 v2 now) = 0
dump_here (Read look refill taken) = 0
dump_here (Int look refill width filled) = 0
dump_here Prepare = 0
dump_here Online = 0

abbrev pub dumps_in : List CpuEntry → ℕ
dumps_in [] = 0
dumps_in (e ∷ es) = dump_here e + dumps_in es

abbrev pub irq_entry : Sample → CpuEntry
irq_entry x = Irq x.v1 x.v2 0

-- the book of a table with one CPU: the book and its samples are lawful, and the book is disjoint. The book's visits
-- are exactly the visits of a sequence of calls, one call for each sample
pub record IsFedBook (samples : List Sample) (book : Book) : Type 0 where
  pub cpus : length book.cpus ≡ 1
  pub lawful : LawfulLanes (lists_of book)
  pub disjoint : IsDisjoint (lists_of book)
  pub calls : List (List Step)
  pub are : AreCalls (lists_of book) samples calls
  pub visits : VisitsAre book (marks_of 0 calls)
  pub lawful_samples : LawfulSamples book
  pub last : ℕ
  pub in_order : Climbs 0 (map (λ by. by.mark.stamp) (marks_of 0 calls)) last

-- all samples of the feeders were mixed on a new table, each sample once, and the samples of each feeder in order. The
-- sums match the table's book. The order of different feeders' samples does not change the sums
pub record IsFed (start feeders each : ℕ) (sums : FeedSums) : Type 0 where
  pub samples : List Sample
  pub each_of : (feeder : ℕ) → feeder < feeders
      → of_feeder feeder samples ≡ first_samples (numbers start feeders each) feeder each
  pub book : Book
  pub fed : IsFedBook samples book
  pub irqs : irqs_in (cpu_list (lists_of book) 0) ≡ map irq_entry samples
  pub all : (sums.samples ≡ length samples) × (sums.samples ≡ feeders * each)
  pub dumps : (sums.dumps ≡ dumps_in (cpu_list (lists_of book) 0)) × (sums.dumps ≡ feeders * each / 1024)
  pub bits : (sums.bits ≡ (pool_after (lists_of book).pool).bits) × (sums.bits ≡ min 256 (16 * sums.dumps))
