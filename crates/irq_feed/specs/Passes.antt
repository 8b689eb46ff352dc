-- The passes of a queue and their knowledge, in the terms that the contracts use.
use Rattle.std.specs.Prelude.{◌≡◌, ℕ, List, []}
use Rattle.crossbeam_queue.specs.Passes as ruled
use Rattle.irq_feed.specs.declared.samples.Sample.{Sample}
use Rattle.irq_feed.specs.declared.known.Known.{Known}
use Rattle.irq_feed.specs.declared.known.Known.TheVariants.{Worker, Feeder, Nobody}
use Rattle.irq_feed.specs.declared.queue.FeedQueue.{FeedQueue}
use Rattle.irq_feed.specs.declared.queue.FeedPass.{FeedPass}
use Rattle.irq_feed.specs.Feeds.{Numbers}
use Rattle.irq_feed.specs.Rule.{begun, post}

-- the knowledge of a pass of the queue
abbrev pub known : FeedPass → Known
known w = ruled.view w.pass

-- `w` is a pass of the queue `q`
abbrev pub IsPassOf : FeedQueue → FeedPass → Type 0
IsPassOf q w = ruled.IsPassOf q.line w.pass

abbrev pub taken_of : Known → List Sample
taken_of (Worker d) = d.taken
taken_of (Feeder p) = []
taken_of Nobody = []

abbrev pub next_of : Known → ℕ
next_of (Worker d) = d.next
next_of (Feeder p) = p.number
next_of Nobody = 0

-- the samples that the worker with the pass `w` took out of the queue, in order
abbrev pub took : FeedPass → List Sample
took w = taken_of (known w)

-- the number that the next feeder gets
abbrev pub next_number : FeedPass → ℕ
next_number w = next_of (known w)

-- the queue `q` and the worker's pass `w` are new, for the feeds `feeds`: the worker has taken no sample, and the next
-- feeder gets number 0
abbrev pub AreNew : FeedQueue → Numbers → FeedPass → Type 0
AreNew q feeds w = IsPassOf q w × (known w ≡ begun feeds)

-- `w` is the pass of feeder `number` of the queue `q`, after that feeder pushed `pushed` samples
abbrev pub IsFeeder : FeedQueue → Numbers → ℕ → ℕ → FeedPass → Type 0
IsFeeder q feeds number pushed w = IsPassOf q w × (known w ≡ Feeder (post feeds number pushed))
