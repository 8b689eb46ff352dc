-- The rule of the queue: for each feeder, the samples that the worker took, followed by the samples in the queue, are
-- the feeder's first samples.
use Rattle.std.specs.Prelude.{◌≡◌, ℕ, ◌+◌, ◌<◌, ◌≤◌, ⊤, List, [], ◌∷◌, ◌++◌, Option, Some, None}
use Rattle.std.specs.List.{AllByRecursion}
use mathlib.Core.Option.{some}
use lib.ListN.{get_elem?}
use Rattle.irq_feed.specs.declared.samples.Sample.{Sample}
use Rattle.irq_feed.specs.declared.known.Ended.{Ended}
use Rattle.irq_feed.specs.declared.known.WorkerKnowledge.{WorkerKnowledge}
use Rattle.irq_feed.specs.declared.known.FeederKnowledge.{FeederKnowledge}
use Rattle.irq_feed.specs.declared.known.Known.{Known}
use Rattle.irq_feed.specs.declared.known.Known.TheVariants.{Worker, Feeder, Nobody}
use Rattle.irq_feed.specs.Feeds.{Numbers, numbers}
use Rattle.irq_feed.specs.Samples.{sample, first_samples, of_feeder}

-- The knowledge of the worker and of a feeder

abbrev pub desk : Numbers → List Sample → ℕ → List Ended → WorkerKnowledge
desk feeds taken next ended = record { feeds = feeds; taken = taken; next = next; ended = ended }

abbrev pub post : Numbers → ℕ → ℕ → FeederKnowledge
post feeds number pushed = record { feeds = feeds; number = number; pushed = pushed }

abbrev pub ended : ℕ → ℕ → Ended
ended feeder pushed = record { feeder = feeder; pushed = pushed }

-- The rule of the queue

-- feeder `e.feeder` got its number, no pass has this number any more, and the feeder pushed `e.pushed` samples
abbrev pub HasEnded : ℕ → (ℕ → Option ℕ) → (ℕ → ℕ) → Ended → Type 0
HasEnded next seat pushed e = (e.feeder < next) × (seat e.feeder ≡ None) × (pushed e.feeder ≡ e.pushed)

-- the worker's knowledge `d` is right about the feeds, the samples that the worker took, and the feeders that ended. No
-- feeder has the number `d.next` or a higher number
pub record IsWorkerKnowledge (feeds : Numbers) (seat : ℕ → Option ℕ) (pushed : ℕ → ℕ) (taken : List Sample) (d : WorkerKnowledge)
    : Type 0 where
  pub feeds_are : d.feeds ≡ feeds
  pub took : d.taken ≡ taken
  pub free : (feeder : ℕ) → d.next ≤ feeder → (seat feeder ≡ None) × (pushed feeder ≡ 0)
  pub ends : AllByRecursion (HasEnded d.next seat pushed) d.ended

-- the knowledge `p` of a feeder is right, and `pass` is the pass that has the feeder's number
pub record IsFeederKnowledge (feeds : Numbers) (seat : ℕ → Option ℕ) (pushed : ℕ → ℕ) (pass : ℕ) (p : FeederKnowledge) : Type 0 where
  pub feeds_are : p.feeds ≡ feeds
  pub mine : seat p.number ≡ Some pass
  pub count : pushed p.number ≡ p.pushed

abbrev pub Fits : Numbers → ℕ → (ℕ → Option ℕ) → (ℕ → ℕ) → List Sample → ℕ → Known → Type 0
Fits feeds worker seat pushed taken pass (Worker d) = (pass ≡ worker) × IsWorkerKnowledge feeds seat pushed taken d
Fits feeds worker seat pushed taken pass (Feeder p) = IsFeederKnowledge feeds seat pushed pass p
Fits feeds worker seat pushed taken pass Nobody = ⊤

-- `seat` maps each feeder to its pass, if the feeder has one. `pushed` maps each feeder to the number of samples that
-- the feeder pushed. `taken` lists the samples that the worker took, and `worker` is the worker's pass
pub record InOrder (items : List Sample) (views : List Known) : Type 0 where
  pub feeds : Numbers
  pub worker : ℕ
  pub seat : ℕ → Option ℕ
  pub pushed : ℕ → ℕ
  pub taken : List Sample
  pub ordered : (feeder : ℕ) → of_feeder feeder (taken ++ items) ≡ first_samples feeds feeder (pushed feeder)
  pub bounded : (feeder : ℕ) → pushed feeder ≤ feeds.each
  pub fits : (pass : ℕ) (v : Known) → get_elem? views pass ≡ some v → Fits feeds worker seat pushed taken pass v

-- The knowledge of a pass after each kind of step

-- after a push the feeder knows that it pushed one more sample
abbrev pub Pushed : Known → Sample → Known → Type 0
Pushed (Worker d) x w = ⊤
Pushed (Feeder p) x w = w ≡ Feeder (post p.feeds p.number (p.pushed + 1))
Pushed Nobody x w = ⊤

-- after a pop the worker knows that it also took the sample `x`
abbrev pub Popped : Known → Sample → Known → Type 0
Popped (Worker d) x w = w ≡ Worker (desk d.feeds (d.taken ++ x ∷ []) d.next d.ended)
Popped (Feeder p) x w = ⊤
Popped Nobody x w = ⊤

-- after a split the worker knows that the next number was given to a new feeder
abbrev pub after_split : Known → Known
after_split (Worker d) = Worker (desk d.feeds d.taken (d.next + 1) d.ended)
after_split (Feeder p) = Feeder p
after_split Nobody = Nobody

abbrev pub new_feeder : Known → Known
new_feeder (Worker d) = Feeder (post d.feeds d.next 0)
new_feeder (Feeder p) = Nobody
new_feeder Nobody = Nobody

-- after a join the worker knows that the feeder whose pass it took in has ended, and how many samples that feeder
-- pushed
abbrev pub taken_in : Known → Known → Known
taken_in (Worker d) (Worker e) = Worker d
taken_in (Worker d) (Feeder p) = Worker (desk d.feeds d.taken d.next (d.ended ++ ended p.number p.pushed ∷ []))
taken_in (Worker d) Nobody = Worker d
taken_in (Feeder p) w = Feeder p
taken_in Nobody w = Nobody

-- the worker's knowledge, with `xs` as the samples that it took
abbrev pub with_taken : Known → List Sample → Known
with_taken (Worker d) xs = Worker (desk d.feeds xs d.next d.ended)
with_taken (Feeder p) xs = Feeder p
with_taken Nobody xs = Nobody

-- the knowledge is the worker's. `IsFeeding`: the knowledge is a feeder's
abbrev pub IsWorker : Known → Type 0
IsWorker (Worker d) = ⊤
IsWorker (Feeder p) = ⊥
IsWorker Nobody = ⊥

abbrev pub IsFeeding : Known → Type 0
IsFeeding (Worker d) = ⊥
IsFeeding (Feeder p) = ⊤
IsFeeding Nobody = ⊥

-- a feeder that has samples left may push its next one
abbrev pub MayPush : Known → Sample → Type 0
MayPush (Worker d) x = ⊥
MayPush (Feeder p) x = (p.pushed < p.feeds.each) × (x ≡ sample p.feeds p.number p.pushed)
MayPush Nobody x = ⊥

-- the worker's knowledge before the worker learns the feeds
abbrev pub no_feeds : Known
no_feeds = Worker (desk (numbers 0 0 0) [] 0 [])

-- the worker's knowledge while the queue for the feeds `feeds` is new
abbrev pub begun : Numbers → Known
begun feeds = Worker (desk feeds [] 0 [])

-- The facts that the rule gives the worker about the queue's samples at any moment

pub record Learned (d : WorkerKnowledge) (items : List Sample) : Type 0 where
  pub pushed : ℕ → ℕ
  pub ordered : (feeder : ℕ) → of_feeder feeder (d.taken ++ items) ≡ first_samples d.feeds feeder (pushed feeder)
  pub bounded : (feeder : ℕ) → pushed feeder ≤ d.feeds.each
  pub free : (feeder : ℕ) → d.next ≤ feeder → pushed feeder ≡ 0
  pub ends : AllByRecursion (λ (e : Ended). pushed e.feeder ≡ e.pushed) d.ended

abbrev pub Learns : Known → List Sample → Type 0
Learns (Worker d) items = Learned d items
Learns (Feeder p) items = ⊤
Learns Nobody items = ⊤
