-- The result of a call of `feed`.
use Rattle.std.specs.Prelude.{◌≡◌, ℕ, zero, suc, ◌+◌, ◌*◌, ◌<◌, ◌≤◌, ◌^◌, ◌⊎◌, Bool, true, false, List, [], ◌∷◌, ◌++◌, length, slice_index_or, nat_lt, ◌&&◌, not, if◌then◌else◌, vec_capacity}
use Rattle.std.specs.List.{AllByRecursion}
use Rattle.lane_table.specs.declared.lanes.Lanes.{Lanes}
use Rattle.lane_table.specs.declared.lanes.Pass.{Pass}
use Rattle.lane_table.specs.Hands.{HoldsLanes}
use Rattle.rng_core.specs.declared.setting.Setting.{Setting}
use Rattle.irq_feed.specs.declared.samples.Sample.{Sample}
use Rattle.irq_feed.specs.declared.known.Ended.{Ended}
use Rattle.irq_feed.specs.declared.known.Known.TheVariants.{Worker}
use Rattle.irq_feed.specs.declared.mixed.Mixed.{Mixed}
use Rattle.irq_feed.specs.declared.queue.FeedQueue.{FeedQueue}
use Rattle.irq_feed.specs.declared.queue.FeedPass.{FeedPass}
use Rattle.irq_feed.specs.Feeds.{Numbers}
use Rattle.irq_feed.specs.Samples.{first_samples, of_feeder}
use Rattle.irq_feed.specs.Rule.{desk, ended}
use Rattle.irq_feed.specs.Passes.{known, took, IsPassOf}

-- the mixed samples, in order
abbrev pub mixed_in : Mixed → List Sample
mixed_in m = m.samples.items

-- whether the worker itself mixed the samples of `feeder`, after all samples from the queue
abbrev pub is_direct : Mixed → ℕ → Bool
is_direct m feeder = slice_index_or m.direct feeder false

-- each sample of each feeder was mixed once, and the samples of one feeder in their order. First come the samples from
-- the queue, in the order in which the worker took them, and then the samples of the direct feeders
pub record AllMixed (feeds : Numbers) (worker : FeedPass) (m : Mixed) : Type 0 where
  pub each : (feeder : ℕ) → feeder < feeds.feeders
      → of_feeder feeder (mixed_in m) ≡ first_samples feeds feeder feeds.each
  pub count : length (mixed_in m) ≡ feeds.feeders * feeds.each
  pub directly : List Sample
  pub parts : mixed_in m ≡ took worker ++ directly
  pub through : AllByRecursion (λ (x : Sample). is_direct m x.feeder ≡ false) (took worker)
  pub following : AllByRecursion (λ (x : Sample). is_direct m x.feeder ≡ true) directly

-- The state before a call of `feed`, and during it

-- the sum of `g` over all numbers below `n`
abbrev pub sum_below : ℕ → (ℕ → ℕ) → ℕ
sum_below zero g = 0
sum_below (suc n) g = sum_below n g + g n

-- how many of a feeder's `each` samples come through the queue: none if the feeder is direct. `by_worker`: how many of
-- them the worker mixes itself
abbrev pub through_queue : ℕ → (ℕ → Bool) → ℕ → ℕ
through_queue each direct feeder = if direct feeder then 0 else each

abbrev pub by_worker : ℕ → (ℕ → Bool) → ℕ → ℕ
by_worker each direct feeder = if direct feeder then each else 0

-- `feeder`'s mixed samples, once the worker has mixed all samples from the queue and all samples of the direct feeders
-- below `number`
abbrev pub done_so_far : Numbers → (ℕ → Bool) → ℕ → ℕ → List Sample
done_so_far feeds direct number feeder =
    if nat_lt feeder feeds.feeders
    then (if direct feeder && not (nat_lt feeder number) then [] else first_samples feeds feeder feeds.each)
    else []

-- the list of mixed samples has room for one more feeder's samples
abbrev pub HasRoom : Numbers → Mixed → Type 0
HasRoom feeds m = (length (mixed_in m) + feeds.each ≤ 160000) × (length (mixed_in m) + feeds.each ≤ vec_capacity m.samples)

-- with the pass `p` and the setting `set` the worker can make its interrupts
pub record CanMix (lanes : Lanes) (set : Setting) (p : Pass) : Type 0 where
  pub has : HoldsLanes lanes set.caller [] p
  pub cpu : set.cpu < lanes.cpus
  pub moment : set.now < 2 ^ 40

abbrev pub IsAmong : Ended → List Ended → Type 0
IsAmong e [] = ⊥
IsAmong e (x ∷ xs) = (x ≡ e) ⊎ IsAmong e xs

-- each direct feeder below `number` pushed no sample, and the worker took in that feeder's pass
abbrev pub DirectEnded : (ℕ → Bool) → ℕ → List Ended → Type 0
DirectEnded direct number es = (feeder : ℕ) → feeder < number → direct feeder ≡ true → IsAmong (ended feeder 0) es

-- the feeders below `number` were started, and `owed` samples will come through the queue. The worker took no sample
-- yet, and the next feeder gets the number `next`
pub record HasBegun (queue : FeedQueue) (feeds : Numbers) (number next owed : ℕ) (worker : FeedPass) (m : Mixed)
    : Type 0 where
  pub of_queue : IsPassOf queue worker
  pub low : number ≤ feeds.feeders
  pub few : (feeds.feeders ≤ 16) × (1 ≤ feeds.each) × (feeds.each ≤ 10000)
  pub ends : List Ended
  pub knows : known worker ≡ Worker (desk feeds [] next ends)
  pub direct : DirectEnded (is_direct m) number ends
  pub owes : owed ≡ sum_below number (through_queue feeds.each (is_direct m))
  pub none : mixed_in m ≡ []
  pub room : feeds.feeders * feeds.each ≤ vec_capacity m.samples

abbrev pub CanStart : FeedQueue → Numbers → ℕ → ℕ → FeedPass → Mixed → Type 0
CanStart queue feeds number owed worker m = HasBegun queue feeds number number owed worker m

-- `HasBegun` holds for the feeders below `number`, and feeder `number` already has its pass
abbrev pub CanTakeBack : FeedQueue → Numbers → ℕ → ℕ → FeedPass → Mixed → Type 0
CanTakeBack queue feeds number owed worker m =
    (number < feeds.feeders) × HasBegun queue feeds number (number + 1) owed worker m

-- `through` lists the samples that came from the queue. After them the worker mixed the samples of the direct feeders
-- below `number`
pub record Front (feeds : Numbers) (number : ℕ) (through : List Sample) (m : Mixed) : Type 0 where
  pub few : (feeds.feeders ≤ 16) × (feeds.each ≤ 10000)
  pub directly : List Sample
  pub parts : mixed_in m ≡ through ++ directly
  pub came : AllByRecursion (λ (x : Sample). is_direct m x.feeder ≡ false) through
  pub following : AllByRecursion (λ (x : Sample). is_direct m x.feeder ≡ true) directly
  pub each : (feeder : ℕ) → of_feeder feeder (mixed_in m) ≡ done_so_far feeds (is_direct m) number feeder
  pub count : length (mixed_in m) ≡ sum_below feeds.feeders (through_queue feeds.each (is_direct m))
      + sum_below number (by_worker feeds.each (is_direct m))
  pub room : feeds.feeders * feeds.each ≤ vec_capacity m.samples

-- all samples from the queue were mixed, and all feeders with threads have ended
pub record HasDrained (queue : FeedQueue) (feeds : Numbers) (worker : FeedPass) (m : Mixed) : Type 0 where
  pub of_queue : IsPassOf queue worker
  pub ends : List Ended
  pub knows : known worker ≡ Worker (desk feeds (mixed_in m) feeds.feeders ends)
  pub front : Front feeds 0 (mixed_in m) m
