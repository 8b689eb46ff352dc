-- The samples of each feeder, in order.
use Rattle.std.specs.Prelude.{ℕ, zero, suc, ◌+◌, ◌==◌, List, [], ◌∷◌, ◌++◌}
use Rattle.std.specs.List.{filter}
use Rattle.irq_feed.specs.declared.samples.Sample.{Sample}
use Rattle.irq_feed.specs.Feeds as feeds
use Rattle.irq_feed.specs.Feeds.{Numbers}

abbrev pub numbers : ℕ → ℕ → ℕ → Numbers
numbers = feeds.numbers

-- sample `i` of a feeder, counted from 0
abbrev pub sample : Numbers → ℕ → ℕ → Sample
sample s feeder i = record { feeder = feeder; index = i; v1 = s.start + i; v2 = feeder }

-- the first `n` samples of a feeder
abbrev pub first_samples : Numbers → ℕ → ℕ → List Sample
first_samples s feeder zero = []
first_samples s feeder (suc n) = first_samples s feeder n ++ sample s feeder n ∷ []

-- the samples of one feeder in a list
abbrev pub of_feeder : ℕ → List Sample → List Sample
of_feeder feeder xs = filter (λ (x : Sample). x.feeder == feeder) xs
