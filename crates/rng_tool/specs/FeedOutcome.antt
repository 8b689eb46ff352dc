-- The right output of the command `feed`, and how the command ends.
use Rattle.std.specs.Prelude.{ℕ, ◌≡◌, ◌<◌, ◌≤◌, ◌^◌, ◌++◌, List, [], ◌∷◌, Option, String, string_bytes, codes, decimal, map}
use Rattle.irq_feed.specs.declared.table_feed.FeedSums.{FeedSums}
use Rattle.irq_feed.specs.TableFeed.{IsFed}
use Rattle.rng_tool.specs.declared.feed.Feed.{Feed}
use Rattle.tool_ends.specs.Ends.{EndsWith}
use Rattle.tool_ends.specs.declared.status.Status.{Status}

-- the texts are `feed START FEEDERS SAMPLES`, with numbers in their ranges
pub record AskFeed (texts : List (List ℕ)) (start feeders samples : ℕ) : Type 0 where
  pub spelt : texts ≡ codes "feed" ∷ decimal start ∷ decimal feeders ∷ decimal samples ∷ []
  pub start_fits : start < 2 ^ 32
  pub feeders_fit : (1 ≤ feeders) × (feeders ≤ 16)
  pub samples_fit : (1 ≤ samples) × (samples ≤ 10000)

-- there are 1 to 16 feeders, with 1 to 10,000 samples each
pub record IsSmallFeed (feed : Feed) : Type 0 where
  pub feeders : (1 ≤ feed.feeders) × (feed.feeders ≤ 16)
  pub samples : (1 ≤ feed.samples) × (feed.samples ≤ 10000)

-- the words of the command line are `feed START FEEDERS SAMPLES` with these numbers, and each number is in its range
abbrev pub IsFeed : {A : Type 0} → List (String A) → ℕ → ℕ → ℕ → Type 0
IsFeed words start feeders samples = AskFeed (map string_bytes words) start feeders samples

abbrev pub feed_line : ℕ → FeedSums → List ℕ
feed_line feeders sums =
    codes "feeders " ++ decimal feeders ++ codes " samples " ++ decimal sums.samples ++ codes " dumps "
    ++ decimal sums.dumps ++ codes " bits " ++ decimal sums.bits ++ codes "\n"

-- the output is one line: the sums of a run on a new table, in which each of `feeders` feeders has `samples` samples
pub record FeedOf (start feeders samples : ℕ) (output : List ℕ) : Type 0 where
  pub sums : FeedSums
  pub fed : IsFed start feeders samples sums
  pub emitted : output ≡ feed_line feeders sums

-- how the command `feed` ends: its status, and the content of the sink before and after
abbrev pub FeedEnds : ℕ → ℕ → ℕ → Status → Option (List ℕ) → Option (List ℕ) → Type 0
FeedEnds start feeders samples = EndsWith (FeedOf start feeders samples)
