-- Integers of the core as a source of words.
use Rattle.std.specs.Prelude.{◌≡◌, ℕ, List, []}
use Rattle.std.specs.Int.{from_le_bytes, w32}
use Rattle.key_names.specs.declared.names.Step.{Step}
use Rattle.key_names.specs.declared.events.Event.TheVariants.{Int32}
use Rattle.key_names.specs.declared.events.Answer.TheVariants.{Ok as Done}
use Rattle.key_names.specs.Transcripts.SeenLine.{bytes_or_none}
use Rattle.lane_table.specs.declared.view.View.{View}
use Rattle.lane_table.specs.Calls.{view}
use Rattle.rng_core.specs.declared.setting.Setting.{Setting}
use Rattle.rng_core.specs.Traces.{knowing}
use Rattle.rng_core.specs.Makes.{Makes, IsOutcomeOf, setting_of}
use Rattle.draw_below.specs.declared.lane_words.LaneWords.{LaneWords}

-- a call with its own trace read an integer of 4 bytes, and the word is the integer's bytes, the lowest first
pub record ReadsWord (set : Setting) (before : View) (word : ℕ) (after : View) : Type 0 where
  pub bytes : List ℕ
  pub steps : List Step
  pub did : Makes (IsOutcomeOf (setting_of set) Int32 Done (bytes_or_none bytes)) set
      (knowing before []) (knowing after steps)
  pub word_is : word ≡ from_le_bytes w32 bytes

-- the source has the same lanes, pass and setting before and after
pub record SameSource (before after : LaneWords) : Type 0 where
  pub lanes : after.lanes.now ≡ before.lanes.now
  pub pass : after.pass.ghost_name ≡ before.pass.ghost_name
  pub set : after.set ≡ before.set

-- from `before` to `after` the source read `word` from the core, and kept its lanes, pass and setting
abbrev pub GivesInt : LaneWords → ℕ → LaneWords → Type 0
GivesInt before word after =
    ReadsWord before.set (view before.pass.now) word (view after.pass.now) × SameSource before after
