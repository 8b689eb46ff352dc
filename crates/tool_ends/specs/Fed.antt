-- The text that a source gave, up to the text's end or to one byte above a limit.
use Rattle.std.specs.Prelude.{ℕ, ◌≡◌, ◌+◌, ◌≤◌, List, Option, length}
use Rattle.tool_ends.specs.Pairs.{GivesNone}
use Rattle.tool_ends.specs.Reads.{WasRead}
use Rattle.tool_ends.specs.declared.pair.NotRead.{NotRead}

-- the source gave a text of `count` bytes: all that was left, or one byte more than the limit. `Has` holds for this
-- text
pub record GivesText (limit : ℕ) (left left_after : Option (List ℕ)) (Has : List ℕ → Type 0) (count : ℕ) : Type 0 where
  pub text : List ℕ
  pub read : WasRead limit left left_after text
  pub has : Has text
  pub len : length text ≡ count
  pub within : count ≤ limit + 1

-- no whole text was read: the source failed or memory ran out, after at most `limit` + 1 bytes were taken
abbrev pub GivesNoText : ℕ → Option (List ℕ) → Option (List ℕ) → NotRead → Type 0
GivesNoText limit = GivesNone limit (λ text why. ⊥)
