-- The right output of the command `draw`, and how the command ends.
use Rattle.std.specs.Prelude.{ℕ, ◌≡◌, ◌<◌, ◌≤◌, ◌^◌, ◌++◌, List, [], ◌∷◌, Option, Some, None, String, string_bytes, codes, decimal, map}
use Rattle.std.specs.List.{flat_map}
use Rattle.draw_below.specs.TableDraws.{AreTableDraws}
use Rattle.rng_tool.specs.declared.draw.DrawRequest.{DrawRequest}
use Rattle.tool_ends.specs.Ends.{EndsWith}
use Rattle.tool_ends.specs.declared.status.Status.{Status}

-- the texts are `draw C K`, with numbers in their ranges
pub record AskDraw (texts : List (List ℕ)) (bound count : ℕ) : Type 0 where
  pub spelt : texts ≡ codes "draw" ∷ decimal bound ∷ decimal count ∷ []
  pub bound_fits : bound < 2 ^ 32
  pub count_fits : (1 ≤ count) × (count ≤ 1000)

-- the number of draws is from 1 to 1,000
pub record IsSmallDraw (draw : DrawRequest) : Type 0 where
  pub count : (1 ≤ draw.count) × (draw.count ≤ 1000)

-- the words of the command line are `draw C K`, with C = `bound` and K = `count`; both numbers are in their ranges
abbrev pub IsDraw : {A : Type 0} → List (String A) → ℕ → ℕ → Type 0
IsDraw words bound count = AskDraw (map string_bytes words) bound count

-- the line of one draw: the number drawn, or `spent` if all words of the draw were rejected
abbrev pub draw_line : Option ℕ → List ℕ
draw_line (Some answer) = decimal answer ++ 10 ∷ []
draw_line None = codes "spent" ++ 10 ∷ []

abbrev pub draw_text : List (Option ℕ) → List ℕ
draw_text draws = flat_map draw_line draws

-- the output has a line for each of `count` draws below `bound`; a spent draw is the last, even if fewer were made. The
-- words of these draws, and nothing else, were read from a new table
pub record DrawOf (bound count : ℕ) (output : List ℕ) : Type 0 where
  pub draws : List (Option ℕ)
  pub drawn : AreTableDraws bound count draws
  pub emitted : output ≡ draw_text draws

-- how the command `draw` ends: its status, and the content of the sink before and after
abbrev pub DrawEnds : ℕ → ℕ → Status → Option (List ℕ) → Option (List ℕ) → Type 0
DrawEnds bound count = EndsWith (DrawOf bound count)
