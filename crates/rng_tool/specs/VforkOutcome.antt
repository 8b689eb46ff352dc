-- The right output of the command `vfork` (a fork inside a vgetrandom call), and how the command ends.
use Rattle.std.specs.Prelude.{ℕ, ◌≡◌, ◌≤◌, ◌^◌, ◌++◌, List, [], ◌∷◌, Option, String, string_bytes, codes, decimal, map}
use Rattle.hex.specs.Hex.{encode_lower}
use Rattle.key_names.specs.declared.point.Point.{Point}
use Rattle.key_names.specs.Kernel.Points.{number_of}
use Rattle.vdso_state.specs.declared.place.Turn.{Turn}
use Rattle.vdso_state.specs.Turns.{turn_number}
use Rattle.fork_runs.specs.TableForks.{AreForkedBytes}
use Rattle.tool_ends.specs.Ends.{EndsWith}
use Rattle.tool_ends.specs.declared.status.Status.{Status}
use Rattle.rng_tool.specs.declared.vfork.Vfork.{Vfork}

-- the texts are `vfork POINT ATTEMPT N`, with numbers in their ranges
pub record AskVfork (texts : List (List ℕ)) (point : Point) (attempt : Turn) (n : ℕ) : Type 0 where
  pub spelt : texts ≡ codes "vfork" ∷ decimal (number_of point) ∷ decimal (turn_number attempt) ∷ decimal n ∷ []
  pub fits : (1 ≤ n) × (n ≤ 2 ^ 20)

-- the length of the forked vgetrandom call is from 1 to 2^20 bytes
pub record IsSmallVfork (vfork : Vfork) : Type 0 where
  pub fits : (1 ≤ vfork.len) × (vfork.len ≤ 2 ^ 20)

-- the words of the command line are `vfork POINT ATTEMPT N`: POINT and ATTEMPT are the numbers of this point and this
-- attempt, and N is `n`, which is in its range
abbrev pub IsVfork : {A : Type 0} → List (String A) → Point → Turn → ℕ → Type 0
IsVfork words point attempt n = AskVfork (map string_bytes words) point attempt n

-- the line of the parent or of the child: its name, and the bytes that it gives out, in hex
abbrev pub end_line : List ℕ → List ℕ → List ℕ
end_line name bytes = name ++ (encode_lower bytes ++ 10 ∷ [])

abbrev pub vfork_text : List ℕ → List ℕ → List ℕ
vfork_text parent child = end_line (codes "parent ") parent ++ end_line (codes "child ") child

-- the output has the bytes that parent and child give out, and a book of a new table gives these bytes
pub record VforkOf (point : Point) (attempt : Turn) (n : ℕ) (output : List ℕ) : Type 0 where
  pub parent : List ℕ
  pub child : List ℕ
  pub forked : AreForkedBytes attempt point n parent child
  pub emitted : output ≡ vfork_text parent child

-- how the command `vfork` ends: its status, and the content of the sink before and after
abbrev pub VforkEnds : Point → Turn → ℕ → Status → Option (List ℕ) → Option (List ℕ) → Type 0
VforkEnds point attempt n = EndsWith (VforkOf point attempt n)
