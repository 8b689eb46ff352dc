-- The rule that stamps rise. `stamp_after` is the stamp of the last visit after one more step. By `IsAbove`, a step
-- that is a visit must have a higher stamp than the last visit.
use Rattle.std.specs.Prelude.{ℕ, ◌<◌, ⊤, Option, Some, None}
use Rattle.key_names.specs.declared.names.Step.{Step}
use Rattle.key_names.specs.declared.names.Step.TheVariants.{Look, Visit as Marked}

abbrev pub stamp_after : Option ℕ → Step → Option ℕ
stamp_after last (Look g) = last
stamp_after last (Marked mark) = Some mark.stamp

abbrev pub IsAbove : Option ℕ → Step → Type 0
IsAbove None step = ⊤
IsAbove (Some last) (Look g) = ⊤
IsAbove (Some last) (Marked mark) = last < mark.stamp
