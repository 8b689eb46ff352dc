-- If memory ran out before a command read any input, the command ends as its contract states.
use Rattle.std.proofs.Common.{ℕ, List, [], Option, None, arith, inl, refl}
use Rattle.std.proofs.KnownBytes.{Consumes-nil}
use Rattle.tool_ends.specs.Reads.{WasGivenUp}
use Rattle.tool_ends.specs.declared.status.Status.TheVariants.{NoMemory}
use Rattle.rng_tool.specs.JudgeOutcome.{JudgeEnds}
use Rattle.rng_tool.specs.LiveOutcome.{LiveEnds}
use Rattle.rng_tool.specs.Outcome.{RunEnds}
use Rattle.rng_tool.specs.declared.judge.Judge.{Judge}

nothing_taken : (most : ℕ) (left : Option (List ℕ)) → WasGivenUp most left left None None
nothing_taken most left = record { taken = ([], omega arith, Consumes-nil left); kept = tt }

pub unread_run : (left : Option (List ℕ))
    → (held : Option (List ℕ)) × (held_after : Option (List ℕ)) × RunEnds NoMemory left left held held_after
unread_run left = (None, None, nothing_taken 16777216 left)

pub unread_judge : (judge : Judge) (left : Option (List ℕ))
    → (held : Option (List ℕ)) × (held_after : Option (List ℕ)) × JudgeEnds judge NoMemory left left held held_after
unread_judge judge left = (None, None, nothing_taken 100663296 left)

pub unread_live : (left : Option (List ℕ))
    → (held : Option (List ℕ)) × (held_after : Option (List ℕ)) × LiveEnds NoMemory left left held held_after
unread_live left = (
  None,
  None,
  record {
    text = [];
    output = [];
    taken = record { read = Consumes-nil left; few = omega arith };
    is = record { front = []; rest = []; parts = refl; emitted = inl refl };
    written = tt;
  },
)
