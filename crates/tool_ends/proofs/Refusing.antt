-- The effects of a command that reads a script, or a script with a transcript after it.
use Rattle.std.proofs.Common.{ℕ, ◌+◌, List, Option, sym, subst}
use Rattle.io_edges.specs.Pieces.{ConsumesUpTo}
use Rattle.tool_ends.specs.Pairs.{GivesNone, RefusalEnds, RefusalOf}
use Rattle.tool_ends.specs.Reads.{ReadsEnds, WasRead, WritesEnds}
use Rattle.tool_ends.specs.declared.pair.NotRead.{NotRead}
use Rattle.tool_ends.specs.declared.pair.NotRead.TheVariants.{ReadFault as SourceFails, Refused as FirstFault, NoTranscript, TooManyLines, NoMemory as Unread}
use Rattle.tool_ends.specs.declared.status.Status.{Status}
use Rattle.tool_ends.specs.declared.status.Status.TheVariants.{Done, No, Usage, ReadFault, WriteFault, Refused, NoMemory}
use Rattle.tool_ends.proofs.Inputs.{IsLimited, reads_end, wider}

module _ (most : ℕ) (Of : List ℕ → Status → List ℕ → Type 0) (limited : IsLimited most Of)
    (left left_after held held_after : Option (List ℕ)) where
  -- if a command read `input`, and wrote an output that is right for `input`, the command meets its contract
  -- (`ReadsEnds`)
  pub said_of : (input : List ℕ) → WasRead most left left_after input → (status : Status) →
      WritesEnds (Of input) status held held_after → ReadsEnds most Of status left left_after held held_after
  said_of input read status e = reads_end most Of limited left left_after held held_after input read status e

  -- if memory ran out, and a command wrote no output, it meets its contract
  unread : (status : Status) → ConsumesUpTo (most + 1) left left_after →
      WritesEnds (RefusalOf Unread) status held held_after → ReadsEnds most Of status left left_after held held_after
  unread Done taken e = absurd e.1
  unread No taken e = absurd e.1
  unread Refused taken e = absurd e.1
  unread WriteFault taken e = absurd e.1.2
  unread NoMemory taken e = record { taken = taken; kept = e }
  unread Usage taken e = absurd e
  unread ReadFault taken e = absurd e

  -- if a command refused an input for the reason `why`, it meets its contract
  pub refused_of : (Is : List ℕ → NotRead → Type 0) (why : NotRead) →
      ((input : List ℕ) → Is input why → (s : Status) (o : List ℕ) → RefusalOf why s o → Of input s o) →
      GivesNone most Is left left_after why → (status : Status) → RefusalEnds why status held held_after →
      ReadsEnds most Of status left left_after held held_after
  refused_of Is SourceFails says none status e =
      subst (λ s. ReadsEnds most Of s left left_after held held_after) (sym e.0) (record { taken = none; kept = e.1 })
  refused_of Is (FirstFault fault) says none status e = said_of none.0 none.1 status
      (wider _ (Of none.0) (says none.0 none.2) status held held_after e)
  refused_of Is NoTranscript says none status e = said_of none.0 none.1 status
      (wider _ (Of none.0) (says none.0 none.2) status held held_after e)
  refused_of Is TooManyLines says none status e = said_of none.0 none.1 status
      (wider _ (Of none.0) (says none.0 none.2) status held held_after e)
  refused_of Is Unread says none status e = unread status none e
