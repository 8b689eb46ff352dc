-- An output that is right for the part of an input that was read is right for the whole input.
use Rattle.std.proofs.Common.{ℕ, ◌+◌, ◌≡◌, ◌≤◌, ◌<◌, ◌⊎◌, List, [], Option, None, Some, length, take, sym, ap, ◌∙◌, subst, arith, inl, inr}
use Rattle.std.specs.Prelude.{IfSome}
use Rattle.std.specs.Io.KnownBytes.{Consumes}
use Rattle.io_edges.specs.Pieces.{ConsumesUpTo}
use Rattle.std.proofs.lemmas.Bool.{cases_lt}
use Rattle.std.proofs.lemmas.List.{take_all, length-take}
use Rattle.tool_ends.specs.Ends.{IsAnswered}
use Rattle.tool_ends.specs.Reads.{ReadsEnds, SomeAnswer, WasRead, WritesEnds}
use Rattle.tool_ends.specs.declared.status.Status.{Status}
use Rattle.tool_ends.specs.declared.status.Status.TheVariants.{Done, No, Usage, ReadFault, WriteFault, Refused, NoMemory}

-- if `Wide` allows each output that `Of` allows, a command that ends with an output of `Of` ends with an output of
-- `Wide`
pub wider : (Of Wide : Status → List ℕ → Type 0) → ((s : Status) (o : List ℕ) → Of s o → Wide s o) →
    (status : Status) (a b : Option (List ℕ)) → WritesEnds Of status a b → WritesEnds Wide status a b
wider Of Wide is Done a b e = (e.0, is Done e.0 e.1, e.2)
wider Of Wide is No a b e = (e.0, is No e.0 e.1, e.2)
wider Of Wide is Refused a b e = (e.0, is Refused e.0 e.1, e.2)
wider Of Wide is WriteFault a b e = (e.0, (e.1.0, e.1.1, is e.1.0 e.0 e.1.2), e.2)
wider Of Wide is NoMemory a b e = e
wider Of Wide is Usage a b e = e
wider Of Wide is ReadFault a b e = e

-- the only answers that `Of` allows to an input above the limit are refusals. It allows the same refusals for all
-- inputs above the limit
pub record IsLimited (limit : ℕ) (Of : List ℕ → Status → List ℕ → Type 0) : Type 0 where
  pub done : (input output : List ℕ) → Of input Done output → length input ≤ limit
  pub no : (input output : List ℕ) → Of input No output → length input ≤ limit
  pub refused : (input all output : List ℕ) → limit < length input → limit < length all →
      Of input Refused output → Of all Refused output

module _ (limit : ℕ) (Of : List ℕ → Status → List ℕ → Type 0) (limited : IsLimited limit Of) where
  -- if the first `limit` + 1 bytes of `all` were read as `input`, then `input` is `all`, or both are longer than the
  -- limit
  read_or_too_long : (all input : List ℕ) → input ≡ take (limit + 1) all →
      (input ≡ all) ⊎ ((limit < length input) × (limit < length all))
  read_or_too_long all input is = elim (cases_lt limit (length all)) [
    | inl long ↦ inr (omega (arith, ap length is, length-take (limit + 1) all), long)
    | inr short ↦ inl (is ∙ take_all (limit + 1) all (omega arith))
  ]

  -- if `input` and `all` are longer than the limit, an output that is right for `input` is right for `all`
  of_long : (status : Status) → IsAnswered status → (input all output : List ℕ) → limit < length input →
      limit < length all → Of input status output → Of all status output
  of_long Done answered input all output long too is =
      let short = limited.done input output is in absurd (omega (arith, long))
  of_long No answered input all output long too is =
      let short = limited.no input output is in absurd (omega (arith, long))
  of_long Refused answered input all output long too is = limited.refused input all output long too is
  of_long Usage answered input all output long too is = absurd answered
  of_long ReadFault answered input all output long too is = absurd answered
  of_long WriteFault answered input all output long too is = absurd answered
  of_long NoMemory answered input all output long too is = absurd answered

  of_all : (status : Status) → IsAnswered status → (left : Option (List ℕ)) (input output : List ℕ) →
      IfSome left (λ all. input ≡ take (limit + 1) all) → Of input status output →
      IfSome left (λ all. Of all status output)
  of_all status answered None input output front is = tt
  of_all status answered (Some all) input output front is = elim (read_or_too_long all input front) [
    | inl same ↦ subst (λ text. Of text status output) same is
    | inr long ↦ of_long status answered input all output long.0 long.1 is
  ]

  some_of_all : (left : Option (List ℕ)) (input output : List ℕ) → IfSome left (λ all. input ≡ take (limit + 1) all) →
      SomeAnswer (Of input) output → IfSome left (λ all. SomeAnswer (Of all) output)
  some_of_all None input output front is = tt
  some_of_all (Some all) input output front is =
      (is.0, is.1, of_all is.0 is.1 (Some all) input output front is.2)

  -- if `input` is the first `limit` + 1 bytes of the source, or all of them, at most `limit` + 1 bytes were taken
  taken_at_most : (left left_after : Option (List ℕ)) (input : List ℕ) → Consumes left left_after input →
      IfSome left (λ all. input ≡ take (limit + 1) all) → ConsumesUpTo (limit + 1) left left_after
  taken_at_most None left_after input read front = ([], omega arith, tt)
  taken_at_most (Some all) left_after input read front =
      (input, omega (arith, ap length front, length-take (limit + 1) all), read)

  -- if a command read `input`, and wrote an output that is right for `input`, the command meets its contract
  -- (`ReadsEnds`)
  pub reads_end : (left left_after held held_after : Option (List ℕ)) (input : List ℕ) →
      WasRead limit left left_after input → (status : Status) → WritesEnds (Of input) status held held_after →
      ReadsEnds limit Of status left left_after held held_after
  reads_end left left_after held held_after input read Done e = record {
    input = input;
    output = e.0;
    read = read;
    whole = read.whole (limited.done input e.0 e.1);
    is = e.1;
    written = e.2;
  }
  reads_end left left_after held held_after input read No e = record {
    input = input;
    output = e.0;
    read = read;
    whole = read.whole (limited.no input e.0 e.1);
    is = e.1;
    written = e.2;
  }
  reads_end left left_after held held_after input read Refused e = record {
    input = input;
    output = e.0;
    read = read;
    refusal = e.1;
    of_all = of_all Refused tt left input e.0 read.front e.1;
    written = e.2;
  }
  reads_end left left_after held held_after input read WriteFault e = record {
    input = input;
    output = e.0;
    read = read;
    output_is = e.1;
    of_all = some_of_all left input e.0 read.front e.1;
    written = e.2;
  }
  reads_end left left_after held held_after input read NoMemory e =
      record { taken = taken_at_most left left_after input read.read read.front; kept = e }
  reads_end left left_after held held_after input read Usage e = e
  reads_end left left_after held held_after input read ReadFault e = absurd e

-- ---- an answer that is equal to a right answer

-- if `text` is right with the status `status`, so is an equal text with an equal status
pub the_answer : (Of : Status → List ℕ → Type 0) (status : Status) (text : List ℕ) → Of status text →
    (s : Status) (o : List ℕ) → (s ≡ status) × (o ≡ text) → Of s o
the_answer Of status text of s o is = subst (λ s. Of s o) (sym is.0) (subst (Of status) (sym is.1) of)
