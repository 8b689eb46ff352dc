-- If a command meets its contract, it still does after the flush at the end of its output.
use Rattle.std.proofs.Common.{ℕ, ◌≡◌, List, Option, None, Some, ◌++◌, ap, sym, subst, ◌∙◌, inl, inr}
use Rattle.std.specs.Prelude.{IfSome}
use Rattle.std.specs.Io.KnownBytes.{Appends, Consumes, IsAtEnd, Keeps}
use Rattle.std.proofs.KnownBytes.{Keeps-trans}
use Rattle.std.proofs.lemmas.List.{append-nil}
use Rattle.io_edges.specs.Faults.{Rose}
use Rattle.io_edges.specs.Pieces.{AppendsPrefix}
use Rattle.io_edges.proofs.Pieces.{AppendsPrefix-of_whole}
use Rattle.tool_ends.specs.Ends.{AtOutputEnd, CountsWriteFault, EndsWith, IsAnswered}
use Rattle.tool_ends.specs.Reads.{ReadsEnds, SomeAnswer, WasAnswered, WasGivenUp}
use Rattle.tool_ends.specs.declared.status.Status.{Status}
use Rattle.tool_ends.specs.declared.status.Status.TheVariants.{Done, No, Usage, ReadFault, WriteFault, Refused, NoMemory}

pub appends_kept : (a b c : Option (List ℕ)) (xs : List ℕ) → Appends a b xs → Keeps b c → Appends a c xs
appends_kept None b c xs h k = tt
appends_kept (Some x) None c xs h k = absurd h
appends_kept (Some x) (Some y) None xs h k = absurd k
appends_kept (Some x) (Some y) (Some z) xs h k = k ∙ h

prefix_kept : (a b c : Option (List ℕ)) (xs : List ℕ) → AppendsPrefix a b xs → Keeps b c → AppendsPrefix a c xs
prefix_kept a b c xs p k = (p.0, p.1, appends_kept a b c _ p.2 k)

-- if the answer `xs` was appended to the sink, and then its content did not change, a prefix of `xs` was appended
whole_cut : (a b c : Option (List ℕ)) (xs : List ℕ) → Appends a b xs → Keeps b c → AppendsPrefix a c xs
whole_cut a b c xs h k = prefix_kept a b c xs (AppendsPrefix-of_whole a b xs h) k

-- `a`, `b` and `c` are the sink's counts of faults before a command, after it, and after the end of its output.
-- `status` is the command's status, and `result` the status after the end of the output
module _ (status result : Status) (a b c : ℕ) (ended : AtOutputEnd status result b c)
    (same : (status ≡ WriteFault → ⊥) → b ≡ a) where
  -- if `result` is a write fault, the sink failed in the command or at the end of its output
  pub rose_at_end : (status ≡ WriteFault → Rose a b) → result ≡ WriteFault → Rose a c
  rose_at_end rose fault = elim ended [
    | inl stays ↦ subst (Rose a) (sym stays.1) (rose (sym stays.0 ∙ fault))
    | inr cut ↦ subst (λ n. Rose n c) (same (λ is. subst IsAnswered is cut.0)) cut.2
  ]

  -- if `result` is not a write fault, the sink failed neither in the command nor at the end of its output
  pub same_at_end : (result ≡ WriteFault → ⊥) → c ≡ a
  same_at_end unfailed = elim ended [
    | inl stays ↦ stays.1 ∙ same (λ is. unfailed (stays.0 ∙ is))
    | inr cut ↦ absurd (unfailed cut.1)
  ]

pub counted_at_end : (status result : Status) (a b c : ℕ) → AtOutputEnd status result b c → CountsWriteFault status a b
    → CountsWriteFault result a c
counted_at_end status result a b c ended counted = record {
  cut = rose_at_end status result a b c ended counted.not_counted counted.cut;
  not_counted = same_at_end status result a b c ended counted.not_counted;
}

module _ (Of : List ℕ → Type 0) (a b c : Option (List ℕ)) (k : Keeps b c) where
  stays : (status : Status) → EndsWith Of status a b → EndsWith Of status a c
  stays Done e = (e.0, e.1, appends_kept a b c e.0 e.2 k)
  stays WriteFault e = (e.0, e.1, prefix_kept a b c e.0 e.2 k)
  stays NoMemory e = Keeps-trans a b c e k
  stays No e = e
  stays Usage e = e
  stays ReadFault e = e
  stays Refused e = e

  cut : (status : Status) → IsAnswered status → EndsWith Of status a b → EndsWith Of WriteFault a c
  cut Done is e = (e.0, e.1, whole_cut a b c e.0 e.2 k)
  cut WriteFault is e = absurd is
  cut NoMemory is e = absurd is
  cut No is e = absurd e
  cut Usage is e = absurd is
  cut ReadFault is e = absurd is
  cut Refused is e = absurd e

  -- if a command that reads no input meets its contract (`EndsWith`), it still does after the end of the output
  pub ends_after : (status result : Status) (m n : ℕ) → AtOutputEnd status result m n → EndsWith Of status a b
      → EndsWith Of result a c
  ends_after status result m n ended e = elim ended [
    | inl same ↦ subst (λ s. EndsWith Of s a c) (sym same.0) (stays status e)
    | inr faulty ↦ subst (λ s. EndsWith Of s a c) (sym faulty.1) (cut status faulty.0 e)
  ]

-- if a source was read to its end, `input` is all that was left in it before
all_read : (Is : List ℕ → List ℕ → Type 0) (left left_after : Option (List ℕ)) (input output : List ℕ)
    → Consumes left left_after input → IsAtEnd left_after → Is input output → IfSome left (λ all. Is all output)
all_read Is None after input output read end is = tt
all_read Is (Some all) None input output read end is = absurd read
all_read Is (Some all) (Some rest) input output read end is =
    let same : all ≡ input = read ∙ ap (λ l. input ++ l) end ∙ append-nil input in
    subst (λ text. Is text output) (sym same) is

also_refused : (Of : List ℕ → Status → List ℕ → Type 0) (left : Option (List ℕ)) (output : List ℕ)
    → IfSome left (λ all. Of all Refused output) → IfSome left (λ all. SomeAnswer (Of all) output)
also_refused Of None output is = tt
also_refused Of (Some all) output is = (Refused, tt, is)

module _ (most : ℕ) (Of : List ℕ → Status → List ℕ → Type 0) (left left_after a b c : Option (List ℕ)) (k : Keeps b c)
  where
    answer_stays : (Is : List ℕ → List ℕ → Type 0) → WasAnswered most Is left left_after a b
        → WasAnswered most Is left left_after a c
    answer_stays Is e = record {
      input = e.input;
      output = e.output;
      read = e.read;
      whole = e.whole;
      is = e.is;
      written = appends_kept a b c e.output e.written k;
    }

    given_up : WasGivenUp most left left_after a b → WasGivenUp most left left_after a c
    given_up e = record { taken = e.taken; kept = Keeps-trans a b c e.kept k }

    read_stays : (status : Status) → ReadsEnds most Of status left left_after a b
        → ReadsEnds most Of status left left_after a c
    read_stays Done e = answer_stays (λ input output. Of input Done output) e
    read_stays No e = answer_stays (λ input output. Of input No output) e
    read_stays Refused e = record {
      input = e.input;
      output = e.output;
      read = e.read;
      refusal = e.refusal;
      of_all = e.of_all;
      written = appends_kept a b c e.output e.written k;
    }
    read_stays WriteFault e = record {
      input = e.input;
      output = e.output;
      read = e.read;
      output_is = e.output_is;
      of_all = e.of_all;
      written = prefix_kept a b c e.output e.written k;
    }
    read_stays ReadFault e = given_up e
    read_stays NoMemory e = given_up e
    read_stays Usage e = e

    answer_cut : (status : Status) → IsAnswered status
        → WasAnswered most (λ input output. Of input status output) left left_after a b
        → ReadsEnds most Of WriteFault left left_after a c
    answer_cut status is e = record {
      input = e.input;
      output = e.output;
      read = e.read;
      output_is = (status, is, e.is);
      of_all = all_read (λ input output. SomeAnswer (Of input) output) left left_after e.input e.output e.read.read e.whole
          (status, is, e.is);
      written = whole_cut a b c e.output e.written k;
    }

    read_cut : (status : Status) → IsAnswered status → ReadsEnds most Of status left left_after a b
        → ReadsEnds most Of WriteFault left left_after a c
    read_cut Done is e = answer_cut Done is e
    read_cut No is e = answer_cut No is e
    read_cut Refused is e = record {
      input = e.input;
      output = e.output;
      read = e.read;
      output_is = (Refused, tt, e.refusal);
      of_all = also_refused Of left e.output e.of_all;
      written = whole_cut a b c e.output e.written k;
    }
    read_cut Usage is e = absurd is
    read_cut ReadFault is e = absurd is
    read_cut WriteFault is e = absurd is
    read_cut NoMemory is e = absurd is

    -- if a command that reads its input meets its contract (`ReadsEnds`), it still does after the end of the output
    pub reads_end_after : (status result : Status) (m n : ℕ) → AtOutputEnd status result m n
        → ReadsEnds most Of status left left_after a b → ReadsEnds most Of result left left_after a c
    reads_end_after status result m n ended e = elim ended [
      | inl same ↦ subst (λ s. ReadsEnds most Of s left left_after a c) (sym same.0) (read_stays status e)
      | inr faulty ↦ subst (λ s. ReadsEnds most Of s left left_after a c) (sym faulty.1) (read_cut status faulty.0 e)
    ]
