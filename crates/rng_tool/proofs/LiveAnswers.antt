-- How a session ends: first after its answer was written, and then after the flush at the end of the output.
use Rattle.std.proofs.Common.{◌≡◌, ℕ, ◌+◌, ◌⊎◌, inl, inr, Option, None, Some, List, [], ◌++◌, refl, sym, ap, subst, ◌∙◌, append-nil, append_assoc, length, arith}
use Rattle.std.specs.Prelude.{IfSome, Err, take}
use Rattle.std.specs.Io.KnownBytes.{Appends, Consumes, Keeps}
use Rattle.std.proofs.KnownBytes.{Appends-trans}
use Rattle.std.proofs.lemmas.List.{take_all}
use Rattle.io_edges.specs.Pieces.{AppendsPrefix}
use Rattle.io_edges.proofs.Pieces.{AppendsPrefix-of_whole}
use Rattle.key_names.specs.declared.faults.ScriptFault.{ScriptFault}
use Rattle.key_names.specs.Texts.ScriptFaults.{fault_in, first_fault}
use Rattle.key_names.specs.Texts.ScriptGrammar.{IsScript, Script}
use Rattle.key_names.proofs.Script.ScriptTexts.{script_again}
use Rattle.caller_run.specs.Alone.{IsEmittedByOne}
use Rattle.tool_ends.specs.Ends.{AtOutputEnd, IsAnswered}
use Rattle.tool_ends.specs.Pairs.{refusal_line}
use Rattle.tool_ends.specs.Reads.{WritesEnds}
use Rattle.tool_ends.specs.declared.status.Status.{Status}
use Rattle.tool_ends.specs.declared.status.Status.TheVariants as status
use Rattle.tool_ends.proofs.Endings.{appends_kept}
use Rattle.rng_tool.specs.LiveOutcome.{LiveEnds, RefusesBy, Emitted, EmittedAll, EmittedPart, EmittedRefusal, not_alone_line}
use Rattle.rng_tool.specs.LiveSteps.{SessionEnds, EmittedToFault, EmittedToLine}
use Rattle.rng_tool.specs.declared.stop.Stop.TheVariants.{NoMemory, NotAlone, Refused}
use Rattle.rng_tool.proofs.LiveLines.{event_dooms, fails_hopeless}
use Rattle.rng_tool.proofs.WrittenLines.{prefix_after}

-- if a whole text was appended and the sink then did not change, a prefix of the text was appended
whole_cut : (a b c : Option (List ℕ)) (text : List ℕ) → Appends a b text → Keeps b c → AppendsPrefix a c text
whole_cut a b c text whole kept = AppendsPrefix-of_whole a c text (appends_kept a b c text whole kept)

pub memory_ends : (left left_after held now after : Option (List ℕ)) → SessionEnds (Err NoMemory) left left_after held now
    → Keeps now after → LiveEnds status.WriteFault left left_after held after
memory_ends left left_after held now after ends kept = record {
  text = ends.text;
  output = ends.output;
  taken = ends.taken;
  is = inl ends.is;
  written = whole_cut held now after ends.output ends.written kept;
}

-- ---- sessions whose output ends with the line `refused LINE KIND`

module _ (left left_after held now after : Option (List ℕ)) (text emitted line : List ℕ) (all : EmittedAll text emitted)
    (refusal : RefusesBy left left_after text line) where
  refuses : EmittedRefusal left left_after text (emitted ++ line)
  refuses = record { emitted = emitted; line = line; all = all; refusal = refusal; output_is = refl }

-- if a session refuses its script, the line of the refusal is written, or the sink fails. In both cases the session
-- ends as `LiveEnds` states
refused_by : (left left_after held now after : Option (List ℕ)) (result : Status) (line wanted : List ℕ)
    (Is : List ℕ → List ℕ → Type 0) → (t : Emitted Is left left_after held now)
    → ((text emitted : List ℕ) → Is text emitted → EmittedAll text emitted × RefusesBy left left_after text wanted)
    → line ≡ wanted → (result ≡ status.Refused) ⊎ (result ≡ status.WriteFault)
    → WritesEnds (λ is output. (is ≡ status.Refused) × (output ≡ line)) result now after
    → LiveEnds result left left_after held after
refused_by left left_after held now after status.Refused line wanted Is t by same answered ends =
    let both = by t.text t.output t.is in record {
      text = t.text;
      output = t.output ++ wanted;
      taken = t.taken;
      is = refuses left left_after held now after t.text t.output wanted both.0 both.1;
      written = Appends-trans held now after t.output wanted t.written
          (subst (Appends now after) (ends.1.1 ∙ same) ends.2);
    }
refused_by left left_after held now after status.WriteFault line wanted Is t by same answered ends =
    let both = by t.text t.output t.is in record {
      text = t.text;
      output = t.output ++ wanted;
      taken = t.taken;
      is = inr (refuses left left_after held now after t.text t.output wanted both.0 both.1);
      written = prefix_after held now after t.output wanted t.written
          (subst (AppendsPrefix now after) (ends.1.2.1 ∙ same) ends.2);
    }
refused_by left left_after held now after status.Done line wanted Is t by same answered ends =
    (let never = ends.1.0 in absurd cc)
refused_by left left_after held now after status.No line wanted Is t by same answered ends =
    (let never = ends.1.0 in absurd cc)
refused_by left left_after held now after status.NoMemory line wanted Is t by same answered ends =
    elim answered [ inl never ↦ (let none = never in absurd cc) | inr never ↦ (let none = never in absurd cc) ]
refused_by left left_after held now after status.Usage line wanted Is t by same answered ends = absurd ends
refused_by left left_after held now after status.ReadFault line wanted Is t by same answered ends = absurd ends

pub fault_ends : (left left_after held now after : Option (List ℕ)) (fault : ScriptFault) (line : List ℕ) (result : Status)
    → SessionEnds (Err (Refused fault)) left left_after held now → line ≡ refusal_line fault
    → (result ≡ status.Refused) ⊎ (result ≡ status.WriteFault)
    → WritesEnds (λ is output. (is ≡ status.Refused) × (output ≡ line)) result now after
    → LiveEnds result left left_after held after
fault_ends left left_after held now after fault line result ends same answered put =
    refused_by left left_after held now after result line (refusal_line fault) (EmittedToFault left left_after fault) ends
    (λ text emitted is. (is.all, inl (fault, is.fails, refl))) same answered put

pub line_ends : (left left_after held now after : Option (List ℕ)) (number : ℕ) (line : List ℕ) (result : Status)
    → SessionEnds (Err (NotAlone number)) left left_after held now → line ≡ not_alone_line number
    → (result ≡ status.Refused) ⊎ (result ≡ status.WriteFault)
    → WritesEnds (λ is output. (is ≡ status.Refused) × (output ≡ line)) result now after
    → LiveEnds result left left_after held after
line_ends left left_after held now after number line result ends same answered put =
    refused_by left left_after held now after result line (not_alone_line number) (EmittedToLine number) ends
    (λ text emitted is. (is.all, inr (number, is.not_alone, refl))) same answered put

-- ---- how a session has ended after the flush of its output

prefix_kept : (a b c : Option (List ℕ)) (text : List ℕ) → AppendsPrefix a b text → Keeps b c → AppendsPrefix a c text
prefix_kept a b c text p kept = (p.0, p.1, appends_kept a b c _ p.2 kept)

module _ (left left_after a b c : Option (List ℕ)) (kept : Keeps b c) where
  emitted_stays : (Is : List ℕ → List ℕ → Type 0) → Emitted Is left left_after a b → Emitted Is left left_after a c
  emitted_stays Is t = record {
    text = t.text;
    output = t.output;
    taken = t.taken;
    is = t.is;
    written = appends_kept a b c t.output t.written kept;
  }

  live_stays : (s : Status) → LiveEnds s left left_after a b → LiveEnds s left left_after a c
  live_stays status.Done e = record {
    input = e.input;
    output = e.output;
    read = e.read;
    whole = e.whole;
    is = e.is;
    written = appends_kept a b c e.output e.written kept;
  }
  live_stays status.Refused e = emitted_stays (EmittedRefusal left left_after) e
  live_stays status.ReadFault e = emitted_stays EmittedAll e
  live_stays status.NoMemory e = emitted_stays EmittedPart e
  live_stays status.WriteFault e = record {
    text = e.text;
    output = e.output;
    taken = e.taken;
    is = e.is;
    written = prefix_kept a b c e.output e.written kept;
  }
  live_stays status.No e = e
  live_stays status.Usage e = e

  live_cut : (s : Status) → IsAnswered s → LiveEnds s left left_after a b → LiveEnds status.WriteFault left left_after a c
  live_cut status.Done answered e =
      let short = e.is.is_script.well_formed.text in record {
        text = e.input;
        output = e.output;
        taken = record { read = e.read.read; few = omega (arith, short, ap length e.is.is_script.spelt) };
        is = inl (record {
          front = e.input;
          rest = [];
          parts = sym (append-nil e.input);
          emitted = inr (inr e.is);
        });
        written = whole_cut a b c e.output e.written kept;
      }
  live_cut status.Refused answered e = record {
    text = e.text;
    output = e.output;
    taken = e.taken;
    is = inr e.is;
    written = whole_cut a b c e.output e.written kept;
  }
  live_cut status.No answered e = absurd e
  live_cut status.Usage answered e = absurd answered
  live_cut status.ReadFault answered e = absurd answered
  live_cut status.WriteFault answered e = absurd answered
  live_cut status.NoMemory answered e = absurd answered

  pub live_ends_after : (s result : Status) (m n : ℕ) → AtOutputEnd s result m n → LiveEnds s left left_after a b
      → LiveEnds result left left_after a c
  live_ends_after s result m n ended e = elim ended [
    | inl same ↦ subst (λ x. LiveEnds x left left_after a c) (sym same.0) (live_stays s e)
    | inr faulty ↦ subst (λ x. LiveEnds x left left_after a c) (sym faulty.1) (live_cut s faulty.0 e)
  ]

-- ---- a script of one caller is not refused

not_first : (script : Script) (all : List ℕ) (fault : ScriptFault) → IsScript script all
    → first_fault all ≡ Some fault → ⊥
not_first script all fault is first = let none = ap fault_in (script_again all script is) in cc (none, first)

whole_input : (script : Script) (all text : List ℕ) → IsScript script all → text ≡ take 16777217 all → text ≡ all
whole_input script all text is front =
    let short = is.well_formed.text in front ∙ take_all 16777217 all (omega (arith, short, ap length is.spelt))

not_refused : (left_after : Option (List ℕ)) (all text line : List ℕ) (script : Script)
    → Consumes (Some all) left_after text → IsScript script all → IsEmittedByOne script
    → RefusesBy (Some all) left_after text line → ⊥
not_refused None all text line script read is one refusal = absurd read
not_refused (Some rest) all text line script read is one (inl refusal) = elim refusal.1 [
  | inl inside ↦
      fails_hopeless inside.front (inside.rest ++ rest) refusal.0 script inside.fails
      (subst (IsScript script) (read ∙ ap (λ t. t ++ rest) inside.parts ∙ append_assoc inside.front inside.rest rest) is)
  | inr ended ↦
      not_first script all refusal.0 is
      (subst (λ t. first_fault t ≡ Some refusal.0) (whole_input script all text is ended.read.front) ended.first)
]
not_refused (Some rest) all text line script read is one (inr refusal) =
    let n = refusal.1 in
    n.not_once (event_dooms n.front (n.rest ++ rest) n.draft n.event (refusal.0 + 1) script n.goes
    (subst (IsScript script) (read ∙ ap (λ t. t ++ rest) n.parts ∙ append_assoc n.front n.rest rest) is) one)

pub live_completes : (left_after a b : Option (List ℕ)) (s : Status) (left : Option (List ℕ))
    → LiveEnds s left left_after a b → (s ≡ status.ReadFault → ⊥) → (s ≡ status.WriteFault → ⊥)
    → IfSome left (λ all. (script : Script) → IsScript script all → IsEmittedByOne script
    → (s ≡ status.Done) ⊎ (s ≡ status.NoMemory))
live_completes left_after a b s None e read written = tt
live_completes left_after a b status.Done (Some all) e read written = λ script is one. inl refl
live_completes left_after a b status.NoMemory (Some all) e read written = λ script is one. inr refl
live_completes left_after a b status.Refused (Some all) e read written = λ script is one.
    absurd (not_refused left_after all e.text e.is.line script e.taken.read is one e.is.refusal)
live_completes left_after a b status.ReadFault (Some all) e read written = absurd (read refl)
live_completes left_after a b status.WriteFault (Some all) e read written = absurd (written refl)
live_completes left_after a b status.No (Some all) e read written = absurd e
live_completes left_after a b status.Usage (Some all) e read written = absurd e
