-- If an answer is right for a script and a transcript, it is right for the input that consists of their texts.
use Rattle.std.proofs.Common.{◌≡◌, ℕ, List, Option, sym, subst, refl, ◌∙◌, inl, inr}
use Rattle.std.specs.Prelude.{IfSome}
use Rattle.key_names.specs.Transcripts.IsTranscript.{HasLines, clause_number, lines_clause}
use Rattle.key_names.specs.Texts.ScriptGrammar.{Script}
use Rattle.key_names.specs.Transcripts.SeenLine.{SeenLine}
use Rattle.key_names.specs.Texts.TranscriptGrammar.{TranscriptFits, transcript_text}
use Rattle.serial_replay.specs.Replayed.{IsTheTranscript}
use Rattle.tool_ends.specs.After.{IsApart, IsWhole, compared_with}
use Rattle.tool_ends.specs.Pairs.{FailsAsText, IsNoPair, IsPair, RefusalEnds, RefusalOf, following, no_line}
use Rattle.tool_ends.specs.Reads.{WritesEnds}
use Rattle.tool_ends.specs.declared.following.After.{After}
use Rattle.tool_ends.specs.declared.following.After.TheVariants.{Compared, Fed}
use Rattle.tool_ends.specs.declared.pair.NotRead.{NotRead}
use Rattle.tool_ends.specs.declared.pair.NotRead.TheVariants.{ReadFault as SourceFails, Refused as FirstFault, NoTranscript, TooManyLines, NoMemory as Unread}
use Rattle.tool_ends.specs.declared.status.Status.{Status}
use Rattle.tool_ends.specs.declared.status.Status.TheVariants.{Done, No, Usage, ReadFault, WriteFault, Refused, NoMemory}
use Rattle.rng_tool.specs.JudgeOutcome.{Fails, GivesBack, IsClause, JudgeCalls, SaidOf, yes_line}
use Rattle.rng_tool.specs.Outcome.{RunOf}
use Rattle.rng_tool.specs.declared.judge.Judge.{Judge}
use Rattle.rng_tool.specs.declared.judge.Judge.TheVariants.{Check, Replay}
use Rattle.tool_ends.proofs.Inputs.{wider}
use Rattle.rng_tool.proofs.Runs.{under_own_number}

-- if `made` is the one lawful transcript with the steps of `t`, the text of `made` is the right output of `replay`
pub gives_back : (script : Script) (t made : List (List SeenLine)) → TranscriptFits made →
    IsTheTranscript script t made → GivesBack script t (transcript_text made)
gives_back script t made fits is = record {
  made = made;
  is = is;
  written = record {
    fits = fits;
    own = under_own_number 0 script.callers made is.lawful.2.lines;
    spelled = refl;
  };
}

-- if status `s` and output `o` are right for a script and a transcript, and `input` consists of their texts, `s` and
-- `o` are right for `input`
pub pair_said : (judge : Judge) (input : List ℕ) (script : Script) (t : List (List SeenLine)) → IsPair input script t →
    (s : Status) (o : List ℕ) → SaidOf judge script t s o → JudgeCalls judge input s o
pair_said judge input script t pair Done o said = record { script = script; lines = t; pair = pair; says = said }
pair_said judge input script t pair No o said = record {
  short = pair.short;
  script = script;
  is_script = pair.is_script;
  number = clause_number said.0;
  clause = inr (t, pair.text, said.0, said.1, refl);
  line = said.2;
}
pair_said judge input script t pair Refused o said = absurd said
pair_said judge input script t pair Usage o said = absurd said
pair_said judge input script t pair ReadFault o said = absurd said
pair_said judge input script t pair WriteFault o said = absurd said
pair_said judge input script t pair NoMemory o said = absurd said

-- if a transcript does not have the script's lines, clause 2 is the first that fails
lacks_lines : (judge : Judge) (script : Script) (t : List (List SeenLine)) → (HasLines script t → ⊥) →
    Fails judge script t lines_clause
lacks_lines Check script t fails = fails
lacks_lines Replay script t fails = fails

clause_said : (judge : Judge) (input : List ℕ) (number : ℕ) (fails : FailsAsText input number) →
    IsClause judge fails.script (following input) number
clause_said judge input number fails = elim fails.clause [
  | inl none ↦ inl none
  | inr lacks ↦ inr (
    lacks.1.lines,
    lacks.1.is_text,
    lines_clause,
    lacks_lines judge fails.script lacks.1.lines lacks.1.fails,
    lacks.0,
  )
]

-- if the input's text fails clause `number` (1 or 2), status `No` and the line `no` with this number are a right answer
text_said : (judge : Judge) (input : List ℕ) (number : ℕ) → FailsAsText input number → (s : Status) (o : List ℕ) →
    (s ≡ No) × (o ≡ no_line number) → JudgeCalls judge input s o
text_said judge input number is s o said = subst (λ status. JudgeCalls judge input status o) (sym said.0) (record {
  short = is.short;
  script = is.script;
  is_script = is.is_script;
  number = number;
  clause = clause_said judge input number is;
  line = said.1;
})

-- if `input` cannot be read as a script and a transcript, for the reason `why`, the refusal for this reason is a right
-- answer
pub none_said : (judge : Judge) (input : List ℕ) (why : NotRead) → IsNoPair input why → (s : Status) (o : List ℕ) →
    RefusalOf why s o → JudgeCalls judge input s o
none_said judge input SourceFails is s o said = absurd is
none_said judge input (FirstFault fault) is s o said = subst (λ status. JudgeCalls judge input status o) (sym said.0)
    (record { fault = fault; first = is; line = said.1 })
none_said judge input NoTranscript is s o said = text_said judge input 1 is s o said
none_said judge input TooManyLines is s o said = text_said judge input 2 is.0 s o said
none_said judge input Unread is s o said = absurd said

-- if the text after a script is the whole output of a run of this script, `yes` is the right answer of `check`
pub run_said : (judge : Judge) (input : List ℕ) (script : Script) (text : After) → IsApart input script text →
    IfSome (compared_with text) (λ t. (judge ≡ Check) × RunOf script (transcript_text t)) → IsWhole text →
    JudgeCalls judge input Done yes_line
run_said judge input script (Compared comparison) apart made whole =
    let run = subst (RunOf script) (sym whole ∙ sym apart.holds) made.1 in
    subst (λ j. JudgeCalls j input Done yes_line) (sym made.0) (record {
      script = script;
      lines = run.lines;
      pair = record { short = apart.short; is_script = apart.is_script; text = run.written };
      says = record { sound = run.run; line = refl };
    })
run_said judge input script (Fed reader) apart made whole = absurd whole

-- if `input` cannot be read as a script and a transcript, for the reason `why`, writing the refusal ends the command as
-- its contract states
pub refusal_said : (judge : Judge) (input : List ℕ) (why : NotRead) → IsNoPair input why → (status : Status)
    (held held_after : Option (List ℕ)) → RefusalEnds why status held held_after →
    WritesEnds (JudgeCalls judge input) status held held_after
refusal_said judge input SourceFails none status held held_after e = absurd none
refusal_said judge input (FirstFault fault) none status held held_after e =
    wider _ (JudgeCalls judge input) (none_said judge input (FirstFault fault) none) status held held_after e
refusal_said judge input NoTranscript none status held held_after e =
    wider _ (JudgeCalls judge input) (none_said judge input NoTranscript none) status held held_after e
refusal_said judge input TooManyLines none status held held_after e =
    wider _ (JudgeCalls judge input) (none_said judge input TooManyLines none) status held held_after e
refusal_said judge input Unread none status held held_after e =
    wider _ (JudgeCalls judge input) (none_said judge input Unread none) status held held_after e
