-- If the status for an input is `Done` or `No`, the input is within its limit of bytes. All inputs above the limit have
-- the same refusal.
use Rattle.std.proofs.Common.{ℕ, ◌≡◌, ◌≤◌, ◌<◌, true, ltb, List, Some, length, sym, ap, ◌∙◌, arith, refl}
use Rattle.std.proofs.lemmas.Bool.{lt-ltb}
use Rattle.key_names.specs.declared.faults.FaultKind.TheVariants.{TooLong}
use Rattle.key_names.specs.Texts.ScriptFaults.{first_fault, script_of}
use Rattle.key_names.specs.Texts.ScriptGrammar.{Script, IsScript}
use Rattle.tool_ends.proofs.Inputs.{IsLimited}
use Rattle.tool_ends.proofs.Pairs.{too_long_alike}
use Rattle.rng_tool.specs.JudgeOutcome.{JudgeCalls}
use Rattle.rng_tool.specs.Outcome.{CallsFor}
use Rattle.rng_tool.specs.declared.judge.Judge.{Judge}

-- ---- the inputs of `run`: scripts

-- a text of more than 16 MiB has its first fault at line 0, of the kind TooLong
pub too_long : (text : List ℕ) → 16777216 < length text → first_fault text ≡ Some (record { line = 0; kind = TooLong })
unfolding script_of
too_long text long = let is : ltb 16777216 (length text) ≡ true = lt-ltb _ _ long in rw is refl

script_is_short : (script : Script) (input : List ℕ) → IsScript script input → length input ≤ 16777216
script_is_short script input is =
    let spelt : length input ≡ _ = ap length is.spelt in let short = is.well_formed.text in omega arith

pub run_is_limited : IsLimited 16777216 CallsFor
run_is_limited = record {
  done = λ input output run. script_is_short run.script input run.is_script;
  no = λ input output is. absurd is;
  refused = λ input all output long too is. record {
    fault = is.fault;
    first = too_long all too ∙ sym (too_long input long) ∙ is.first;
    line = is.line;
  };
}

-- ---- the inputs of `check` and `replay`: a script and a transcript

pub judge_is_limited : (judge : Judge) → IsLimited 100663296 (JudgeCalls judge)
judge_is_limited judge = record {
  done = λ input output is. is.pair.short;
  no = λ input output is. is.short;
  refused = λ input all output long too tells. too_long_alike input all output long too tells;
}
