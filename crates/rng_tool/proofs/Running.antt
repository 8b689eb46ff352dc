-- If an output is right for a script, it is right for the input that is the script's text. If an input is no script,
-- and an output is right for the reason, the output is right for this input.
use Rattle.std.proofs.Common.{ℕ, List, sym, subst}
use Rattle.key_names.specs.Texts.ScriptGrammar.{Script, IsScript}
use Rattle.tool_ends.specs.Pairs.{IsNoScript, RefusalOf}
use Rattle.tool_ends.specs.Reads.{OnlyDone}
use Rattle.tool_ends.specs.declared.pair.NotRead.{NotRead}
use Rattle.tool_ends.specs.declared.pair.NotRead.TheVariants.{ReadFault as SourceFails, Refused as FirstFault, NoTranscript, TooManyLines, NoMemory as Unread}
use Rattle.tool_ends.specs.declared.status.Status.{Status}
use Rattle.tool_ends.specs.declared.status.Status.TheVariants.{Done, No, Usage, ReadFault, WriteFault, Refused, NoMemory}
use Rattle.rng_tool.specs.Outcome.{CallsFor, RunOf}

pub script_runs : (input : List ℕ) (script : Script) → IsScript script input → (s : Status) (o : List ℕ) →
    OnlyDone (RunOf script) s o → CallsFor input s o
script_runs input script is Done o run = record { script = script; is_script = is; run = run }
script_runs input script is No o run = absurd run
script_runs input script is Usage o run = absurd run
script_runs input script is ReadFault o run = absurd run
script_runs input script is WriteFault o run = absurd run
script_runs input script is Refused o run = absurd run
script_runs input script is NoMemory o run = absurd run

pub none_called : (input : List ℕ) (why : NotRead) → IsNoScript input why → (s : Status) (o : List ℕ) →
    RefusalOf why s o → CallsFor input s o
none_called input SourceFails is s o said = absurd is
none_called input (FirstFault fault) is s o said = subst (λ status. CallsFor input status o) (sym said.0)
    (record { fault = fault; first = is; line = said.1 })
none_called input NoTranscript is s o said = absurd is
none_called input TooManyLines is s o said = absurd is
none_called input Unread is s o said = absurd said
