use Rattle.std.proofs.Common.{rules}
use Rattle.key_names.specs.Texts.ScriptGrammar.{WellFormed}
use Rattle.transcript_check.specs.declared.check.Verdict.TheVariants.{Yes}
use Rattle.tool_ends.proofs.Pairs.{few_lines}
use Rattle.rng_tool.proofs.Loads.{load_of}
use Rattle.rng_tool.proofs.load.summary.Goals as goal

pub checked_line-requires-clause-few : goal.checked_line-requires-clause-few
checked_line-requires-clause-few g c =
    let ok : WellFormed c.in_ok-script.script = search rules in
    few_lines c.in_ok-script.script c.in_ok-transcript.transcript ok c.in_ok-transcript.ensures.run.lawful.lines

pub returns : goal.returns
returns g c =
    let sound = c.in_ok-transcript.ensures.run in
    load_of c.args.load.start c.args.load.callers c.args.load.events c.in_ok-script.script
    c.in_ok-transcript.transcript c.in_ok-line.line.bytes c.in_ok-script.ensures sound (c.in_ok-line.ensures Yes sound)
