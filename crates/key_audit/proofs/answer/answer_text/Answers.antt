use Rattle.std.proofs.Common.{sym, ◌∙◌}
use Rattle.key_names.specs.Transcripts.IsTranscript.{script_calls}
use Rattle.key_audit.proofs.answer.answer_text.Goals as goal

pub returns-then-not-is_there : goal.returns-then-not-is_there
returns-then-not-is_there c t of ms lawful keeps =
    sym (c.is_there.ensures t (script_calls c.args.script.now t) of ms keeps) ∙ c.if-not-is_there.true

pub returns : goal.returns
returns c t of ms lawful keeps =
    let there = sym (c.is_there.ensures t (script_calls c.args.script.now t) of ms keeps) ∙ c.if-not-is_there.false in
    (there, c.in_ok-text.ensures t of ms lawful keeps there)
