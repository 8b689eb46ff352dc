use Rattle.std.proofs.Common.{ap, subst, sym, ◌∙◌, inl, inr}
use Rattle.key_names.specs.Transcripts.IsTranscript.{script_calls}
use Rattle.judge_lines.specs.Clauses.{clause_of}
use Rattle.tool_ends.specs.Pairs.{no_line}
use Rattle.tool_ends.specs.declared.status.Status.TheVariants.{Done, No}
use Rattle.tool_ends.proofs.Inputs.{the_answer, wider}
use Rattle.key_audit.specs.Outcome.{Tells, ListedOf}
use Rattle.key_audit.proofs.audit.tell.Goals as goal

pub returns-in-Ok-Some-clause-ends : goal.returns-in-Ok-Some-clause-ends
returns-in-Ok-Some-clause-ends g c =
    let kept = rw c.in-Ok-Lawful.field-0-is at c.in-Ok-Lawful.ensures in
    let Of = ListedOf c.args.ask c.args.script.now c.args.t in
    let listed = rw c.in-Ok-Some.field-0-is at (c.in-Ok-Some.ensures c.args.t kept.sound.book kept.sound.meanings kept.sound.lawful kept.keeps) in
    wider _ Of (the_answer Of Done c.deref.result.now (record {
      sound = kept.sound;
      there = listed.0;
      tells = subst
          (Tells c.args.ask c.args.script.now (script_calls c.args.script.now c.args.t) kept.sound.book kept.sound.meanings)
          (sym c.deref.ensures.value) listed.1;
    })) _ _ _ c.put_answer.ensures.ends

pub returns-in-Ok-None-clause-ends : goal.returns-in-Ok-None-clause-ends
returns-in-Ok-None-clause-ends g c =
    let kept = rw c.in-Ok-Lawful.field-0-is at c.in-Ok-Lawful.ensures in
    let Of = ListedOf c.args.ask c.args.script.now c.args.t in
    wider _ Of (the_answer Of No c.as_bytes.result.now (inr (record {
      sound = kept.sound;
      missing = rw c.in-Ok-None.field-0-is at (c.in-Ok-None.ensures c.args.t kept.sound.book kept.sound.meanings kept.sound.lawful kept.keeps);
      line = c.as_bytes.ensures.value ∙ c.missing_text.ensures;
    }))) _ _ _ c.put_answer-in-Ok-None.ensures.ends

pub returns-in-Ok-Unlawful-clause-ends : goal.returns-in-Ok-Unlawful-clause-ends
returns-in-Ok-Unlawful-clause-ends g c =
    let fails = rw c.in-Ok-Unlawful.field-0-is at c.in-Ok-Unlawful.ensures in
    let Of = ListedOf c.args.ask c.args.script.now c.args.t in
    wider _ Of (the_answer Of No c.no_line.result.bytes
    (inl (record { clause = clause_of c.in-Ok-Unlawful.clause; fails = fails; line = c.no_line.ensures ∙ ap no_line c.number.ensures }))) _ _ _ c.put_line.ensures.ends
