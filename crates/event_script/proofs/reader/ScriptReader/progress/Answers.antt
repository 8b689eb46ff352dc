use Rattle.std.proofs.Common.{◌≤◌, arith, refl, inl, inr}
use Rattle.event_script.proofs.Waiting.{is_before, is_full}
use Rattle.event_script.proofs.reader.ScriptReader.progress.Goals as goal
use Rattle.event_script.proofs.reader.ScriptReader.progress.Goals.{in_default-stage-via-in-Lines+else-self, in_default-stage-via-in_default-stage}

pub returns-in_default-stage : goal.returns-in_default-stage
returns-in_default-stage c = record {
  shown = λ text fed. tt;
  waits = λ text fed ended is.
      let r = c.args.self.now in
      let short : r.len ≤ 16777216 = omega (arith, c.if-self-gt-MOST_BYTES.false) in
      let rest = ended short in
      elim c.in_default-stage.branch [
        | in_default-stage-via-in-Lines+else-self w ↦
            inr (is_full text r fed short rest w.in-Lines.draft w.in-Lines.number w.in-Lines.is
            (omega (arith, w.if-self.false)))
        | in_default-stage-via-in_default-stage w ↦
            inl (is_before text r fed short rest r.stage refl w.in_default-stage.not-Lines w.in_default-stage.not-Ended
            c.in_default.not-Faulty)
      ];
}
