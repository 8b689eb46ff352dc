use Rattle.std.proofs.Common.{[], ◌++◌, codes, sym, subst}
use Rattle.std.specs.Prelude.{IsSomeAnd}
use Rattle.std.specs.Io.KnownBytes.{Appends}
use Rattle.std.proofs.KnownBytes.{Appends-trans}
use Rattle.io_edges.specs.Pieces.{AppendsPrefix}
use Rattle.key_names.specs.Texts.TranscriptGrammar.{LineFits}
use Rattle.caller_run.specs.Alone.{IsGoing, last_line}
use Rattle.transcript_text.specs.Lines.{whole_line}
use Rattle.rng_tool.proofs.LiveEvents.{cut_writes}
use Rattle.rng_tool.proofs.WrittenLines.{prefix_after, prefix_longer}
use Rattle.rng_tool.proofs.session_writer.SessionWriter.end.Goals as goal

pub returns-in_err-write-clause-ended : goal.returns-in_err-write-clause-ended
returns-in_err-write-clause-ended g c = λ script lines is.
    let going = subst (λ o. IsSomeAnd o (λ run. IsGoing script [] run lines)) (sym c.in-Some.ensures.value) is in
    let last = last_line c.end.new.self in
    let held = g.K.Sink.held in (
      last,
      c.end.ensures.lawful script lines going,
      subst LineFits c.line.ensures.line c.line.ensures.fits,
      cut_writes c.from_residual.result _ _ (whole_line last ++ codes "end\n") c.from_residual.ensures.1
          (prefix_longer _ _ (whole_line last) (codes "end\n")
          (subst (λ l. AppendsPrefix (held c.args.sink.now) (held c.write.new.sink) (whole_line l)) c.line.ensures.line
          c.write.ensures.prefix)),
    )

pub returns-in_err-end-clause-ended : goal.returns-in_err-end-clause-ended
returns-in_err-end-clause-ended g c = λ script lines is.
    let going = subst (λ o. IsSomeAnd o (λ run. IsGoing script [] run lines)) (sym c.in-Some.ensures.value) is in
    let last = last_line c.end.new.self in
    let held = g.K.Sink.held in (
      last,
      c.end.ensures.lawful script lines going,
      subst LineFits c.line.ensures.line c.line.ensures.fits,
      cut_writes c.from_residual-in_err-end.result _ _ (whole_line last ++ codes "end\n")
          c.from_residual-in_err-end.ensures.1
          (prefix_after (held c.args.sink.now) (held c.write.new.sink) (held c.end-2.new.sink) (whole_line last) (codes "end\n")
          (subst (λ l. Appends (held c.args.sink.now) (held c.write.new.sink) (whole_line l)) c.line.ensures.line
          c.in_ok-write.ensures.whole) c.end-2.ensures.prefix),
    )

pub returns-clause-ended : goal.returns-clause-ended
returns-clause-ended g c = λ script lines is.
    let going = subst (λ o. IsSomeAnd o (λ run. IsGoing script [] run lines)) (sym c.in-Some.ensures.value) is in
    let last = last_line c.end.new.self in
    let held = g.K.Sink.held in (
      last,
      c.end.ensures.lawful script lines going,
      subst LineFits c.line.ensures.line c.line.ensures.fits,
      Appends-trans (held c.args.sink.now) (held c.write.new.sink) (held c.end-2.new.sink) (whole_line last) (codes "end\n")
          (subst (λ l. Appends (held c.args.sink.now) (held c.write.new.sink) (whole_line l)) c.line.ensures.line
          c.in_ok-write.ensures.whole) c.in_ok-end.ensures.whole,
    )
