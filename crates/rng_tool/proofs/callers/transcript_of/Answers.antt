use Rattle.std.proofs.Common.{refl, arith}
use Rattle.rng_tool.proofs.Runs.{as_many, run_of, under_own_number}
use Rattle.rng_tool.proofs.callers.transcript_of.Goals as goal

pub prove-unreachable-requires : goal.prove-unreachable-requires
prove-unreachable-requires g c =
    let fit = c.in_ok-transcript.ensures.1.transcript.lines in
    let same = as_many 0 c.args.script.now.callers c.in_ok-transcript.transcript fit in
    c.if-prove.true (omega (arith, c.callers.ensures.number, c.callers-2.ensures, same))

pub returns-clause-run : goal.returns-clause-run
returns-clause-run g c = run_of c.args.script.now c.in_ok-transcript.transcript c.requires
    c.in_ok-transcript.ensures

pub returns-clause-text : goal.returns-clause-text
returns-clause-text g c =
    let fit = c.in_ok-transcript.ensures.1.transcript.lines in record {
      fits = c.callers.ensures.fits;
      own = under_own_number 0 c.args.script.now.callers c.in_ok-transcript.transcript fit;
      spelled = refl;
    }
