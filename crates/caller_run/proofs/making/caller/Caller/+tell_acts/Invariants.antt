-- The recursion of `tell_acts` ends, since its list of acts gets shorter.
use Rattle.std.proofs.Common.{length}
use Rattle.caller_run.proofs.making.caller.Caller.+tell_acts.Given as goal

abbrev pub decreases-tell_acts : goal.decreases-tell_acts
decreases-tell_acts l = length l.acts.now
