-- The recursion of `all_wanted` ends, since its list of acts gets shorter.
use Rattle.std.proofs.Common.{length}
use Rattle.caller_run.proofs.making.acts.+all_wanted.Given as goal

abbrev pub decreases-all_wanted : goal.decreases-all_wanted
decreases-all_wanted l = length l.acts.now
