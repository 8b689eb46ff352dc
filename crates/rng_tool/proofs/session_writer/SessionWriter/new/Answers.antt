use Rattle.rng_tool.proofs.LiveEvents.{starts}
use Rattle.rng_tool.proofs.session_writer.SessionWriter.new.Goals as goal

pub returns : goal.returns
returns c = starts
