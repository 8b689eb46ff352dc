use Rattle.std.proofs.Common.{arith, length}
use Rattle.std.proofs.lemmas.List.{length-drop}
use Rattle.key_names.specs.Texts.ScriptFaults.{front}
use Rattle.tool_ends.specs.Pairs.{following}
use Rattle.tool_ends.proofs.Taking.{fault_stays, found_on, on_ok}
use Rattle.tool_ends.proofs.intake.Opened.take.Goals as goal

pub take-requires : goal.take-requires
take-requires c =
    let asked = c.requires.short in
    let found = rw c.in-Script.is at asked.2 in record {
      short = (
        following asked.0,
        found.holds,
        omega (arith, length-drop (length (front asked.0)) asked.0, asked.3),
      );
    }

pub returns-in-Script-clause-opened : goal.returns-in-Script-clause-opened
returns-in-Script-clause-opened c =
    on_ok c.take.result (λ more input end opened.
    let found = rw c.in-Script.is at opened in
    found_on input c.args.piece.now c.in-Script.field-0 c.in-Script.text c.take.new.self end found
    (more (following input) found.holds)) c.take.ensures.more

pub returns-in-Faulty-clause-opened : goal.returns-in-Faulty-clause-opened
returns-in-Faulty-clause-opened c = λ input end opened.
    rw c.in-Faulty.is (fault_stays input c.args.piece.now c.in-Faulty.field-0 end (rw c.in-Faulty.is at opened))
