use Rattle.std.proofs.Common.{arith, length}
use Rattle.std.proofs.lemmas.List.{length-drop}
use Rattle.key_names.specs.Texts.ScriptFaults.{front}
use Rattle.tool_ends.specs.Pairs.{IsNoPair, following}
use Rattle.tool_ends.proofs.Taking.{gives_none, no_pair_for, no_read_fault}
use Rattle.tool_ends.proofs.pair.read_pair.Goals as goal

pub transcript-requires : goal.transcript-requires
transcript-requires g c =
    let given = c.in_ok-script.ensures.read in
    let input = given.0 in record {
      short = (
        following input,
        given.2.holds,
        omega (arith, length-drop (length (front input)) input, given.2.short),
      );
    }

pub returns-in_err-t-clause-not_read : goal.returns-in_err-t-clause-not_read
returns-in_err-t-clause-not_read g c =
    let given = c.in_ok-script.ensures.read in
    gives_none 100663296 IsNoPair _ _ given.0 c.from_residual-in_err-t.result given.1 (omega (arith, given.2.short))
    (λ none. none) (no_pair_for given.0 _ _ c.from_residual-in_err-t.result given.2.short given.2.is_script
    (c.in_err-t.ensures.not_read (following given.0) given.2.holds) c.from_residual-in_err-t.ensures.1)

pub returns-in_err-t-clause-read_fault : goal.returns-in_err-t-clause-read_fault
returns-in_err-t-clause-read_fault g c =
    let given = c.in_ok-script.ensures.read in
    no_read_fault 100663296 IsNoPair _ given.0 c.from_residual-in_err-t.result (λ none. none)
    (no_pair_for given.0 _ _ c.from_residual-in_err-t.result given.2.short given.2.is_script
    (c.in_err-t.ensures.not_read (following given.0) given.2.holds) c.from_residual-in_err-t.ensures.1)

pub returns-clause-read : goal.returns-clause-read
returns-clause-read g c =
    let given = c.in_ok-script.ensures.read in (
      given.0,
      given.1,
      record {
        short = given.2.short;
        is_script = given.2.is_script;
        text = c.in_ok-t.ensures.read (following given.0) given.2.holds;
      },
    )
