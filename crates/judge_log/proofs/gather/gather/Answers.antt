use Rattle.judge_log.specs.Tables.{tables_of}
use Rattle.judge_log.proofs.Tables.GatheredTables.{gathered, absent_cpu}
use Rattle.judge_log.proofs.gather.gather.Goals as goal

pub returns-in_default-clause-none : goal.returns-in_default-clause-none
returns-in_default-clause-none c =
    let some = rw (c.in_default.is, c.cpus.ensures, c.deref.ensures.value) at c.in_ok-inferred.ensures.none in
    λ t conforms book of. absent_cpu c.args.script.now t c.args.parts.now conforms some book of

pub returns-clause-some : goal.returns-clause-some
returns-clause-some c =
    let long = rw (c.in-Some.is, c.cpus.ensures, c.deref.ensures.value) at c.in_ok-inferred.ensures.some in
    let changes = rw c.deref-2.ensures.value at c.tell_callers.ensures in
    λ t conforms. gathered c.args.script.now t c.args.parts.now c.args.settings.now (tables_of c.in-Some.inferred)
    (tables_of c.tell_callers.new.inferred) c.requires.well c.requires.found long changes conforms
