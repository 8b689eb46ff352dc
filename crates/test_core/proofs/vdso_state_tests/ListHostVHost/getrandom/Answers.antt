use Rattle.std.proofs.Common.{None, refl}
use Rattle.key_names.specs.Kernel.Vgetrandom.{read, failed}
use Rattle.test_core.proofs.vdso_state_tests.ListHostVHost.getrandom.Goals as goal

pub returns-in-Ok-clause-answers : goal.returns-in-Ok-clause-answers
returns-in-Ok-clause-answers c = (read c.fill.new.self None, (refl, refl), tt)

pub returns-in-Err-clause-answers : goal.returns-in-Err-clause-answers
returns-in-Err-clause-answers c = (failed c.in-Err.errno, refl, tt)
