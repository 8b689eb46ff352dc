use Rattle.std.proofs.Common.{None, refl}
use Rattle.key_names.specs.Kernel.Vgetrandom.{read}
use Rattle.test_core.proofs.vcall_fork_tests.ForkListHostVHost.getrandom.Goals as goal

pub returns-clause-answers : goal.returns-clause-answers
returns-clause-answers c = (read c.fill.new.self None, (refl, refl), tt)
