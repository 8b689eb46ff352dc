use Rattle.key_names.proofs.Vgetrandom.CallsKeep as calls
use Rattle.key_names.proofs.laws.uses_leave_lawful_lists.Goals as goal

pub returns : goal.returns
returns c = calls.uses_leave_lawful_lists
