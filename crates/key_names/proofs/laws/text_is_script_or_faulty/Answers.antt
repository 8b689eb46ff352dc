use Rattle.key_names.proofs.Script.ScriptOrFault as script
use Rattle.key_names.proofs.laws.text_is_script_or_faulty.Goals as goal

pub returns : goal.returns
returns c = script.text_is_script_or_faulty
