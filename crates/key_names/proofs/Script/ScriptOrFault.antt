-- A script's text has no fault, and every other text has one.
use Rattle.std.proofs.Common.{◌≡◌, ℕ, List, None, ap, refl}
use Rattle.std.specs.Prelude.{Result, Ok, Err}
use Rattle.key_names.specs.declared.faults.ScriptFault.{ScriptFault}
use Rattle.key_names.specs.Texts.ScriptGrammar.{Script, IsScript}
use Rattle.key_names.specs.Texts.ScriptFaults.{script_of, fault_in}
use Rattle.key_names.specs.Texts.ScriptOrFault.{TextIsScriptOrFaulty}
use Rattle.key_names.proofs.Script.ScriptTexts.{script_takes, script_again}

taken : (text : List ℕ) (r : Result Script ScriptFault) → script_of text ≡ r → fault_in r ≡ None →
    (s : Script) × IsScript s text
taken text (Ok s) is none = (s, script_takes text s is)
taken text (Err fault) is none = cc

pub text_is_script_or_faulty : TextIsScriptOrFaulty
text_is_script_or_faulty text = record {
  given = script_again text;
  faultless = taken text (script_of text) refl;
  faulty = λ fault is s has. let none = ap fault_in (script_again text s has) in cc;
}
