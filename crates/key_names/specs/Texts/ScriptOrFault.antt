-- Each text either is the text of a script or has a fault.
use Rattle.std.specs.Prelude.{ℕ, ◌≡◌, Some, None, List, Ok}
use Rattle.key_names.specs.declared.faults.ScriptFault.{ScriptFault}
use Rattle.key_names.specs.Texts.ScriptGrammar.{Script, IsScript}
use Rattle.key_names.specs.Texts.ScriptFaults.{script_of, first_fault}

-- how a text relates to scripts
pub record ScriptOrFault (text : List ℕ) : Type 0 where
  -- if `text` is the text of script `s`, then reading `text` gives `s`
  pub given : (s : Script) → IsScript s text → script_of text ≡ Ok s
  -- a text without a fault is the text of a script
  pub faultless : first_fault text ≡ None → (s : Script) × IsScript s text
  -- a text with a fault is the text of no script
  pub faulty : (fault : ScriptFault) → first_fault text ≡ Some fault → (s : Script) → ¬ IsScript s text

abbrev pub TextIsScriptOrFaulty : Type 0
TextIsScriptOrFaulty = (text : List ℕ) → ScriptOrFault text
