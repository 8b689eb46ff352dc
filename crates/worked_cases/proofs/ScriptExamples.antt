-- Small scripts and their faults, which the prover computes.
use Rattle.std.proofs.Common.{◌≡◌, [], ◌∷◌, Ok, refl}
use Rattle.std.specs.Prelude.{codes}
use Rattle.std.specs.Fmt.{digits}
use Rattle.hex.specs.Hex.{decode_pairs, encode_with}
use Rattle.key_names.specs.declared.faults.FaultKind.TheVariants.{UnknownWord, BadHex, BadFork, BadCpus, Unfinished}
use Rattle.key_names.specs.Texts.Spelling.{lined}
use Rattle.key_names.specs.Texts.ScriptGrammar.{script_text}
use Rattle.worked_cases.specs.Runs.{one_cpu}
use Rattle.worked_cases.specs.ShortScripts.{short, fault_at}
use Rattle.key_names.specs.Texts.ScriptFaults.{script_of, script_from, first_fault}

pub is_read : script_of (one_cpu (codes "write 616263" ∷ codes "read 16 4" ∷ [])) ≡ Ok short
unfolding script_of script_from digits decode_pairs encode_with
is_read = refl

pub its_text : script_text short ≡ one_cpu (codes "write 616263" ∷ codes "read 16 4" ∷ [])
unfolding digits encode_with
its_text = refl

pub too_few_fields : first_fault (one_cpu (codes "read 8" ∷ [])) ≡ fault_at 4 UnknownWord
unfolding script_of script_from digits decode_pairs encode_with
too_few_fields = refl

pub half_a_byte : first_fault (one_cpu (codes "write abc" ∷ [])) ≡ fault_at 4 BadHex
unfolding script_of script_from digits decode_pairs encode_with
half_a_byte = refl

pub forked_again : first_fault (one_cpu (codes "fork 1" ∷ codes "fork 1" ∷ [])) ≡ fault_at 5 BadFork
unfolding script_of script_from digits decode_pairs encode_with
forked_again = refl

pub no_line_feed : first_fault (codes "rngscript 1") ≡ fault_at 1 Unfinished
unfolding script_of script_from digits decode_pairs encode_with
no_line_feed = refl

pub no_bytes : first_fault [] ≡ fault_at 1 Unfinished
unfolding script_of script_from digits decode_pairs encode_with
no_bytes = refl

pub no_cpus : first_fault (lined (codes "rngscript 1" ∷ codes "cpus 0" ∷ [])) ≡ fault_at 2 BadCpus
unfolding script_of script_from digits decode_pairs encode_with
no_cpus = refl
