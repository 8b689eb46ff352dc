-- The text of a small load (a script that is generated from three numbers), computed by the prover.
use Rattle.std.proofs.Common.{◌≡◌, ℕ, List, [], ◌∷◌, refl}
use Rattle.std.specs.Prelude.{codes}
use Rattle.std.specs.Fmt.{digits}
use Rattle.hex.specs.Hex.{encode_with}
use Rattle.key_names.specs.Texts.Spelling.{lined}
use Rattle.key_names.specs.Texts.ScriptGrammar.{script_text}
use Rattle.event_script.specs.LoadScript.{load_script}

abbrev one_caller : List (List ℕ)
one_caller =
    codes "rngscript 1" ∷ codes "cpus 1" ∷ codes "caller 0"
    ∷ codes "add 000102030405060708090a0b0c0d0e0f101112131415161718191a1b1c1d1e1f 256" ∷ codes "on 0"
    ∷ codes "vread 2 0" ∷ codes "kread 19" ∷ codes "int64" ∷ codes "irq 3 0" ∷ codes "write 0400000000000000"
    ∷ codes "uread 87" ∷ codes "reseed" ∷ codes "read 21 0" ∷ codes "end" ∷ []

pub one_caller_makes_each_call : script_text (load_script 1 1 8) ≡ lined one_caller
unfolding digits encode_with
one_caller_makes_each_call = refl

abbrev three_callers : List (List ℕ)
three_callers =
    codes "rngscript 1" ∷ codes "cpus 3" ∷ codes "caller 0"
    ∷ codes "add 000102030405060708090a0b0c0d0e0f101112131415161718191a1b1c1d1e1f 256" ∷ codes "fork 1"
    ∷ codes "fork 2" ∷ codes "on 0" ∷ codes "reseed" ∷ codes "read 13 0" ∷ codes "vread 30 0" ∷ codes "caller 1"
    ∷ codes "on 1" ∷ codes "kread 96" ∷ codes "int64" ∷ codes "irq 2 1" ∷ codes "caller 2" ∷ codes "on 2"
    ∷ codes "write 0000000000000000" ∷ codes "uread 13" ∷ codes "reseed" ∷ codes "end" ∷ []

-- `start` has its greatest value here, so sums of `start` and other numbers exceed 2 ^ 32
pub three_callers_take_turns : script_text (load_script 4294967295 3 3) ≡ lined three_callers
unfolding digits encode_with
three_callers_take_turns = refl
