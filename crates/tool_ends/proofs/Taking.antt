-- Taking an input piece by piece. After each piece the kept data match the input taken so far, and at the end they
-- match the whole input.
use Rattle.std.proofs.Common.{◌≡◌, ℕ, ◌+◌, ◌≤◌, List, [], ◌++◌, Option, None, Some, length, sym, ap, subst, ◌∙◌, append-nil, arith}
use Rattle.std.specs.Prelude.{Result, Ok, Err, IfErr, IfOk, IfSome, IsErrAnd, OnOk, drop, take}
use Rattle.std.proofs.lemmas.List.{drop-append-le, length-append, take_all, take_at}
use Rattle.std.proofs.KnownBytes.{Consumes-trans}
use Rattle.key_names.specs.declared.faults.ScriptFault.{ScriptFault}
use Rattle.key_names.specs.Texts.ScriptFaults.{first_fault, front}
use Rattle.key_names.specs.Texts.ScriptGrammar.{Script, IsScript}
use Rattle.std.specs.Io.KnownBytes.{Consumes, IsAtEnd}
use Rattle.tool_ends.specs.After.{GivesApart, HoldsText, IsApart}
use Rattle.tool_ends.specs.Fed.{GivesNoText}
use Rattle.tool_ends.specs.Intakes.{HasEndLine, IsFound}
use Rattle.tool_ends.specs.declared.following.After.{After}
use Rattle.tool_ends.specs.Pairs.{GivesNone, GivesScript, IsNoPair, IsNoText, following, most_input, most_script}
use Rattle.tool_ends.specs.Reads.{WasRead}
use Rattle.tool_ends.specs.declared.pair.NotRead.{NotRead}
use Rattle.tool_ends.specs.declared.pair.NotRead.TheVariants.{ReadFault, Refused, NoTranscript, TooManyLines, NoMemory}
use Rattle.tool_ends.proofs.FrontStays.{front_stays}
use Rattle.tool_ends.proofs.Pairs.{no_pair}

pub on_ok : {T E A B : Type 0} (answer : Result T E) → (A → B) → OnOk answer A → OnOk answer B
on_ok (Ok x) f a = f a
on_ok (Err e) f a = tt

pub ok_both : {T E : Type 0} (A B : Type 0) (answer : Result T E) → OnOk answer A → OnOk answer B → OnOk answer (A × B)
ok_both A B (Ok x) a b = (a, b)
ok_both A B (Err e) a b = tt

-- if the script was found in `input`, one more piece extends only the text after the script
pub found_on : (input piece : List ℕ) (script : Script) (text next : After) → HasEndLine input
    → IsFound input script text → HoldsText (following input ++ piece) next → IsFound (input ++ piece) script next
found_on input piece script text next end f holds =
    let stays = front_stays input piece end in
    let more : following (input ++ piece) ≡ following input ++ piece =
    ap (λ text. drop (length text) (input ++ piece)) stays ∙ drop-append-le (length (front input)) input piece f.within in
    record {
      is_script = subst (IsScript script) (sym stays) f.is_script;
      within = omega (arith, f.within, ap length stays, length-append input piece);
      holds = subst (λ all. HoldsText all next) (sym more) holds;
    }

pub fault_stays : (input piece : List ℕ) (fault : ScriptFault) → HasEndLine input
    → first_fault (front input) ≡ Some fault → first_fault (front (input ++ piece)) ≡ Some fault
fault_stays input piece fault end is = ap first_fault (front_stays input piece end) ∙ is

-- `count` bytes were taken from a source so far, and `Has` holds for these bytes
pub record TakenSoFar (left left_now : Option (List ℕ)) (Has : List ℕ → Type 0) (count : ℕ) : Type 0 where
  pub input : List ℕ
  pub read : Consumes left left_now input
  pub has : Has input
  pub len : length input ≡ count

-- if one more piece is taken, `TakenSoFar` holds again, with `Next` instead of `Has`
pub piece_taken : (left now after : Option (List ℕ)) (Has Next : List ℕ → Type 0) (count more : ℕ) (piece : List ℕ)
    → (s : TakenSoFar left now Has count) → Consumes now after piece → length piece ≡ more
    → (Has s.input → Next (s.input ++ piece)) → TakenSoFar left after Next (count + more)
piece_taken left now after Has Next count more piece s read len on = record {
  input = s.input ++ piece;
  read = Consumes-trans left now after s.input piece s.read read;
  has = on s.has;
  len = omega (arith, s.len, len, length-append s.input piece);
}

-- ---- the input that a source gave

module _ (most : ℕ) where
  all_read : (left after : Option (List ℕ)) (input : List ℕ) → Consumes left after input → IsAtEnd after
      → length input ≤ most + 1 → IfSome left (λ all. input ≡ take (most + 1) all)
  all_read None after input read end short = tt
  all_read (Some all) None input read end short = absurd read
  all_read (Some all) (Some rest) input read end short =
      let whole : all ≡ input = read ∙ ap (λ r. input ++ r) end ∙ append-nil input in
      sym whole ∙ sym (take_all (most + 1) all (omega (arith, ap length whole)))

  -- if the source has reached its end, `input` is all that was left in it before
  pub ends_read : (left now after : Option (List ℕ)) (input : List ℕ) → Consumes left now input
      → Consumes now after [] → IsAtEnd after → length input ≤ most + 1 → WasRead most left after input
  ends_read left now after input read none end short =
      let all : Consumes left after input = subst (Consumes left after) (append-nil input)
      (Consumes-trans left now after input [] read none) in
      record { read = all; whole = λ _. end; front = all_read left after input all end short }

  front_read : (left now : Option (List ℕ)) (input : List ℕ) → Consumes left now input → length input ≡ most + 1
      → IfSome left (λ all. input ≡ take (most + 1) all)
  front_read None now input read len = tt
  front_read (Some all) None input read len = absurd read
  front_read (Some all) (Some rest) input read len =
      sym (ap (take (most + 1)) read ∙ take_at input rest (most + 1) len)

  -- if `most` + 1 bytes were taken, these bytes are the input that was read
  pub long_read : (left now : Option (List ℕ)) (input : List ℕ) → Consumes left now input → length input ≡ most + 1
      → WasRead most left now input
  long_read left now input read len = record {
    read = read;
    whole = λ short. absurd (omega (arith, len, short));
    front = front_read left now input read len;
  }

  module _ (Is : List ℕ → NotRead → Type 0) where
    no_input : (left after : Option (List ℕ)) (input : List ℕ) (why : NotRead) → WasRead most left after input
        → length input ≤ most + 1 → Is input why → (Is input ReadFault → ⊥) → GivesNone most Is left after why
    no_input left after input ReadFault read few is not = absurd (not is)
    no_input left after input (Refused fault) read few is not = (input, read, is)
    no_input left after input NoTranscript read few is not = (input, read, is)
    no_input left after input TooManyLines read few is not = (input, read, is)
    no_input left after input NoMemory read few is not = (input, few, read.read)

    pub gives_none : {T : Type 0} (left after : Option (List ℕ)) (input : List ℕ) (answer : Result T NotRead)
        → WasRead most left after input → length input ≤ most + 1 → (Is input ReadFault → ⊥) → IfErr answer (Is input)
        → IfErr answer (GivesNone most Is left after)
    gives_none left after input (Ok x) read few not is = tt
    gives_none left after input (Err why) read few not is = no_input left after input why read few is not

    -- if the reading ended for the reason `why`, and `answer` is this reason, `answer` meets its contract
    pub broken_off : {T : Type 0} (left after : Option (List ℕ)) (why : NotRead) (answer : Result T NotRead)
        → IsErrAnd answer (λ e. e ≡ why) → GivesNone most Is left after why → IfErr answer (GivesNone most Is left after)
    broken_off left after why (Ok x) is gives = absurd is
    broken_off left after why (Err e) is gives = subst (GivesNone most Is left after) (sym is) gives

    -- if no text was read, `GivesNone` holds for any `Is`
    pub no_text : (left after : Option (List ℕ)) (why : NotRead) → GivesNoText most left after why
        → GivesNone most Is left after why
    no_text left after ReadFault gives = gives
    no_text left after (Refused fault) gives = absurd gives.2
    no_text left after NoTranscript gives = absurd gives.2
    no_text left after TooManyLines gives = absurd gives.2
    no_text left after NoMemory gives = gives

    -- if an input was read, `answer` is not a read fault
    pub no_read_fault : {T : Type 0} (Q : Type 0) (input : List ℕ) (answer : Result T NotRead)
        → (Is input ReadFault → ⊥) → IfErr answer (Is input) → IfErr answer (λ why. why ≡ ReadFault → Q)
    no_read_fault Q input (Ok x) not is = tt
    no_read_fault Q input (Err why) not is = λ e. absurd (not (subst (Is input) e is))

pub gives_apart : {E : Type 0} (left after : Option (List ℕ)) (input : List ℕ) (answer : Result (Script × After) E)
    → WasRead most_input left after input → IfOk answer (λ both. IsApart input both.0 both.1)
    → IfOk answer (λ both. GivesApart left after both.0 both.1)
gives_apart left after input (Ok both) read is = (input, read, is)
gives_apart left after input (Err e) read is = tt

pub gives_script : {E : Type 0} (left after : Option (List ℕ)) (input : List ℕ) (answer : Result Script E)
    → WasRead most_script left after input → IfOk answer (λ script. IsScript script input)
    → IfOk answer (GivesScript left after)
gives_script left after input (Ok script) read is = (input, read, is)
gives_script left after input (Err e) read is = tt

-- if the text after the script is not read for the reason `why`, then `why` is a right answer for the whole input
pub no_pair_for : {T : Type 0} (input : List ℕ) (script : Script) (why : NotRead) (answer : Result T NotRead)
    → length input ≤ most_input → IsScript script (front input) → IsNoText (following input) why
    → IsErrAnd answer (λ e. e ≡ why) → IfErr answer (λ e. IsNoPair input e)
no_pair_for input script why (Ok x) short is not same = tt
no_pair_for input script why (Err e) short is not same =
    subst (IsNoPair input) (sym same) (no_pair input script short is why not)
