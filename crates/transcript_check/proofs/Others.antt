-- If a line differs from the answer or data that its steps give, no lawful transcript with the same steps contains this
-- line.
use Rattle.std.proofs.Common.{◌≡◌, ℕ, zero, suc, Some, List, [], ◌∷◌, length, sym, subst, ◌∙◌, inl, inr}
use Rattle.std.specs.Prelude.{slice_get}
use Rattle.std.specs.List.{AllByRecursion}
use Rattle.std.proofs.lemmas.Bool.{cases_lt}
use Rattle.std.proofs.lemmas.Option.{same_Some}
use Rattle.key_names.specs.Lanes.Book.{list_at}
use Rattle.key_names.specs.Transcripts.SeenLine.{SeenLine}
use Rattle.key_names.specs.Texts.ScriptGrammar.{Script}
use Rattle.judge_log.specs.declared.said.MadeLine.{MadeLine}
use Rattle.serial_replay.specs.Agreement.{Agrees, AllAgree, SameAnswer, SameShown}
use Rattle.serial_replay.specs.Remade.{made_by}
use Rattle.serial_replay.proofs.Replays.{answers_agree, data_agree}
use Rattle.transcript_check.specs.Others.{HasOther, IsReplacedIn}
use Rattle.transcript_check.proofs.Compared.{none_of_another}

each_found : {X : Type 0} (P : X → Type 0) (xs : List X) (n : ℕ) (x : X) → AllByRecursion P xs →
    slice_get xs n ≡ Some x → P x
each_found P [] n x all is = cc
each_found P (y ∷ xs) zero x all is = subst P (same_Some y x is) all.0
each_found P (y ∷ xs) (suc n) x all is = each_found P xs n x all.1 is

-- let line `n` of caller `c` in `t` differ from what its steps give, and let all lines of `u` agree with what the steps
-- of `t` give. Then line `n` of caller `c` in `u` is not the same line
none_of : (IsSaid : SeenLine → MadeLine → Type 0) (script : Script) (t u : List (List SeenLine)) (c n : ℕ)
    (has : HasOther IsSaid script t c n) → AllAgree IsSaid (made_by has.made) u →
    slice_get (list_at t c) n ≡ slice_get (list_at u c) n → ⊥
none_of IsSaid script t u c n has all same =
    let o = has.other in
    let found : slice_get (list_at u c) n ≡ Some o.line = sym same ∙ o.there in
    elim (cases_lt c (length u)) [
      | inl low ↦ (
          let a = each_found (Agrees IsSaid (list_at (made_by has.made) c)) (list_at u c) n o.line (all c low) found in
          let one : a.one ≡ o.is.one = same_Some a.one o.is.one (sym a.is ∙ o.is.said) in
          o.is.other (subst (IsSaid o.line) one a.same)
          )
      | inr high ↦ none_of_another u c n o.line high found
    ]

pub other_answer : (script : Script) (t : List (List SeenLine)) (c n : ℕ) → HasOther SameAnswer script t c n →
    IsReplacedIn script t c n
other_answer script t c n has u same is =
    none_of SameAnswer script t u c n has (answers_agree script t has.made has.says u same is)

pub other_data : (script : Script) (t : List (List SeenLine)) (c n : ℕ) → HasOther SameShown script t c n →
    IsReplacedIn script t c n
other_data script t c n has u same is =
    none_of SameShown script t u c n has (data_agree script t has.made has.says u same is)
