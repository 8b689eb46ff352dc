-- `parts` splits a text at each byte that has a given value.
use Rattle.std.proofs.Common.{◌≡◌, ℕ, ◌==◌, Bool, true, false, cond, rules, List, [], ◌∷◌, ◌++◌, All, refl}
use Rattle.std.specs.List.{onto_first}
use Rattle.std.proofs.lemmas.List.Splits.{slice_split_at, slice_split_none}
use Rattle.key_names.specs.Texts.ScriptFaults.{parts}

-- the list `lists` has a first element
pub record HasFirst (lists : List (List ℕ)) : Type 0 where
  pub first : List ℕ
  pub others : List (List ℕ)
  pub is : lists ≡ first ∷ others

first_onto : (b : ℕ) (lists : List (List ℕ)) → HasFirst (onto_first b lists)
first_onto b [] = record { first = b ∷ []; others = []; is = refl }
first_onto b (part ∷ more) = record { first = b ∷ part; others = more; is = refl }

first_of : (t : Bool) (b : ℕ) (lists : List (List ℕ)) → HasFirst (cond t ([] ∷ lists) (onto_first b lists))
first_of true b lists = record { first = []; others = lists; is = refl }
first_of false b lists = first_onto b lists

pub first_part : (byte : ℕ) (text : List ℕ) → HasFirst (parts byte text)
first_part byte [] = record { first = []; others = []; is = refl }
first_part byte (b ∷ text) = first_of (b == byte) b (parts byte text)

-- no byte of the text has the value `byte`
abbrev pub Lacks : ℕ → List ℕ → Type 0
Lacks byte text = All (λ b. (b == byte) ≡ false) text

pub parts_whole : (byte : ℕ) (text : List ℕ) → Lacks byte text → parts byte text ≡ text ∷ []
parts_whole byte text h = slice_split_none (λ b. b == byte) text h

pub parts_at : (byte : ℕ) (first rest : List ℕ) → Lacks byte first → parts byte (first ++ byte ∷ rest) ≡ first ∷
    parts byte rest
parts_at byte first rest h = slice_split_at (λ b. b == byte) first byte rest h (search rules)
