-- Which lists are lawful: each entry may come in the state that the entries before it leave.
use Rattle.std.specs.Prelude.{◌⊎◌, List, [], ◌∷◌, ⊤}

-- the list is lawful from state s on: `May` holds for each entry, in the state before the entry
abbrev pub LawfulFrom : {S E : Type 0} → (S → E → Type 0) → (S → E → S) → S → List E → Type 0
LawfulFrom May step s [] = ⊤
LawfulFrom May step s (e ∷ es) = May s e × LawfulFrom May step (step s e) es

-- `Does` holds for some entry, in the state before the entry
abbrev pub SomeFrom : {S E : Type 0} → (S → E → Type 0) → (S → E → S) → S → List E → Type 0
SomeFrom Does step s [] = ⊥
SomeFrom Does step s (e ∷ es) = Does s e ⊎ SomeFrom Does step (step s e) es
