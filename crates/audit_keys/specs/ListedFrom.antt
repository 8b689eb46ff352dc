-- Facts about the entries of a list, entry by entry.
use Rattle.std.specs.Prelude.{List, [], ◌∷◌, ◌++◌}

-- the facts that `tells` gives for each entry and for the state before that entry, one entry after another
abbrev pub listed_from : {S E T : Type 0} → (S → E → List T) → (S → E → S) → S → List E → List T
listed_from tells step s [] = []
listed_from tells step s (e ∷ es) = tells s e ++ listed_from tells step (step s e) es
